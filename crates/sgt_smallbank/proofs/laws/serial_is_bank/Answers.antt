use Rattle.sgt_smallbank.proofs.Banks.{serial_is_bank}
use Rattle.sgt_smallbank.proofs.laws.serial_is_bank.Goals as goal

pub returns : goal.returns
returns c = serial_is_bank
