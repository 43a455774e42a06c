use Rattle.std.proofs.Common.{rules, subst}
use Rattle.sgt_proc.specs.Flaws.{IsFlawless}
use Rattle.sgt_smallbank.proofs.Flawless.{balance_is_flawless, deposit_checking_is_flawless, transact_saving_is_flawless, amalgamate_is_flawless, write_check_is_flawless}
use Rattle.sgt_smallbank.proofs.five_procedures.procedures.Goals as goal

pub checked-requires : goal.checked-requires
checked-requires c = subst IsFlawless (search rules) balance_is_flawless

pub checked-requires-2 : goal.checked-requires-2
checked-requires-2 c = subst IsFlawless (search rules) deposit_checking_is_flawless

pub checked-requires-3 : goal.checked-requires-3
checked-requires-3 c = subst IsFlawless (search rules) transact_saving_is_flawless

pub checked-requires-4 : goal.checked-requires-4
checked-requires-4 c = subst IsFlawless (search rules) amalgamate_is_flawless

pub checked-requires-5 : goal.checked-requires-5
checked-requires-5 c = subst IsFlawless (search rules) write_check_is_flawless
