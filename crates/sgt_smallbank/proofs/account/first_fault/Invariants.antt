use Rattle.std.proofs.Common.{◌≡◌, take, drop}
use Rattle.sgt_smallbank.specs.Accounts.{first_fault, fault_of}
use Rattle.sgt_smallbank.proofs.account.first_fault.Given as goal

abbrev pub invariant-loop-index : goal.invariant-loop-index
invariant-loop-index l = first_fault (take l.index l.accounts) (drop l.index l.accounts) ≡ fault_of l.accounts
