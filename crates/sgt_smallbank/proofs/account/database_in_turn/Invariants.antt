use Rattle.std.proofs.Common.{◌≡◌, take, drop}
use Rattle.sgt_model.specs.Contents.{Key}
use Rattle.sgt_smallbank.specs.AccountRows.{rows_in}
use Rattle.sgt_smallbank.specs.Accounts.{opened, first_fault, fault_of}
use Rattle.sgt_smallbank.proofs.account.database_in_turn.Given as goal

-- the rows of the accounts so far, of which none has a fault
abbrev pub invariant-loop-account : goal.invariant-loop-account
invariant-loop-account l = record {
  contents : (k : Key) → rows_in l.rows k ≡ opened (take l.account-index l.accounts) k;
  so_far : first_fault (take l.account-index l.accounts) (drop l.account-index l.accounts) ≡ fault_of l.accounts;
}
