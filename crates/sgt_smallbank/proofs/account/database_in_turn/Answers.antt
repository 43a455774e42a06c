use Rattle.std.proofs.Common.{pos, refl, sym, ◌∙◌}
use Rattle.sgt_smallbank.specs.AccountRows.{rows_in}
use Rattle.sgt_smallbank.specs.declared.account.Account.{Account}
use Rattle.sgt_smallbank.proofs.Faults.{rows_next, fault_here, fault_later}
use Rattle.sgt_smallbank.proofs.account.database_in_turn.Goals as goal

abbrev none : Account
none = record { name = pos 0; customer = pos 0; saving = pos 0; checking = pos 0 }

pub returns-in-Some-clause-fault : goal.returns-in-Some-clause-fault
returns-in-Some-clause-fault c = λ is_fault.
    fault_here c.args.accounts.now c.loop-account.account-index none (rows_in c.loop-account.rows) c.loop-account-test.true
    c.loop-account.invariant.contents c.loop-account.invariant.so_far _ c.in-Some.fault refl
    (sym c.in_ok-fault.ensures.fault ∙ c.in-Some.is)

pub loop-account-preserved : goal.loop-account-preserved
loop-account-preserved c =
    let accounts = c.args.accounts.now in
    let i = c.loop-account.account-index in
    record {
      contents = rows_next (rows_in c.loop-account.rows) (rows_in c.add.new.self) accounts i none c.loop-account-test.true
          c.loop-account.invariant.contents (c.in_ok-fault.ensures.rows c.in_default.is);
      so_far = fault_later accounts i none (rows_in c.loop-account.rows) c.loop-account-test.true
          c.loop-account.invariant.contents c.loop-account.invariant.so_far _ refl (sym c.in_ok-fault.ensures.fault ∙ c.in_default.is);
    }
