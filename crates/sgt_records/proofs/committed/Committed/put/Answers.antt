use Rattle.std.proofs.Common.{rules}
use Rattle.sgt_records.proofs.SettledValues.{values_put, records_kept}
use Rattle.sgt_records.proofs.committed.Committed.put.Goals as goal

pub invariant_of-self : goal.invariant_of-self
invariant_of-self c =
    record {
      in_range = values_put c.args.self.now.records (c.get_mut.follows.lender c.args.value) c.args.key c.args.value
          ((c.get_mut.follows.holds c.args.value).3 (search rules)) c.requires.in_range c.args.self.now.in_range;
    }

pub returns-in-Some-clause-kept : goal.returns-in-Some-clause-kept
returns-in-Some-clause-kept c =
    records_kept c.args.self.now.records (c.get_mut.follows.lender c.args.value) c.args.key c.args.value
    ((c.get_mut.follows.holds c.args.value).3 (search rules))
