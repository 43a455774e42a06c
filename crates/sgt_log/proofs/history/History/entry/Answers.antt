use Rattle.std.proofs.Common.{ap}
use Rattle.sgt_log.proofs.Entries.{taken, seen_at}
use Rattle.sgt_log.proofs.history.History.entry.Goals as goal

pub invariant_of-result : goal.invariant_of-result
invariant_of-result c =
    let seen = seen_at c.self.inside.tids.items c.self.inside.values.items c.self.inside.entries.items c.args.self.now.entries
    c.args.place c.at.result (ap (λ h. h.entries) c.self.view_is) c.self.invariant.0 c.requires c.at.ensures in
    rw (c.as_slice.ensures.value, c.as_slice-2.ensures.value) seen.1

pub returns-clause-entry : goal.returns-clause-entry
returns-clause-entry c =
    let seen = seen_at c.self.inside.tids.items c.self.inside.values.items c.self.inside.entries.items c.args.self.now.entries
    c.args.place c.at.result (ap (λ h. h.entries) c.self.view_is) c.self.invariant.0 c.requires c.at.ensures in
    rw (c.as_slice.ensures.value, c.as_slice-2.ensures.value) seen.0

pub returns-clause-next : goal.returns-clause-next
returns-clause-next c =
    let seen = seen_at c.self.inside.tids.items c.self.inside.values.items c.self.inside.entries.items c.args.self.now.entries
    c.args.place c.at.result (ap (λ h. h.entries) c.self.view_is) c.self.invariant.0 c.requires c.at.ensures in
    taken c.args.self.now.entries c.args.place _ (rw (c.as_slice.ensures.value, c.as_slice-2.ensures.value) seen.0)
