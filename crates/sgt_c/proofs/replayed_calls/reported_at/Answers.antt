use Rattle.sgt_c.proofs.CallerAccesses.{counts_by_all, reported_by_all}
use Rattle.sgt_c.proofs.replayed_calls.reported_at.Goals as goal

pub returns-clause-reported : goal.returns-clause-reported
returns-clause-reported c =
    reported_by_all c.requires.legal.0 c.args.history.now.entries c.args.place c.entry-entry.result c.requires.legal.1 c.entry-entry.ensures.next
    c.reported_by.result c.reported_by.ensures.calls c.reported_by.ensures.results c.reported_by.ensures.ends

pub returns-clause-accesses : goal.returns-clause-accesses
returns-clause-accesses c =
    counts_by_all c.requires.legal.0 c.args.history.now.entries c.args.place c.entry-entry.result c.requires.legal.1 c.entry-entry.ensures.next
    c.reported_by.result c.reported_by.ensures.ends c.reported_by.ensures.accesses
