use Rattle.std.proofs.Common.{sym, ◌∙◌}
use Rattle.sgt_classes.proofs.Places.{there}
use Rattle.sgt_classes.proofs.Edges.{writes_connected, unused, unwritten, last_of, write_conflict}
use Rattle.sgt_classes.proofs.graph.ProjectionGraph.connect_write.Goals as goal

pub returns-clause-conflicts : goal.returns-clause-conflicts
returns-clause-conflicts c =
    let q = c.args.operations.now in
    let p = c.args.place in
    writes_connected q _ p c.in-Some-last_write.write c.in-Some.item _ _ c.requires.uses.last (there q p c.requires.within)
    (sym c.in-Some.ensures) (sym c.last_write.ensures ∙ c.in-Some-last_write.is) c.in_ok-connect.ensures.connected

pub returns-in_default-clause-conflicts : goal.returns-in_default-clause-conflicts
returns-in_default-clause-conflicts c = λ i t u x next wrote. absurd (unused c.args.operations.now i t c.args.place u x _
    (there c.args.operations.now c.args.place c.requires.within) (sym c.in_default.ensures) next)

pub returns-in_default-last_write-clause-conflicts : goal.returns-in_default-last_write-clause-conflicts
returns-in_default-last_write-clause-conflicts c = λ i t u x next wrote. absurd (unwritten c.args.operations.now i t c.args.place u x
    c.in-Some.item _ _ (there c.args.operations.now c.args.place c.requires.within) (sym c.in-Some.ensures) c.requires.uses.last
    (sym c.last_write.ensures ∙ c.in_default-last_write.is) next wrote)

pub connect-requires-clause-conflict : goal.connect-requires-clause-conflict
connect-requires-clause-conflict c =
    let q = c.args.operations.now in
    let last = last_of q c.args.place c.in-Some.item c.in-Some-last_write.write _ c.requires.uses.last
    (sym c.last_write.ensures ∙ c.in-Some-last_write.is) in
    write_conflict q c.args.place c.in-Some-last_write.write c.in-Some.item last.1.0 _
    (there q c.args.place c.requires.within) (sym c.in-Some.ensures) last.1.1

pub connect-requires-clause-order : goal.connect-requires-clause-order
connect-requires-clause-order c = (last_of c.args.operations.now c.args.place c.in-Some.item c.in-Some-last_write.write _
    c.requires.uses.last (sym c.last_write.ensures ∙ c.in-Some-last_write.is)).0
