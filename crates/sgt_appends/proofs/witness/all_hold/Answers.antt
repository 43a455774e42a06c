use Rattle.std.proofs.Common.{rules, get_or, take, sym, subst}
use Rattle.std.proofs.lemmas.List.{take_more, take_all}
use Rattle.sgt_appends.specs.declared.witness.Edge.{Edge}
use Rattle.sgt_appends.specs.declared.witness.Reason.TheVariants.{Seen}
use Rattle.sgt_appends.specs.Witnesses.{AreShown}
use Rattle.sgt_appends.proofs.Loops.{shown_one, all_precede}
use Rattle.sgt_appends.proofs.witness.all_hold.Goals as goal

pub loop-edge-preserved : goal.loop-edge-preserved
loop-edge-preserved c =
    let none : Edge = record { from = 0; to = 0; reason = Seen 0 0 } in
    let i = c.loop-edge.edge-index in
    subst (λ es. AreShown c.args.history.now es) (sym (take_more c.args.edges.now i none c.loop-edge-test.true))
    (shown_one c.args.history.now (take i c.args.edges.now) (get_or c.args.edges.now i none) c.loop-edge.invariant
    (c.is_shown.ensures c.if-not-is_shown.false))

pub returns : goal.returns
returns c = λ yes.
    all_precede c.args.history.now c.args.edges.now
    (subst (λ es. AreShown c.args.history.now es) (take_all c.loop-edge.edge-index c.args.edges.now (search rules)) c.loop-edge.invariant)
