use Rattle.std.proofs.Common.{rules, ◌≡◌, ◌<◌, ◌+◌, ◌++◌, [], ◌∷◌, length, take, get_or, sym, subst, arith}
use Rattle.std.proofs.lemmas.Bool.{eqb-true}
use Rattle.std.proofs.lemmas.Bool.Decides.{nat_tests}
use Rattle.std.proofs.lemmas.List.{take_more}
use Rattle.sgt_appends.specs.declared.witness.Edge.{Edge}
use Rattle.sgt_appends.specs.declared.witness.Reason.TheVariants.{Seen}
use Rattle.sgt_appends.specs.Witnesses.{EdgesLead, AreShown, EdgeIsShown}
use Rattle.sgt_appends.proofs.Loops.{edges_lead_one, shown_one, closed_cycle, cycle_shown}
use Rattle.sgt_appends.proofs.witness.is_shown_cycle.Goals as goal

pub loop-edge-preserved : goal.loop-edge-preserved
loop-edge-preserved c =
    let none : Edge = record { from = 0; to = 0; reason = Seen 0 0 } in
    let i = c.loop-edge.edge-index in
    let edges = c.args.edges.now in
    let e : Edge = get_or edges i none in
    let start = (get_or edges 0 none).from in
    let longer : take (i + 1) edges ≡ take i edges ++ e ∷ [] = take_more edges i none c.loop-edge-test.true in
    let same : e.from ≡ c.loop-edge.at = search rules in
    let is : EdgeIsShown c.args.history.now e = c.is_shown.ensures c.if-not-is_shown.false in
    record {
      leads = subst (λ es. EdgesLead start es e.to) (sym longer)
          (edges_lead_one start (take i edges) e (subst (λ n. EdgesLead start (take i edges) n) (sym same) c.loop-edge.invariant.leads));
      shown = subst (λ es. AreShown c.args.history.now es) (sym longer)
          (shown_one c.args.history.now (take i edges) e c.loop-edge.invariant.shown is);
    }

pub returns-clause-shown : goal.returns-clause-shown
returns-clause-shown c = λ yes.
    let start = (get_or c.args.edges.now 0 (record { from = 0; to = 0; reason = Seen 0 0 })).from in
    let some : 0 < length c.args.edges.now = grind (arith, nat_tests, c.is_empty.ensures, c.if-is_empty.false) in
    closed_cycle c.args.history.now start c.loop-edge.at c.loop-edge.edge-index c.args.edges.now c.loop-edge.invariant.leads
    c.loop-edge.invariant.shown (search rules) some (eqb-true c.loop-edge.at start yes)

pub returns-clause-refutes : goal.returns-clause-refutes
returns-clause-refutes c = λ yes once.
    let start = (get_or c.args.edges.now 0 (record { from = 0; to = 0; reason = Seen 0 0 })).from in
    let some : 0 < length c.args.edges.now = grind (arith, nat_tests, c.is_empty.ensures, c.if-is_empty.false) in
    cycle_shown c.args.history.now c.args.edges.now once
    (closed_cycle c.args.history.now start c.loop-edge.at c.loop-edge.edge-index c.args.edges.now c.loop-edge.invariant.leads
    c.loop-edge.invariant.shown (search rules) some (eqb-true c.loop-edge.at start yes))
