use Rattle.std.proofs.Common.{rules, refl, sym, subst}
use Rattle.sgt_explain.proofs.Pairs.{PairFrom, pair_back, pair_here, pair_reported, pair_some}
use Rattle.sgt_explain.proofs.edge.pair_edge.Goals as goal
use Rattle.sgt_explain.proofs.edge.pair_edge.Goals.{then-place-end+in-Some, then-place-end+in_default, else-place-end}

pub loop-rest-preserved : goal.loop-rest-preserved
loop-rest-preserved c =
    let P = PairFrom c.args.history.now c.args.end c.args.from c.args.to c.accesses_before-rest.result in
    record {
      within = search rules;
      found = elim c.if-place-end.branch [
        | then-place-end+in-Some w ↦ subst P (sym w.first-is)
            (pair_here c.args.history.now c.args.end c.args.from c.args.to c.loop-rest.rest c.accesses_before-rest.result w.in-Some.edge
            (search rules) (w.in-Some.ensures.some.0 refl) w.in-Some.ensures.reported c.accesses_before-rest.ensures.none)
        | then-place-end+in_default w ↦ subst P (sym w.first-is)
            (pair_back c.args.history.now c.args.end c.args.from c.args.to c.loop-rest.rest c.accesses_before-rest.result c.loop-rest.first
            (search rules) c.loop-rest.invariant.found (search rules) c.accesses_before-rest.ensures.none)
        | else-place-end w ↦ subst P (sym w.first-is)
            (pair_back c.args.history.now c.args.end c.args.from c.args.to c.loop-rest.rest c.accesses_before-rest.result c.loop-rest.first
            (search rules) c.loop-rest.invariant.found (search rules) c.accesses_before-rest.ensures.none)
      ];
    }

pub returns-clause-reported : goal.returns-clause-reported
returns-clause-reported c =
    pair_reported c.args.history.now c.args.end c.args.from c.args.to c.loop-rest.rest c.loop-rest.first (search rules)
    c.loop-rest.invariant.found

pub returns-clause-some : goal.returns-clause-some
returns-clause-some c =
    pair_some c.args.history.now c.args.end c.args.from c.args.to c.loop-rest.rest c.loop-rest.first c.requires (search rules)
    c.loop-rest.invariant.found
