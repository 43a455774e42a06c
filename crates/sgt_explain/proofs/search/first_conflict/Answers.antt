use Rattle.std.proofs.Common.{rules, ◌-◌, sym, subst}
use Rattle.sgt_explain.specs.Edges.{ConflictsAt}
use Rattle.sgt_explain.proofs.Backward.{NoneFrom, FirstFrom, first_back, first_here, first_of_all}
use Rattle.sgt_explain.proofs.Pairs.{no_conflict_from}
use Rattle.sgt_explain.proofs.search.first_conflict.Goals as goal
use Rattle.sgt_explain.proofs.search.first_conflict.Goals.{then-place-end+then-has_access, then-place-end+else-has_access, else-place-end}

pub loop-rest-init : goal.loop-rest-init
loop-rest-init c = record {
  within = search rules;
  found = no_conflict_from c.args.history.now c.args.by c.args.key c.args.kind c.args.later c.accesses_end-rest.result c.args.end
      (λ n from below. c.accesses_end-rest.ensures.none n from);
}

pub loop-rest-preserved : goal.loop-rest-preserved
loop-rest-preserved c =
    let P = ConflictsAt c.args.history.now c.args.by c.args.key c.args.kind c.args.later in
    let rest = c.accesses_before-rest.result in
    let before : NoneFrom P rest (c.loop-rest.rest - 1) =
    no_conflict_from c.args.history.now c.args.by c.args.key c.args.kind c.args.later rest (c.loop-rest.rest - 1)
    c.accesses_before-rest.ensures.none in
    record {
      within = search rules;
      found = elim c.if-place-end.branch [
        | then-place-end+then-has_access w ↦ subst (FirstFrom P rest c.args.end) (sym w.first-is)
            (first_here P c.loop-rest.rest rest c.args.end (search rules) (search rules) before)
        | then-place-end+else-has_access w ↦ subst (FirstFrom P rest c.args.end) (sym w.first-is)
            (first_back P c.loop-rest.rest rest c.args.end c.loop-rest.first (search rules) c.loop-rest.invariant.found (search rules) before)
        | else-place-end w ↦ subst (FirstFrom P rest c.args.end) (sym w.first-is)
            (first_back P c.loop-rest.rest rest c.args.end c.loop-rest.first (search rules) c.loop-rest.invariant.found (search rules) before)
      ];
    }

pub returns : goal.returns
returns c =
    first_of_all (ConflictsAt c.args.history.now c.args.by c.args.key c.args.kind c.args.later) c.args.end c.loop-rest.rest c.loop-rest.first
    (search rules) c.loop-rest.invariant.found
