use Rattle.std.proofs.Common.{rules, ◌≡◌, ◌≤◌, Some, sym, ap, ◌∙◌, subst, length, arith}
use Rattle.std.specs.Prelude.{slice_get}
use Rattle.std.proofs.lemmas.Grind.{common_steps}
use Rattle.std.proofs.lemmas.Option.{gets}
use Rattle.sgt_appends.specs.Indexes.{position_of}
use Rattle.sgt_appends.proofs.Filed.{filed_one, taken_one, filed_all}
use Rattle.sgt_appends.proofs.append_index.AppendIndex.add_all.Goals as goal

pub returns-then-not-branch-clause-twice : goal.returns-then-not-branch-clause-twice
returns-then-not-branch-clause-twice c = λ not_fresh.
    let here : slice_get c.args.operations.now c.loop-position.position ≡ Some c.index-operations-position.result =
    grind (arith, common_steps, gets, c.index-operations-position.is, c.loop-position-test.true) in
    taken_one c.args.history.now c.args.transaction c.loop-position.position c.index-operations-position.result
    (position_of c.loop-position.self)
    (ap (λ os. slice_get os c.loop-position.position) c.requires.are ∙ here)
    c.loop-position.invariant
    (c.in_ok-add.ensures.taken (λ yes. grind (arith, common_steps, yes, c.if-not-branch.true)))

pub loop-position-preserved : goal.loop-position-preserved
loop-position-preserved c =
    let here : slice_get c.args.operations.now c.loop-position.position ≡ Some c.index-operations-position.result =
    grind (arith, common_steps, gets, c.index-operations-position.is, c.loop-position-test.true) in
    filed_one c.args.history.now c.args.transaction c.loop-position.position c.index-operations-position.result
    (position_of c.loop-position.self) (position_of c.add.new.self)
    (ap (λ os. slice_get os c.loop-position.position) c.requires.are ∙ here)
    (c.in_ok-add.ensures.noted (search rules))
    c.loop-position.invariant

pub returns-clause-filed : goal.returns-clause-filed
returns-clause-filed c = λ yes.
    filed_all c.args.history.now c.args.transaction c.loop-position.position (position_of c.loop-position.self)
    c.loop-position.invariant
    (subst (λ os. length os ≤ c.loop-position.position) (sym c.requires.are) (search rules))
