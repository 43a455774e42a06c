use Rattle.std.proofs.Common.{rules, ◌≡◌, ◌<◌, slice_index_or, sym, arith, None}
use Rattle.std.proofs.lemmas.Bool.{eqb-true}
use Rattle.std.proofs.lemmas.Bool.Decides.{nat_tests}
use Rattle.sgt_levels.specs.declared.tie.Passage.{Passage}
use Rattle.sgt_clients.proofs.RealTime.{climb_one, no_order}
use Rattle.sgt_clients.proofs.strict.leads_back.Goals as goal

pub loop-step-preserved : goal.loop-step-preserved
loop-step-preserved c =
    let none : Passage = record { from = 0; to = 0; why = None } in
    let s : Passage = slice_index_or c.args.steps.now c.loop-step.step-index none in
    let first : Passage = slice_index_or c.args.steps.now 0 none in
    let same : s.from ≡ c.loop-step.at = search rules in
    climb_one c.args.history.now c.args.spans.now c.loop-step.step-index first.from c.loop-step.at s.from s.to s.why
    c.loop-step.invariant same (c.holds.ensures c.if-not-holds.false)

pub returns : goal.returns
returns c = λ back once.
    let none : Passage = record { from = 0; to = 0; why = None } in
    let first : Passage = slice_index_or c.args.steps.now 0 none in
    let some : 0 < c.loop-step.step-index = grind (arith, nat_tests, c.is_empty.ensures, c.if-is_empty.false, c.loop-step-test.false) in
    no_order c.args.history.now c.args.spans.now c.loop-step.step-index first.from c.loop-step.at c.loop-step.invariant
    (sym (eqb-true c.loop-step.at first.from back)) some once
