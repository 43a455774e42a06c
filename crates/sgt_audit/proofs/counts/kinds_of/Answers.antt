use Rattle.std.proofs.Common.{◌+◌, ap, ◌∙◌, arith}
use Rattle.std.specs.List.{count_by}
use Rattle.std.proofs.lemmas.List.{take_all}
use Rattle.sgt_audit.specs.AllOutcomes.{is_done, is_left, is_untaken, is_no_memory}
use Rattle.sgt_audit.proofs.Nexts.{added, few}
use Rattle.sgt_audit.proofs.counts.kinds_of.Goals as goal

pub overflow_add-kinds : goal.overflow_add-kinds
overflow_add-kinds g c =
    let more = few is_done c.args.outcomes.now (c.loop-outcome.outcome-index + 1) (added is_done c.args.outcomes.now
    c.loop-outcome.outcome-index c.outcome-item.result c.loop-outcome-test.true c.outcome-item.is c.loop-outcome.invariant.done
    c.kind_of-one.ensures.done) in
    omega arith

pub overflow_add-kinds-in-loop-outcome : goal.overflow_add-kinds-in-loop-outcome
overflow_add-kinds-in-loop-outcome g c =
    let more = few is_left c.args.outcomes.now (c.loop-outcome.outcome-index + 1) (added is_left c.args.outcomes.now
    c.loop-outcome.outcome-index c.outcome-item.result c.loop-outcome-test.true c.outcome-item.is c.loop-outcome.invariant.left
    c.kind_of-one.ensures.left) in
    omega arith

pub overflow_add-kinds-in-loop-outcome-2 : goal.overflow_add-kinds-in-loop-outcome-2
overflow_add-kinds-in-loop-outcome-2 g c =
    let more = few is_untaken c.args.outcomes.now (c.loop-outcome.outcome-index + 1) (added is_untaken c.args.outcomes.now
    c.loop-outcome.outcome-index c.outcome-item.result c.loop-outcome-test.true c.outcome-item.is c.loop-outcome.invariant.untaken
    c.kind_of-one.ensures.untaken) in
    omega arith

pub overflow_add-kinds-in-loop-outcome-3 : goal.overflow_add-kinds-in-loop-outcome-3
overflow_add-kinds-in-loop-outcome-3 g c =
    let more = few is_no_memory c.args.outcomes.now (c.loop-outcome.outcome-index + 1) (added is_no_memory c.args.outcomes.now
    c.loop-outcome.outcome-index c.outcome-item.result c.loop-outcome-test.true c.outcome-item.is c.loop-outcome.invariant.no_memory
    c.kind_of-one.ensures.no_memory) in
    omega arith

pub loop-outcome-preserved : goal.loop-outcome-preserved
loop-outcome-preserved g c =
    let xs = c.args.outcomes.now in
    let i = c.loop-outcome.outcome-index in
    let x = c.outcome-item.result in
    let within = c.loop-outcome-test.true in
    let so = c.loop-outcome.invariant in
    let one = c.kind_of-one.ensures in
    record {
      done = added is_done xs i x within c.outcome-item.is so.done one.done;
      left = added is_left xs i x within c.outcome-item.is so.left one.left;
      untaken = added is_untaken xs i x within c.outcome-item.is so.untaken one.untaken;
      no_memory = added is_no_memory xs i x within c.outcome-item.is so.no_memory one.no_memory;
    }

pub returns-clause-done : goal.returns-clause-done
returns-clause-done g c = c.loop-outcome.invariant.done
    ∙ ap (count_by is_done) (take_all c.loop-outcome.outcome-index c.args.outcomes.now c.loop-outcome-test.false)

pub returns-clause-left : goal.returns-clause-left
returns-clause-left g c = c.loop-outcome.invariant.left
    ∙ ap (count_by is_left) (take_all c.loop-outcome.outcome-index c.args.outcomes.now c.loop-outcome-test.false)

pub returns-clause-untaken : goal.returns-clause-untaken
returns-clause-untaken g c = c.loop-outcome.invariant.untaken
    ∙ ap (count_by is_untaken) (take_all c.loop-outcome.outcome-index c.args.outcomes.now c.loop-outcome-test.false)

pub returns-clause-no_memory : goal.returns-clause-no_memory
returns-clause-no_memory g c = c.loop-outcome.invariant.no_memory
    ∙ ap (count_by is_no_memory) (take_all c.loop-outcome.outcome-index c.args.outcomes.now c.loop-outcome-test.false)
