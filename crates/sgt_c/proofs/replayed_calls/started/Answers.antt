use Rattle.std.proofs.Common.{◌≡◌, ◌-◌, ◌+◌, length, ap, ◌∙◌, arith}
use Rattle.sgt_model.specs.Progress.{caller_accesses}
use Rattle.sgt_model.specs.Questions.{called}
use Rattle.sgt_c.specs.ReplayedCalls.{past_at}
use Rattle.sgt_c.proofs.CallerAccesses.{none_to_start}
use Rattle.sgt_c.proofs.replayed_calls.started.Goals as goal

pub returns-in-Some-clause-accesses : goal.returns-in-Some-clause-accesses
returns-in-Some-clause-accesses c =
    let back : c.loop-at.at ≡ c.loop-at.at - 1 + 1 = omega (arith, c.loop-at-test.true) in
    let none = ap (λ n. caller_accesses (past_at c.args.history.now.entries n) c.args.t) back
    ∙ none_to_start c.requires.legal.0 c.args.history.now.entries (c.loop-at.at - 1) c.args.t c.entry-entry.result
    (called c.in-Some.started) c.requires.legal.1 c.entry-entry.ensures.next c.in-Some.ensures in
    let few = ap length none in
    omega (arith, c.loop-at.invariant.counted, few)
