use Rattle.std.proofs.Common.{rules, ◌≤◌, length, ap, sym, ◌∙◌, arith}
use Rattle.sgt_model.specs.Fates.{has_aborted}
use Rattle.sgt_explain.proofs.Untouched.{no_fate}
use Rattle.sgt_explain.proofs.writers.is_aborted.Goals as goal

pub returns : goal.returns
returns c =
    let below : c.loop-place.place ≤ c.first.result = search rules in
    let within : c.loop-place.place ≤ length c.args.history.now = search rules in
    sym (ap has_aborted (c.loop-place.invariant.none_since ∙ no_fate c.args.history.now c.args.t c.loop-place.place within
    (λ n early. c.first.ensures.none n (omega (arith, early, below)))))
