use Rattle.std.proofs.Common.{◌≡◌, ◌+◌, ◌-◌, ◌∙◌, ℕ, ap, sym, refl, arith, slice_index, true≢false}
use Rattle.std.proofs.lemmas.Bool.{both_ways}
use Rattle.sgt_cycle.specs.Links.{is_link}
use Rattle.sgt_cycle.specs.Path.{Holds}
use Rattle.sgt_cycle.proofs.Members.{any_default}
use Rattle.sgt_cycle.proofs.Walked.{follows_iff}
use Rattle.sgt_cycle.proofs.paths.is_walk.Goals as goal

pub returns-then-not-contains : goal.returns-then-not-contains
returns-then-not-contains c = (
  (λ e. absurd (true≢false (sym e))),
  (λ follows.
      let i : ℕ = c.loop-i.i in
      let before : i - 1 + 1 ≡ i = omega (arith, c.loop-i.auto.i) in
      let first : c.index-path-i.result ≡ slice_index c.args.path.now (i - 1) = c.index-path-i.is
      ∙ any_default c.args.path.now (i - 1) _ 0 (omega arith) in
      let second : c.index-path-i-in-loop-i.result ≡ slice_index c.args.path.now (i - 1 + 1) = c.index-path-i-in-loop-i.is
      ∙ any_default c.args.path.now i _ 0 (omega arith) ∙ ap (λ k. slice_index c.args.path.now k) (sym before) in
      let link : Holds (is_link c.args.links.now) (slice_index c.args.path.now (i - 1)) (slice_index c.args.path.now (i - 1 + 1)) =
      (follows_iff (is_link c.args.links.now) c.args.path.now).0 follows (i - 1) (omega (arith, c.loop-i-test.true)) in
      absurd (both_ways _ (sym c.if-not-contains.ensures.value) (rw (first, second) link))),
)

pub returns : goal.returns
returns c = (
  (λ e. (follows_iff (is_link c.args.links.now) c.args.path.now).1
      (λ k below. c.loop-i.invariant k (omega (arith, c.loop-i-test.false)))),
  λ p. refl,
)
