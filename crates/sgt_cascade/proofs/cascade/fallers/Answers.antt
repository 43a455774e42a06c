use Rattle.std.proofs.Common.{rules, ◌≡◌, ℕ, List, true, false, sym, subst, ◌∙◌}
use Rattle.sgt_model.specs.Paths.{Member}
use Rattle.sgt_cascade.specs.Standing.{stands, has_read}
use Rattle.sgt_cascade.proofs.Fallen.{IsStanding, standing_first, standing_next, fewer_stand, fallen_exact, none_reached}
use Rattle.sgt_cascade.proofs.cascade.fallers.Goals as goal

pub returns-then-not-has_reader-clause-exact : goal.returns-then-not-has_reader-clause-exact
returns-then-not-has_reader-clause-exact c u = (
  (λ m. absurd (subst (λ l. Member u l) c.new.ensures m)),
  (λ h. absurd (none_reached c.args.read_from.now c.args.t (search rules) u h.1 h.2)),
)

pub loop-pair-init : goal.loop-pair-init
loop-pair-init c = subst (λ l. IsStanding c.args.read_from.now c.args.live.now c.args.t l)
    (sym (c.copied-standing.ensures ∙ c.without-others.ensures)) (standing_first c.args.read_from.now c.args.live.now c.args.t)

pub loop-pair-smaller : goal.loop-pair-smaller
loop-pair-smaller c =
    let there : stands c.loop-pair.standing c.in-Some.pair.1 ≡ true =
    subst (λ l. stands l c.in-Some.pair.1 ≡ true) c.as_slice.ensures c.in-Some.ensures.reader in
    rw c.without-standing.ensures (fewer_stand c.in-Some.pair.1 c.loop-pair.standing there)

pub loop-pair-preserved : goal.loop-pair-preserved
loop-pair-preserved c =
    let out : stands c.loop-pair.standing c.in-Some.pair.0 ≡ false =
    subst (λ l. stands l c.in-Some.pair.0 ≡ false) c.as_slice.ensures c.in-Some.ensures.source in
    subst (λ l. IsStanding c.args.read_from.now c.args.live.now c.args.t l) (sym c.without-standing.ensures)
    (standing_next c.args.read_from.now c.args.live.now c.args.t c.loop-pair.standing c.requires.live_pairs c.loop-pair.invariant
    c.in-Some.pair.0 c.in-Some.pair.1 c.in-Some.ensures.pair out)

pub returns-clause-exact : goal.returns-clause-exact
returns-clause-exact c =
    let standing : List ℕ = c.loop-pair.standing in
    let closed : (a b : ℕ) → has_read c.args.read_from.now a b ≡ true → stands standing b ≡ true → stands standing a ≡ true =
    search rules in
    fallen_exact c.args.read_from.now c.args.live.now c.args.t standing c.fallen.result c.loop-pair.invariant closed
    (rw (c.as_slice-2.ensures, c.without-others.ensures) at c.fallen.ensures.members)
