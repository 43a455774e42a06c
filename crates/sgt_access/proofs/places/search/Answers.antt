use Rattle.std.proofs.Common.{ap, subst, sym, ◌≡◌, false, inl, inr, arith, nat_eq, slice_index}
use Rattle.std.specs.Prelude.{◌&&◌}
use Rattle.std.proofs.lemmas.Bool.{cases_lt}
use Rattle.sgt_cycle.specs.Indices.{is_set}
use Rattle.sgt_cycle.proofs.Bits.{none_above, none_in}
use Rattle.sgt_access.proofs.places.search.Goals as goal

pub returns-clause-none : goal.returns-clause-none
returns-clause-none c none i = elim (cases_lt i 32) [
  | inl low ↦ c.loop-place.invariant i (omega arith)
  | inr high ↦ ap (λ x. x && nat_eq (slice_index c.args.tids.now i) c.args.t) (none_above c.args.places i c.ranges.places.fits high)
]

pub returns-then-places-eq0-clause-none : goal.returns-then-places-eq0-clause-none
returns-then-places-eq0-clause-none c none i = ap (λ x. x && nat_eq (slice_index c.args.tids.now i) c.args.t)
    (subst (λ n. is_set n i ≡ false) (sym c.if-places-eq0.true) (none_in i))
