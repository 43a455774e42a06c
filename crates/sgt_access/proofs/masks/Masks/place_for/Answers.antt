use Rattle.std.proofs.Common.{◌≡◌, ◌<◌, ℕ, true, refl, Option, Some, None, IfSome}
use Rattle.sgt_access.specs.Places.{is_at, IsTaken}
use Rattle.sgt_access.proofs.Covering.{masks_taken}
use Rattle.sgt_access.proofs.masks.Masks.place_for.Goals as goal

pub returns-in-None-clause-covers : goal.returns-in-None-clause-covers
returns-in-None-clause-covers c accesses covers exact = masks_taken c.args.self.now.places.taken c.args.self.now.places.tids
    c.args.self.now.spots.items accesses c.args.t c.take.new.self.taken c.take.new.self.tids c.take.result c.take.ensures.some c.take.ensures.none
    (c.in-None.ensures.none refl) (covers exact)

pub returns-in-None-clause-place : goal.returns-in-None-clause-place
returns-in-None-clause-place c = go c.take.result c.take.ensures.some c.take.ensures.there
  where
    go : (r : Option ℕ) → IfSome r (λ place. IsTaken c.args.self.now.places.taken c.args.self.now.places.tids c.args.t place c.take.new.self.taken c.take.new.self.tids)
        → IfSome r (λ place. is_at c.take.new.self.taken c.take.new.self.tids c.args.t place ≡ true)
        → IfSome r (λ place. (place < 32) × (is_at c.take.new.self.taken c.take.new.self.tids c.args.t place ≡ true))
    go None some there = tt
    go (Some place) some there = (some.low, there)
