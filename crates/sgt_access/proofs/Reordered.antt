-- Masks know the same of the same accesses in another order.
use Rattle.std.proofs.Common.{◌≡◌, ℕ, ◌<◌, Bool, nat_eq, ◌&&◌, List, length, slice_index, sym, ◌∙◌}
use Rattle.sgt_model.specs.AccessList.{ListedAccess}
use Rattle.sgt_access.specs.declared.spot.Spot.{Spot}
use Rattle.sgt_access.specs.declared.masks.Masks.{Masks}
use Rattle.sgt_access.specs.Masks.{StandsFor, HasAt, IsMask, IsSpotOf, ArePlaces, AreMasks, Covers, IsMaskBut, IsSpotBut, AreMasksBut, IsLeaving, has_other_key, reads_at, writes_at}
use Rattle.sgt_access.proofs.Counts.{any_same}

module _ (taken : ℕ) (tids : List ℕ) (xs ys : List ListedAccess) (stands : StandsFor xs ys) where
  at_there : (test : ListedAccess → Bool) (i : ℕ) → HasAt taken tids xs test i → HasAt taken tids ys test i
  at_there test i has = (has.0, any_same xs ys stands (λ (a : ListedAccess). nat_eq a.by (slice_index tids i) && test a) ∙ has.1)

  at_back : (test : ListedAccess → Bool) (i : ℕ) → HasAt taken tids ys test i → HasAt taken tids xs test i
  at_back test i has = (has.0, sym (any_same xs ys stands (λ (a : ListedAccess). nat_eq a.by (slice_index tids i) && test a)) ∙ has.1)

  mask_same : (test : ListedAccess → Bool) (set : ℕ) → IsMask taken tids xs test set → IsMask taken tids ys test set
  mask_same test set is i = (λ h. at_there test i ((is i).0 h), λ has. (is i).1 (at_back test i has))

  mask_but_same : (t : ℕ) (test : ListedAccess → Bool) (set : ℕ) → IsMaskBut taken tids t xs test set → IsMaskBut taken tids t ys test set
  mask_but_same t test set is = record {
    sound = λ i h. at_there test i (is.sound i h);
    whole = λ i apart has. is.whole i apart (at_back test i has);
  }

  places_same : ArePlaces taken tids xs → ArePlaces taken tids ys
  places_same places = record {
    size = places.size;
    apart = places.apart;
    listed = λ t h. places.listed t (sym (any_same xs ys stands (λ (a : ListedAccess). nat_eq a.by t)) ∙ h);
  }

  masks_same : (spots : List Spot) → AreMasks taken tids spots xs → AreMasks taken tids spots ys
  masks_same spots masks = record {
    places = places_same masks.places;
    many = masks.many;
    spots_are = λ index d short. let spot = masks.spots_are index d short in record {
      readers = mask_same (reads_at index) _ spot.readers;
      writers = mask_same (writes_at index) _ spot.writers;
      one_key = λ alone. any_same xs ys stands (has_other_key index _) ∙ spot.one_key alone;
    };
  }

  masks_but_same : (spots : List Spot) (t set : ℕ) → AreMasksBut taken tids spots t set xs → AreMasksBut taken tids spots t set ys
  masks_but_same spots t set masks = record {
    place = masks.place;
    places = places_same masks.places;
    many = masks.many;
    spots_are = λ index d short. let spot = masks.spots_are index d short in record {
      readers = mask_but_same t (reads_at index) _ spot.readers;
      writers = mask_but_same t (writes_at index) _ spot.writers;
      one_key = λ alone. any_same xs ys stands (has_other_key index _) ∙ spot.one_key alone;
    };
  }

pub covers_same : (m : Masks) (xs ys : List ListedAccess) → StandsFor xs ys → Covers m xs → Covers m ys
covers_same m xs ys stands covers some = masks_same m.places.taken m.places.tids xs ys stands m.spots.items (covers some)

pub leaving_same : (m : Masks) (t set : ℕ) (xs ys : List ListedAccess) → StandsFor xs ys → IsLeaving m t set xs → IsLeaving m t set ys
leaving_same m t set xs ys stands leaving some =
    masks_but_same m.places.taken m.places.tids xs ys stands m.spots.items t set (leaving some)
