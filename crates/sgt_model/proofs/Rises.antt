-- The live ones, as listed, rise.
use Rattle.std.proofs.Common.{ℕ, ◌+◌, ◌<◌, Bool, true, false, cond, List, [], ◌∷◌, ◌++◌, arith}
use Rattle.std.specs.List.{filter}
use Rattle.sgt_model.specs.declared.entry.Entry.{Entry}
use Rattle.sgt_model.specs.Paths.{Rising}
use Rattle.sgt_model.specs.Fates.{is_start, start_count, live, started_ones, live_ones}

-- t is below each of the list
abbrev Above : ℕ → List ℕ → Type 0
Above t [] = Unit {0}
Above t (u ∷ l) = (t < u) × Above t l

-- each is below all after it
abbrev Sorted : List ℕ → Type 0
Sorted [] = Unit {0}
Sorted (t ∷ l) = Above t l × Sorted l

-- each of the list is below n
abbrev Under : ℕ → List ℕ → Type 0
Under n [] = Unit {0}
Under n (t ∷ l) = (t < n) × Under n l

above-filter : (f : ℕ → Bool) (t : ℕ) (l : List ℕ) → Above t l → Above t (filter f l)
above-filter f t [] h = tt
above-filter f t (u ∷ l) h = go (f u) (above-filter f t l h.1)
  where
    go : (b : Bool) → Above t (filter f l) → Above t (cond b (u ∷ filter f l) (filter f l))
    go true r = (h.0, r)
    go false r = r

sorted-filter : (f : ℕ → Bool) (l : List ℕ) → Sorted l → Sorted (filter f l)
sorted-filter f [] h = tt
sorted-filter f (u ∷ l) h = go (f u) (sorted-filter f l h.1)
  where
    go : (b : Bool) → Sorted (filter f l) → Sorted (cond b (u ∷ filter f l) (filter f l))
    go true r = (above-filter f u l h.0, r)
    go false r = r

above-add : (t n : ℕ) (l : List ℕ) → Above t l → t < n → Above t (l ++ n ∷ [])
above-add t n [] h lt = (lt, tt)
above-add t n (u ∷ l) h lt = (h.0, above-add t n l h.1 lt)

sorted-add : (n : ℕ) (l : List ℕ) → Sorted l → Under n l → Sorted (l ++ n ∷ [])
sorted-add n [] h u = (tt, tt)
sorted-add n (t ∷ l) h u = (above-add t n l h.0 u.0, sorted-add n l h.1 u.1)

under-add : (n : ℕ) (l : List ℕ) → Under n l → Under (n + 1) (l ++ n ∷ [])
under-add n [] h = (omega arith, tt)
under-add n (t ∷ l) h = ((let lt = h.0 in omega arith), under-add n l h.1)

begun-under : (past : List Entry) → Under (start_count past) (started_ones past)
begun-under [] = tt
begun-under (e ∷ past) = go (is_start e.reply) (begun-under past)
  where
    go : (b : Bool) → Under (start_count past) (started_ones past) → Under (cond b (start_count past + 1) (start_count past))
        (cond b (started_ones past ++ start_count past ∷ []) (started_ones past))
    go true h = under-add (start_count past) (started_ones past) h
    go false h = h

begun-sorted : (past : List Entry) → Sorted (started_ones past)
begun-sorted [] = tt
begun-sorted (e ∷ past) = go (is_start e.reply) (begun-sorted past)
  where
    go : (b : Bool) → Sorted (started_ones past) → Sorted (cond b (started_ones past ++ start_count past ∷ []) (started_ones past))
    go true h = sorted-add (start_count past) (started_ones past) h (begun-under past)
    go false h = h

sorted-rising : (l : List ℕ) → Sorted l → Rising l
sorted-rising [] h = tt
sorted-rising (t ∷ []) h = tt
sorted-rising (t ∷ u ∷ l) h = (h.0.0, sorted-rising (u ∷ l) h.1)

-- those of the started ones that pass a test
pub begun-rise : (f : ℕ → Bool) (past : List Entry) → Rising (filter f (started_ones past))
begun-rise f past = sorted-rising (filter f (started_ones past)) (sorted-filter f (started_ones past) (begun-sorted past))

pub live_ones-rise : (past : List Entry) → Rising (live_ones past)
live_ones-rise past = begun-rise (live past) past
