-- How the largest deadlock is found: what is not held up is taken out, one after another.
use Rattle.std.proofs.Common.{◌≡◌, inl, inr, ℕ, zero, suc, pos, ◌+◌, ◌<◌, Bool, ◌&&◌, true, false, List, [], ◌∷◌, Some, length, get_or, take, replicate, nat_lt, refl, sym, subst, ◌∙◌, arith}
use Rattle.std.specs.Prelude.{slice_get, slice_set}
use Rattle.std.proofs.lemmas.Bool.{cases_eq, ltb-true, ltb-false}
use Rattle.std.proofs.lemmas.Option.{get_or_from_slice_get}
use Rattle.std.proofs.lemmas.Grind.{common_steps}
use Rattle.sgt_c.specs.declared.shared.waiting.SgtNote.{SgtNote}
use Rattle.sgt_c.specs.SelfWaits.{AreAll, Concerns, IsDeadlock, IsFree, IsHeldUp, IsWithin, WaitsForItself, count_in}

-- a larger set holds up what a smaller one does
held_more : (notes : List SgtNote) (cuts : Bool) (d s : List Bool) (n : SgtNote) → length d ≡ length s → IsWithin d s
    → IsHeldUp notes cuts d n → IsHeldUp notes cuts s n
held_more notes cuts d s n same within (inl (is, (i, m, at, there, named))) = inl (is, (i, m, at, within i there, named))
held_more notes cuts d s n same within (inr (inl (is, all))) = inr (inl (is, λ i less. within i (all i (omega (arith, same, less)))))
held_more notes cuts d s n same within (inr (inr rest)) = inr (inr rest)

-- what is not held up is in no deadlock within the set
pub still_within : (notes : List SgtNote) (cuts : Bool) (s : List Bool) (i : ℕ) → length s ≡ length notes → IsFree notes cuts s i
    → (d : List Bool) → length d ≡ length notes → IsDeadlock notes cuts d → IsWithin d s → IsWithin d (slice_set s i false)
still_within notes cuts s i long free d size dead within j there = elim (cases_eq i j) [
  | inl same ↦ absurd (free.3 (held_more notes cuts d s free.0 (size ∙ sym long) within
      (dead j free.0 (subst (λ k. slice_get notes k ≡ Some free.0) same free.1) there)))
  | inr differ ↦ grind (arith, common_steps, within j there, differ)
]

pub fewer : (s : List Bool) (i : ℕ) → get_or s i false ≡ true → count_in (slice_set s i false) < count_in s
fewer [] i is = absurd cc
fewer (true ∷ s) zero is = omega arith
fewer (false ∷ s) zero is = absurd cc
fewer (true ∷ s) (suc i) is = let l = fewer s i is in omega (arith, l)
fewer (false ∷ s) (suc i) is = fewer s i is

-- the thread waits for itself just if the largest deadlock concerns it
pub concerned : (notes : List SgtNote) (cuts : Bool) (s : List Bool) (thread : ℕ) (is_cut : Bool) → length s ≡ length notes
    → IsDeadlock notes cuts s → ((d : List Bool) → length d ≡ length notes → IsDeadlock notes cuts d → IsWithin d s)
    → (Concerns notes s thread is_cut → WaitsForItself notes cuts thread is_cut)
    × (WaitsForItself notes cuts thread is_cut → Concerns notes s thread is_cut)
concerned notes cuts s thread is_cut long dead largest = (
  (λ x. (s, long, dead, x)),
  (λ w. (w.3.0, w.3.1, w.3.2, largest w.0 w.1 w.2 w.3.0 w.3.3, w.3.4)),
)

-- ---- one after another

-- a note of zeros
abbrev pub no_note : SgtNote
no_note = record { tid = 0; procedure = 0; waits = 0; is_abandoned = 0; rests = 0; first = 0; thread = 0; since = pos 0 }

-- what holds of those in the set up to an index
pub up_to : (notes : List SgtNote) (set : List Bool) (Q : SgtNote → Type 0) (i : ℕ) (d : SgtNote)
    → (get_or set i false ≡ true → Q (get_or notes i d))
    → ((j : ℕ) (n : SgtNote) → j < i → slice_get notes j ≡ Some n → get_or set j false ≡ true → Q n)
    → (j : ℕ) (n : SgtNote) → j < i + 1 → slice_get notes j ≡ Some n → get_or set j false ≡ true → Q n
up_to notes set Q i d here before j n less at there = go (nat_lt j i) refl
  where
    at_it : j ≡ i → Q n
    at_it same = subst Q (get_or_from_slice_get notes i n d (subst (λ k. slice_get notes k ≡ Some n) same at))
        (here (subst (λ k. get_or set k false ≡ true) same there))

    go : (b : Bool) → nat_lt j i ≡ b → Q n
    go true e = before j n (ltb-true j i e) at there
    go false e = let l = ltb-false j i e in at_it (omega (arith, less, l))

-- ---- a set of all

abbrev are_true : List Bool → Bool
are_true [] = true
are_true (b ∷ l) = b && are_true l

of_true : (l : List Bool) → are_true l ≡ true → AreAll l
of_true [] e i less = absurd (omega (arith, less))
of_true (true ∷ l) e zero less = refl
of_true (true ∷ l) e (suc i) less = of_true l e i (omega (arith, less))
of_true (false ∷ l) e i less = absurd cc

take_true : (n : ℕ) (l : List Bool) → are_true l ≡ true → are_true (take n l) ≡ true
take_true zero l e = refl
take_true (suc n) [] e = refl
take_true (suc n) (true ∷ l) e = take_true n l e
take_true (suc n) (false ∷ l) e = absurd cc

pub all_of_them : (n : ℕ) → AreAll (take n (replicate 32 true))
all_of_them n = of_true (take n (replicate 32 true)) (take_true n (replicate 32 true) refl)
