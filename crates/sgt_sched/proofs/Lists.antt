-- Progress, fates and reads, as one of them is added, changed or dropped.
use Rattle.std.proofs.Common.{◌≡◌, ◌≢◌, ℕ, zero, suc, ◌<◌, ◌≤◌, lt_trans, arith, Bool, true, false, not, cond, ◌⊎◌, inl, inr, nat_eq, List, [], ◌∷◌, ◌++◌, length, filter, Option, Some, None, refl, sym, ap, ◌∙◌, slice_set}
use Rattle.std.proofs.lemmas.Bool.{false_from_ne_true, eqb-true, eqb-false, eq-eqb}
use Rattle.sgt_model.specs.declared.reply.Fate.{Fate}
use Rattle.sgt_model.specs.Paths.{Member, Rising, Distinct}
use Rattle.sgt_sched.specs.LiveProgress.{Progress}
use Rattle.sgt_sched.specs.LiveList.{numbers, progress_at, changed, others_live}
use Rattle.sgt_sched.specs.SchedulerView.{fate_at}

-- numbers

-- the test separates numbers that differ
pub other : (t u : ℕ) → (t ≡ u → ⊥) → nat_eq t u ≡ false
other t u h = false_from_ne_true (nat_eq t u) (λ e. h (eqb-true t u e))

-- either way round
pub nat_eq-swap : (t u : ℕ) → nat_eq t u ≡ nat_eq u t
nat_eq-swap t u = both (nat_eq t u) refl where
  both : (b : Bool) → nat_eq t u ≡ b → nat_eq t u ≡ nat_eq u t
  both true e = e ∙ sym (eq-eqb u t (sym (eqb-true t u e)))
  both false e = e ∙ sym (other u t (λ h. eqb-false t u e (sym h)))

-- progress that is added, as the last

-- one more at the end
pub numbers-added : (live : List (ℕ × Progress)) (t : ℕ) (c : Progress) → numbers (live ++ (t, c) ∷ []) ≡ numbers live ++ t ∷ []
numbers-added [] t c = refl
numbers-added (r ∷ rest) t c = ap (λ l. r.0 ∷ l) (numbers-added rest t c)

-- the others keep their progress
pub progress_at-added : (live : List (ℕ × Progress)) (t u : ℕ) (c : Progress) → u ≢ t
    → progress_at (live ++ (t, c) ∷ []) u ≡ progress_at live u
progress_at-added [] t u c h = ap (λ b. cond b c (progress_at [] u)) (other t u (λ e. h (sym e)))
progress_at-added (r ∷ rest) t u c h = ap (λ d. cond (nat_eq r.0 u) r.1 d) (progress_at-added rest t u c h)

-- the added one has its own
pub progress_at-new : (live : List (ℕ × Progress)) (t : ℕ) (c : Progress) → (Member t (numbers live) → ⊥)
    → progress_at (live ++ (t, c) ∷ []) t ≡ c
progress_at-new [] t c h = ap (λ b. cond b c (progress_at [] t)) (eq-eqb t t refl)
progress_at-new (r ∷ rest) t c h = ap (λ b. cond b r.1 (progress_at (rest ++ (t, c) ∷ []) t)) (other r.0 t (λ e. h (inl (sym e))))
    ∙ progress_at-new rest t c (λ m. h (inr m))

-- progress that is changed

-- a change keeps the numbers
pub numbers-changed : (t : ℕ) (f : Progress → Progress) (live : List (ℕ × Progress)) → numbers (changed t f live) ≡ numbers live
numbers-changed t f [] = refl
numbers-changed t f (r ∷ rest) = both (nat_eq r.0 t) refl (numbers-changed t f rest) where
  both : (b : Bool) → nat_eq r.0 t ≡ b → numbers (changed t f rest) ≡ numbers rest → numbers (changed t f (r ∷ rest)) ≡ r.0 ∷ numbers rest
  both true e h = rw e refl
  both false e h = rw e (ap (λ l. r.0 ∷ l) h)

-- and the progress of the others
pub progress_at-changed : (t u : ℕ) (f : Progress → Progress) (live : List (ℕ × Progress)) → u ≢ t
    → progress_at (changed t f live) u ≡ progress_at live u
progress_at-changed t u f [] h = refl
progress_at-changed t u f (r ∷ rest) h = both (nat_eq r.0 t) refl (progress_at-changed t u f rest h) where
  both : (b : Bool) → nat_eq r.0 t ≡ b → progress_at (changed t f rest) u ≡ progress_at rest u
      → progress_at (changed t f (r ∷ rest)) u ≡ progress_at (r ∷ rest) u
  both true e rec =
      let no : nat_eq r.0 u ≡ false = other r.0 u (λ i. h (sym i ∙ eqb-true r.0 t e)) in
      ap (λ b. progress_at (cond b ((r.0, f r.1) ∷ rest) (r ∷ changed t f rest)) u) e
      ∙ (ap (λ b. cond b (f r.1) (progress_at rest u)) no ∙ sym (ap (λ b. cond b r.1 (progress_at rest u)) no))
  both false e rec = ap (λ b. progress_at (cond b ((r.0, f r.1) ∷ rest) (r ∷ changed t f rest)) u) e
      ∙ ap (λ c. cond (nat_eq r.0 u) r.1 c) rec

-- the changed one has the changed progress
pub progress_at-own : (t : ℕ) (f : Progress → Progress) (live : List (ℕ × Progress)) → Member t (numbers live)
    → progress_at (changed t f live) t ≡ f (progress_at live t)
progress_at-own t f [] m = absurd m
progress_at-own t f (r ∷ rest) m = both (nat_eq r.0 t) refl (progress_at-own t f rest) where
  both : (b : Bool) → nat_eq r.0 t ≡ b → (Member t (numbers rest) → progress_at (changed t f rest) t ≡ f (progress_at rest t))
      → progress_at (changed t f (r ∷ rest)) t ≡ f (progress_at (r ∷ rest) t)
  both true e rec = rw (e, e) refl
  both false e rec = ap (λ b. progress_at (cond b ((r.0, f r.1) ∷ rest) (r ∷ changed t f rest)) t) e
      ∙ (ap (λ b. cond b r.1 (progress_at (changed t f rest) t)) e
      ∙ (rec (later m) ∙ sym (ap (λ b. f (cond b r.1 (progress_at rest t))) e))) where
        later : (t ≡ r.0) ⊎ Member t (numbers rest) → Member t (numbers rest)
        later (inl h) = absurd (eqb-false r.0 t e (sym h))
        later (inr h) = h

-- progress that is dropped

-- dropping one drops its number
pub numbers-without : (t : ℕ) (live : List (ℕ × Progress)) → numbers (others_live t live) ≡ filter (λ u. not (nat_eq t u)) (numbers live)
numbers-without t [] = refl
numbers-without t (r ∷ rest) = ap (λ b. numbers (cond (not b) (r ∷ others_live t rest) (others_live t rest))) (nat_eq-swap r.0 t)
    ∙ both (nat_eq t r.0) (numbers-without t rest) where
      both : (b : Bool) → numbers (others_live t rest) ≡ filter (λ u. not (nat_eq t u)) (numbers rest)
          → numbers (cond (not b) (r ∷ others_live t rest) (others_live t rest)) ≡ cond (not b)
          (r.0 ∷ filter (λ u. not (nat_eq t u)) (numbers rest))
          (filter (λ u. not (nat_eq t u)) (numbers rest))
      both true h = h
      both false h = ap (λ l. r.0 ∷ l) h

-- and keeps the progress of the others
pub progress_at-without : (t u : ℕ) (live : List (ℕ × Progress)) → nat_eq t u ≡ false
    → progress_at (others_live t live) u ≡ progress_at live u
progress_at-without t u [] h = refl
progress_at-without t u (r ∷ rest) h = both (nat_eq r.0 t) refl (progress_at-without t u rest h) where
  both : (b : Bool) → nat_eq r.0 t ≡ b → progress_at (others_live t rest) u ≡ progress_at rest u
      → progress_at (others_live t (r ∷ rest)) u ≡ progress_at (r ∷ rest) u
  both true e rec =
      let no : nat_eq r.0 u ≡ false = ap (λ x. nat_eq x u) (eqb-true r.0 t e) ∙ h in
      ap (λ b. progress_at (cond (not b) (r ∷ others_live t rest) (others_live t rest)) u) e
      ∙ (rec ∙ sym (ap (λ b. cond b r.1 (progress_at rest u)) no))
  both false e rec = ap (λ b. progress_at (cond (not b) (r ∷ others_live t rest) (others_live t rest)) u) e
      ∙ ap (λ c. cond (nat_eq r.0 u) r.1 c) rec

-- fates

-- a start gives no transaction a fate
pub fate_at-added : (fates : List (Option Fate)) (u : ℕ) → fate_at (fates ++ None ∷ []) u ≡ fate_at fates u
fate_at-added [] zero = refl
fate_at-added [] (suc u) = refl
fate_at-added (f ∷ fates) zero = refl
fate_at-added (f ∷ fates) (suc u) = fate_at-added fates u

-- the fate that was set
pub fate_at-own : (fates : List (Option Fate)) (t : ℕ) (f : Option Fate) → t < length fates → fate_at (slice_set fates t f) t ≡ f
fate_at-own [] t f h = absurd (omega arith)
fate_at-own (g ∷ fates) zero f h = refl
fate_at-own (g ∷ fates) (suc t) f h = fate_at-own fates t f (omega arith)

-- the others keep theirs
pub fate_at-other : (fates : List (Option Fate)) (t u : ℕ) (f : Option Fate) → t ≢ u → fate_at (slice_set fates t f) u ≡ fate_at fates u
fate_at-other [] t u f h = refl
fate_at-other (g ∷ fates) zero zero f h = absurd (h refl)
fate_at-other (g ∷ fates) zero (suc u) f h = refl
fate_at-other (g ∷ fates) (suc t) zero f h = refl
fate_at-other (g ∷ fates) (suc t) (suc u) f h = fate_at-other fates t u f (λ e. h (ap suc e))

-- both in one
pub fate_at-set : (fates : List (Option Fate)) (t u : ℕ) (f : Fate) → t < length fates
    → fate_at (slice_set fates t (Some f)) u ≡ cond (nat_eq t u) (Some f) (fate_at fates u)
fate_at-set fates t u f h = both (nat_eq t u) refl where
  both : (b : Bool) → nat_eq t u ≡ b → fate_at (slice_set fates t (Some f)) u ≡ cond (nat_eq t u) (Some f) (fate_at fates u)
  both true e = ap (fate_at (slice_set fates t (Some f))) (sym (eqb-true t u e))
      ∙ (fate_at-own fates t (Some f) h ∙ sym (ap (λ b. cond b (Some f) (fate_at fates u)) e))
  both false e = fate_at-other fates t u (Some f) (eqb-false t u e) ∙ sym (ap (λ b. cond b (Some f) (fate_at fates u)) e)

-- a transaction that was never started has none
pub fate_at-past : (fates : List (Option Fate)) (u : ℕ) → length fates ≤ u → fate_at fates u ≡ None
fate_at-past [] u h = refl
fate_at-past (f ∷ fates) zero h = absurd (omega arith)
fate_at-past (f ∷ fates) (suc u) h = fate_at-past fates u (omega arith)

-- numbers that rise

-- t is below each of the list
abbrev Above : ℕ → List ℕ → Type 0
Above t [] = Unit {0}
Above t (u ∷ l) = (t < u) × Above t l

above-more : (t u : ℕ) (l : List ℕ) → t < u → Above u l → Above t l
above-more t u [] lt h = tt
above-more t u (v ∷ l) lt h = (lt_trans lt h.0, above-more t u l lt h.1)

-- the first of those that rise is below the others
above-rest : (t : ℕ) (l : List ℕ) → Rising (t ∷ l) → Above t l
above-rest t [] h = tt
above-rest t (u ∷ l) h = (h.0, above-more t u l h.0 (above-rest u l h.1))

rising-rest : (t : ℕ) (l : List ℕ) → Rising (t ∷ l) → Rising l
rising-rest t [] h = tt
rising-rest t (u ∷ l) h = h.1

rising-from : (t : ℕ) (l : List ℕ) → Above t l → Rising l → Rising (t ∷ l)
rising-from t [] h r = tt
rising-from t (u ∷ l) h r = (h.0, r)

above-filter : (f : ℕ → Bool) (t : ℕ) (l : List ℕ) → Above t l → Above t (filter f l)
above-filter f t [] h = tt
above-filter f t (u ∷ l) h = both (f u) (above-filter f t l h.1) where
  both : (b : Bool) → Above t (filter f l) → Above t (cond b (u ∷ filter f l) (filter f l))
  both true r = (h.0, r)
  both false r = r

-- some of those that rise rise
pub rising-filter : (f : ℕ → Bool) (l : List ℕ) → Rising l → Rising (filter f l)
rising-filter f [] h = tt
rising-filter f (u ∷ l) h = both (f u) (rising-filter f l (rising-rest u l h)) where
  both : (b : Bool) → Rising (filter f l) → Rising (cond b (u ∷ filter f l) (filter f l))
  both true r = rising-from u (filter f l) (above-filter f u l (above-rest u l h)) r
  both false r = r

-- with a greater one at the end they rise
pub rising-added : (n : ℕ) (l : List ℕ) → Rising l → ((t : ℕ) → Member t l → t < n) → Rising (l ++ n ∷ [])
rising-added n [] h under = tt
rising-added n (t ∷ []) h under = (under t (inl refl), tt)
rising-added n (t ∷ u ∷ l) h under = (h.0, rising-added n (u ∷ l) h.1 (λ v m. under v (inr m)))

-- those that rise differ
pub rising-distinct : (l : List ℕ) → Rising l → Distinct l
rising-distinct [] h = tt
rising-distinct (t ∷ l) h = (not_among t l (above-rest t l h), rising-distinct l (rising-rest t l h)) where
  not_among : (t : ℕ) (l : List ℕ) → Above t l → Member t l → ⊥
  not_among t [] h m = m
  not_among t (u ∷ l) h (inl e) = absurd (omega (arith, h.0, e))
  not_among t (u ∷ l) h (inr m) = not_among t l h.1 m
