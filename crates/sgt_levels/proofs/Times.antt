-- Those that committed before a time.
use Rattle.std.proofs.Common.{◌≡◌, ◌<◌, ◌⊎◌, ℕ, Bool, true, false, cond, List, [], ◌∷◌, ◌++◌, refl, sym, ap, ◌∙◌, subst, inl, inr, arith}
use Rattle.std.specs.Prelude.{nat_lt}
use Rattle.std.proofs.lemmas.Bool.{ltb-true, lt-ltb}
use Rattle.sgt_appends.specs.Lists.{Has, StandsBefore, Rises}
use Rattle.sgt_appends.proofs.Words.{StandsBefore-cases, StandsBefore-has, stand_somehow}
use Rattle.sgt_levels.specs.Snapshots.{before_time}

pub in_before : (commit : ℕ → ℕ) (time : ℕ) (order : List ℕ) (u : ℕ) → Has order u → commit u < time → Has (before_time commit time order) u
in_before commit time [] u has less = absurd has
in_before commit time (x ∷ order) u has less = go (λ later. in_before commit time order u later less) (nat_lt (commit x) time) refl has
  where
    go : (Has order u → Has (before_time commit time order) u) → (b : Bool) → nat_lt (commit x) time ≡ b → Has (x ∷ order) u → Has (cond b (x ∷ before_time commit time order) (before_time commit time order)) u
    go rest true e (inl same) = inl same
    go rest true e (inr later) = inr (rest later)
    go rest false e (inl same) = absurd (never (sym e ∙ lt-ltb (commit x) time (subst (λ w. commit w < time) (sym same) less)))
      where
        never : ¬ (false ≡ true)
        never bad = cc
    go rest false e (inr later) = rest later

pub of_before : (commit : ℕ → ℕ) (time : ℕ) (order : List ℕ) (u : ℕ) → Has (before_time commit time order) u → Has order u × (commit u < time)
of_before commit time [] u has = absurd has
of_before commit time (x ∷ order) u has = go (λ later. of_before commit time order u later) (nat_lt (commit x) time) refl has
  where
    go : (Has (before_time commit time order) u → Has order u × (commit u < time)) → (b : Bool) → nat_lt (commit x) time ≡ b → Has (cond b (x ∷ before_time commit time order) (before_time commit time order)) u
        → Has (x ∷ order) u × (commit u < time)
    go rest true e (inl same) = (inl same, subst (λ w. commit w < time) same (ltb-true (commit x) time e))
    go rest true e (inr later) = let it = rest later in (inr it.0, it.1)
    go rest false e later = let it = rest later in (inr it.0, it.1)

pub before_rises : (commit : ℕ → ℕ) (time : ℕ) (order : List ℕ) → Rises commit order → Rises commit (before_time commit time order)
before_rises commit time [] rises = tt
before_rises commit time (x ∷ order) rises = go (before_rises commit time order rises.1) (nat_lt (commit x) time)
  where
    go : Rises commit (before_time commit time order) → (b : Bool) → Rises commit (cond b (x ∷ before_time commit time order) (before_time commit time order))
    go rest true = ((λ y has. rises.0 y (of_before commit time order y has).0), rest)
    go rest false = rest

pub rises_stands : (rank : ℕ → ℕ) (xs : List ℕ) (t u : ℕ) → Rises rank xs → StandsBefore xs t u → rank t < rank u
rises_stands rank [] t u rises it = absurd (StandsBefore-has [] t u it).0
rises_stands rank (x ∷ xs) t u rises it = elim (StandsBefore-cases x xs t u it) [
  | inl w ↦ subst (λ y. rank y < rank u) w.0 (rises.0 u w.1)
  | inr w ↦ rises_stands rank xs t u rises.1 w
]

pub stands_by : (rank : ℕ → ℕ) (xs : List ℕ) (t u : ℕ) → Rises rank xs → Has xs t → Has xs u → rank t < rank u → StandsBefore xs t u
stands_by rank xs t u rises one other less = elim (stand_somehow xs t u one other (λ e. omega (arith, less, ap rank e))) [
  | inl w ↦ w
  | inr w ↦ absurd (omega (arith, less, rises_stands rank xs u t rises w))
]

-- of two in a joined list, the first is in the front, or the second in the back
pub split_stands : (xs ys : List ℕ) (x y : ℕ) → StandsBefore (xs ++ ys) x y → Has xs x ⊎ Has ys y
split_stands [] ys x y it = inr (StandsBefore-has ys x y it).1
split_stands (z ∷ xs) ys x y it = elim (StandsBefore-cases z (xs ++ ys) x y it) [
  | inl w ↦ inl (inl w.0)
  | inr w ↦ elim (split_stands xs ys x y w) [
    | inl v ↦ inl (inr v)
    | inr v ↦ inr v
  ]
]
