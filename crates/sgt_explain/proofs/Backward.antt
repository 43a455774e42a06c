-- A search from the newest position to the oldest: what it found is the first from some position on.
use Rattle.std.proofs.Common.{ℕ, ◌-◌, ◌<◌, ◌≤◌, Option, Some, None, subst, inl, inr, arith}
use Rattle.std.proofs.lemmas.Bool.{cases_eq, cases_lt}
use Rattle.sgt_explain.specs.Firsts.{FirstOrNone}

-- it holds for no number from one on and below another
abbrev pub NoneFrom : (ℕ → Type 0) → (low end : ℕ) → Type 0
NoneFrom P low end = (m : ℕ) → low ≤ m → m < end → P m → ⊥

-- n is the first number of these for which it holds
pub record IsFirstFrom (P : ℕ → Type 0) (low end n : ℕ) : Type 0 where
  pub below : n < end
  pub holds : P n
  pub first : NoneFrom P low n

-- the first number of these for which it holds, or none if there is none
abbrev pub FirstFrom : (ℕ → Type 0) → (low end : ℕ) → Option ℕ → Type 0
FirstFrom P low end None = NoneFrom P low end
FirstFrom P low end (Some n) = IsFirstFrom P low end n

-- it does not hold at the number before, nor below that
pub none_back : (P : ℕ → Type 0) (low rest end : ℕ) → 0 < low → NoneFrom P low end → (low - 1 < end → P (low - 1) → ⊥)
    → NoneFrom P rest (low - 1) → NoneFrom P rest end
none_back P low rest end some later here before m from below holds = elim (cases_lt m (low - 1)) [
  | inl early ↦ before m from early holds
  | inr past ↦ elim (cases_eq m (low - 1)) [
    | inl same ↦ here (subst (λ n. n < end) same below) (subst P same holds)
    | inr other ↦ later m (omega (arith, some, past, other)) below holds
  ]
]

pub first_back : (P : ℕ → Type 0) (low rest end : ℕ) (o : Option ℕ) → 0 < low → FirstFrom P low end o → (low - 1 < end → P (low - 1) → ⊥)
    → NoneFrom P rest (low - 1) → FirstFrom P rest end o
first_back P low rest end None some later here before = none_back P low rest end some later here before
first_back P low rest end (Some n) some later here before = record {
  below = later.below;
  holds = later.holds;
  first = none_back P low rest n some later.first (λ under. here (let below = later.below in omega (arith, under, below))) before;
}

pub first_here : (P : ℕ → Type 0) (low rest end : ℕ) → low - 1 < end → P (low - 1) → NoneFrom P rest (low - 1)
    → FirstFrom P rest end (Some (low - 1))
first_here P low rest end below holds before = record { below = below; holds = holds; first = before }

-- the whole search
pub first_of_all : (P : ℕ → Type 0) (end low : ℕ) (o : Option ℕ) → low ≤ 0 → FirstFrom P low end o → FirstOrNone P end o
first_of_all P end low None zero found = λ m below holds. found m (omega (arith, zero)) below holds
first_of_all P end low (Some n) zero found = record {
  below = found.below;
  holds = found.holds;
  first = λ m below holds. found.first m (omega (arith, zero)) below holds;
}
