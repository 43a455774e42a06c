-- Scans for a read that saw a value.
use Rattle.std.proofs.Common.{◌<◌, ◌≤◌, ◌+◌, ℕ, List, length, sym, subst, inl, inr, arith}
use Rattle.std.proofs.lemmas.Bool.{cases_eq}
use Rattle.sgt_appends.specs.declared.transaction.Operation.TheVariants.{Read}
use Rattle.sgt_appends.specs.declared.transaction.Transaction.{Transaction}
use Rattle.sgt_appends.specs.Runs.{operations_of}
use Rattle.sgt_appends.proofs.Passed.{at_reads, stands_within, ended_within}
use Rattle.sgt_levels.specs.Unseen.{NoneSaw, MissesAt, MissesIn}

-- one position more
pub misses_more : (h : List Transaction) (k v t i : ℕ) → ((p : ℕ) → p < i → MissesAt h k v t p) → MissesAt h k v t i
    → (p : ℕ) → p < i + 1 → MissesAt h k v t p
misses_more h k v t i before here p less = elim (cases_eq p i) [
  | inl same ↦ subst (λ q. MissesAt h k v t q) (sym same) here
  | inr differ ↦ before p (omega (arith, less, differ))
]

-- all positions
pub misses_whole : (h : List Transaction) (k v t i : ℕ) → ((p : ℕ) → p < i → MissesAt h k v t p) → length (operations_of h t) ≤ i
    → MissesIn h k v t
misses_whole h k v t i before whole p seen ended is =
    before p (omega (arith, whole, stands_within (operations_of h t) p (Read k is.0) is.1)) seen ended is

-- one transaction more
pub misses_one : (h : List Transaction) (k v i : ℕ) → ((t : ℕ) → t < i → MissesIn h k v t) → MissesIn h k v i
    → (t : ℕ) → t < i + 1 → MissesIn h k v t
misses_one h k v i before here t less = elim (cases_eq t i) [
  | inl same ↦ subst (λ u. MissesIn h k v u) (sym same) here
  | inr differ ↦ before t (omega (arith, less, differ))
]

-- all transactions
pub misses_all : (h : List Transaction) (k v i : ℕ) → ((t : ℕ) → t < i → MissesIn h k v t) → length h ≤ i → NoneSaw h k v
misses_all h k v i before whole t seen has =
    let at = at_reads h t k has.1.0 seen has.1.1 in
    before t (omega (arith, whole, ended_within h t has.0.0 has.0.1)) at.0 seen has.0 at.1
