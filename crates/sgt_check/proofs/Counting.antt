-- Counts, with one operation more.
use Rattle.std.proofs.Common.{◌≡◌, ◌+◌, ◌<◌, ◌≤◌, ◌==◌, ◌||◌, if◌then◌else◌, not, ℕ, Bool, true, false, List, [], ◌∷◌, ◌++◌, length, take, get_or, refl, ap, sym, ◌∙◌, arith, append_assoc}
use Rattle.std.specs.Prelude.{count_by}
use Rattle.std.proofs.lemmas.List.{append-nil, take_more}
use Rattle.std.proofs.lemmas.List.Sums.{count_by_more_no, count_by_more_yes}
use Rattle.sgt_classes.specs.declared.operation.Operation.{Operation}
use Rattle.sgt_check.specs.Reports.{acts, count_firsts}

-- one operation more
pub acts_more : (ops : List Operation) (op : Operation) (t : ℕ) → acts (ops ++ op ∷ []) t ≡ (acts ops t || op.transaction == t)
acts_more [] op t = by (op.transaction == t)
  where
    by : (b : Bool) → (b || false) ≡ (false || b)
    by true = refl
    by false = refl
acts_more (o ∷ ops) op t = ap (λ b. o.transaction == t || b) (acts_more ops op t)
    ∙ by (o.transaction == t) (acts ops t) (op.transaction == t)
  where
    by : (a b c : Bool) → (a || (b || c)) ≡ ((a || b) || c)
    by true b c = refl
    by false b c = refl

-- one operation more, which is the first of its transaction or not
pub firsts_more : (before ops : List Operation) (op : Operation)
    → count_firsts before (ops ++ op ∷ []) ≡ count_firsts before ops + (if acts (before ++ ops) op.transaction then 0 else 1)
firsts_more before [] op = by before
  where
    by : (b : List Operation) → (if acts b op.transaction then 0 else 1) + 0 ≡ 0 + (if acts (b ++ []) op.transaction then 0 else 1)
    by b = rw (append-nil b) (omega arith)
firsts_more before (o ∷ ops) op =
    let later = firsts_more (before ++ o ∷ []) ops op in
    let same = ap {B = ℕ} (λ l. if acts l op.transaction then 0 else 1) (append_assoc before (o ∷ []) ops) in
    ap (λ n. (if acts before o.transaction then 0 else 1) + n) later ∙ omega (arith, same)

-- one position more
pub seen_one : (h : List Operation) (p : ℕ) (d : Operation) (t : ℕ) → p < length h
    → acts (take (p + 1) h) t ≡ (acts (take p h) t || (get_or h p d).transaction == t)
seen_one h p d t within = ap (λ l. acts l t) (take_more h p d within) ∙ acts_more (take p h) (get_or h p d) t

-- its transaction is counted if it was not seen
pub first_one : (h : List Operation) (p : ℕ) (d : Operation) (before after : ℕ) (seen first : Bool) → p < length h
    → before ≡ count_firsts [] (take p h) → seen ≡ acts (take p h) (get_or h p d).transaction → first ≡ not seen
    → after ≡ before + (if first then 1 else 0) → after ≡ count_firsts [] (take (p + 1) h)
first_one h p d before after seen first within so_far is_seen is_first more =
    more ∙ ap (λ n. n + (if first then 1 else 0)) so_far ∙ ap (λ n. count_firsts [] (take p h) + n) (turned first seen is_first)
    ∙ ap (λ b. count_firsts [] (take p h) + (if b then 0 else 1)) is_seen
    ∙ sym (firsts_more [] (take p h) (get_or h p d))
    ∙ ap (count_firsts []) (sym (take_more h p d within))
  where
    turned : (f s : Bool) → f ≡ not s → ◌≡◌ {A = ℕ} (if f then 1 else 0) (if s then 0 else 1)
    turned f true is = ap {B = ℕ} (λ b. if b then 1 else 0) is
    turned f false is = ap {B = ℕ} (λ b. if b then 1 else 0) is

-- one position more of those that count
pub count_one : (p : Operation → Bool) (h : List Operation) (i : ℕ) (d : Operation) (before after : ℕ) → i < length h
    → before ≡ count_by p (take i h) → after ≡ before + (if p (get_or h i d) then 1 else 0) → after ≡ count_by p (take (i + 1) h)
count_one p h i d before after within so_far more = by (p (get_or h i d)) refl
  where
    by : (b : Bool) → p (get_or h i d) ≡ b → after ≡ count_by p (take (i + 1) h)
    by true holds = more ∙ ap (λ b. before + (if b then 1 else 0)) holds ∙ ap (λ n. n + 1) so_far
        ∙ sym (count_by_more_yes p h i d within holds)
    by false isnt =
        more ∙ ap (λ b. before + (if b then 1 else 0)) isnt ∙ (let none : before + 0 ≡ before = omega arith in none) ∙ so_far
        ∙ sym (count_by_more_no p h i d within isnt)

-- a count grows by one at most
pub few_one : (before after p : ℕ) (b : Bool) → before ≤ p → after ≡ before + (if b then 1 else 0) → after ≤ p + 1
few_one before after p true few more = omega (arith, few, more)
few_one before after p false few more = omega (arith, few, more)
