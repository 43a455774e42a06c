-- The ends of edges.
use Rattle.std.proofs.Common.{◌≡◌, ◌≢◌, inl, inr, cond, Ordering, Less, Equal, Greater, ◌==◌, ◌&&◌, ◌||◌, ◌<◌, length, take, get_or, ℕ, Bool, true, false, List, [], ◌∷◌, ◌++◌, ◌+◌, refl, sym, ap, ◌∙◌, subst}
use Rattle.std.specs.Ordering.{nat_cmp, ordering_reverse, is_eq}
use Rattle.std.proofs.lemmas.Cmp.{nat_cmp_total}
use Rattle.std.proofs.lemmas.Bool.{cases_eq, eqb-true, eqb-false}
use Rattle.std.proofs.lemmas.List.{take_more}
use Rattle.sgt_classes.specs.declared.graph.Edge.{Edge}
use Rattle.sgt_classes.specs.FirstAccesses.{pair_cmp}
use Rattle.sgt_classes.proofs.FirstAccesses.{pairs_apart}
use Rattle.sgt_check.specs.GraphText.{leads}

nat_cmp-same : (a : ℕ) → nat_cmp a a ≡ Equal
nat_cmp-same a = by (nat_cmp a a) (nat_cmp_total.antisymm a a)
  where
    by : (o : Ordering) → o ≡ ordering_reverse o → o ≡ Equal
    by Less e = absurd (cc)
    by Equal e = refl
    by Greater e = absurd (cc)

eqb-same : (a : ℕ) → (a == a) ≡ true
eqb-same a = by (a == a) refl
  where
    by : (b : Bool) → (a == a) ≡ b → (a == a) ≡ true
    by true e = e
    by false e = absurd (eqb-false a a e refl)

eqb-differ : (a b : ℕ) → a ≢ b → (a == b) ≡ false
eqb-differ a b apart = by (a == b) refl
  where
    by : (c : Bool) → (a == b) ≡ c → (a == b) ≡ false
    by true e = absurd (apart (eqb-true a b e))
    by false e = e

-- one edge more
leads_more : (es : List Edge) (e : Edge) (t u : ℕ) → leads (es ++ e ∷ []) t u ≡ (leads es t u || (e.from == t && e.to == u))
leads_more [] e t u = by (e.from == t && e.to == u)
  where
    by : (b : Bool) → (b || false) ≡ (false || b)
    by true = refl
    by false = refl
leads_more (o ∷ es) e t u =
    ap (λ b. (o.from == t && o.to == u) || b) (leads_more es e t u)
    ∙ by (o.from == t && o.to == u) (leads es t u) (e.from == t && e.to == u)
  where
    by : (a b c : Bool) → (a || (b || c)) ≡ ((a || b) || c)
    by true b c = refl
    by false b c = refl

-- one position more
pub leads_one : (es : List Edge) (p : ℕ) (d : Edge) (t u : ℕ) → p < length es
    → leads (take (p + 1) es) t u ≡ (leads (take p es) t u || ((get_or es p d).from == t && (get_or es p d).to == u))
leads_one es p d t u within = ap (λ l. leads l t u) (take_more es p d within) ∙ leads_more (take p es) (get_or es p d) t u

-- two numbers compare as equal only to the same two numbers
pub ends_same : (a b t u : ℕ) (s : Bool) → cond (is_eq (pair_cmp (a, b) (t, u))) true s ≡ (s || (a == t && b == u))
ends_same a b t u s = elim (cases_eq a t) [
  | inl same ↦ elim (cases_eq b u) [
    | inl its ↦ subst (λ n. cond (is_eq (pair_cmp (a, b) (n, u))) true s ≡ (s || (a == n && b == u))) same
        (subst (λ n. cond (is_eq (pair_cmp (a, b) (a, n))) true s ≡ (s || (a == a && b == n))) its
        (rw (nat_cmp-same a, nat_cmp-same b, eqb-same a, eqb-same b) (by s)))
    | inr apart ↦ rw (pairs_apart (a, b) (t, u) (λ e. apart (sym (ap (λ (r : ℕ × ℕ). r.1) e))), eqb-differ b u apart) (none s (a == t))
  ]
  | inr apart ↦ rw (pairs_apart (a, b) (t, u) (λ e. apart (sym (ap (λ (r : ℕ × ℕ). r.0) e))), eqb-differ a t apart) (left s)
]
  where
    by : (c : Bool) → true ≡ (c || true)
    by true = refl
    by false = refl

    left : (c : Bool) → c ≡ (c || false)
    left true = refl
    left false = refl

    none : (c d : Bool) → c ≡ (c || (d && false))
    none true d = refl
    none false true = refl
    none false false = refl
