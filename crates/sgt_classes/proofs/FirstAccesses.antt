-- First accesses, one operation further.
use Rattle.std.proofs.Common.{◌≡◌, ◌≢◌, ◌<◌, ◌+◌, ℕ, false, List, Option, Some, None, Ordering, Less, Equal, Greater, refl, sym, ap, ◌∙◌, subst, inl, inr, arith}
use Rattle.std.specs.Ordering.{nat_cmp, ordering_then, is_eq, MatchOrdering}
use Rattle.std.specs.Cmp.{ranks}
use Rattle.std.proofs.lemmas.Bool.{cases_eq}
use Rattle.std.proofs.lemmas.Grind.{common_steps}
use Rattle.sgt_classes.specs.declared.operation.Operation.{Operation}
use Rattle.sgt_classes.specs.declared.operation.Action.{Action}
use Rattle.sgt_classes.specs.declared.operation.Action.TheVariants.{Read, Write, Commit, Abort}
use Rattle.sgt_classes.specs.declared.first_accesses.Counted.{Counted}
use Rattle.sgt_classes.specs.declared.first_accesses.Counted.TheVariants.{Any, Writes}
use Rattle.sgt_classes.specs.Histories.{Does}
use Rattle.sgt_classes.specs.FirstAccesses.{pair_cmp, accessed, IsAccess, IsFirstAccess, IsLastFirst, IsSomeAccess, AreFirsts}
use Rattle.sgt_classes.proofs.Places.{before_next, uses_item, item_uses}
use Rattle.sgt_classes.proofs.Sources.{same_doer, same_action}

then_equal : (o p : Ordering) → ordering_then o p ≡ Equal → (o ≡ Equal) × (p ≡ Equal)
then_equal Less p h = absurd (cc)
then_equal Equal p h = (refl, h)
then_equal Greater p h = absurd (cc)

-- pairs of which neither comes first are the same
pair_cmp-equal : (a b : ℕ × ℕ) → pair_cmp a b ≡ Equal → a ≡ b
pair_cmp-equal a b h =
    let both = then_equal (nat_cmp a.0 b.0) (nat_cmp a.1 b.1) h in
    let first : a.0 ≡ b.0 = subst (λ o. MatchOrdering o (a.0 < b.0) (a.0 ≡ b.0) (b.0 < a.0)) both.0 (ranks a.0 b.0) in
    let second : a.1 ≡ b.1 = subst (λ o. MatchOrdering o (a.1 < b.1) (a.1 ≡ b.1) (b.1 < a.1)) both.1 (ranks a.1 b.1) in
    λ i. (first i, second i)

-- of two others one comes first
pub pairs_apart : (a b : ℕ × ℕ) → b ≢ a → is_eq (pair_cmp a b) ≡ false
pairs_apart a b differ = by (pair_cmp a b) refl
  where
    by : (o : Ordering) → pair_cmp a b ≡ o → is_eq (pair_cmp a b) ≡ false
    by Less e = ap is_eq e
    by Equal e = absurd (differ (sym (pair_cmp-equal a b e)))
    by Greater e = ap is_eq e

-- an action on an item that counts accesses it
pub accessed_is : (kind : Counted) (h : List Operation) (i t x : ℕ) (a : Action) → accessed kind a ≡ Some x → Does h i t a
    → IsAccess kind h i t x
accessed_is Any h i t x a is does = item_uses h i t x a is does
accessed_is Writes h i t x (Read y) is does = absurd (grind (arith, common_steps, is))
accessed_is Writes h i t x (Write y) is does = grind (arith, common_steps, is, does)
accessed_is Writes h i t x Commit is does = absurd (grind (arith, common_steps, is))
accessed_is Writes h i t x Abort is does = absurd (grind (arith, common_steps, is))

-- what accesses an item is of an action on it
pub is_accessed : (kind : Counted) (h : List Operation) (i t u x : ℕ) (a : Action) → Does h i u a → IsAccess kind h i t x
    → (accessed kind a ≡ Some x) × (u ≡ t)
is_accessed Any h i t u x a does access =
    let one = uses_item h i (record { transaction = u; action = a }) t x does access in (one.1, one.0)
is_accessed Writes h i t u x a does access =
    (ap (accessed Writes) (same_action h i u t a (Write x) does access), same_doer h i u t a (Write x) does access)

-- the last first access stays where the operation is none
last_kept : (kind : Counted) (h : List Operation) (p x : ℕ) (o : Option ℕ) → ((t : ℕ) → ¬ IsFirstAccess kind h p t x)
    → IsLastFirst kind h p x o → IsLastFirst kind h (p + 1) x o
last_kept kind h p x None not_here none = λ k t less first. elim (before_next k p less) [
  | inl earlier ↦ none k t earlier first
  | inr here ↦ not_here t (subst (λ n. IsFirstAccess kind h n t x) here first)
]
last_kept kind h p x (Some i) not_here is = (
  omega (arith, is.0),
  is.1,
  λ k t after less first. elim (before_next k p less) [
    | inl earlier ↦ is.2 k t after earlier first
    | inr here ↦ not_here t (subst (λ n. IsFirstAccess kind h n t x) here first)
  ],
)

-- what is known of an access stays where the operation is none
some_kept : (kind : Counted) (h : List Operation) (p t x : ℕ) (o : Option ℕ) → ¬ IsAccess kind h p t x → IsSomeAccess kind h p t x o
    → IsSomeAccess kind h (p + 1) t x o
some_kept kind h p t x None not_here none = λ k less access. elim (before_next k p less) [
  | inl earlier ↦ none k earlier access
  | inr here ↦ not_here (subst (λ n. IsAccess kind h n t x) here access)
]
some_kept kind h p t x (Some i) not_here is = (omega (arith, is.0), is.1)

-- what is below first accesses stays where the operation is none
below_kept : (kind : Counted) (h : List Operation) (p : ℕ) (below : ℕ → Option ℕ) → ((t x : ℕ) → ¬ IsFirstAccess kind h p t x)
    → ((k t x : ℕ) → k < p → IsFirstAccess kind h k t x → IsLastFirst kind h k x (below k))
    → (k t x : ℕ) → k < p + 1 → IsFirstAccess kind h k t x → IsLastFirst kind h k x (below k)
below_kept kind h p below not_here are k t x less first = elim (before_next k p less) [
  | inl earlier ↦ are k t x earlier first
  | inr here ↦ absurd (not_here t x (subst (λ n. IsFirstAccess kind h n t x) here first))
]

-- what is noted of an access
latest_noted : (kind : Counted) (h : List Operation) (p t x : ℕ) (a : Action) (latest latest' : ℕ × ℕ → Option ℕ) → Does h p t a
    → accessed kind a ≡ Some x → latest' (t, x) ≡ Some p → ((r : ℕ × ℕ) → r ≢ (t, x) → latest' r ≡ latest r)
    → ((u y : ℕ) → IsSomeAccess kind h p u y (latest (u, y))) → (u y : ℕ) → IsSomeAccess kind h (p + 1) u y (latest' (u, y))
latest_noted kind h p t x a latest latest' does is here others are u y = elim (cases_eq u t) [
  | inl same ↦ elim (cases_eq y x) [
    | inl its ↦ subst (λ v. IsSomeAccess kind h (p + 1) v y (latest' (v, y))) (sym same)
        (subst (λ z. IsSomeAccess kind h (p + 1) t z (latest' (t, z))) (sym its)
        (subst (λ o. IsSomeAccess kind h (p + 1) t x o) (sym here) (omega arith, accessed_is kind h p t x a is does)))
    | inr apart ↦ other (λ one. apart (ap (λ (r : ℕ × ℕ). r.1) one))
        (λ access. let at = (is_accessed kind h p u t y a does access).0 in apart (grind (arith, common_steps, at, is)))
  ]
  | inr apart ↦ other (λ one. apart (ap (λ (r : ℕ × ℕ). r.0) one))
      (λ access. apart (sym (is_accessed kind h p u t y a does access).1))
]
  where
    other : ◌≢◌ {A = ℕ × ℕ} (u, y) (t, x) → ¬ IsAccess kind h p u y → IsSomeAccess kind h (p + 1) u y (latest' (u, y))
    other differ not_here = subst (λ o. IsSomeAccess kind h (p + 1) u y o) (sym (others (u, y) differ))
        (some_kept kind h p u y (latest (u, y)) not_here (are u y))

-- the operation is an access that is not the first
pub firsts_again : (kind : Counted) (h : List Operation) (p t x s : ℕ) (a : Action) (tops below : ℕ → Option ℕ)
    (latest latest' : ℕ × ℕ → Option ℕ) → Does h p t a → accessed kind a ≡ Some x → latest (t, x) ≡ Some s → latest' (t, x) ≡ Some p
    → ((r : ℕ × ℕ) → r ≢ (t, x) → latest' r ≡ latest r) → AreFirsts kind h p tops below latest
    → AreFirsts kind h (p + 1) tops below latest'
firsts_again kind h p t x s a tops below latest latest' does is before here others are = record {
  tops_are = λ y. last_kept kind h p y (tops y) (λ u. not_first u y) (are.tops_are y);
  below_are = below_kept kind h p below not_first are.below_are;
  fresh = λ k most. are.fresh k (omega (arith, most));
  latest_are = latest_noted kind h p t x a latest latest' does is here others are.latest_are;
}
  where
    earlier : IsSomeAccess kind h p t x (Some s)
    earlier = subst (λ o. IsSomeAccess kind h p t x o) before (are.latest_are t x)

    not_first : (u y : ℕ) → ¬ IsFirstAccess kind h p u y
    not_first u y first =
        let at = is_accessed kind h p u t y a does first.0 in
        let item : x ≡ y = grind (arith, common_steps, at.0, is) in
        first.1 s earlier.0 (subst (λ z. IsAccess kind h s u z) item (subst (λ v. IsAccess kind h s v x) at.1 earlier.1))

-- the operation is the first access
pub firsts_noted : (kind : Counted) (h : List Operation) (p t x : ℕ) (a : Action) (tops below tops' below' : ℕ → Option ℕ)
    (latest latest' : ℕ × ℕ → Option ℕ) → Does h p t a → accessed kind a ≡ Some x → latest (t, x) ≡ None → latest' (t, x) ≡ Some p
    → ((r : ℕ × ℕ) → r ≢ (t, x) → latest' r ≡ latest r) → tops' x ≡ Some p → ((y : ℕ) → y ≢ x → tops' y ≡ tops y)
    → below' p ≡ tops x → ((k : ℕ) → k ≢ p → below' k ≡ below k) → AreFirsts kind h p tops below latest
    → AreFirsts kind h (p + 1) tops' below' latest'
firsts_noted kind h p t x a tops below tops' below' latest latest' does is none here others top other_tops lower others_below are = record {
  tops_are = tops_are;
  below_are = below_are;
  fresh = λ k most. others_below k (omega (arith, most)) ∙ are.fresh k (omega (arith, most));
  latest_are = latest_noted kind h p t x a latest latest' does is here others are.latest_are;
}
  where
    first : IsFirstAccess kind h p t x
    first = (accessed_is kind h p t x a is does, subst (λ o. IsSomeAccess kind h p t x o) none (are.latest_are t x))

    its : (u y : ℕ) → IsAccess kind h p u y → x ≡ y
    its u y access = let at = (is_accessed kind h p u t y a does access).0 in grind (arith, common_steps, at, is)

    tops_are : (y : ℕ) → IsLastFirst kind h (p + 1) y (tops' y)
    tops_are y = elim (cases_eq y x) [
      | inl same ↦ subst (λ z. IsLastFirst kind h (p + 1) z (tops' z)) (sym same) (subst (λ o. IsLastFirst kind h (p + 1) x o) (sym top)
          (omega arith, (t, first), λ k u after less other. absurd (omega (arith, after, less))))
      | inr differ ↦ subst (λ o. IsLastFirst kind h (p + 1) y o) (sym (other_tops y differ))
          (last_kept kind h p y (tops y) (λ u other. differ (sym (its u y other.0))) (are.tops_are y))
    ]

    below_are : (k u y : ℕ) → k < p + 1 → IsFirstAccess kind h k u y → IsLastFirst kind h k y (below' k)
    below_are k u y less other = elim (before_next k p less) [
      | inl earlier ↦ subst (λ o. IsLastFirst kind h k y o) (sym (others_below k (λ same. absurd (omega (arith, same, earlier)))))
          (are.below_are k u y earlier other)
      | inr same ↦
          let at : IsFirstAccess kind h p u y = subst (λ n. IsFirstAccess kind h n u y) same other in
          subst (λ n. IsLastFirst kind h n y (below' n)) (sym same) (subst (λ o. IsLastFirst kind h p y o) (sym lower)
          (subst (λ z. IsLastFirst kind h p z (tops x)) (its u y at.0) (are.tops_are x)))
    ]

-- what is not none is some
pub is_there : (o : Option ℕ) → o ≢ None → (s : ℕ) × (o ≡ Some s)
is_there None differ = absurd (differ refl)
is_there (Some s) differ = (s, refl)
