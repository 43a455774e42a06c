-- The rivals of an access among the accesses up to an index of the list.
use Rattle.std.proofs.Common.{◌≡◌, ◌≢◌, ℕ, ◌+◌, ◌-◌, ◌<◌, ◌≤◌, ◌⊎◌, ◌↔◌, ◌||◌, ◌&&◌, true, nat_eq, zero, suc, List, [], ◌∷◌, ◌++◌, length, take, drop, get_or, arith, sym, subst, ap, inl, inr, ◌∙◌}
use Rattle.std.proofs.lemmas.Bool.{or_left, or_right, or_cases, and_parts, eqb-true, eq-eqb}
use Rattle.std.proofs.lemmas.List.Folds.{list_any_more, list_any-append}
use Rattle.std.proofs.lemmas.List.{take-append-drop}
use Rattle.sgt_model.specs.declared.kind.Kind.{Kind}
use Rattle.sgt_model.specs.Contents.{Key, key_eq}
use Rattle.sgt_model.specs.Pairs.{one_stores}
use Rattle.sgt_model.specs.AccessList.{ListedAccess, is_conflicting, lists_conflicting, is_listed}
use Rattle.sgt_model.specs.Paths.{Member, AtMost}
use Rattle.sgt_access.specs.NumberLists.{FitIn}

-- these are the transactions other than t with a listed access that conflicts with one of that kind of the key
abbrev pub AreRivals : ℕ → Key → Kind → List ListedAccess → List ℕ → Type 0
AreRivals t k kind list rivals = (u : ℕ) → Member u rivals ↔ ((u ≢ t) × (lists_conflicting list u k kind ≡ true))

-- some transaction other than t has a listed access that conflicts with one of that kind of the key
abbrev pub HasRival : ℕ → Key → Kind → List ListedAccess → Type 0
HasRival t k kind list = (u : ℕ) × (u ≢ t) × (lists_conflicting list u k kind ≡ true)

-- these are the first ones, and the transactions other than t with such an access
abbrev pub AddRivals : ℕ → Key → Kind → List ListedAccess → List ℕ → List ℕ → Type 0
AddRivals t k kind list first rivals = (u : ℕ) → Member u rivals ↔ (Member u first ⊎ ((u ≢ t) × (lists_conflicting list u k kind ≡ true)))

module _ (t : ℕ) (k : Key) (kind : Kind) (list : List ListedAccess) (i : ℕ) (a : ListedAccess) (short : i < length list)
    (is : a ≡ get_or list i a) where
  -- one access more
  one_more : (u : ℕ) → lists_conflicting (take (i + 1) list) u k
      kind ≡ (lists_conflicting (take i list) u k kind || is_conflicting u k kind a)
  one_more u = list_any_more (is_conflicting u k kind) list i a short
      ∙ ap (λ x. lists_conflicting (take i list) u k kind || is_conflicting u k kind x) (sym is)

  -- who meets an access made it
  met_by : (u : ℕ) → is_conflicting u k kind a ≡ true → a.by ≡ u
  met_by u m = eqb-true a.by u (and_parts _ _ m).0

  -- a rival's access adds it
  pub rival_added : (first old new : List ℕ) → (a.by ≢ t) × (is_conflicting a.by k kind a ≡ true)
      → ((u : ℕ) → Member u new ↔ ((u ≡ a.by) ⊎ Member u old)) → AddRivals t k kind (take i list) first old
      → AddRivals t k kind (take (i + 1) list) first new
  rival_added first old new rival members before u = (there, back)
    where
      there : Member u new → Member u first ⊎ ((u ≢ t) × (lists_conflicting (take (i + 1) list) u k kind ≡ true))
      there m = elim ((members u).0 m) [
        | inl e ↦ inr (
          (λ same. rival.0 (sym e ∙ same)),
          one_more u
              ∙ or_right _ _ (subst (λ v. is_conflicting v k kind a ≡ true) (sym e) rival.1),
        )
        | inr o ↦ elim ((before u).0 o) [ inl f ↦ inl f | inr r ↦ inr (r.0, one_more u ∙ or_left _ _ r.1) ]
      ]

      back : Member u first ⊎ ((u ≢ t) × (lists_conflicting (take (i + 1) list) u k kind ≡ true)) → Member u new
      back (inl f) = (members u).1 (inr ((before u).1 (inl f)))
      back (inr h) = elim (or_cases _ _ (sym (one_more u) ∙ h.1)) [
        | inl o ↦ (members u).1 (inr ((before u).1 (inr (h.0, o))))
        | inr now ↦ (members u).1 (inl (sym (met_by u now)))
      ]

  -- another's adds none
  pub no_rival_added : (first old : List ℕ) → ((a.by ≢ t) × (is_conflicting a.by k kind a ≡ true) → ⊥)
      → AddRivals t k kind (take i list) first old → AddRivals t k kind (take (i + 1) list) first old
  no_rival_added first old other before u = (there, back)
    where
      there : Member u old → Member u first ⊎ ((u ≢ t) × (lists_conflicting (take (i + 1) list) u k kind ≡ true))
      there m = elim ((before u).0 m) [ inl f ↦ inl f | inr r ↦ inr (r.0, one_more u ∙ or_left _ _ r.1) ]

      back : Member u first ⊎ ((u ≢ t) × (lists_conflicting (take (i + 1) list) u k kind ≡ true)) → Member u old
      back (inl f) = (before u).1 (inl f)
      back (inr h) = elim (or_cases _ _ (sym (one_more u) ∙ h.1)) [
        | inl o ↦ (before u).1 (inr (h.0, o))
        | inr now ↦ absurd (other (subst (λ v. (v ≢ t) × (is_conflicting v k kind a ≡ true)) (sym (met_by u now)) (h.0, now)))
      ]

-- a transaction with a conflicting access has a listed one
pub conflict_listed : (list : List ListedAccess) (u : ℕ) (k : Key) (kind : Kind) → lists_conflicting list u k kind ≡ true
    → is_listed list u ≡ true
conflict_listed [] u k kind h = absurd (cc)
conflict_listed (a ∷ list) u k kind h = elim (or_cases (is_conflicting u k kind a) (lists_conflicting list u k kind) h) [
  | inl now ↦ or_left (nat_eq a.by u) (is_listed list u) (and_parts (nat_eq a.by u) (key_eq a.key k && one_stores a.kind kind) now).0
  | inr later ↦ or_right (nat_eq a.by u) (is_listed list u) (conflict_listed list u k kind later)
]

-- rivals of two lists, one after the other
pub rivals_beside : (t : ℕ) (k : Key) (kind : Kind) (xs ys : List ListedAccess) (first second third : List ℕ)
    → AddRivals t k kind xs first second → AddRivals t k kind ys second third → AddRivals t k kind (xs ++ ys) first third
rivals_beside t k kind xs ys first second third one two u = (there, back)
  where
    both : lists_conflicting (xs ++ ys) u k kind ≡ (lists_conflicting xs u k kind || lists_conflicting ys u k kind)
    both = list_any-append (is_conflicting u k kind) xs ys

    there : Member u third → Member u first ⊎ ((u ≢ t) × (lists_conflicting (xs ++ ys) u k kind ≡ true))
    there m = elim ((two u).0 m) [
      | inl s ↦ elim ((one u).0 s) [ inl f ↦ inl f | inr r ↦ inr (r.0, both ∙ or_left _ _ r.1) ]
      | inr r ↦ inr (r.0, both ∙ or_right _ _ r.1)
    ]

    back : Member u first ⊎ ((u ≢ t) × (lists_conflicting (xs ++ ys) u k kind ≡ true)) → Member u third
    back (inl f) = (two u).1 (inl ((one u).1 (inl f)))
    back (inr h) = elim (or_cases _ _ (sym both ∙ h.1)) [
      | inl x ↦ (two u).1 (inl ((one u).1 (inr (h.0, x))))
      | inr y ↦ (two u).1 (inr (h.0, y))
    ]

-- whether one of two lists has a rival
pub rival_first : (t : ℕ) (k : Key) (kind : Kind) (xs ys : List ListedAccess) → HasRival t k kind xs → HasRival t k kind (xs ++ ys)
rival_first t k kind xs ys has =
    (has.0, has.1, list_any-append (is_conflicting has.0 k kind) xs ys ∙ or_left _ _ has.2)

pub rival_second : (t : ℕ) (k : Key) (kind : Kind) (xs ys : List ListedAccess) → HasRival t k kind ys → HasRival t k kind (xs ++ ys)
rival_second t k kind xs ys has =
    (has.0, has.1, list_any-append (is_conflicting has.0 k kind) xs ys ∙ or_right _ _ has.2)

pub rival_in_second : (t : ℕ) (k : Key) (kind : Kind) (xs ys : List ListedAccess) → (HasRival t k kind xs → ⊥)
    → HasRival t k kind (xs ++ ys) → HasRival t k kind ys
rival_in_second t k kind xs ys none has = elim (or_cases _ _ (sym (list_any-append (is_conflicting has.0 k kind) xs ys) ∙ has.2)) [
  | inl here ↦ absurd (none (has.0, has.1, here))
  | inr there ↦ (has.0, has.1, there)
]

pub no_rival_in_none : (t : ℕ) (k : Key) (kind : Kind) (ys : List ListedAccess) → ys ≡ [] → HasRival t k kind ys → ⊥
no_rival_in_none t k kind [] none has = absurd (cc)
no_rival_in_none t k kind (y ∷ ys) none has = absurd (cc)

-- no rivals were there before
pub rivals_alone : (t : ℕ) (k : Key) (kind : Kind) (list : List ListedAccess) (rivals : List ℕ) → AddRivals t k kind list [] rivals
    → AreRivals t k kind list rivals
rivals_alone t k kind list rivals all u = (
  λ m. elim ((all u).0 m) [ inl none ↦ absurd none | inr r ↦ r ],
  λ r. (all u).1 (inr r),
)

-- rivals fit that have a conflicting access in one of two lists, if all with an access there do
pub fit_first : (accesses : List ListedAccess) → AtMost 32 (is_listed accesses) → FitIn [] accesses
fit_first accesses few = (few.among, few.few, λ u m. absurd m, few.all)

pub fit_left : (rivals : List ℕ) (xs ys : List ListedAccess) → FitIn rivals (xs ++ ys) → FitIn rivals xs
fit_left rivals xs ys fit = (fit.0, fit.1, fit.2, λ u h. fit.3 u (list_any-append (λ (a : ListedAccess). nat_eq a.by u) xs ys ∙ or_left _ _ h))

pub fit_right : (t : ℕ) (k : Key) (kind : Kind) (first second : List ℕ) (xs ys : List ListedAccess) → FitIn first (xs ++ ys)
    → AddRivals t k kind xs first second → FitIn second ys
fit_right t k kind first second xs ys fit added = (
  fit.0,
  fit.1,
  λ u m. elim ((added u).0 m) [
    | inl f ↦ fit.2 u f
    | inr r ↦ fit.3 u (list_any-append (λ (a : ListedAccess). nat_eq a.by u) xs ys ∙ or_left _ _ (conflict_listed xs u k kind r.1))
  ],
  λ u h. fit.3 u (list_any-append (λ (a : ListedAccess). nat_eq a.by u) xs ys ∙ or_right _ _ h),
)

-- a transaction with a conflicting access among the first ones has a listed one
pub rival_listed : (list : List ListedAccess) (i u : ℕ) (k : Key) (kind : Kind) → lists_conflicting (take i list) u k kind ≡ true
    → is_listed list u ≡ true
rival_listed list i u k kind h = subst (λ l. is_listed l u ≡ true) (take-append-drop i list)
    (list_any-append (λ (a : ListedAccess). nat_eq a.by u) (take i list) (drop i list) ∙ or_left _ _ (conflict_listed (take i list) u k kind h))

-- whose access is at an index has a listed one
pub listed_at : (list : List ListedAccess) (i : ℕ) (a : ListedAccess) → i < length list → a ≡ get_or list i a → is_listed list a.by ≡ true
listed_at [] i a short is = absurd (omega arith)
listed_at (b ∷ list) zero a short is = or_left _ _ (eq-eqb b.by a.by (ap (λ (x : ListedAccess). x.by) (sym is)))
listed_at (b ∷ list) (suc i) a short is = or_right _ _ (listed_at list i a (omega arith) is)

-- whose conflicting access is at an index has one in the list
pub conflicting_there : (list : List ListedAccess) (i : ℕ) (a : ListedAccess) (u : ℕ) (k : Key) (kind : Kind) → i < length list
    → a ≡ get_or list i a → is_conflicting u k kind a ≡ true → lists_conflicting list u k kind ≡ true
conflicting_there [] i a u k kind short is conflicting = absurd (omega arith)
conflicting_there (b ∷ list) zero a u k kind short is conflicting =
    or_left _ _ (ap (is_conflicting u k kind) (sym is) ∙ conflicting)
conflicting_there (b ∷ list) (suc i) a u k kind short is conflicting =
    or_right _ _ (conflicting_there list i a u k kind (omega arith) is conflicting)

-- a short list is of few transactions
pub short_few : (most : ℕ) (list : List ListedAccess) → length list ≤ most → AtMost most (is_listed list)
short_few most list short = record { among = makers list; few = same_length list most short; all = λ t h. made list t h }
  where
    makers : List ListedAccess → List ℕ
    makers [] = []
    makers (a ∷ l) = a.by ∷ makers l

    same_length : (l : List ListedAccess) (n : ℕ) → length l ≤ n → length (makers l) ≤ n
    same_length [] n h = omega arith
    same_length (a ∷ l) n h = let rest : length (makers l) ≤ n - 1 = same_length l (n - 1) (omega arith) in omega arith

    made : (l : List ListedAccess) (t : ℕ) → is_listed l t ≡ true → Member t (makers l)
    made [] t h = absurd (cc)
    made (a ∷ l) t h =
        elim (or_cases (nat_eq a.by t) (is_listed l t) h) [ inl now ↦ inl (sym (eqb-true a.by t now)) | inr later ↦ inr (made l t later) ]
