-- Links that are added, and what they link.
use Rattle.std.proofs.Common.{◌≡◌, ◌≢◌, ◌⊎◌, ◌<◌, ◌+◌, ◌++◌, ℕ, suc, List, [], ◌∷◌, Option, Some, None, length, get_or, refl, sym, ap, ◌∙◌, subst, inl, inr, arith}
use Rattle.std.proofs.lemmas.Bool.{cases_eq, cases_lt}
use Rattle.sgt_appends.specs.declared.sorting.Link.{Link}
use Rattle.sgt_appends.specs.Graphs.{IsAmong, AreAmong}
use Rattle.sgt_appends.specs.Indexes.{Positions}
use Rattle.sgt_appends.specs.Required.{IsLinked, AreMore, IsAdded, pair_link, IsPaired, IsNextLink, AreLinkedSoFar, IsOwn, AreOwnFrom, IsLastOther, IsLastLinked}
use Rattle.sgt_appends.proofs.Sortings.{among_append, among_left, among_right}

pub none_more : (links : List Link) (are : Link → Type 0) → AreMore links links are
none_more links are = record { stay = λ l is. is; only = λ l is. inl is }

pub more_on : (a b c : List Link) (P Q R : Link → Type 0) → AreMore a b P → AreMore b c Q → ((l : Link) → P l → R l)
    → ((l : Link) → Q l → R l) → AreMore a c R
more_on a b c P Q R one other p q = record {
  stay = λ l is. other.stay l (one.stay l is);
  only = λ l is. elim (other.only l is) [
    | inl there ↦ elim (one.only l there) [
      | inl old ↦ inl old
      | inr new ↦ inr (new.0, p l new.1)
    ]
    | inr new ↦ inr (new.0, q l new.1)
  ];
}

pub linked_still : (old new : List Link) (a b : ℕ) → AreAmong old new → IsLinked old a b → IsLinked new a b
linked_still old new a b stay (inl same) = inl same
linked_still old new a b stay (inr it) = inr (it.0, stay it.0 it.1, it.2, it.3)

-- one link more
pub added_one : (old new : List Link) (link : Link) → new ≡ old ++ link ∷ [] → link.from ≢ link.to → IsAdded old new link
added_one old new link longer differ = (
  record {
    stay = λ l is. subst (λ ls. IsAmong ls l) (sym longer) (among_left old (link ∷ []) l is);
    only = λ l is. cases l (among_append old (link ∷ []) l (subst (λ ls. IsAmong ls l) longer is));
  },
  inr (link, subst (λ ls. IsAmong ls link) (sym longer) (among_right old (link ∷ []) link (inl refl)), refl, refl),
)
  where
    cases : (l : Link) → IsAmong old l ⊎ IsAmong (link ∷ []) l → IsAmong old l ⊎ ((l.from ≢ l.to) × (l ≡ link))
    cases l (inl there) = inl there
    cases l (inr (inl same)) = inr (subst (λ (m : Link). m.from ≢ m.to) same differ, sym same)
    cases l (inr (inr never)) = absurd never

same_append : (o : Option (ℕ × ℕ)) (x y : ℕ × ℕ) → o ≡ Some x → o ≡ Some y → x ≡ y
same_append o x y one other = by (sym one ∙ other)
  where
    by : Some x ≡ Some y → x ≡ y
    by e = cc

next_is : (i : ℕ) → i + 1 ≡ suc i
next_is i = omega arith

-- one value more
pub next_one : (at : Positions) (old links new : List Link) (r p k : ℕ) (seen : List ℕ) (i : ℕ) (before : Option (ℕ × ℕ)) (y : ℕ × ℕ)
    → i < length seen → AreLinkedSoFar at old links r p k seen i before → at k (get_or seen i 0) ≡ Some y
    → IsPaired links new before y r p → AreLinkedSoFar at old new r p k seen (i + 1) (Some y)
next_one at old links new r p k seen i None y within so_far is paired = record {
  before_is = (i, next_is i, is);
  more = subst (λ ls. AreMore old ls (IsNextLink at r p k seen)) (sym paired) so_far.more;
  linked = λ j x z less one other. absurd (omega (arith, less, so_far.before_is));
}
next_one at old links new r p k seen i (Some x) y within so_far is paired = record {
  before_is = (i, next_is i, is);
  more = more_on old links new (IsNextLink at r p k seen) (λ l. l ≡ pair_link x y r p) (IsNextLink at r p k seen) so_far.more paired.0
      (λ l it. it) (λ l same. (j, x, y, omega (arith, within, so_far.before_is.1), so_far.before_is.2, here, same));
  linked = λ m u w less one other. elim (cases_eq m j) [
    | inl same ↦
        let first : u ≡ x = same_append (at k (get_or seen m 0)) u x one
        (subst (λ n. at k (get_or seen n 0) ≡ Some x) (sym same) so_far.before_is.2) in
        let second : w ≡ y = same_append (at k (get_or seen (suc m) 0)) w y other
        (subst (λ n. at k (get_or seen (suc n) 0) ≡ Some y) (sym same) here) in
        subst (λ (z : ℕ × ℕ). IsLinked new z.0 w.0) (sym first) (subst (λ (z : ℕ × ℕ). IsLinked new x.0 z.0) (sym second) paired.1)
    | inr differ ↦ linked_still links new u.0 w.0 paired.0.stay
        (so_far.linked m u w (omega (arith, less, differ, so_far.before_is.1)) one other)
  ];
}
  where
    j : ℕ
    j = so_far.before_is.0

    here : at k (get_or seen (suc j) 0) ≡ Some y
    here = subst (λ n. at k (get_or seen n 0) ≡ Some y) so_far.before_is.1 is

-- the reader's own values: one more from behind
pub own_one : (at : Positions) (r k : ℕ) (seen : List ℕ) (i : ℕ) (x : ℕ × ℕ) → AreOwnFrom at r k seen (i + 1)
    → at k (get_or seen i 0) ≡ Some x → x.0 ≡ r → AreOwnFrom at r k seen i
own_one at r k seen i x following is mine j from within = elim (cases_eq j i) [
  | inl same ↦ (
    x.1,
    subst (λ n. at k (get_or seen n 0) ≡ Some (r, x.1)) (sym same) (is ∙ ap (λ q. Some (q, x.1)) mine),
  )
  | inr differ ↦ following j (omega (arith, from, differ)) within
]

no_other : (o : Option (ℕ × ℕ)) (x : ℕ × ℕ) (r p : ℕ) → o ≡ Some x → o ≡ Some (r, p) → x.0 ≡ r
no_other o x r p one other = ap (λ (y : ℕ × ℕ). y.0) (same_append o x (r, p) one other)

-- the last value of others is linked
pub last_linked : (at : Positions) (links : List Link) (r k : ℕ) (seen : List ℕ) (y : ℕ × ℕ) → IsLastOther at r k seen y
    → IsLinked links y.0 r → IsLastLinked at links r k seen
last_linked at links r k seen y last linked i x within is following = elim (cases_lt i last.0) [
  | inl less ↦
      let own = following last.0 (omega (arith, less)) last.1 in
      absurd (last.3 (no_other (at k (get_or seen last.0 0)) y r own.0 last.2 own.1))
  | inr no_less ↦ elim (cases_eq i last.0) [
    | inl same ↦
        let it : x ≡ y = same_append (at k (get_or seen i 0)) x y is (subst (λ n. at k (get_or seen n 0) ≡ Some y) (sym same) last.2) in
        subst (λ (z : ℕ × ℕ). IsLinked links z.0 r) (sym it) linked
    | inr differ ↦
        let own = last.4 i (omega (arith, no_less, differ)) within in
        inl (no_other (at k (get_or seen i 0)) x r own.0 is own.1)
  ]
]

pub none_other : (at : Positions) (links : List Link) (r k : ℕ) (seen : List ℕ)
    → ((j : ℕ) → j < length seen → IsOwn at r k (get_or seen j 0)) → IsLastLinked at links r k seen
none_other at links r k seen all i x within is following =
    let own = all i within in
    inl (no_other (at k (get_or seen i 0)) x r own.0 is own.1)

-- the same links, by what is known of them
pub more_as : (a b : List Link) (P Q : Link → Type 0) → AreMore a b P → ((l : Link) → l.from ≢ l.to → P l → Q l) → AreMore a b Q
more_as a b P Q more known = record {
  stay = more.stay;
  only = λ l is. elim (more.only l is) [
    | inl there ↦ inl there
    | inr new ↦ inr (new.0, known l new.0 new.1)
  ];
}
