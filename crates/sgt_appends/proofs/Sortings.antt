-- Steps of sorting a graph.
use Rattle.std.proofs.Common.{◌≡◌, ◌≢◌, ◌<◌, ◌≤◌, ◌-◌, ◌+◌, ◌⊎◌, ℕ, zero, suc, Bool, true, false, List, [], ◌∷◌, ◌++◌, Some, length, get_or, refl, sym, ap, ◌∙◌, subst, inl, inr, arith}
use Rattle.std.specs.Prelude.{slice_get, slice_set}
use Rattle.std.proofs.Math.ListN.{length-set}
use Rattle.std.proofs.lemmas.Bool.{cases_eq}
use Rattle.std.proofs.lemmas.Grind.{common_steps}
use Rattle.std.proofs.lemmas.Option.{slice_get_within, slice_get-get_or}
use Rattle.sgt_appends.specs.declared.sorting.Link.{Link}
use Rattle.sgt_appends.specs.Lists.{Has, Rises}
use Rattle.sgt_appends.specs.Graphs.{IsAmong, LeadTo, LeadBack, Pass, IsLinkTo, AreWithin, AreChained, IsSorted, AreOrdered, IsReached, RiseAlong, unmet}
use Rattle.sgt_appends.proofs.Words.{Has-append_left, Has-append_right, Has-append_cases}

pub among_at : (links : List Link) (e : ℕ) (l : Link) → slice_get links e ≡ Some l → IsAmong links l
among_at [] e l at = absurd (grind (arith, common_steps, at))
among_at (x ∷ xs) zero l at = inl (is at)
  where
    is : Some x ≡ Some l → x ≡ l
    is e = cc
among_at (x ∷ xs) (suc e) l at = inr (among_at xs e l at)

pub at_among : (links : List Link) (l : Link) → IsAmong links l → (e : ℕ) × (slice_get links e ≡ Some l)
at_among [] l is = absurd is
at_among (x ∷ xs) l (inl same) = (0, ap Some same)
at_among (x ∷ xs) l (inr later) = let it = at_among xs l later in (suc it.0, it.1)

pub among_append : (xs ys : List Link) (l : Link) → IsAmong (xs ++ ys) l → IsAmong xs l ⊎ IsAmong ys l
among_append [] ys l is = inr is
among_append (x ∷ xs) ys l (inl same) = inl (inl same)
among_append (x ∷ xs) ys l (inr later) = elim (among_append xs ys l later) [
  | inl w ↦ inl (inr w)
  | inr w ↦ inr w
]

pub among_left : (xs ys : List Link) (l : Link) → IsAmong xs l → IsAmong (xs ++ ys) l
among_left [] ys l is = absurd is
among_left (x ∷ xs) ys l (inl same) = inl same
among_left (x ∷ xs) ys l (inr later) = inr (among_left xs ys l later)

pub among_right : (xs ys : List Link) (l : Link) → IsAmong ys l → IsAmong (xs ++ ys) l
among_right [] ys l is = is
among_right (x ∷ xs) ys l is = inr (among_right xs ys l is)

-- set and get
pub set_here : (xs : List ℕ) (i x : ℕ) → i < length xs → get_or (slice_set xs i x) i 0 ≡ x
set_here xs i x within = grind (arith, common_steps, within)

pub set_other : (xs : List ℕ) (i j x : ℕ) → i ≢ j → get_or (slice_set xs i x) j 0 ≡ get_or xs j 0
set_other xs i j x differ = grind (arith, common_steps, differ)

same_link : (links : List Link) (e : ℕ) (k l : Link) → slice_get links e ≡ Some k → slice_get links e ≡ Some l → k ≡ l
same_link links e k l one other = let both : Some k ≡ Some l = sym one ∙ other in cc

-- the last unvisited link to a node
pub head_at : (links : List Link) (heads before ranks : List ℕ) (v : ℕ) (d : Link) → IsSorted links heads before ranks
    → 0 < get_or heads v 0 → slice_get links (get_or heads v 0 - 1) ≡ Some (get_or links (get_or heads v 0 - 1) d)
head_at links heads before ranks v d is some =
    let it = is.last v some in
    slice_get-get_or links (get_or heads v 0 - 1) d (slice_get_within links (get_or heads v 0 - 1) it.0 it.1)

pub head_to : (links : List Link) (heads before ranks : List ℕ) (v : ℕ) (d : Link) → IsSorted links heads before ranks
    → 0 < get_or heads v 0 → (get_or links (get_or heads v 0 - 1) d).to ≡ v
head_to links heads before ranks v d is some =
    let it = is.last v some in
    ap (λ (k : Link). k.to) (same_link links (get_or heads v 0 - 1) _ it.0 (head_at links heads before ranks v d is some) it.1) ∙ it.2

-- if no link to a node is left, all nodes that lead to it have ranks
pub none_left : (links : List Link) (heads before ranks : List ℕ) (v : ℕ) → IsSorted links heads before ranks
    → get_or heads v 0 ≡ 0 → (l : Link) → IsAmong links l → l.to ≡ v → 0 < get_or ranks l.from 0
none_left links heads before ranks v is none l among to = elim (is.left at.0 l at.1) [
  | inl w ↦ absurd (omega (arith, none, subst (λ n. at.0 < get_or heads n 0) to w))
  | inr w ↦ w
]
  where
    at : (e : ℕ) × (slice_get links e ≡ Some l)
    at = at_among links l among

-- a link from a node with a rank is visited
pub pass_one : (links : List Link) (heads before ranks : List ℕ) (v : ℕ) (l : Link) → IsSorted links heads before ranks
    → 0 < get_or heads v 0 → v < length heads → slice_get links (get_or heads v 0 - 1) ≡ Some l → 0 < get_or ranks l.from 0
    → IsSorted links (slice_set heads v (get_or before (get_or heads v 0 - 1) 0)) before ranks
pass_one links heads before ranks v l is some within at ranked = record {
  long = is.long;
  nodes = length-set heads v _ ∙ is.nodes;
  within = is.within;
  later = is.later;
  earlier = is.earlier;
  last = last;
  left = left;
  placed = is.placed;
}
  where
    e : ℕ
    e = get_or heads v 0 - 1

    to : l.to ≡ v
    to = let it = is.last v some in ap (λ (k : Link). k.to) (same_link links e l it.0 at it.1) ∙ it.2

    last : (w : ℕ) → IsLinkTo links (get_or (slice_set heads v (get_or before e 0)) w 0) w
    last w = elim (cases_eq v w) [
      | inl same ↦ subst (λ u. IsLinkTo links (get_or (slice_set heads v (get_or before e 0)) u 0) u) same
          (subst (λ p. IsLinkTo links p v) (sym (set_here heads v (get_or before e 0) within))
          (subst (λ u. IsLinkTo links (get_or before e 0) u) to (is.earlier e l at).0))
      | inr differ ↦ subst (λ p. IsLinkTo links p w) (sym (set_other heads v w (get_or before e 0) differ)) (is.last w)
    ]

    left : (d : ℕ) (k : Link) → slice_get links d ≡ Some k
        → (d < get_or (slice_set heads v (get_or before e 0)) k.to 0) ⊎ (0 < get_or ranks k.from 0)
    left d k there = elim (is.left d k there) [
      | inr w ↦ inr w
      | inl w ↦ elim (cases_eq v k.to) [
        | inr differ ↦ inl (omega (arith, w, set_other heads v k.to (get_or before e 0) differ))
        | inl same ↦ elim (cases_eq d e) [
          | inl here ↦ inr (subst (λ (x : Link). 0 < get_or ranks x.from 0)
              (same_link links e l k at (subst (λ n. slice_get links n ≡ Some k) here there)) ranked)
          | inr differ ↦
              let less : d < get_or heads v 0 = subst (λ n. d < get_or heads n 0) (sym same) w in
              let earlier : d < e = omega (arith, less, differ) in
              let it : d < get_or before e 0 = is.later d e k l earlier there at (sym same ∙ sym to) in
              inl (subst (λ n. d < get_or (slice_set heads v (get_or before e 0)) n 0) same
              (omega (arith, it, set_here heads v (get_or before e 0) within)))
        ]
      ]
    ]

pub rises_one : (f g : ℕ → ℕ) (xs : List ℕ) (v : ℕ) → Rises f xs → ((x : ℕ) → Has xs x → g x ≡ f x) → ((x : ℕ) → Has xs x → g x < g v)
    → Rises g (xs ++ v ∷ [])
rises_one f g [] v rises same less = ((λ y has. absurd has), tt)
rises_one f g (x ∷ xs) v rises same less =
    (first, rises_one f g xs v rises.1 (λ y has. same y (inr has)) (λ y has. less y (inr has)))
  where
    below : (y : ℕ) → Has xs y ⊎ Has (v ∷ []) y → g x < g y
    below y (inl has) = omega (arith, same x (inl refl), same y (inr has), rises.0 y has)
    below y (inr (inl is)) = subst (λ z. g x < g z) is (less x (inl refl))
    below y (inr (inr none)) = absurd none

    first : (y : ℕ) → Has (xs ++ v ∷ []) y → g x < g y
    first y has = below y (Has-append_cases xs (v ∷ []) y has)

-- a node gets the next rank
new_other : (ranks order : List ℕ) (v w : ℕ) → get_or ranks v 0 ≡ 0 → 0 < get_or ranks w 0
    → get_or (slice_set ranks v (length order + 1)) w 0 ≡ get_or ranks w 0
new_other ranks order v w unranked ranked = set_other ranks v w (length order + 1) other
  where
    other : v ≢ w
    other e = absurd (omega (arith, unranked, subst (λ n. 0 < get_or ranks n 0) (sym e) ranked))

pub order_one : (ranks order : List ℕ) (v : ℕ) → AreOrdered ranks order → v < length ranks → get_or ranks v 0 ≡ 0
    → AreOrdered (slice_set ranks v (length order + 1)) (order ++ v ∷ [])
order_one ranks order v is within unranked = record {
  rises = rises_one (λ t. get_or ranks t 0) (λ t. new t) order v is.rises (λ x has. same x (is.ordered x has).0)
      (λ x has. omega (arith, same x (is.ordered x has).0, (is.ordered x has).1, here));
  ordered = λ w has. ordered w (Has-append_cases order (v ∷ []) w has);
  all = all;
}
  where
    new : ℕ → ℕ
    new t = get_or (slice_set ranks v (length order + 1)) t 0

    here : new v ≡ length order + 1
    here = set_here ranks v (length order + 1) within

    same : (w : ℕ) → 0 < get_or ranks w 0 → new w ≡ get_or ranks w 0
    same w ranked = new_other ranks order v w unranked ranked

    long : length (order ++ v ∷ []) ≡ length order + 1
    long = grind (arith, common_steps)

    ordered : (w : ℕ) → Has order w ⊎ Has (v ∷ []) w → (0 < new w) × (new w ≤ length (order ++ v ∷ []))
    ordered w (inl has) =
        let it = is.ordered w has in (omega (arith, it.0, same w it.0), omega (arith, it.1, same w it.0, long))
    ordered w (inr (inl e)) =
        let it : new w ≡ length order + 1 = subst (λ n. new n ≡ length order + 1) e here in (omega (arith, it), omega (arith, it, long))
    ordered w (inr (inr nothing)) = absurd nothing

    all : (w : ℕ) → 0 < new w → Has (order ++ v ∷ []) w
    all w ranked = elim (cases_eq v w) [
      | inl e ↦ Has-append_right order (v ∷ []) w (inl e)
      | inr differ ↦ Has-append_left order (v ∷ []) w (is.all w (omega (arith, ranked, set_other ranks v w (length order + 1) differ)))
    ]

pub place_one : (links : List Link) (heads before ranks order : List ℕ) (v : ℕ) → IsSorted links heads before ranks → AreOrdered ranks order
    → v < length ranks → get_or ranks v 0 ≡ 0 → ((l : Link) → IsAmong links l → l.to ≡ v → 0 < get_or ranks l.from 0)
    → IsSorted links heads before (slice_set ranks v (length order + 1))
place_one links heads before ranks order v is are within unranked none = record {
  long = is.long;
  nodes = is.nodes ∙ sym (length-set ranks v _);
  within = subst (λ n. AreWithin links n) (sym (length-set ranks v _)) is.within;
  later = is.later;
  earlier = is.earlier;
  last = is.last;
  left = left;
  placed = placed;
}
  where
    new : ℕ → ℕ
    new t = get_or (slice_set ranks v (length order + 1)) t 0

    here : new v ≡ length order + 1
    here = set_here ranks v (length order + 1) within

    same : (w : ℕ) → 0 < get_or ranks w 0 → new w ≡ get_or ranks w 0
    same w ranked = new_other ranks order v w unranked ranked

    left : (e : ℕ) (l : Link) → slice_get links e ≡ Some l → (e < get_or heads l.to 0) ⊎ (0 < new l.from)
    left e l at = elim (is.left e l at) [
      | inl w ↦ inl w
      | inr w ↦ inr (omega (arith, w, same l.from w))
    ]

    placed : (l : Link) → IsAmong links l → 0 < new l.to → (0 < new l.from) × (new l.from < new l.to)
    placed l among ranked = elim (cases_eq v l.to) [
      | inl e ↦
          let from : 0 < get_or ranks l.from 0 = none l among (sym e) in (
            omega (arith, from, same l.from from),
            omega (arith, same l.from from, (are.ordered l.from (are.all l.from from)).1, subst (λ n. new n ≡ length order + 1) e here),
          )
      | inr differ ↦
          let to : 0 < get_or ranks l.to 0 = omega (arith, ranked, set_other ranks v l.to (length order + 1) differ) in
          let it = is.placed l among to in
          (omega (arith, it.0, same l.from it.0), omega (arith, it.1, same l.from it.0, same l.to to))
    ]

-- one link more is chained
pub chain_one : (links : List Link) (i : ℕ) (heads before : List ℕ) (l : Link) → AreChained links i heads before
    → slice_get links i ≡ Some l
    → l.to < length heads → AreChained links (i + 1) (slice_set heads l.to (i + 1)) (before ++ get_or heads l.to 0 ∷ [])
chain_one links i heads before l is at within = record {
  long = grind (arith, common_steps, is.long);
  later = later;
  earlier = earlier;
  last = last;
  left = left;
}
  where
    head : ℕ
    head = get_or heads l.to 0

    old_before : (e : ℕ) → e < i → get_or (before ++ head ∷ []) e 0 ≡ get_or before e 0
    old_before e less = grind (arith, common_steps, is.long, less)

    new_before : get_or (before ++ head ∷ []) i 0 ≡ head
    new_before = grind (arith, common_steps, is.long)

    later : (d e : ℕ) (k m : Link) → d < e → e < i + 1 → slice_get links d ≡ Some k → slice_get links e ≡ Some m → k.to ≡ m.to
        → d < get_or (before ++ head ∷ []) e 0
    later d e k m less up_to one other same = elim (cases_eq e i) [
      | inl here ↦
          let is_l : l ≡ m = same_link links i l m at (subst (λ n. slice_get links n ≡ Some m) here other) in
          let old : d < get_or heads k.to 0 = is.left d k (omega (arith, less, here)) one in
          let to : k.to ≡ l.to = same ∙ sym (ap (λ (x : Link). x.to) is_l) in
          let old_head : d < head = subst (λ n. d < get_or heads n 0) to old in
          subst (λ n. d < get_or (before ++ head ∷ []) n 0) (sym here) (omega (arith, old_head, new_before))
      | inr differ ↦
          let before_i : e < i = omega (arith, up_to, differ) in
          omega (arith, is.later d e k m less before_i one other same, old_before e before_i)
    ]

    earlier : (e : ℕ) (m : Link) → e < i + 1 → slice_get links e ≡ Some m
        → IsLinkTo links (get_or (before ++ head ∷ []) e 0) m.to × (get_or (before ++ head ∷ []) e 0 ≤ e)
    earlier e m up_to there = elim (cases_eq e i) [
      | inl here ↦
          let is_l : l ≡ m = same_link links i l m at (subst (λ n. slice_get links n ≡ Some m) here there) in
          let old = is.last l.to in
          let now : get_or (before ++ head ∷ []) e 0 ≡ head =
          subst (λ n. get_or (before ++ head ∷ []) n 0 ≡ head) (sym here) new_before in (
            subst (λ p. IsLinkTo links p m.to) (sym now) (subst (λ (x : Link). IsLinkTo links head x.to) is_l old.0),
            omega
                (arith, now, old.1, here),
          )
      | inr differ ↦
          let before_i : e < i = omega (arith, up_to, differ) in
          let old = is.earlier e m before_i there in
          (subst (λ p. IsLinkTo links p m.to) (sym (old_before e before_i)) old.0, omega (arith, old.1, old_before e before_i))
    ]

    last : (v : ℕ) → IsLinkTo links (get_or (slice_set heads l.to (i + 1)) v 0) v × (get_or (slice_set heads l.to (i + 1)) v 0 ≤ i + 1)
    last v = elim (cases_eq l.to v) [
      | inl e ↦
          let now : get_or (slice_set heads l.to (i + 1)) v 0 ≡ i + 1 =
          subst (λ n. get_or (slice_set heads l.to (i + 1)) n 0 ≡ i + 1) e (set_here heads l.to (i + 1) within) in
          (subst (λ p. IsLinkTo links p v) (sym now) (λ some. (l, grind (arith, common_steps, at), e)), omega (arith, now))
      | inr differ ↦
          let now = set_other heads l.to v (i + 1) differ in
          (subst (λ p. IsLinkTo links p v) (sym now) (is.last v).0, omega (arith, now, (is.last v).1))
    ]

    left : (d : ℕ) (k : Link) → d < i + 1 → slice_get links d ≡ Some k → d < get_or (slice_set heads l.to (i + 1)) k.to 0
    left d k less there = elim (cases_eq l.to k.to) [
      | inl e ↦ omega (arith, less, subst (λ n. get_or (slice_set heads l.to (i + 1)) n 0 ≡ i + 1) e (set_here heads l.to (i + 1) within))
      | inr differ ↦ elim (cases_eq d i) [
        | inl here ↦ absurd (differ (ap (λ (x : Link). x.to)
            (same_link links i l k at (subst (λ n. slice_get links n ≡ Some k) here there))))
        | inr not_here ↦ omega (arith, is.left d k (omega (arith, less, not_here)) there, set_other heads l.to k.to (i + 1) differ)
      ]
    ]

pub none_sorted : (links : List Link) (heads before ranks : List ℕ) → AreChained links (length links) heads before
    → AreWithin links (length ranks)
    → length heads ≡ length ranks → ((i : ℕ) → get_or ranks i 0 ≡ 0) → IsSorted links heads before ranks
none_sorted links heads before ranks is within nodes none = record {
  long = is.long;
  nodes = nodes;
  within = within;
  later = λ d e k l less one other same. is.later d e k l less (inside e l other) one other same;
  earlier = λ e l at. is.earlier e l (inside e l at) at;
  last = λ v. (is.last v).0;
  left = λ e l at. inl (is.left e l (inside e l at) at);
  placed = λ l among ranked. absurd (omega (arith, ranked, none l.to));
}
  where
    inside : (e : ℕ) (l : Link) → slice_get links e ≡ Some l → e < length links
    inside e l at = slice_get_within links e l at

-- paths back
pub back_one : (a : ℕ) (ls : List Link) (l : Link) → LeadBack a ls l.to → LeadBack a (ls ++ l ∷ []) l.from
back_one a [] l lead = (sym lead, refl)
back_one a (x ∷ ls) l lead = (lead.0, back_one x.from ls l lead.1)

pub back_less : (a : ℕ) (ls : List Link) (l : Link) (b : ℕ) → LeadBack a (ls ++ l ∷ []) b → LeadBack a ls l.to × (l.from ≡ b)
back_less a [] l b lead = (sym lead.0, lead.1)
back_less a (x ∷ ls) l b lead = let it = back_less x.from ls l b lead.1 in ((lead.0, it.0), it.1)

pub pass_more : (a : ℕ) (ls : List Link) (l : Link) (x : ℕ) → Pass a ls x → Pass a (ls ++ l ∷ []) x
pass_more a [] l x pass = inl pass
pass_more a (y ∷ ls) l x (inl e) = inl e
pass_more a (y ∷ ls) l x (inr later) = inr (pass_more y.from ls l x later)

pub pass_last : (a : ℕ) (ls : List Link) (l : Link) → Pass a (ls ++ l ∷ []) l.from
pass_last a [] l = inr refl
pass_last a (y ∷ ls) l = inr (pass_last y.from ls l)

pub pass_less : (a : ℕ) (ls : List Link) (l : Link) (x : ℕ) → Pass a (ls ++ l ∷ []) x → Pass a ls x ⊎ (l.from ≡ x)
pass_less a [] l x (inl e) = inl e
pass_less a [] l x (inr e) = inr e
pass_less a (y ∷ ls) l x (inl e) = inl (inl e)
pass_less a (y ∷ ls) l x (inr later) = elim (pass_less y.from ls l x later) [
  | inl w ↦ inl (inr w)
  | inr w ↦ inr w
]

pub lead_one : (a : ℕ) (ls : List Link) (l : Link) → LeadTo a ls l.from → LeadTo a (ls ++ l ∷ []) l.to
lead_one a [] l lead = (sym lead, refl)
lead_one a (x ∷ ls) l lead = (lead.0, lead_one x.to ls l lead.1)

-- nodes that are met
pub met_here : (bs : List Bool) (i : ℕ) → i < length bs → get_or (slice_set bs i true) i false ≡ true
met_here bs i within = grind (arith, common_steps, within)

pub met_other : (bs : List Bool) (i j : ℕ) → i ≢ j → get_or (slice_set bs i true) j false ≡ get_or bs j false
met_other bs i j differ = grind (arith, common_steps, differ)

pub met_still : (bs : List Bool) (i j : ℕ) → i < length bs → get_or bs j false ≡ true → get_or (slice_set bs i true) j false ≡ true
met_still bs i j within met = elim (cases_eq i j) [
  | inl e ↦ subst (λ n. get_or (slice_set bs i true) n false ≡ true) e (met_here bs i within)
  | inr differ ↦ met_other bs i j differ ∙ met
]

pub unmet_less : (bs : List Bool) (i : ℕ) → i < length bs → get_or bs i false ≡ false → unmet (slice_set bs i true) + 1 ≡ unmet bs
unmet_less [] i within is = absurd (omega arith)
unmet_less (true ∷ bs) zero within is = absurd (grind (arith, is))
unmet_less (false ∷ bs) zero within is = omega arith
unmet_less (true ∷ bs) (suc i) within is = unmet_less bs i (omega arith) is
unmet_less (false ∷ bs) (suc i) within is = omega (arith, unmet_less bs i (omega arith) is)

-- one link more is on the path
pub push_one : (links : List Link) (root : ℕ) (met : List Bool) (ranks : List ℕ) (path : List Link) (at : ℕ) (l : Link)
    → IsReached links root met ranks path at → AreWithin links (length ranks) → IsAmong links l → l.to ≡ at
    → IsReached links root (slice_set met l.from true) ranks (path ++ l ∷ []) l.from
push_one links root met ranks path at l is inside among to = record {
  within = (inside l among).0;
  marks = length-set met l.from true ∙ is.marks;
  back = back_one root path l (subst (λ n. LeadBack root path n) (sym to) is.back);
  among = λ k has. elim (among_append path (l ∷ []) k has) [
    | inl w ↦ is.among k w
    | inr w ↦ last k w
  ];
  reached = reached;
  root_met = met_still met l.from root within is.root_met;
}
  where
    within : l.from < length met
    within = omega (arith, (inside l among).0, is.marks)

    last : (k : Link) → IsAmong (l ∷ []) k → IsAmong links k
    last k (inl e) = subst (λ x. IsAmong links x) e among
    last k (inr none) = absurd none

    reached : (v : ℕ) → get_or (slice_set met l.from true) v false ≡ true → (0 < get_or ranks v 0) ⊎ Pass root (path ++ l ∷ []) v
    reached v marked = elim (cases_eq l.from v) [
      | inl e ↦ inr (subst (λ n. Pass root (path ++ l ∷ []) n) e (pass_last root path l))
      | inr differ ↦ elim (is.reached v (sym (met_other met l.from v differ) ∙ marked)) [
        | inl w ↦ inl w
        | inr w ↦ inr (pass_more root path l v w)
      ]
    ]

-- the node at the end of the path has a rank, and its link is removed from the path
pub pop_one : (links : List Link) (root : ℕ) (met : List Bool) (ranks new : List ℕ) (path : List Link) (at : ℕ) (l : Link)
    → IsReached links root met ranks (path ++ l ∷ []) at → AreWithin links (length ranks) → length new ≡ length ranks
    → ((v : ℕ) → 0 < get_or ranks v 0 → 0 < get_or new v 0) → 0 < get_or new at 0 → IsReached links root met new path l.to
pop_one links root met ranks new path at l is inside same still placed = record {
  within = omega (arith, (inside l (is.among l (among_right path (l ∷ []) l (inl refl)))).1, same);
  marks = is.marks ∙ sym same;
  back = both.0;
  among = λ k has. is.among k (among_left path (l ∷ []) k has);
  reached = reached;
  root_met = is.root_met;
}
  where
    both : LeadBack root path l.to × (l.from ≡ at)
    both = back_less root path l at is.back

    reached : (v : ℕ) → get_or met v false ≡ true → (0 < get_or new v 0) ⊎ Pass root path v
    reached v marked = elim (is.reached v marked) [
      | inl w ↦ inl (still v w)
      | inr w ↦ elim (pass_less root path l v w) [
        | inl u ↦ inr u
        | inr u ↦ inl (subst (λ n. 0 < get_or new n 0) (sym both.1 ∙ u) placed)
      ]
    ]

-- the link closes a part of the path to a cycle
pub round_one : (path new : List Link) (root at : ℕ) (w : ℕ) (l : Link) → path ≡ new ++ l ∷ [] → LeadBack root path at → Pass root path w
    → at ≢ w → LeadBack root new l.to × (Pass root new w × (l.from ≡ at))
round_one path new root at w l same back pass differ =
    let both = back_less root new l at (subst (λ p. LeadBack root p at) same back) in
    (both.0, (passes (pass_less root new l w (subst (λ p. Pass root p w) same pass)) both.1, both.1))
  where
    passes : Pass root new w ⊎ (l.from ≡ w) → l.from ≡ at → Pass root new w
    passes (inl p) from = p
    passes (inr e) from = absurd (differ (sym from ∙ e))

pub round_on : (cycle : List Link) (l : Link) (a : ℕ) (at : ℕ) → LeadTo a cycle at → l.from ≡ at → LeadTo a (cycle ++ l ∷ []) l.to
round_on cycle l a at leads from = lead_one a cycle l (subst (λ n. LeadTo a cycle n) (sym from) leads)

pub among_one : (cycle path new : List Link) (l k : Link) → path ≡ new ++ l ∷ [] → IsAmong (cycle ++ l ∷ []) k ⊎ IsAmong new k
    → IsAmong cycle k ⊎ IsAmong path k
among_one cycle path new l k same (inl w) = elim (among_append cycle (l ∷ []) k w) [
  | inl u ↦ inl u
  | inr u ↦ inr (subst (λ p. IsAmong p k) (sym same) (among_right new (l ∷ []) k u))
]
among_one cycle path new l k same (inr w) = inr (subst (λ p. IsAmong p k) (sym same) (among_left new (l ∷ []) k w))

pub never_empty : (xs : List Link) (l : Link) → ¬ (xs ++ l ∷ [] ≡ [])
never_empty [] l e = cc
never_empty (x ∷ xs) l e = cc

pub new_still : (ranks order : List ℕ) (v w : ℕ) → get_or ranks v 0 ≡ 0 → 0 < get_or ranks w 0
    → 0 < get_or (slice_set ranks v (length order + 1)) w 0
new_still ranks order v w unranked ranked = omega (arith, ranked, new_other ranks order v w unranked ranked)

pub none_ordered : (ranks order : List ℕ) → order ≡ [] → ((v : ℕ) → get_or ranks v 0 ≡ 0) → AreOrdered ranks order
none_ordered ranks [] empty none = record {
  rises = tt;
  ordered = λ v has. absurd has;
  all = λ v ranked. absurd (omega (arith, ranked, none v));
}
none_ordered ranks (v ∷ order) empty none = absurd (grind (arith, common_steps, empty))

-- if all nodes have ranks, the ranks rise along all links
pub all_rise : (links : List Link) (heads before ranks : List ℕ) → IsSorted links heads before ranks
    → ((v : ℕ) → v < length ranks → 0 < get_or ranks v 0) → RiseAlong links (λ v. get_or ranks v 0)
all_rise links heads before ranks is all = λ l among. (is.placed l among (all l.to (is.within l among).1)).1
