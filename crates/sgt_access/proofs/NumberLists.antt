-- Lists one after another: what a change of one of them changes, and which of them has a transaction.
use Rattle.std.proofs.Common.{◌≡◌, ◌≢◌, ℕ, suc, zero, ◌+◌, ◌%◌, ◌<◌, ◌≤◌, Bool, true, false, ◌||◌, ◌&&◌, not, nat_eq, nat_lt, count_by, List, [], ◌∷◌, ◌++◌, length, take, get_or, set, replicate, arith, refl, sym, ap, subst, ◌∙◌, inl, inr}
use Rattle.std.specs.Global.{Vec}
use Rattle.std.specs.List.{list_any}
use Rattle.std.proofs.lemmas.Bool.{eqb-true, eq-eqb, or_from, or_left, or_right, or_cases, and_parts, not_from_false, false_from_ne_true, both_ways}
use Rattle.std.proofs.lemmas.List.Folds.{list_any-append}
use Rattle.std.proofs.lemmas.List.{append-nil, append_assoc, length-set, get_or-set_same, map_push, take_more, replicate_more}
use Rattle.sgt_model.specs.declared.kind.Kind.{Kind}
use Rattle.sgt_model.specs.Contents.{Key}
use Rattle.sgt_model.specs.AccessList.{ListedAccess, is_listed}
use Rattle.sgt_access.specs.declared.masks.Masks.{Masks}
use Rattle.sgt_access.specs.Masks.{StandsFor, IsLeaving}
use Rattle.sgt_access.specs.NumberLists.{contents, joined, is_astray, AreByNumber, FitIn}
use Rattle.sgt_access.proofs.Counts.{bit, any_counted, any_same, count_beside, count_kept, count_noted, none_within, stands_back, stands_beside, zero_and}
use Rattle.sgt_access.proofs.Marks.{any_implied}
use Rattle.sgt_access.proofs.Reordered.{leaving_same}
use Rattle.sgt_access.proofs.Rivals.{AddRivals, conflict_listed}

-- all lists but one
abbrev pub others_of : ℕ → List (List ListedAccess) → List ListedAccess
others_of at [] = []
others_of zero (l ∷ ls) = joined ls
others_of (suc at) (l ∷ ls) = l ++ others_of at ls

-- the list at an index, and the others
pub count_split : (p : ListedAccess → Bool) (ls : List (List ListedAccess)) (at : ℕ) (d : List ListedAccess) → at < length ls
    → count_by p (joined ls) ≡ count_by p (get_or ls at d) + count_by p (others_of at ls)
count_split p [] at d short = absurd (omega (arith, short))
count_split p (l ∷ ls) zero d short = count_beside p l (joined ls)
count_split p (l ∷ ls) (suc at) d short =
    let rest : count_by p (joined ls) ≡ count_by p (get_or ls at d) + count_by p (others_of at ls) =
    count_split p ls at d (omega (arith, short)) in
    let whole : count_by p (l ++ joined ls) ≡ count_by p l + count_by p (joined ls) = count_beside p l (joined ls) in
    let left : count_by p (l ++ others_of at ls) ≡ count_by p l + count_by p (others_of at ls) = count_beside p l (others_of at ls) in
    omega (arith, rest, whole, left)

pub others_set : (ls : List (List ListedAccess)) (at : ℕ) (l : List ListedAccess) → others_of at (set ls at l) ≡ others_of at ls
others_set [] at l = refl
others_set (x ∷ ls) zero l = refl
others_set (x ∷ ls) (suc at) l = ap (λ r. x ++ r) (others_set ls at l)

-- no lists have an access
pub joined_empty : (n : ℕ) → joined (replicate n []) ≡ []
joined_empty zero = refl
joined_empty (suc n) = joined_empty n

pub empty_by_number : (n from : ℕ) → AreByNumber from (replicate n [])
empty_by_number zero from = tt
empty_by_number (suc n) from = (refl, empty_by_number n (from + 1))

-- the list at an index has the accesses of its transactions
pub by_number_at : (from : ℕ) (ls : List (List ListedAccess)) (at : ℕ) (d : List ListedAccess) → at < length ls → AreByNumber from ls
    → list_any (is_astray (from + at)) (get_or ls at d) ≡ false
by_number_at from [] at d short all = absurd (omega (arith, short))
by_number_at from (l ∷ ls) zero d short all =
    let same : from ≡ from + 0 = omega arith in
    subst (λ n. list_any (is_astray n) l ≡ false) same all.0
by_number_at from (l ∷ ls) (suc at) d short all =
    let same : (from + 1) + at ≡ from + suc at = omega arith in
    subst (λ n. list_any (is_astray n) (get_or ls at d) ≡ false) same (by_number_at (from + 1) ls at d (omega (arith, short)) all.1)

pub by_number_set : (from : ℕ) (ls : List (List ListedAccess)) (at : ℕ) (l : List ListedAccess) → AreByNumber from ls
    → list_any (is_astray (from + at)) l ≡ false → AreByNumber from (set ls at l)
by_number_set from [] at l all own = tt
by_number_set from (x ∷ ls) zero l all own =
    let same : from + 0 ≡ from = omega arith in
    (subst (λ n. list_any (is_astray n) l ≡ false) same own, all.1)
by_number_set from (x ∷ ls) (suc at) l all own =
    let same : from + suc at ≡ (from + 1) + at = omega arith in
    (all.0, by_number_set (from + 1) ls at l all.1 (subst (λ n. list_any (is_astray n) l ≡ false) same own))

-- one list is changed
pub contents_kept : (lists : List (Vec ListedAccess)) (i : ℕ) (old new : Vec ListedAccess) → i < length lists → old ≡ get_or lists i old
    → new.items ≡ old.items → contents (set lists i new) ≡ contents lists
contents_kept [] i old new short is same = absurd (omega (arith, short))
contents_kept (x ∷ lists) zero old new short is same = ap (λ l. l ∷ contents lists) (same ∙ ap (λ (v : Vec ListedAccess). v.items) is)
contents_kept (x ∷ lists) (suc i) old new short is same = ap (λ ls. x.items ∷ ls) (contents_kept lists i old new (omega (arith, short)) is same)

pub contents_set : (lists : List (Vec ListedAccess)) (i : ℕ) (new : Vec ListedAccess) → contents (set lists i new) ≡ set (contents lists) i new.items
contents_set [] i new = refl
contents_set (x ∷ lists) zero new = refl
contents_set (x ∷ lists) (suc i) new = ap (λ ls. x.items ∷ ls) (contents_set lists i new)

pub contents_read : (lists : List (Vec ListedAccess)) (i : ℕ) (old : Vec ListedAccess) → i < length lists → old ≡ get_or lists i old
    → get_or (contents lists) i [] ≡ old.items
contents_read [] i old short is = absurd (omega (arith, short))
contents_read (x ∷ lists) zero old short is = ap (λ (v : Vec ListedAccess). v.items) (sym is)
contents_read (x ∷ lists) (suc i) old short is = contents_read lists i old (omega (arith, short)) is

pub contents_long : (lists : List (Vec ListedAccess)) → length (contents lists) ≡ length lists
contents_long [] = refl
contents_long (x ∷ lists) = ap suc (contents_long lists)

-- one list more, which is empty
pub contents_made : (lists : List (Vec ListedAccess)) (v : Vec ListedAccess) (n : ℕ) → contents lists ≡ replicate n [] → v.items ≡ []
    → contents (lists ++ v ∷ []) ≡ replicate (n + 1) []
contents_made lists v n same none =
    map_push (λ (l : Vec ListedAccess). l.items) lists v ∙ ap (λ ls. ls ++ v.items ∷ []) same
    ∙ ap (λ l. replicate n [] ++ l ∷ []) none ∙ replicate_more n []

-- the lists up to an index, and the one there
joined_push : (ls : List (List ListedAccess)) (l : List ListedAccess) → joined (ls ++ l ∷ []) ≡ joined ls ++ l
joined_push [] l = append-nil l
joined_push (x ∷ ls) l = ap (λ r. x ++ r) (joined_push ls l) ∙ sym (append_assoc x (joined ls) l)

pub joined_more : (lists : List (Vec ListedAccess)) (i : ℕ) (v : Vec ListedAccess) → i < length lists → v ≡ get_or lists i v
    → joined (contents (take (i + 1) lists)) ≡ joined (contents (take i lists)) ++ v.items
joined_more lists i v short is =
    ap (λ ls. joined (contents ls)) (take_more lists i v short)
    ∙ ap joined (map_push (λ (l : Vec ListedAccess). l.items) (take i lists) (get_or lists i v))
    ∙ joined_push (contents (take i lists)) (get_or lists i v).items
    ∙ ap (λ (w : Vec ListedAccess). joined (contents (take i lists)) ++ w.items) (sym is)

pub joined_there : (q : ListedAccess → Bool) (lists : List (Vec ListedAccess)) (i : ℕ) (v : Vec ListedAccess) → i < length lists
    → v ≡ get_or lists i v → list_any q v.items ≡ true → list_any q (joined (contents lists)) ≡ true
joined_there q [] i v short is h = absurd (omega (arith, short))
joined_there q (x ∷ lists) zero v short is h =
    list_any-append q x.items (joined (contents lists)) ∙ or_left _ _ (ap (λ (w : Vec ListedAccess). list_any q w.items) (sym is) ∙ h)
joined_there q (x ∷ lists) (suc i) v short is h =
    list_any-append q x.items (joined (contents lists)) ∙ or_right _ _ (joined_there q lists i v (omega (arith, short)) is h)

pub joined_first : (q : ListedAccess → Bool) (lists : List (Vec ListedAccess)) (i : ℕ) → list_any q (joined (contents (take i lists))) ≡ true
    → list_any q (joined (contents lists)) ≡ true
joined_first q [] zero h = absurd (cc)
joined_first q [] (suc i) h = absurd (cc)
joined_first q (x ∷ lists) zero h = absurd (cc)
joined_first q (x ∷ lists) (suc i) h =
    let here = list_any q x.items in
    let whole = list_any q (joined (contents lists)) in
    let first = list_any q (joined (contents (take i lists))) in
    let either : (here || first) ≡ true = sym (list_any-append q x.items (joined (contents (take i lists)))) ∙ h in
    list_any-append q x.items (joined (contents lists)) ∙ elim (or_cases here first either) [
      | inl now ↦ or_left here whole now
      | inr later ↦ or_right here whole (joined_first q lists i later)
    ]

-- the rivals in the lists up to an index fit with those in the one there
pub fit_there : (t : ℕ) (k : Key) (kind : Kind) (lists : List (Vec ListedAccess)) (i : ℕ) (v : Vec ListedAccess) (first second : List ℕ)
    → i < length lists → v ≡ get_or lists i v → FitIn first (joined (contents lists))
    → AddRivals t k kind (joined (contents (take i lists))) first second → FitIn second v.items
fit_there t k kind lists i v first second short is fit added = (
  fit.0,
  fit.1,
  λ u m. elim ((added u).0 m) [
    | inl f ↦ fit.2 u f
    | inr r ↦ fit.3 u (joined_first (λ (a : ListedAccess). nat_eq a.by u) lists i (conflict_listed _ u k kind r.1))
  ],
  λ u h. fit.3 u (joined_there (λ (a : ListedAccess). nat_eq a.by u) lists i v short is h),
)

-- the same, from the first list on
by_number_here : (ls : List (List ListedAccess)) (at : ℕ) → at < length ls → AreByNumber 0 ls → list_any (is_astray at) (get_or ls at []) ≡ false
by_number_here ls at short all =
    subst (λ n. list_any (is_astray n) (get_or ls at []) ≡ false) (sym (zero_and at)) (by_number_at 0 ls at [] short all)

by_number_changed : (ls : List (List ListedAccess)) (at : ℕ) (l : List ListedAccess) → AreByNumber 0 ls → list_any (is_astray at) l ≡ false
    → AreByNumber 0 (set ls at l)
by_number_changed ls at l all own = by_number_set 0 ls at l all (subst (λ n. list_any (is_astray n) l ≡ false) (zero_and at) own)

-- a transaction is in no list of another index
list_without : (n : ℕ) (l : List ListedAccess) (t : ℕ) → list_any (is_astray n) l ≡ false → t % 32 ≢ n
    → list_any (λ (a : ListedAccess). nat_eq a.by t) l ≡ false
list_without n l t none ne = false_from_ne_true (list_any (λ (a : ListedAccess). nat_eq a.by t) l)
    (λ h. both_ways (list_any (is_astray n) l) none
    (any_implied (λ (a : ListedAccess). nat_eq a.by t) (is_astray n) (λ a x. not_from_false (nat_eq (a.by % 32) n)
    (false_from_ne_true (nat_eq (a.by % 32) n) (λ e. ne (sym (ap (λ u. u % 32) (eqb-true a.by t x)) ∙ eqb-true (a.by % 32) n e)))) l h))

pub joined_without : (from : ℕ) (ls : List (List ListedAccess)) (t : ℕ) → AreByNumber from ls → t % 32 < from
    → list_any (λ (a : ListedAccess). nat_eq a.by t) (joined ls) ≡ false
joined_without from [] t all low = refl
joined_without from (l ∷ ls) t all low =
    list_any-append (λ (a : ListedAccess). nat_eq a.by t) l (joined ls)
    ∙ or_from (list_any (λ (a : ListedAccess). nat_eq a.by t) l) (list_any (λ (a : ListedAccess). nat_eq a.by t) (joined ls))
    (list_without from l t all.0 (λ e. absurd (omega (arith, low, e))))
    (joined_without (from + 1) ls t all.1 (omega (arith, low)))

pub others_without : (from : ℕ) (ls : List (List ListedAccess)) (at t : ℕ) → AreByNumber from ls → t % 32 ≡ from + at
    → list_any (λ (a : ListedAccess). nat_eq a.by t) (others_of at ls) ≡ false
others_without from [] at t all is = refl
others_without from (l ∷ ls) zero t all is = joined_without (from + 1) ls t all.1 (omega (arith, is))
others_without from (l ∷ ls) (suc at) t all is =
    list_any-append (λ (a : ListedAccess). nat_eq a.by t) l (others_of at ls)
    ∙ or_from (list_any (λ (a : ListedAccess). nat_eq a.by t) l) (list_any (λ (a : ListedAccess). nat_eq a.by t) (others_of at ls))
    (list_without from l t all.0 (λ e. absurd (omega (arith, is, e))))
    (others_without (from + 1) ls at t all.1 (omega (arith, is)))

pub joined_short : (from : ℕ) (ls : List (List ListedAccess)) (t : ℕ) → AreByNumber from ls → from + length ls ≤ t % 32
    → list_any (λ (a : ListedAccess). nat_eq a.by t) (joined ls) ≡ false
joined_short from [] t all high = refl
joined_short from (l ∷ ls) t all high =
    list_any-append (λ (a : ListedAccess). nat_eq a.by t) l (joined ls)
    ∙ or_from (list_any (λ (a : ListedAccess). nat_eq a.by t) l) (list_any (λ (a : ListedAccess). nat_eq a.by t) (joined ls))
    (list_without from l t all.0 (λ e. absurd (omega (arith, high, e))))
    (joined_short (from + 1) ls t all.1 (omega (arith, high)))

-- the list at an index, before the others
stands_split : (ls : List (List ListedAccess)) (at : ℕ) → at < length ls → StandsFor (joined ls) (get_or ls at [] ++ others_of at ls)
stands_split ls at short p = count_beside p (get_or ls at []) (others_of at ls) ∙ sym (count_split p ls at [] short)

stands_set : (ls : List (List ListedAccess)) (at : ℕ) (l : List ListedAccess) → at < length ls
    → StandsFor (joined (set ls at l)) (l ++ others_of at ls)
stands_set ls at l short = subst (λ o. StandsFor (joined (set ls at l)) (l ++ o)) (others_set ls at l)
    (subst (λ x. StandsFor (joined (set ls at l)) (x ++ others_of at (set ls at l))) (get_or-set_same ls at l [] short)
    (stands_split (set ls at l) at (subst (λ n. at < n) (sym (length-set ls at l)) short)))

-- an access more in one of them
pub stands_pushed : (ls : List (List ListedAccess)) (at : ℕ) (a : ListedAccess) → at < length ls
    → StandsFor (joined ls ++ a ∷ []) (joined (set ls at (get_or ls at [] ++ a ∷ [])))
stands_pushed ls at a short p =
    let l = get_or ls at [] in
    let others = others_of at ls in
    let set_now : count_by p ((l ++ a ∷ []) ++ others) ≡ count_by p (joined (set ls at (l ++ a ∷ []))) = stands_set ls at (l ++ a ∷ []) short p in
    let apart : count_by p ((l ++ a ∷ []) ++ others) ≡ count_by p (l ++ a ∷ []) + count_by p others = count_beside p (l ++ a ∷ []) others in
    let noted : count_by p (l ++ a ∷ []) ≡ count_by p l + bit (p a) = count_noted p l a in
    let whole : count_by p (joined ls) ≡ count_by p l + count_by p others = count_split p ls at [] short in
    let also : count_by p (joined ls ++ a ∷ []) ≡ count_by p (joined ls) + bit (p a) = count_noted p (joined ls) a in
    omega (arith, set_now, apart, noted, whole, also)

pub by_number_pushed : (ls : List (List ListedAccess)) (at : ℕ) (a : ListedAccess) → at < length ls → at ≡ a.by % 32 → AreByNumber 0 ls
    → AreByNumber 0 (set ls at (get_or ls at [] ++ a ∷ []))
by_number_pushed ls at a short is all = by_number_changed ls at (get_or ls at [] ++ a ∷ []) all
    (list_any-append (is_astray at) (get_or ls at []) (a ∷ [])
    ∙ or_from (list_any (is_astray at) (get_or ls at [])) (list_any (is_astray at) (a ∷ []))
    (by_number_here ls at short all)
    (or_from (is_astray at a) false (ap not (eq-eqb (a.by % 32) at (sym is))) refl))

-- the accesses of a transaction are removed from its list
module _ (ls : List (List ListedAccess)) (at t : ℕ) (new : List ListedAccess) (short : at < length ls) (all : AreByNumber 0 ls)
    (is : at ≡ t % 32)
    (same : (p : ListedAccess → Bool) → count_by (λ a. p a && not (nat_eq a.by t)) new
    ≡ count_by (λ a. p a && not (nat_eq a.by t)) (get_or ls at []))
    (none : is_listed new t ≡ false) where
  pub taken_others : (p : ListedAccess → Bool) → count_by (λ a. p a && not (nat_eq a.by t)) (joined (set ls at new))
      ≡ count_by (λ a. p a && not (nat_eq a.by t)) (joined ls)
  taken_others p =
      let q : ListedAccess → Bool = (λ a. p a && not (nat_eq a.by t)) in
      let now : count_by q (new ++ others_of at ls) ≡ count_by q (joined (set ls at new)) = stands_set ls at new short q in
      let apart : count_by q (new ++ others_of at ls) ≡ count_by q new + count_by q (others_of at ls) = count_beside q new (others_of at ls) in
      let was : count_by q (joined ls) ≡ count_by q (get_or ls at []) + count_by q (others_of at ls) = count_split q ls at [] short in
      let one : count_by q new ≡ count_by q (get_or ls at []) = same p in
      omega (arith, now, apart, was, one)

  pub taken_none : is_listed (joined (set ls at new)) t ≡ false
  taken_none =
      sym (any_same (joined (set ls at new)) (new ++ others_of at ls) (stands_set ls at new short) (λ (a : ListedAccess). nat_eq a.by t))
      ∙ list_any-append (λ (a : ListedAccess). nat_eq a.by t) new (others_of at ls)
      ∙ or_from (is_listed new t) (list_any (λ (a : ListedAccess). nat_eq a.by t) (others_of at ls)) none (others_without 0 ls at t all (sym is ∙ zero_and at))

  pub taken_by_number : AreByNumber 0 (set ls at new)
  taken_by_number = by_number_changed ls at new all
      (any_counted (is_astray at) new
      ∙ ap (nat_lt 0) (sym (count_kept (is_astray at) (λ (a : ListedAccess). nat_eq a.by t) new (none_within t new none)) ∙ same (is_astray at))
      ∙ sym (any_counted (λ a. is_astray at a && not (nat_eq a.by t)) (get_or ls at []))
      ∙ false_from_ne_true _ (λ h. both_ways (list_any (is_astray at) (get_or ls at [])) (by_number_here ls at short all)
      (any_implied (λ a. is_astray at a && not (nat_eq a.by t)) (is_astray at)
      (λ a x. (and_parts (is_astray at a) (not (nat_eq a.by t)) x).0) (get_or ls at []) h)))

  pub taken_leaving : (m m' : Masks) (places : ℕ) → ((rest : List ListedAccess) → IsLeaving m t places (get_or ls at [] ++ rest)
      → IsLeaving m' t places (new ++ rest)) → (rest : List ListedAccess) → IsLeaving m t places (joined ls ++ rest)
      → IsLeaving m' t places (joined (set ls at new) ++ rest)
  taken_leaving m m' places step rest leaving =
      let others = others_of at ls in
      let old = get_or ls at [] in
      leaving_same m' t places (new ++ (others ++ rest)) (joined (set ls at new) ++ rest)
      (subst (λ xs. StandsFor xs (joined (set ls at new) ++ rest)) (append_assoc new others rest)
      (stands_beside (new ++ others) (joined (set ls at new)) rest (stands_back (joined (set ls at new)) (new ++ others) (stands_set ls at new short))))
      (step (others ++ rest) (leaving_same m t places (joined ls ++ rest) (old ++ (others ++ rest))
      (subst (StandsFor (joined ls ++ rest)) (append_assoc old others rest)
      (stands_beside (joined ls) (old ++ others) rest (stands_split ls at short))) leaving))
