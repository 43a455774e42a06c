-- The list of live transactions: the index of one in it, and what changes there.
use Rattle.std.proofs.Common.{◌≡◌, ℕ, zero, suc, ◌<◌, ◌≤◌, ◌+◌, ◌-◌, arith, Bool, true, false, not, cond, nat_eq, nat_lt, ◌⊎◌, inl, inr, List, [], ◌∷◌, ◌++◌, take, drop, length, Some, None, refl, sym, ap, ◌∙◌, subst, slice_get, slice_set, get_or, position}
use Rattle.std.specs.List.{position_or_len}
use Rattle.std.proofs.lemmas.Bool.{false_from_ne_true, ltb-true, ltb-false, eqb-true, eqb-false}
use Rattle.std.proofs.lemmas.List.{take-append-le}
use Rattle.std.proofs.lemmas.Option.{same_Some, slice_get_read}
use Rattle.sgt_sched.specs.LiveProgress.{Progress}
use Rattle.sgt_model.specs.Paths.{Member, Rising}
use Rattle.sgt_model.proofs.OneReply.{rising_below, rising_rest}
use Rattle.sgt_sched.specs.LiveList.{numbers, has_number, progress_at, changed, others_live}

first_true : (b : Bool) (n : ℕ) → cond (not b) (1 + n) 0 ≡ 0 → b ≡ true
first_true true n e = refl
first_true false n e = absurd (omega arith)

later_false : (b : Bool) (n i : ℕ) → cond (not b) (1 + n) 0 ≡ suc i → (b ≡ false) × (n ≡ i)
later_false true n i e = absurd (omega arith)
later_false false n i e = (refl, omega arith)

-- what the first of that number says
pub record IsFirst (t : ℕ) (live : List (ℕ × Progress)) (i : ℕ) (r : ℕ × Progress) : Type 0 where
  pub number : r.0 ≡ t
  pub own_progress : progress_at live t ≡ r.1
  pub change : (f : Progress → Progress) → slice_set live i (r.0, f r.1) ≡ changed t f live

-- the item at the first index of t
pub first_at : (t : ℕ) (live : List (ℕ × Progress)) (i : ℕ) (r : ℕ × Progress) → position_or_len (has_number t) live ≡ i
    → slice_get live i ≡ Some r → IsFirst t live i r
first_at t [] i r e at = absurd (cc)
first_at t (q ∷ rest) zero r e at =
    let b = first_true (nat_eq q.0 t) (position_or_len (has_number t) rest) e in
    let same : q ≡ r = same_Some _ _ at in
    record {
      number = ap (λ (x : ℕ × Progress). x.0) (sym same) ∙ eqb-true q.0 t b;
      own_progress = ap (λ c. cond c q.1 (progress_at rest t)) b ∙ ap (λ (x : ℕ × Progress). x.1) same;
      change = λ f. ap (λ (x : ℕ × Progress). (x.0, f x.1) ∷ rest) (sym same)
          ∙ sym (ap (λ c. cond c ((q.0, f q.1) ∷ rest) (q ∷ changed t f rest)) b);
    }
first_at t (q ∷ rest) (suc i) r e at =
    let b = later_false (nat_eq q.0 t) (position_or_len (has_number t) rest) i e in
    let rec = first_at t rest i r b.1 at in
    record {
      number = rec.number;
      own_progress = ap (λ c. cond c q.1 (progress_at rest t)) b.0 ∙ rec.own_progress;
      change = λ f. ap (λ l. q ∷ l) (rec.change f) ∙ sym (ap (λ c. cond c ((q.0, f q.1) ∷ rest) (q ∷ changed t f rest)) b.0);
    }

-- an index that was found, or not
pub placed : (n len i : ℕ) → cond (nat_lt n len) (Some n) None ≡ Some i → n ≡ i
placed n len i e = both (nat_lt n len) e where
  both : (b : Bool) → cond b (Some n) None ≡ Some i → n ≡ i
  both true e = same_Some _ _ e
  both false e = absurd (cc)

within : (n len i : ℕ) → cond (nat_lt n len) (Some n) None ≡ Some i → i < len
within n len i e = both (nat_lt n len) refl where
  both : (b : Bool) → nat_lt n len ≡ b → i < len
  both true h = subst (λ m. m < len) (placed n len i e) (ltb-true n len h)
  both false h = absurd (let f : None ≡ Some i = sym (ap (λ c. cond c (Some n) None) h) ∙ e in cc)

-- an index that was found is one of the list
pub index_within : (t : ℕ) (rows seen : List (ℕ × Progress)) (i : ℕ) → rows ≡ seen → position (has_number t) seen ≡ Some i
    → i < length rows
index_within t rows seen i same found = subst (λ l. i < length l) (sym same)
    (within (position_or_len (has_number t) seen) (length seen) i found)

-- a transaction with an index is live
pub index_member : (t : ℕ) (live : List (ℕ × Progress)) (i : ℕ) → position (has_number t) live ≡ Some i → Member t (numbers live)
index_member t live i found = below_member t live (subst (λ m. m < length live) (sym (placed _ (length live) i found))
    (within (position_or_len (has_number t) live) (length live) i found)) where
      below_member : (t : ℕ) (live : List (ℕ × Progress)) → position_or_len (has_number t) live < length live → Member t (numbers live)
      below_member t [] h = absurd (omega (arith, h))
      below_member t (q ∷ rest) h = both (nat_eq q.0 t) refl (below_member t rest) h where
        both : (b : Bool) → nat_eq q.0 t ≡ b → (position_or_len (has_number t) rest < length rest → Member t (numbers rest))
            → cond (not (nat_eq q.0 t)) (1 + position_or_len (has_number t) rest) 0 < suc (length rest)
            → (t ≡ q.0) ⊎ Member t (numbers rest)
        both true e rec h = inl (sym (eqb-true q.0 t e))
        both false e rec h = inr (rec (let less : 1 + position_or_len (has_number t) rest < suc (length rest) = subst
            (λ b. cond (not b) (1 + position_or_len (has_number t) rest) 0 < suc (length rest)) e h in omega (arith, less)))

-- the same of a list that was seen as another
pub found_at : (t : ℕ) (rows seen : List (ℕ × Progress)) (i : ℕ) (r : ℕ × Progress) → rows ≡ seen → Some i ≡ position (has_number t) seen
    → r ≡ get_or rows i r → IsFirst t seen i r
found_at t rows seen i r same found read =
    let at : position_or_len (has_number t) seen ≡ i = placed _ (length seen) i (sym found) in
    first_at t seen i r at (slice_get_read seen (length seen) i r refl
    (within (position_or_len (has_number t) seen) (length seen) i (sym found)) (subst (λ l. r ≡ get_or l i r) same read))

-- a live one has an index
pub has_index : (t : ℕ) (live : List (ℕ × Progress)) → Member t (numbers live) → position (has_number t) live ≡ None → ⊥
has_index t live m missing = absurd (omega (arith, before_end t live m, missed _ (length live) missing)) where
  before_end : (t : ℕ) (live : List (ℕ × Progress)) → Member t (numbers live) → position_or_len (has_number t) live < length live
  before_end t [] m = absurd m
  before_end t (q ∷ rest) m = both (nat_eq q.0 t) refl (before_end t rest) m where
    both : (b : Bool) → nat_eq q.0 t ≡ b → (Member t (numbers rest) → position_or_len (has_number t) rest < length rest)
        → (t ≡ q.0) ⊎ Member t (numbers rest) → cond (not (nat_eq q.0 t)) (1 + position_or_len (has_number t) rest) 0 < suc (length rest)
    both true h rec m = subst (λ b. cond (not b) (1 + position_or_len (has_number t) rest) 0 < suc (length rest)) (sym h) (omega arith)
    both false h rec (inl e) = absurd (eqb-false q.0 t h (sym e))
    both false h rec (inr i) = let r = rec i in subst (λ b. cond (not b) (1 + position_or_len (has_number t) rest) 0 < suc (length rest))
        (sym h) (omega (arith, r))

  missed : (n len : ℕ) → cond (nat_lt n len) (Some n) None ≡ None → len ≤ n
  missed n len e = both (nat_lt n len) refl where
    both : (b : Bool) → nat_lt n len ≡ b → len ≤ n
    both true h = absurd (let f : None ≡ Some n = sym e ∙ ap (λ c. cond c (Some n) None) h in cc)
    both false h = ltb-false n len h

-- the change at that index, of a list that was seen as another
pub changed_at : (t : ℕ) (rows seen : List (ℕ × Progress)) (i : ℕ) (r s : ℕ × Progress) (f : Progress → Progress) → rows ≡ seen
    → s ≡ (r.0, f r.1) → IsFirst t seen i r → slice_set rows i s ≡ changed t f seen
changed_at t rows seen i r s f same is first = ap (λ l. slice_set l i s) same ∙ (ap (slice_set seen i) is ∙ first.change f)

-- places: the live ones, then those that are used again

-- a place among the live ones is set
pub take_set : (n : ℕ) (rows : List (ℕ × Progress)) (i : ℕ) (r : ℕ × Progress)
    → take n (slice_set rows i r) ≡ slice_set (take n rows) i r
take_set zero rows i r = refl
take_set (suc n) [] i r = refl
take_set (suc n) (q ∷ rest) zero r = refl
take_set (suc n) (q ∷ rest) (suc i) r = ap (λ l. q ∷ l) (take_set n rest i r)

-- a place of a live one is a place
pub below_places : (n i : ℕ) (rows : List (ℕ × Progress)) → i < length (take n rows) → (i < n) × (i < length rows)
below_places zero i rows h = absurd (omega (arith, h))
below_places (suc n) i [] h = absurd (omega (arith, h))
below_places (suc n) zero (q ∷ rest) h = (omega arith, omega arith)
below_places (suc n) (suc i) (q ∷ rest) h =
    let r = below_places n i rest (omega (arith, h)) in (omega (arith, r.0), omega (arith, r.1))

-- what stands there
pub place_read : (n i : ℕ) (rows : List (ℕ × Progress)) (d : ℕ × Progress) → i < n → get_or rows i d ≡ get_or (take n rows) i d
place_read zero i rows d h = absurd (omega (arith, h))
place_read (suc n) i [] d h = refl
place_read (suc n) zero (q ∷ rest) d h = refl
place_read (suc n) (suc i) (q ∷ rest) d h = place_read n i rest d (omega (arith, h))

-- the place of one that ended is moved after the others
pub place_moved : (n i : ℕ) (rows : List (ℕ × Progress)) (r : ℕ × Progress) → i ≤ n → n < length rows
    → take n ((take i rows ++ drop (suc i) rows) ++ r ∷ []) ≡ take i (take (suc n) rows) ++ drop (suc i) (take (suc n) rows)
place_moved n i [] r h w = absurd (omega (arith, w))
place_moved n zero (q ∷ rest) r h w = take-append-le n rest (r ∷ []) (omega (arith, w))
place_moved zero (suc i) (q ∷ rest) r h w = absurd (omega (arith, h))
place_moved (suc n) (suc i) (q ∷ rest) r h w = ap (λ l. q ∷ l) (place_moved n i rest r (omega (arith, h)) (omega (arith, w)))

-- the place of the last one is the first after the others
pub place_left : (n : ℕ) (rows : List (ℕ × Progress))
    → take n rows ≡ take n (take (suc n) rows) ++ drop (suc n) (take (suc n) rows)
place_left zero [] = refl
place_left (suc n) [] = refl
place_left zero (q ∷ rest) = refl
place_left (suc n) (q ∷ rest) = ap (λ l. q ∷ l) (place_left n rest)

-- without the one at this index, whose place was moved after the others or was the last
pub moved_after : (n i : ℕ) (rows : List (ℕ × Progress)) (r : ℕ × Progress) → i < n → n ≤ length rows
    → take (n - 1) ((take i rows ++ drop (suc i) rows) ++ r ∷ []) ≡ take i (take n rows) ++ drop (suc i) (take n rows)
moved_after zero i rows r h w = absurd (omega (arith, h))
moved_after (suc n) i rows r h w =
    let e : suc n - 1 ≡ n = omega arith in
    ap (λ m. take m ((take i rows ++ drop (suc i) rows) ++ r ∷ [])) e ∙ place_moved n i rows r (omega (arith, h)) (omega (arith, w))

pub left_last : (n i : ℕ) (rows : List (ℕ × Progress)) → i < n → n ≤ i + 1
    → take (n - 1) rows ≡ take i (take n rows) ++ drop (suc i) (take n rows)
left_last n i rows h last =
    let e : n - 1 ≡ i = omega (arith, h, last) in
    let f : suc i ≡ n = omega (arith, h, last) in
    ap (λ m. take m rows) e ∙ subst (λ m. take i rows ≡ take i (take m rows) ++ drop (suc i) (take m rows)) f (place_left i rows)

-- one that is dropped

-- without one that is not among them they are all left
others_all : (t : ℕ) (live : List (ℕ × Progress)) → (Member t (numbers live) → ⊥) → others_live t live ≡ live
others_all t [] none = refl
others_all t (q ∷ rest) none = ap (λ b. cond (not b) (q ∷ others_live t rest) (others_live t rest))
    (false_from_ne_true (nat_eq q.0 t) (λ e. none (inl (sym (eqb-true q.0 t e)))))
    ∙ ap (λ l. q ∷ l) (others_all t rest (λ m. none (inr m)))

-- where their numbers rise, only one stands at the index of t
removed_at : (t : ℕ) (live : List (ℕ × Progress)) (i : ℕ) → Rising (numbers live) → position_or_len (has_number t) live ≡ i
    → i < length live → take i live ++ drop (suc i) live ≡ others_live t live
removed_at t [] i r e h = absurd (omega (arith, h))
removed_at t (q ∷ rest) zero r e h =
    let b = first_true (nat_eq q.0 t) (position_or_len (has_number t) rest) e in
    let same : q.0 ≡ t = eqb-true q.0 t b in
    sym (ap (λ c. cond (not c) (q ∷ others_live t rest) (others_live t rest)) b
    ∙ others_all t rest (λ m. let less : q.0 < t = rising_below q.0 (numbers rest) r t m in absurd (omega (arith, less, same))))
removed_at t (q ∷ rest) (suc i) r e h =
    let b = later_false (nat_eq q.0 t) (position_or_len (has_number t) rest) i e in
    ap (λ l. q ∷ l) (removed_at t rest i (rising_rest q.0 (numbers rest) r) b.1 (omega (arith, h)))
    ∙ sym (ap (λ c. cond (not c) (q ∷ others_live t rest) (others_live t rest)) b.0)

-- the same of a list that was seen as another
pub removed : (t : ℕ) (rows seen : List (ℕ × Progress)) (i : ℕ) → rows ≡ seen → Some i ≡ position (has_number t) seen
    → Rising (numbers seen) → take i rows ++ drop (suc i) rows ≡ others_live t seen
removed t rows seen i same found rising = ap (λ l. take i l ++ drop (suc i) l) same
    ∙ removed_at t seen i rising (placed _ (length seen) i (sym found))
    (within (position_or_len (has_number t) seen) (length seen) i (sym found))

-- one that has no index is not among them
pub none_removed : (t : ℕ) (rows seen : List (ℕ × Progress)) → rows ≡ seen → None ≡ position (has_number t) seen
    → rows ≡ others_live t seen
none_removed t rows seen same none = same ∙ sym (others_all t seen (λ m. has_index t seen m (sym none)))
