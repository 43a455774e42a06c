-- A history as the merge of the sessions' receipts.
use Rattle.std.proofs.Common.{◌≡◌, ℕ, zero, suc, ◌+◌, ◌-◌, ◌<◌, ◌≤◌, nat_eq, true, false, cond, List, [], ◌∷◌, All, length, drop, set, replicate, slice_get, slice_index, slice_index_or, Some, refl, ap, sym, subst, ◌∙◌, ⊎_elim, ◌⊎◌, arith}
use Rattle.std.specs.Prelude.{count_by}
use Rattle.std.proofs.lemmas.List.{length-set}
use Rattle.std.specs.List.{sum_by}
use Rattle.std.proofs.lemmas.List.Sums.{sum_by-cons}
use Rattle.std.proofs.lemmas.Bool.Decides.{nat_tests}
use Rattle.sgt_model.specs.declared.entry.Entry.{Entry}
use Rattle.sgt_session.specs.declared.receipt.Receipt.{Receipt}
use Rattle.sgt_session.specs.Receipts.{receipt_of, entry_of, ReceiptStands, IsReceiptAt}
use Rattle.sgt_session.specs.Accounts.{named, Rises, AccountsForHistory}

-- the entries from number n on are the sessions' remaining receipts, taken one by one
abbrev pub Merge : ℕ → List Entry → List (List Receipt) → Type 0
Merge n [] S = (k : ℕ) (rs : List Receipt) → slice_get S k ≡ Some rs → rs ≡ []
Merge n (e ∷ es) S = (i : ℕ) × (rest : List Receipt) × (slice_get S i ≡ Some (receipt_of n e ∷ rest)) × Merge (n + 1) es (set S i rest)

-- the remaining receipts of each session
abbrev pub left : List ℕ → List (List Receipt) → List (List Receipt)
left at [] = []
left [] (rs ∷ S) = rs ∷ S
left (a ∷ at) (rs ∷ S) = drop a rs ∷ left at S

abbrev pub total : List (List Receipt) → ℕ
total [] = 0
total (rs ∷ S) = length rs + total S

abbrev Each : {A : Type 0} → (A → Type 0) → List A → Type 0
Each P [] = Unit {0}
Each P (x ∷ xs) = P x × Each P xs

each_map : {A : Type 0} (P Q : A → Type 0) → ((x : A) → P x → Q x) → (xs : List A) → Each P xs → Each Q xs
each_map P Q f [] e = tt
each_map P Q f (x ∷ xs) e = (f x e.0, each_map P Q f xs e.1)

each_all : {A : Type 0} (P : A → Type 0) (xs : List A) → Each P xs → All P xs
each_all P [] e k d lt = absurd (omega arith)
each_all P (x ∷ xs) e zero d lt = e.0
each_all P (x ∷ xs) e (suc k) d lt = each_all P xs e.1 k d (omega arith)

each_empty : {A : Type 0} (P : List A → Type 0) → P [] → (S : List (List A)) → ((k : ℕ) (rs : List A) → slice_get S k ≡ Some rs
    → rs ≡ []) → Each P S
each_empty P p [] h = tt
each_empty P p (rs ∷ S) h = (subst P (sym (h 0 rs refl)) p, each_empty P p S (λ k. h (suc k)))

-- from a list with one element replaced
each_unset : {A : Type 0} (P Q : A → Type 0) (S : List A) (i : ℕ) (x y : A) → slice_get S i ≡ Some x → ((u : A) → P u → Q u)
    → (P y → Q x) → Each P (set S i y) → Each Q S
each_unset P Q [] i x y at f g e = absurd cc
each_unset P Q (z ∷ S) zero x y at f g e = (let same : z ≡ x = cc in subst Q (sym same) (g e.0), each_map P Q f S e.1)
each_unset P Q (z ∷ S) (suc i) x y at f g e = (f z e.0, each_unset P Q S i x y at f g e.1)

-- the receipts of one session, in the entries from n on
abbrev Good : ℕ → List Entry → List Receipt → Type 0
Good n es rs = Rises rs × Each (λ r. (n ≤ r.number) × (slice_get es (r.number - n) ≡ Some (entry_of r))) rs

later : (n : ℕ) (e : Entry) (es : List Entry) (r : Receipt) → (n + 1 ≤ r.number) × (slice_get es (r.number - (n + 1)) ≡ Some
    (entry_of r)) → (n ≤ r.number) × (slice_get (e ∷ es) (r.number - n) ≡ Some (entry_of r))
later n e es r h = (omega (arith, h.0), let is : r.number - n ≡ suc (r.number - (n + 1)) = omega (arith, h.0) in rw is h.1)

here : (n : ℕ) (e : Entry) (es : List Entry) → slice_get (e ∷ es) (n - n) ≡ Some e
here n e es = let is : n - n ≡ 0 = omega arith in rw is refl

pub good : (n : ℕ) (es : List Entry) (S : List (List Receipt)) → Merge n es S → Each (Good n es) S
good n [] S m = each_empty (Good n []) (tt, tt) S m
good n (e ∷ es) S m = each_unset (Good (n + 1) es) (Good n (e ∷ es)) S m.0 (receipt_of n e ∷ m.1) m.1 m.2
    (λ rs g. (
      g.0,
      each_map (λ r. (n + 1 ≤ r.number) × (slice_get es (r.number - (n + 1)) ≡ Some (entry_of r)))
          (λ r. (n ≤ r.number) × (slice_get (e ∷ es) (r.number - n) ≡ Some (entry_of r))) (later n e es) rs g.1,
    ))
    (λ g. (
      (
        each_all (λ s. n < s.number) m.1
            (each_map (λ r. (n + 1 ≤ r.number) × (slice_get es (r.number - (n + 1)) ≡ Some (entry_of r))) (λ s. n < s.number)
            (λ r h. omega (arith, h.0)) m.1 g.1),
        g.0,
      ),
      (
        (omega arith, here n e es),
        each_map (λ r. (n + 1 ≤ r.number) × (slice_get es (r.number - (n + 1)) ≡ Some (entry_of r)))
            (λ r. (n ≤ r.number) × (slice_get (e ∷ es) (r.number - n) ≡ Some (entry_of r))) (later n e es) m.1 g.1,
      ),
    ))
    (good (n + 1) es (set S m.0 m.1) m.3)

is_empty : {A : Type 0} (xs : List A) → length xs ≡ 0 → xs ≡ []
is_empty [] none = refl
is_empty (x ∷ xs) none = absurd (omega arith)

dropped : {A : Type 0} (xs : List A) (n : ℕ) (x : A) → slice_get xs n ≡ Some x → drop n xs ≡ x ∷ drop (n + 1) xs
dropped [] n x at = absurd cc
dropped (y ∷ xs) zero x at = (let is : y ≡ x = cc in ap (λ z. z ∷ xs) is)
dropped (y ∷ xs) (suc n) x at = (let one : suc n + 1 ≡ suc (n + 1) = omega arith in rw one (dropped xs n x at))

drop-length : {A : Type 0} (xs : List A) → drop (length xs) xs ≡ []
drop-length [] = refl
drop-length (x ∷ xs) = drop-length xs

above_or : (n p : ℕ) → n ≤ p → (n < p) ⊎ (p ≡ n)
above_or n p le = grind arith

test_later : (n p : ℕ) → n < p → ◌≡◌ {A = ℕ} (cond (nat_eq n p) 1 0) 0
test_later n p lt = let f : (nat_eq n p) ≡ false = grind (arith, nat_tests) in rw f refl

standing : (history : List Entry) (rs : List Receipt) → Good 0 history rs → All (λ r. ReceiptStands history r) rs
standing history rs g = each_all (λ r. ReceiptStands history r) rs
    (each_map (λ r. (0 ≤ r.number) × (slice_get history (r.number - 0) ≡ Some (entry_of r))) (λ r. ReceiptStands history r)
    (λ r h. (let z : r.number - 0 ≡ r.number = omega arith in subst (λ (k : ℕ). slice_get history k ≡ Some (entry_of r)) z h.1)) rs g.1)

counted : (p : ℕ) (rs : List Receipt) (r : Receipt) (rest : List Receipt) → rs ≡ r ∷ rest
    → count_by (λ x. nat_eq x.number p) rs ≡ cond (nat_eq r.number p) 1 0 + count_by (λ x. nat_eq x.number p) rest
counted p rs r rest is = ap (λ xs. count_by (λ x. nat_eq x.number p) xs) is
    ∙ sum_by-cons (λ (x : Receipt). cond (nat_eq x.number p) 1 0) r rest

named_unset : (p : ℕ) (S : List (List Receipt)) (i : ℕ) (r : Receipt) (rest : List Receipt) → slice_get S i ≡ Some (r ∷ rest)
    → named p S ≡ cond (nat_eq r.number p) 1 0 + named p (set S i rest)
named_unset p [] i r rest at = absurd cc
named_unset p (rs ∷ S) zero r rest at = (let c = counted p rs r rest cc in omega (arith, c))
named_unset p (rs ∷ S) (suc i) r rest at = (let h = named_unset p S i r rest at in omega (arith, h))

named_empty : (p : ℕ) (S : List (List Receipt)) → ((k : ℕ) (rs : List Receipt) → slice_get S k ≡ Some rs → rs ≡ []) → named p S ≡ 0
named_empty p [] h = refl
named_empty p (rs ∷ S) h =
    let e : count_by (λ x. nat_eq x.number p) rs ≡ 0 = ap (λ xs. count_by (λ x. nat_eq x.number p) xs) (h 0 rs refl) in
    let r = named_empty p S (λ k. h (suc k)) in omega (arith, e, r)

test_no : (n p : ℕ) → p < n → ◌≡◌ {A = ℕ} (cond (nat_eq n p) 1 0) 0
test_no n p lt = let f : (nat_eq n p) ≡ false = grind (arith, nat_tests) in rw f refl

test_yes : (n : ℕ) → ◌≡◌ {A = ℕ} (cond (nat_eq n n) 1 0) 1
test_yes n = let f : (nat_eq n n) ≡ true = grind (arith, nat_tests) in rw f refl

-- a number below the first one is not named
none_below : (p n : ℕ) (es : List Entry) (S : List (List Receipt)) → Merge n es S → p < n → named p S ≡ 0
none_below p n [] S m lt = named_empty p S m
none_below p n (e ∷ es) S m lt =
    let r = none_below p (n + 1) es (set S m.0 m.1) m.3 (omega arith) in
    let s = named_unset p S m.0 (receipt_of n e) m.1 m.2 in
    let t = test_no n p lt in omega (arith, r, s, t)

-- each number is named once
pub named_once : (p n : ℕ) (es : List Entry) (S : List (List Receipt)) → Merge n es S → n ≤ p → p < n + length es → named p S ≡ 1
named_once p n [] S m low high = absurd (omega arith)
named_once p n (e ∷ es) S m low high =
    let s = named_unset p S m.0 (receipt_of n e) m.1 m.2 in
    ⊎_elim (λ (lt : n < p). let r = named_once p (n + 1) es (set S m.0 m.1) m.3 (omega arith) (omega arith) in
    let t = test_later n p lt in omega (arith, r, s, t))
    (λ (is : p ≡ n). let r = none_below p (n + 1) es (set S m.0 m.1) m.3 (omega arith) in
    let t : ◌≡◌ {A = ℕ} (cond (nat_eq n p) 1 0) 1 = rw is (test_yes n) in omega (arith, r, s, t))
    (above_or n p low)

pub totals : (S : List (List Receipt)) → total S ≡ sum_by length S
totals [] = refl
totals (rs ∷ S) = (let t = totals S in omega (arith, t, sum_by-cons (λ (x : List Receipt). length x) rs S))

-- at the end nothing remains
pub ends : (n : ℕ) (S : List (List Receipt)) → total S ≡ 0 → Merge n [] S
ends n [] none k rs at = absurd cc
ends n (xs ∷ S) none zero rs at = (let is : xs ≡ rs = cc in is_empty rs (omega (arith, ap length is)))
ends n (xs ∷ S) none (suc k) rs at = ends n S (omega arith) k rs at

-- at the beginning all remain
pub begins : (k : ℕ) (S : List (List Receipt)) → length S ≤ k → left (replicate k 0) S ≡ S
begins zero [] le = refl
begins (suc k) [] le = refl
begins zero (rs ∷ S) le = absurd (omega arith)
begins (suc k) (rs ∷ S) le = ap (λ T. rs ∷ T) (begins k S (omega arith))

-- one receipt more is taken
pub takes : (at : List ℕ) (S : List (List Receipt)) (i : ℕ) (r : Receipt) → i < length S → length S ≤ length at
    → slice_get (slice_index_or S i []) (slice_index at i) ≡ Some r
    → (slice_get (left at S) i ≡ Some (r ∷ drop (slice_index at i + 1) (slice_index_or S i [])))
    × (left (set at i (slice_index at i + 1)) S ≡ set (left at S) i (drop (slice_index at i + 1) (slice_index_or S i [])))
    × (total (left (set at i (slice_index at i + 1)) S) + 1 ≡ total (left at S))
takes at [] i r lt le get = absurd (omega arith)
takes [] (rs ∷ S) i r lt le get = absurd (omega arith)
takes (a ∷ at) (rs ∷ S) zero r lt le get =
    let d = dropped rs a r get in (
      ap Some d,
      refl,
      (let l : length (drop a rs) ≡ length (drop (a + 1) rs) + 1 = omega (arith, ap length d) in omega (arith, l)),
    )
takes (a ∷ at) (rs ∷ S) (suc i) r lt le get =
    let h = takes at S i r (omega arith) (omega arith) get in (h.0, ap (λ T. drop a rs ∷ T) h.1, omega (arith, h.2))

-- what the check has found: the entries before n are accounted for
abbrev pub Checked : List Entry → List (List Receipt) → ℕ → List ℕ → Type 0
Checked history S n at = (Merge n (drop n history) (left at S) → Merge 0 history S) × (total (left at S) + n ≡ total S)

pub checks_first : (history : List Entry) (S : List (List Receipt)) → length S ≤ 64 → Checked history S 0 (replicate 64 0)
checks_first history S le =
    let b = begins 64 S le in ((λ m. subst (λ (T : List (List Receipt)). Merge 0 history T) b m), omega (arith, ap total b))

-- the entry with a number below the count
entry_there : (history : List Entry) (n : ℕ) → n < length history → (e : Entry) × (slice_get history n ≡ Some e)
entry_there [] n within = absurd (omega (arith, within))
entry_there (e ∷ es) zero within = (e, refl)
entry_there (e ∷ es) (suc n) within = entry_there es n (omega (arith, within))

checks_next : (history : List Entry) (S : List (List Receipt)) (n : ℕ) (at : List ℕ) (i : ℕ) (e : Entry)
    → Checked history S n at → slice_get history n ≡ Some e → i < length S → length S ≤ length at
    → slice_get (slice_index_or S i []) (slice_index at i) ≡ Some (receipt_of n e) → Checked history S (n + 1)
    (set at i (slice_index at i + 1))
checks_next history S n at i e c is lt le get =
    let t = takes at S i (receipt_of n e) lt le get in
    let d = dropped history n e is in (
      (λ m. c.0 (subst (λ (es : List Entry). Merge n es (left at S)) (sym d) (
        i,
        drop (slice_index at i + 1) (slice_index_or S i []),
        t.0,
        subst (λ (T : List (List Receipt)). Merge (n + 1) (drop (n + 1) history) T) t.1 m,
      ))),
      omega (arith, t.2, c.1),
    )

-- an element that is replaced twice, read, or replaced by itself

set-read : (xs : List ℕ) (i x : ℕ) → i < length xs → slice_index (set xs i x) i ≡ x
set-read [] i x lt = absurd (omega arith)
set-read (y ∷ xs) zero x lt = refl
set-read (y ∷ xs) (suc i) x lt = set-read xs i x (omega arith)

set-twice : (xs : List ℕ) (i x y : ℕ) → set (set xs i x) i y ≡ set xs i y
set-twice [] i x y = refl
set-twice (z ∷ xs) zero x y = refl
set-twice (z ∷ xs) (suc i) x y = ap (λ zs. z ∷ zs) (set-twice xs i x y)

set-itself : (xs : List ℕ) (i : ℕ) → i < length xs → set xs i (slice_index xs i) ≡ xs
set-itself [] i lt = absurd (omega arith)
set-itself (y ∷ xs) zero lt = refl
set-itself (y ∷ xs) (suc i) lt = ap (λ zs. y ∷ zs) (set-itself xs i (omega arith))

-- several receipts of one session in turn
pub checks_run : (history : List Entry) (S : List (List Receipt)) (n : ℕ) (at : List ℕ) (i c : ℕ)
    → Checked history S n at → n + c ≤ length history → i < length S → length S ≤ length at
    → ((k : ℕ) → k < c → IsReceiptAt (slice_index_or S i []) (slice_index at i + k) history (n + k))
    → Checked history S (n + c) (set at i (slice_index at i + c))
checks_run history S n at i zero k within lt le are =
    let one : n + 0 ≡ n = omega arith in
    let two : slice_index at i + 0 ≡ slice_index at i = omega arith in
    rw (one, two, set-itself at i (omega arith)) k
checks_run history S n at i (suc c) k within lt le are =
    let before = checks_run history S n at i c k (omega arith) lt le (λ j less. are j (omega arith)) in
    let there = entry_there history (n + c) (omega arith) in
    let at' = set at i (slice_index at i + c) in
    let long = length-set at i (slice_index at i + c) in
    let read = set-read at i (slice_index at i + c) (omega arith) in
    let next = checks_next history S (n + c) at' i there.0 before there.1 lt (omega (arith, long))
    (rw read (are c (omega arith) there.0 there.1)) in
    let one : n + suc c ≡ n + c + 1 = omega arith in
    let two : slice_index at i + suc c ≡ slice_index at i + c + 1 = omega arith in
    rw (one, two) (rw (read, set-twice at i (slice_index at i + c) (slice_index at i + c + 1)) at next)

pub checks_last : (history : List Entry) (S : List (List Receipt)) (at : List ℕ) → Checked history S (length history) at
    → length history ≡ sum_by length S → AccountsForHistory history S
checks_last history S at c sum =
    let none : total (left at S) ≡ 0 = omega (arith, c.1, totals S, sum) in
    let over : drop (length history) history ≡ [] = drop-length history in
    let m : Merge 0 history S = c.0 (subst (λ (es : List Entry). Merge (length history) es (left at S)) (sym over)
    (ends (length history) (left at S) none)) in
    let g = good 0 history S m in
    record {
      counted = sum;
      stands = each_all (λ rs. All (λ r. ReceiptStands history r) rs) S
          (each_map (Good 0 history) (λ rs. All (λ r. ReceiptStands history r) rs) (standing history) S g);
      once = λ p lt. named_once p 0 history S m (omega arith) (omega arith);
      rises = each_all Rises S (each_map (Good 0 history) Rises (λ rs h. h.0) S g);
    }
