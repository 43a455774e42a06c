-- Write orders: what each read shows of them, and cycles that leave none.
use Rattle.std.proofs.Common.{◌≡◌, ◌≢◌, ◌<◌, ◌≤◌, ◌+◌, ℕ, zero, suc, Bool, true, false, List, [], ◌∷◌, ◌++◌, Option, Some, None, take, drop, length, get_or, refl, sym, ap, ◌∙◌, subst, inl, inr, arith, append-nil, take-append-drop}
use Rattle.std.proofs.lemmas.Bool.{cases_eq}
use Rattle.std.proofs.lemmas.List.{take_more}
use Rattle.sgt_appends.specs.declared.transaction.Operation.TheVariants.{Read}
use Rattle.sgt_appends.specs.declared.transaction.Status.TheVariants.{Committed}
use Rattle.sgt_appends.specs.declared.transaction.Transaction.{Transaction}
use Rattle.sgt_appends.specs.Lists.{Has, IsOnce, StandsBefore}
use Rattle.sgt_appends.specs.Runs.{operations_of, Ended}
use Rattle.sgt_appends.specs.Precedences.{appended, Appends, AppendsOnce, WereSeen}
use Rattle.sgt_appends.specs.Guides.{appended_by}
use Rattle.sgt_appends.specs.Indexes.{Positions, IsIndex}
use Rattle.sgt_appends.specs.Reads.{IsReadAt}
use Rattle.sgt_appends.proofs.Words.{Has-append_left, Has-append_right, Has-append_cases, StandsBefore-back, StandsBefore-has, stand_somehow, not_both, across, last_stands}
use Rattle.sgt_appends.proofs.Along.{as_these}
use Rattle.sgt_appends.proofs.Faulty.{appended_once}
use Rattle.sgt_appends.proofs.Orders.{place_of}
use Rattle.sgt_appends.proofs.Filed.{append_at}
use Rattle.sgt_appends.proofs.Passed.{at_reads, same_read_at, stands_within, ended_within}
use Rattle.sgt_appends.proofs.Running.{appended_has}
use Rattle.sgt_levels.specs.Commits.{IsCommittedRun}
use Rattle.sgt_levels.specs.Levels.{WasLate}
use Rattle.sgt_levels.specs.WriteOrders.{IsWriteOrder, IsReadUncommitted, IsWritePath, IsWritten, AreKept, AreFirst, FitsAt, FitsIn, AllFit}
use Rattle.sgt_levels.proofs.Commits.{committed_follows, place_less}
use Rattle.sgt_levels.proofs.Fronts.{appended_by-append}

-- a run of committed reads is a write order
pub committed_writes : (h : List Transaction) (order : List ℕ) → IsCommittedRun h order → IsWriteOrder h order
committed_writes h order run = record {
  once = run.once;
  committed = run.committed;
  along = λ t u once it. committed_follows h order t u once run (run.committed u it.1) (it.2, inr it.3);
}

path_rises : (h : List Transaction) (order : List ℕ) (t : ℕ) (others : List ℕ) (u : ℕ) → AppendsOnce h → IsWriteOrder h order
    → IsWritePath h t others u → place_of order t < place_of order u
path_rises h order t [] u once is path = place_less order t u is.once (is.along t u once path)
path_rises h order t (v ∷ others) u once is path =
    omega (arith, place_less order t v is.once (is.along t v once path.0), path_rises h order v others u once is path.1)

-- a cycle leaves no write order
pub write_cycle : (h : List Transaction) (t : ℕ) (others : List ℕ) → AppendsOnce h → IsWritePath h t others t → ¬ IsReadUncommitted h
write_cycle h t others once path it = omega (arith, path_rises h it.0 t others t once it.1 path)

pub kept_none : (h : List Transaction) (k : ℕ) → AreKept h k [] []
kept_none h k = record {
  there = λ v has written. absurd has;
  from = λ v has. absurd has;
  before = λ v w stands one other. absurd (StandsBefore-has [] v w stands).0;
}

-- a value that both lists have next
pub kept_both : (h : List Transaction) (k : ℕ) (xs ys : List ℕ) (x : ℕ) → AreKept h k xs ys → AreKept h k (xs ++ x ∷ []) (ys ++ x ∷ [])
kept_both h k xs ys x it = record {
  there = λ v has written. elim (Has-append_cases xs (x ∷ []) v has) [
    | inl a ↦ Has-append_left ys (x ∷ []) v (it.there v a written)
    | inr a ↦ Has-append_right ys (x ∷ []) v a
  ];
  from = λ v has. elim (Has-append_cases ys (x ∷ []) v has) [
    | inl a ↦ Has-append_left xs (x ∷ []) v (it.from v a)
    | inr a ↦ Has-append_right xs (x ∷ []) v a
  ];
  before = λ v w stands one other. elim (last_stands xs x v w stands) [
    | inl a ↦ StandsBefore-back ys (x ∷ []) v w (it.before v w a one other)
    | inr a ↦ across ys (x ∷ []) v w (it.there v a.0 one) (inl a.1)
  ];
}

-- a value that no committed transaction appends
pub kept_one : (h : List Transaction) (k : ℕ) (xs ys : List ℕ) (x : ℕ) → AreKept h k xs ys → ¬ IsWritten h k x → AreKept h k (xs ++ x ∷ []) ys
kept_one h k xs ys x it none = record {
  there = λ v has written. elim (Has-append_cases xs (x ∷ []) v has) [
    | inl a ↦ it.there v a written
    | inr a ↦ absurd (not_last v a written)
  ];
  from = λ v has. Has-append_left xs (x ∷ []) v (it.from v has);
  before = λ v w stands one other. elim (last_stands xs x v w stands) [
    | inl a ↦ it.before v w a one other
    | inr a ↦ absurd (none (subst (λ q. IsWritten h k q) (sym a.1) other))
  ];
}
  where
    not_last : (v : ℕ) → Has (x ∷ []) v → ¬ IsWritten h k v
    not_last v (inl same) written = none (subst (λ q. IsWritten h k q) (sym same) written)
    not_last v (inr nowhere) written = nowhere

-- the next value of the second list
pub kept_next : (h : List Transaction) (k : ℕ) (list : List ℕ) (at v : ℕ) → at < length list → get_or list at 0 ≡ v → (xs : List ℕ)
    → AreKept h k xs (take at list) → AreKept h k (xs ++ v ∷ []) (take (at + 1) list)
kept_next h k list at v within same xs it =
    subst (λ l. AreKept h k (xs ++ v ∷ []) l) (ap (λ x. take at list ++ x ∷ []) (sym same) ∙ sym (take_more list at 0 within))
    (kept_both h k xs (take at list) v it)

-- one value more of the first list
pub kept_step : (h : List Transaction) (k : ℕ) (seen list : List ℕ) (i at next v : ℕ) → i < length seen → v ≡ get_or seen i 0
    → ((xs : List ℕ) → AreKept h k xs (take at list) → AreKept h k (xs ++ v ∷ []) (take next list))
    → AreKept h k (take i seen) (take at list) → AreKept h k (take (i + 1) seen) (take next list)
kept_step h k seen list i at next v within is step kept =
    subst (λ xs. AreKept h k xs (take next list)) (ap (λ x. take i seen ++ x ∷ []) is ∙ sym (take_more seen i 0 within))
    (step (take i seen) kept)

pub whole_front : (xs : List ℕ) (n : ℕ) → length xs ≤ n → take n xs ≡ xs
whole_front [] zero less = refl
whole_front [] (suc n) less = refl
whole_front (x ∷ xs) zero less = absurd (omega (arith, less))
whole_front (x ∷ xs) (suc n) less = ap (λ l. x ∷ l) (whole_front xs n (omega (arith, less)))

-- all values of the first list
pub kept_all : (h : List Transaction) (k : ℕ) (seen list : List ℕ) (i at : ℕ) → length seen ≤ i → AreKept h k (take i seen) (take at list)
    → AreFirst h k seen list
kept_all h k seen list i at whole kept = (at, subst (λ xs. AreKept h k xs (take at list)) (whole_front seen i whole) kept)

-- a read fits, if what it saw does
pub fits_read : (h : List Transaction) (lists : ℕ → List ℕ) (t p k : ℕ) (seen : List ℕ) → IsReadAt h t p k seen
    → AreFirst h k seen (lists k) → FitsAt h lists t p
fits_read h lists t p k seen is first l values ended reads =
    let same = same_read_at h t p k l seen values is reads in
    subst (λ q. AreFirst h q values (lists q)) same.0 (subst (λ xs. AreFirst h k xs (lists k)) same.1 first)

-- a value of which the index says that its transaction did not commit
pub not_written : (h : List Transaction) (at : Positions) (k v : ℕ) (x : ℕ × ℕ) → IsIndex h at → at k v ≡ Some x → ¬ Ended h x.0 Committed
    → ¬ IsWritten h k v
not_written h at k v x index found none it =
    let place = append_at h it.0 k v it.2 in
    none (subst (λ u. Ended h u Committed) (same_one (it.0, place.0) x (sym (index.all k v it.0 place.0 place.1) ∙ found)) it.1)
  where
    first_of : Option (ℕ × ℕ) → ℕ
    first_of None = 0
    first_of (Some x) = x.0

    same_one : (y x : ℕ × ℕ) → Some y ≡ Some x → y.0 ≡ x.0
    same_one y x e = ap first_of e

pub nowhere_written : (h : List Transaction) (at : Positions) (k v : ℕ) → IsIndex h at → at k v ≡ None → ¬ IsWritten h k v
nowhere_written h at k v index none it =
    let place = append_at h it.0 k v it.2 in
    some_none (it.0, place.0) (sym (index.all k v it.0 place.0 place.1) ∙ none)
  where
    some_none : (x : ℕ × ℕ) → ¬ (Some x ≡ None)
    some_none x e = cc

pub not_true : (b : Bool) → b ≡ false → ¬ (b ≡ true)
not_true b no_it yes_it = cc

-- a transaction of which the history says that it committed, or has none
some_same : (x y : Transaction) → Some x ≡ Some y → x ≡ y
some_same x y e = cc

pub same_status : (o : Option Transaction) (x y : Transaction) → o ≡ Some x → o ≡ Some y → x.status ≡ Committed → y.status ≡ Committed
same_status o x y one other is = subst (λ z. z.status ≡ Committed) (some_same x y (sym one ∙ other)) is

pub none_there : (o : Option Transaction) (x : Transaction) → o ≡ None → ¬ (o ≡ Some x)
none_there o x none some = none_some (sym some ∙ none)
  where
    none_some : ¬ (Some x ≡ None)
    none_some e = cc

-- one position more, and all; one transaction more, and all
pub fits_more : (h : List Transaction) (lists : ℕ → List ℕ) (t i : ℕ) → ((p : ℕ) → p < i → FitsAt h lists t p) → FitsAt h lists t i
    → (p : ℕ) → p < i + 1 → FitsAt h lists t p
fits_more h lists t i before here p less = elim (cases_eq p i) [
  | inl same ↦ subst (λ q. FitsAt h lists t q) (sym same) here
  | inr differ ↦ before p (omega (arith, less, differ))
]

pub fits_whole : (h : List Transaction) (lists : ℕ → List ℕ) (t i : ℕ) → ((p : ℕ) → p < i → FitsAt h lists t p)
    → length (operations_of h t) ≤ i → FitsIn h lists t
fits_whole h lists t i before whole p k seen ended is =
    before p (omega (arith, whole, stands_within (operations_of h t) p (Read k is.0) is.1)) k seen ended is

pub fits_one : (h : List Transaction) (lists : ℕ → List ℕ) (i : ℕ) → ((t : ℕ) → t < i → FitsIn h lists t) → FitsIn h lists i
    → (t : ℕ) → t < i + 1 → FitsIn h lists t
fits_one h lists i before here t less = elim (cases_eq t i) [
  | inl same ↦ subst (λ u. FitsIn h lists u) (sym same) here
  | inr differ ↦ before t (omega (arith, less, differ))
]

pub fits_all : (h : List Transaction) (lists : ℕ → List ℕ) (i : ℕ) → ((t : ℕ) → t < i → FitsIn h lists t) → length h ≤ i → AllFit h lists
fits_all h lists i before whole t p k seen ended is =
    before t (omega (arith, whole, ended_within h t ended.0 ended.1)) p k seen ended is

-- what one transaction more of the order leaves
pub left_one : (h : List Transaction) (order : List ℕ) (i k : ℕ) (old new : List ℕ) → i < length order → old ≡ appended_by h k (take i order)
    → new ≡ old ++ appended k (operations_of h (get_or order i 0)) → new ≡ appended_by h k (take (i + 1) order)
left_one h order i k old new within is more =
    more ∙ ap (λ l. l ++ appended k (operations_of h (get_or order i 0))) is
    ∙ sym (ap (appended_by h k) (take_more order i 0 within) ∙ appended_by-append h k (take i order) (get_or order i 0 ∷ [])
    ∙ ap (λ l. appended_by h k (take i order) ++ l) (append-nil (appended k (operations_of h (get_or order i 0)))))

-- values of two transactions in the list of a key stand as these stand in the order
as_listed : (h : List Transaction) (order : List ℕ) (k t u v w : ℕ) → AppendsOnce h → IsOnce order → Has order t → Has order u → t ≢ u
    → Appends h t k v → Appends h u k w → StandsBefore (appended_by h k order) v w → StandsBefore order t u
as_listed h order k t u v w once named has_t has_u differ one other stands = elim (stand_somehow order t u has_t has_u differ) [
  | inl a ↦ a
  | inr a ↦ absurd (not_both (appended_by h k order) v w (appended_once h k order once named) stands (as_these h k order u t w v a other one))
]

whole_stands : (n : ℕ) (xs : List ℕ) (v w : ℕ) → StandsBefore (take n xs) v w → StandsBefore xs v w
whole_stands n xs v w it = subst (λ l. StandsBefore l v w) (take-append-drop n xs) (StandsBefore-back (take n xs) (drop n xs) v w it)

seen_stands : (h : List Transaction) (order : List ℕ) (t u : ℕ) → Ended h t Committed → Ended h u Committed → (w : WereSeen h t u)
    → AreFirst h w.key w.seen (appended_by h w.key order) → StandsBefore (appended_by h w.key order) w.first w.second
seen_stands h order t u one other w first =
    whole_stands first.0 (appended_by h w.key order) w.first w.second
    (first.1.before w.first w.second w.before (t, one, w.appends_first) (u, other, w.appends_second))

late_stands : (h : List Transaction) (order : List ℕ) (t u : ℕ) → Ended h t Committed → Has order u → (w : WasLate h t u)
    → AreFirst h w.key w.seen (appended_by h w.key order) → StandsBefore (appended_by h w.key order) w.first w.second
late_stands h order t u one has_u w first =
    let list = appended_by h w.key order in
    let front = first.1.there w.first w.has (t, one, w.appends_first) in
    elim (Has-append_cases (take first.0 list) (drop first.0 list) w.second
    (subst (λ l. Has l w.second) (sym (take-append-drop first.0 list)) (appended_has h w.key order u w.second has_u w.appends_second))) [
      | inl a ↦ absurd (w.has_not (first.1.from w.second a))
      | inr a ↦ subst (λ l. StandsBefore l w.first w.second) (take-append-drop first.0 list)
          (across (take first.0 list) (drop first.0 list) w.first w.second front a)
    ]

-- an order whose lists fit each read is a write order
pub fitting : (h : List Transaction) (order : List ℕ) (lists : ℕ → List ℕ) → AppendsOnce h → IsOnce order
    → ((t : ℕ) → Ended h t Committed → Has order t) → ((k : ℕ) → lists k ≡ appended_by h k order) → AllFit h lists → IsWriteOrder h order
fitting h order lists once named committed are all = record {
  once = named;
  committed = committed;
  along = λ t u only it. elim it.3 [
    | inl w ↦
        let at = at_reads h w.reader w.key w.has_seen.1.0 w.seen w.has_seen.1.1 in
        as_listed h order w.key t u w.first w.second once named (committed t it.0) (committed u it.1) it.2 w.appends_first w.appends_second
        (seen_stands h order t u it.0 it.1 w
        (subst (λ l. AreFirst h w.key w.seen l) (are w.key) (all w.reader at.0 w.key w.seen w.has_seen.0 at.1)))
    | inr w ↦
        let at = at_reads h w.reader w.key w.has_seen.1.0 w.seen w.has_seen.1.1 in
        as_listed h order w.key t u w.first w.second once named (committed t it.0) (committed u it.1) it.2 w.appends_first w.appends_second
        (late_stands h order t u it.0 (committed u it.1) w
        (subst (λ l. AreFirst h w.key w.seen l) (are w.key) (all w.reader at.0 w.key w.seen w.has_seen.0 at.1)))
  ];
}
