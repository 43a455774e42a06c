-- Replays of an order of commits are runs.
use Rattle.std.proofs.Common.{◌≡◌, ◌<◌, ◌≤◌, ◌+◌, ◌-◌, ℕ, zero, suc, List, [], ◌∷◌, ◌++◌, Option, Some, None, length, get_or, take, drop, refl, sym, ap, ◌∙◌, subst, inl, inr, arith, append_assoc, append-nil, length-append, take-append-drop}
use Rattle.std.specs.Prelude.{map, slice_get, IfSome}
use Rattle.std.specs.Global.{Vec}
use Rattle.std.proofs.lemmas.Bool.{cases_lt, cases_eq}
use Rattle.std.proofs.lemmas.List.{take_more}
use Rattle.std.proofs.lemmas.Option.{get_or_from_slice_get}
use Rattle.sgt_appends.specs.declared.transaction.Operation.{Operation}
use Rattle.sgt_appends.specs.declared.transaction.Operation.TheVariants.{Read}
use Rattle.sgt_appends.specs.declared.transaction.Status.TheVariants.{Committed}
use Rattle.sgt_appends.specs.declared.transaction.Transaction.{Transaction}
use Rattle.sgt_appends.specs.Lists.{Has, IsOnce}
use Rattle.sgt_appends.specs.Runs.{operations_of, Ended, MayRun, SeesAll}
use Rattle.sgt_appends.specs.Precedences.{appended, Appends, Reads}
use Rattle.sgt_appends.specs.Guides.{appended_by}
use Rattle.sgt_appends.specs.Reads.{own_at}
use Rattle.sgt_appends.proofs.Words.{Has-append_right, StandsBefore-has, stand_somehow}
use Rattle.sgt_appends.proofs.Prefixes.{take_front}
use Rattle.sgt_appends.proofs.Along.{apart}
use Rattle.sgt_appends.proofs.Running.{sees_all, appended_has}
use Rattle.sgt_appends.proofs.Orders.{place_of, here, further}
use Rattle.sgt_appends.proofs.Passed.{at_reads}
use Rattle.sgt_levels.specs.Commits.{IsCommittedRead, IsCommittedRun}
use Rattle.sgt_levels.specs.Snapshots.{before_time, IsSnapshotRun}
use Rattle.sgt_levels.specs.Replays.{IsFront, count_of, IsReplayed, SeenFrom, StartIs, OperationHolds, HoldOver, AreHeld, IsSnapshotHeld}
use Rattle.sgt_levels.proofs.Fronts.{appended_by-append}
use Rattle.sgt_levels.proofs.Commits.{place_less}
use Rattle.sgt_levels.proofs.Order.{before_is, rises_by}

-- what fewer transactions of the order leave is a front of what more of them leave
pub fronts : (h : List Transaction) (k : ℕ) (order : List ℕ) (s i : ℕ) → s ≤ i
    → (rest : List ℕ) × (appended_by h k (take i order) ≡ appended_by h k (take s order) ++ rest)
fronts h k order zero i less = (appended_by h k (take i order), refl)
fronts h k [] (suc s) zero less = absurd (omega (arith, less))
fronts h k [] (suc s) (suc i) less = ([], refl)
fronts h k (x ∷ xs) (suc s) zero less = absurd (omega (arith, less))
fronts h k (x ∷ xs) (suc s) (suc i) less =
    let it = fronts h k xs s i (omega (arith, less)) in (
      it.0,
      ap (λ l. appended k (operations_of h x) ++ l) it.1
          ∙ sym (append_assoc (appended k (operations_of h x)) (appended_by h k (take s xs)) it.0),
    )

counts_rise : (h : List Transaction) (order : List ℕ) (k s i : ℕ) → s ≤ i → count_of h order k s ≤ count_of h order k i
counts_rise h order k s i less =
    let it = fronts h k order s i less in
    omega (arith, ap length it.1, length-append (appended_by h k (take s order)) it.0)

-- the list of the key before the start
pub front_is : (h : List Transaction) (order : List ℕ) (i k s : ℕ) (values places : ℕ → List ℕ) (base : List ℕ)
    → IsReplayed h order i values places → s ≤ i → IsFront (values k) (places k) base s → base ≡ appended_by h k (take s order)
front_is h order i k s values places base is less it =
    sym (take_front base it.prefix.0) ∙ ap (take (length base)) (sym it.prefix.1 ∙ is.values_are k ∙ whole.1)
    ∙ ap (λ n. take n (appended_by h k (take s order) ++ whole.0)) same ∙ take_front (appended_by h k (take s order)) whole.0
  where
    whole : (rest : List ℕ) × (appended_by h k (take i order) ≡ appended_by h k (take s order) ++ rest)
    whole = fronts h k order s i less

    all : length (values k) ≡ count_of h order k i
    all = ap length (is.values_are k)

    within : length base ≤ length (values k)
    within = omega (arith, ap length it.prefix.1, length-append base it.prefix.0)

    low : length base ≤ count_of h order k s
    low = elim it.before [
      | inl none ↦ omega (arith, none)
      | inr below ↦ elim (cases_lt 0 (length base)) [
        | inl some ↦ omega (
          arith,
          (is.placed k (length base - 1) (omega (arith, within, some))).1,
          counts_rise h order k (get_or (places k) (length base - 1) 0 + 1) s (omega (arith, below)),
          some,
        )
        | inr none ↦ omega (arith, none)
      ]
    ]

    high : count_of h order k s ≤ length base
    high = elim (cases_lt (length base) (length (values k))) [
      | inl more ↦ elim it.after [
        | inl ends ↦ absurd (omega (arith, ends, is.long k, more))
        | inr above ↦ omega (
          arith,
          (is.placed k (length base) more).0,
          counts_rise h order k s (get_or (places k) (length base) 0) above,
        )
      ]
      | inr ends ↦ omega (arith, all, ends, counts_rise h order k s i less)
    ]

    same : length base ≡ length (appended_by h k (take s order))
    same = omega (arith, low, high)

-- a front with the reader's own appends after it is what the read saw
pub holds_after : (h : List Transaction) (order : List ℕ) (i : ℕ) (start : Option ℕ) (from k : ℕ) (values places : ℕ → List ℕ)
    (own seen : List ℕ) → IsReplayed h order i values places → from ≤ i → StartIs start i own from
    → (base : List ℕ) × (seen ≡ base ++ own) × IsFront (values k) (places k) base from → SeenFrom h order i start k own seen
holds_after h order i (Some s) from k values places own seen is less same (base, split, front) =
    split ∙ ap (λ l. l ++ own) (front_is h order i k from values places base is less front ∙ ap (λ n. appended_by h k (take n order)) same)
holds_after h order i None from k values places own seen is less same (base, split, front) =
    (from, less, same, split ∙ ap (λ l. l ++ own) (front_is h order i k from values places base is less front))

pub start_before : (start : Option ℕ) (i from : ℕ) → IfSome start (λ s. from ≡ s) → StartIs start i [] from
start_before (Some s) i from same = same
start_before None i from same = λ some. absurd (some refl)

-- one operation more
pub held_one : (h : List Transaction) (order : List ℕ) (place : ℕ) (start : Option ℕ) (os : List Operation) (i : ℕ) (o : Operation)
    (mine : ℕ → List ℕ) → o ≡ get_or os i o → ((k : ℕ) → mine k ≡ appended k (take i os))
    → OperationHolds h order place start mine o
    → ((p k : ℕ) (values : Vec ℕ) → p < i → slice_get os p ≡ Some (Read k values)
    → SeenFrom h order place start k (appended k (take p os)) values.items)
    → (p k : ℕ) (values : Vec ℕ) → p < i + 1 → slice_get os p ≡ Some (Read k values)
    → SeenFrom h order place start k (appended k (take p os)) values.items
held_one h order place start os i o mine is own now before p k values less at = elim (cases_eq p i) [
  | inl same ↦
      let read : o ≡ Read k values =
      is ∙ get_or_from_slice_get os i (Read k values) o (subst (λ n. slice_get os n ≡ Some (Read k values)) same at) in
      subst (λ n. SeenFrom h order place start k (appended k (take n os)) values.items) (sym same)
      (subst (λ l. SeenFrom h order place start k l values.items) (own k)
      (subst (λ x. OperationHolds h order place start mine x) read now))
  | inr differ ↦ before p k values (omega (arith, less, differ)) at
]

-- one place more
pub each_more : (P : ℕ → Type 0) (place : ℕ) → ((i : ℕ) → i < place → P i) → P place → (i : ℕ) → i < place + 1 → P i
each_more P place before now i less = elim (cases_eq i place) [
  | inl same ↦ subst (λ n. P n) (sym same) now
  | inr differ ↦ before i (omega (arith, less, differ))
]

get_or-left : (xs ys : List ℕ) (m d : ℕ) → m < length xs → get_or (xs ++ ys) m d ≡ get_or xs m d
get_or-left [] ys m d less = absurd (omega (arith, less))
get_or-left (x ∷ xs) ys zero d less = refl
get_or-left (x ∷ xs) ys (suc m) d less = get_or-left xs ys m d (omega (arith, less))

get_or-const : (zs : List ℕ) (m i : ℕ) → m < length zs → get_or (map (λ v. i) zs) m 0 ≡ i
get_or-const [] m i less = absurd (omega (arith, less))
get_or-const (z ∷ zs) zero i less = refl
get_or-const (z ∷ zs) (suc m) i less = get_or-const zs m i (omega (arith, less))

get_or-right : (xs zs : List ℕ) (m i : ℕ) → length xs ≤ m → m < length xs + length zs → get_or (xs ++ map (λ v. i) zs) m 0 ≡ i
get_or-right [] zs m i more less = get_or-const zs m i (omega (arith, less))
get_or-right (x ∷ xs) zs zero i more less = absurd (omega (arith, more))
get_or-right (x ∷ xs) zs (suc m) i more less = get_or-right xs zs m i (omega (arith, more)) (omega (arith, less))

length-const : (zs : List ℕ) (i : ℕ) → length (map (λ v. i) zs) ≡ length zs
length-const [] i = refl
length-const (z ∷ zs) i = ap suc (length-const zs i)

-- nothing is replayed yet
pub replayed_none : (h : List Transaction) (order : List ℕ) (values places : ℕ → List ℕ) → ((k : ℕ) → values k ≡ [])
    → ((k : ℕ) → places k ≡ []) → IsReplayed h order 0 values places
replayed_none h order values places none no_place = record {
  values_are = λ k. none k ∙ nothing_yet order k;
  long = λ k. ap length (no_place k) ∙ sym (ap length (none k));
  placed = λ k m less. absurd (omega (arith, ap length (none k), less));
}
  where
    nothing_yet : (ts : List ℕ) (k : ℕ) → [] ≡ appended_by h k (take 0 ts)
    nothing_yet ts k = refl

-- one transaction more
pub replayed_one : (h : List Transaction) (order : List ℕ) (i : ℕ) (values places values' places' : ℕ → List ℕ)
    → IsReplayed h order i values places → i < length order
    → ((k : ℕ) → values' k ≡ values k ++ appended k (operations_of h (get_or order i 0)))
    → ((k : ℕ) → places' k ≡ places k ++ map (λ v. i) (appended k (operations_of h (get_or order i 0))))
    → IsReplayed h order (i + 1) values' places'
replayed_one h order i values places values' places' is within more there = record {
  values_are = λ k. are k;
  long = λ k. omega (
    arith,
    ap length (there k),
    ap length (more k),
    length-append (places k) (map (λ v. i) (new k)),
    length-append (values k) (new k),
    length-const (new k) i,
    is.long k,
  );
  placed = λ k m less. elim (cases_lt m (length (values k))) [
    | inl old ↦
        let same : get_or (places' k) m 0 ≡ get_or (places k) m 0 =
        ap (λ l. get_or l m 0) (there k) ∙ get_or-left (places k) (map (λ v. i) (new k)) m 0 (omega (arith, old, is.long k)) in
        subst (λ p. (count_of h order k p ≤ m) × (m < count_of h order k (p + 1))) (sym same) (is.placed k m old)
    | inr young ↦
        let same : get_or (places' k) m 0 ≡ i =
        ap (λ l. get_or l m 0) (there k)
        ∙ get_or-right (places k) (new k) m i (omega (arith, young, is.long k))
        (omega (arith, less, ap length (more k), length-append (values k) (new k), is.long k)) in
        subst (λ p. (count_of h order k p ≤ m) × (m < count_of h order k (p + 1))) (sym same) (
          omega (arith, ap length (is.values_are k), young),
          omega (arith, ap length (are k), less),
        )
  ];
}
  where
    new : ℕ → List ℕ
    new k = appended k (operations_of h (get_or order i 0))

    are : (k : ℕ) → values' k ≡ appended_by h k (take (i + 1) order)
    are k = more k ∙ ap (λ l. l ++ appended k (operations_of h (get_or order i 0))) (is.values_are k)
        ∙ sym (ap (appended_by h k) (take_more order i 0 within) ∙ appended_by-append h k (take i order) (get_or order i 0 ∷ [])
        ∙ ap (λ l. appended_by h k (take i order) ++ l) (append-nil (appended k (operations_of h (get_or order i 0)))))

cancel : (xs ys zs : List ℕ) → xs ++ ys ≡ xs ++ zs → ys ≡ zs
cancel [] ys zs e = e
cancel (x ∷ xs) ys zs e = cancel xs ys zs (tail e)
  where
    tail : x ∷ (xs ++ ys) ≡ x ∷ (xs ++ zs) → xs ++ ys ≡ xs ++ zs
    tail same = cc

-- if the list has not grown since, those that append to the key are among those before
pub stays_front : (h : List Transaction) (k : ℕ) (order : List ℕ) (s i u v : ℕ) → s ≤ i
    → appended_by h k (take i order) ≡ appended_by h k (take s order) → Has (take i order) u → Appends h u k v → Has (take s order) u
stays_front h k order zero i u v less same has appends =
    absurd (subst (λ l. Has l v) same (appended_has h k (take i order) u v has appends))
stays_front h k [] (suc s) zero u v less same has appends = absurd has
stays_front h k [] (suc s) (suc i) u v less same has appends = absurd has
stays_front h k (x ∷ xs) (suc s) zero u v less same has appends = absurd has
stays_front h k (x ∷ xs) (suc s) (suc i) u v less same (inl first) appends = inl first
stays_front h k (x ∷ xs) (suc s) (suc i) u v less same (inr later) appends =
    inr (stays_front h k xs s i u v (omega (arith, less))
    (cancel (appended k (operations_of h x)) (appended_by h k (take i xs)) (appended_by h k (take s xs)) same) later appends)

pub snapshot_held : (h : List Transaction) (order : List ℕ) (place start : ℕ) (os : List Operation) (values places : ℕ → List ℕ)
    → IsReplayed h order place values places → os ≡ operations_of h (get_or order place 0) → start ≤ place
    → HoldOver h order place (Some start) os
    → ((k v : ℕ) → Has (appended k os) v → IsFront (values k) (places k) (values k) start) → IsSnapshotHeld h order place start
snapshot_held h order place start os values places is are early reads free = record {
  early = early;
  reads = subst (λ l. HoldOver h order place (Some start) l) are reads;
  free = λ u k v w has appends mine. stays_front h k order start place u v early
      (sym (is.values_are k) ∙ front_is h order place k start values places (values k) is early
      (free k w (subst (λ l. Has (appended k l) w) (sym are) mine))) has appends;
}

-- the place of one in the order
place_below : (order : List ℕ) (t : ℕ) → Has order t → (place_of order t < length order) × (get_or order (place_of order t) 0 ≡ t)
place_below [] t has = absurd has
place_below (x ∷ order) t has = elim (cases_eq x t) [
  | inl same ↦ rw (here order x t same) (omega arith, same)
  | inr differ ↦ elim has [
    | inl same ↦ absurd (differ same)
    | inr later ↦ let it = place_below order t later in rw (further order x t differ) (omega (arith, it.0), it.1)
  ]
]

-- those before a place
front_places : (order : List ℕ) (t i : ℕ) → Has (take i order) t → place_of order t < i
front_places order t zero has = absurd has
front_places [] t (suc i) has = absurd has
front_places (x ∷ order) t (suc i) has = elim (cases_eq x t) [
  | inl same ↦ rw (here order x t same) (omega arith)
  | inr differ ↦ elim has [
    | inl same ↦ absurd (differ same)
    | inr later ↦ rw (further order x t differ) (omega (arith, front_places order t i later))
  ]
]

in_front_of : (order : List ℕ) (t i : ℕ) → Has order t → place_of order t < i → Has (take i order) t
in_front_of [] t i has less = absurd has
in_front_of (x ∷ order) t zero has less = absurd (omega (arith, less))
in_front_of (x ∷ order) t (suc i) has less = elim (cases_eq x t) [
  | inl same ↦ inl same
  | inr differ ↦ elim has [
    | inl same ↦ absurd (differ same)
    | inr later ↦ inr (in_front_of order t i later (go (further order x t differ) less))
  ]
]
  where
    go : {a b : ℕ} → a ≡ suc b → a < suc i → b < i
    go e l = omega (arith, e, l)

pub committed_replay : (h : List Transaction) (order : List ℕ) → IsOnce order → ((t : ℕ) → Ended h t Committed → Has order t)
    → ((t : ℕ) → Has order t → MayRun h t) → ((i : ℕ) → i < length order → AreHeld h order i) → IsCommittedRun h order
committed_replay h order once committed may_run held = record {
  once = once;
  committed = committed;
  may_run = may_run;
  reads = λ t k own seen has reads. read t k own seen has reads (place_below order t has) (at_reads h t k own seen reads);
}
  where
    read : (t k : ℕ) (own seen : List ℕ) → Has order t → Reads h t k own seen
        → (place_of order t < length order) × (get_or order (place_of order t) 0 ≡ t)
        → (p : ℕ) × ((values : Vec ℕ) × (slice_get (operations_of h t) p ≡ Some (Read k values)) × (values.items ≡ seen)) × (own ≡ own_at h t p k)
        → IsCommittedRead h order t k own seen
    read t k own seen has reads (within, is) (p, (values, at, are), own_is) =
        let it : SeenFrom h order (place_of order t) None k (own_at h t p k) values.items =
        subst (λ u. HoldOver h order (place_of order t) None (operations_of h u)) is (held (place_of order t) within) p k values at in
        record {
          front = take it.0 order;
          back = drop it.0 order;
          splits = sym (take-append-drop it.0 order);
          sees = sym are ∙ it.3 ∙ ap (λ l. appended_by h k (take it.0 order) ++ l) (sym own_is);
          not_yet = λ there. omega (arith, front_places order t it.0 there, it.1);
          locked = λ u value some stands appends.
              in_front_of order u it.0 (StandsBefore-has order u t stands).0
              (omega (arith, place_less order u t once stands, it.2 (λ none. some (own_is ∙ none))));
        }

-- the times of a replay
begin_in : List ℕ → (ℕ → ℕ) → ℕ → ℕ
begin_in order starts t = starts (place_of order t) + starts (place_of order t)

commit_in : List ℕ → ℕ → ℕ
commit_in order t = suc (place_of order t + place_of order t)

commits_rise : (order : List ℕ) (t u : ℕ) → place_of order t < place_of order u → commit_in order t < commit_in order u
unfolding commit_in
commits_rise order t u less = omega (arith, less)

before_start : (order : List ℕ) (starts : ℕ → ℕ) (t u : ℕ) → place_of order u < starts (place_of order t)
    → commit_in order u < begin_in order starts t
unfolding begin_in commit_in
before_start order starts t u less = omega (arith, less)

from_start : (order : List ℕ) (starts : ℕ → ℕ) (t u : ℕ) → starts (place_of order t) ≤ place_of order u
    → begin_in order starts t < commit_in order u
unfolding begin_in commit_in
from_start order starts t u more = omega (arith, more)

back_places : (order : List ℕ) (t i : ℕ) → IsOnce order → Has (drop i order) t → i ≤ place_of order t
back_places order t i once has = elim (cases_lt (place_of order t) i) [
  | inl less ↦ absurd (apart (take i order) (drop i order) t (subst (λ xs. IsOnce xs) (sym (take-append-drop i order)) once)
      (in_front_of order t i (subst (λ xs. Has xs t) (take-append-drop i order) (Has-append_right (take i order) (drop i order) t has)) less) has)
  | inr more ↦ more
]

pub snapshot_replay : (h : List Transaction) (order : List ℕ) (starts : ℕ → ℕ) → IsOnce order → ((t : ℕ) → Ended h t Committed → Has order t)
    → ((t : ℕ) → Has order t → MayRun h t) → ((i : ℕ) → i < length order → IsSnapshotHeld h order i (starts i))
    → (begin : ℕ → ℕ) × (commit : ℕ → ℕ) × IsSnapshotRun h order begin commit
snapshot_replay h order starts once committed may_run held = (
  begin_in order starts,
  commit_in order,
  record {
    rises = rises_by (commit_in order) order (λ t u stand. commits_rise order t u (place_less order t u once stand));
    committed = committed;
    may_run = may_run;
    begins = λ t has. from_start order starts t t (held (place_of order t) (place_below order t has).0).early;
    sees = λ t has. sees t has;
    apart = λ t u k v w differ has_t has_u one other. elim (stand_somehow order t u has_t has_u differ) [
      | inl x ↦ inl (first t u k v w has_t has_u one other (place_less order t u once x))
      | inr x ↦ inr (first u t k w v has_u has_t other one (place_less order u t once x))
    ];
  },
)
  where
    first : (t u k v w : ℕ) → Has order t → Has order u → Appends h t k v → Appends h u k w → place_of order t < place_of order u
        → commit_in order t < begin_in order starts u
    first t u k v w has_t has_u one other less =
        let at = place_below order u has_u in
        before_start order starts u t (front_places order t (starts (place_of order u))
        ((held (place_of order u) at.0).free t k v w (in_front_of order t (place_of order u) has_t less) one
        (subst (λ x. Appends h x k w) (sym at.1) other)))

    sees : (t : ℕ) → Has order t → SeesAll (operations_of h t) (λ k. appended_by h k (before_time (commit_in order) (begin_in order starts t) order))
    sees t has =
        let at = place_below order t has in
        let start : ℕ = starts (place_of order t) in
        let front : before_time (commit_in order) (begin_in order starts t) order ≡ take start order =
        ap (λ xs. before_time (commit_in order) (begin_in order starts t) xs) (sym (take-append-drop start order))
        ∙ before_is (commit_in order) (begin_in order starts t) (take start order) (drop start order)
        (λ x there. before_start order starts t x (front_places order x start there))
        (λ y there. omega (arith, from_start order starts t y (back_places order y start once there))) in
        sees_all (operations_of h t) (λ k. appended_by h k (before_time (commit_in order) (begin_in order starts t) order))
        (λ k. appended_by h k (take start order)) (λ k. [])
        (λ k. ap (appended_by h k) front ∙ sym (append-nil (appended_by h k (take start order))))
        (λ k own seen reads. seen_is k own seen (at_reads h t k own seen reads) at)
      where
        seen_is : (k : ℕ) (own seen : List ℕ)
            → (p : ℕ) × ((values : Vec ℕ) × (slice_get (operations_of h t) p ≡ Some (Read k values)) × (values.items ≡ seen)) × (own ≡ own_at h t p k)
            → (place_of order t < length order) × (get_or order (place_of order t) 0 ≡ t)
            → seen ≡ appended_by h k (take (starts (place_of order t)) order) ++ own
        seen_is k own seen (p, (values, there, are), own_is) (within, is) =
            sym are ∙ subst (λ u. HoldOver h order (place_of order t) (Some (starts (place_of order t))) (operations_of h u)) is
            (held (place_of order t) within).reads p k values there
            ∙ ap (λ l. appended_by h k (take (starts (place_of order t)) order) ++ l) (sym own_is)
