-- Why an order along the precedences is a serial run, if no read has a fault.
use Rattle.std.proofs.Common.{◌≡◌, ◌≢◌, ◌⊎◌, ◌==◌, ℕ, Bool, true, false, cond, List, [], ◌∷◌, ◌++◌, refl, sym, ap, ◌∙◌, subst, inl, inr, append_assoc, append-nil}
use Rattle.std.proofs.lemmas.Bool.{cases_eq}
use Rattle.sgt_appends.specs.declared.transaction.Operation.{Operation}
use Rattle.sgt_appends.specs.declared.transaction.Operation.TheVariants.{Append, Read}
use Rattle.sgt_appends.specs.declared.transaction.Transaction.{Transaction}
use Rattle.sgt_appends.specs.declared.transaction.Status.TheVariants.{Committed}
use Rattle.sgt_appends.specs.Lists.{Has, IsOnce, StandsBefore}
use Rattle.sgt_appends.specs.Runs.{Contents, nothing, after_all, operations_of, Ended, MayRun, IsRun, IsSerialRun}
use Rattle.sgt_appends.specs.Precedences.{appended, Appends, HasReadAfter, Reads, HasSeen, AppendsOnce, WasSeen, WasMissed, WereSeen}
use Rattle.sgt_appends.specs.Guides.{appended_by}
use Rattle.sgt_appends.specs.Orders.{UnknownOnlyAppend, IsClean, AllClean, IsAlong}
use Rattle.sgt_appends.proofs.Words.{Has-append_left, Has-append_right, Has-append_cases, StandsBefore-back, StandsBefore-front, StandsBefore-cons, StandsBefore-cases, StandsBefore-has, IsOnce-front, not_both, same_lists, stand_somehow, across}
use Rattle.sgt_appends.proofs.Running.{left_by, sees_all, appended_has, has_appended}
use Rattle.sgt_appends.proofs.Faulty.{appended_once, in_its_order}

-- what a reader appended before is part of what it appends
pub read_own : (os : List Operation) (k : ℕ) (mine own seen : List ℕ) → HasReadAfter mine os k own seen
    → (rest : List ℕ) × (mine ++ appended k os ≡ own ++ rest)
read_own [] k mine own seen reads = absurd reads
read_own (Append key value ∷ os) k mine own seen reads = step (k == key) (read_own os k _ own seen reads)
  where
    step : (b : Bool) → (rest : List ℕ) × (cond b (mine ++ value ∷ []) mine ++ appended k os ≡ own ++ rest)
        → (rest : List ℕ) × (mine ++ cond b (value ∷ appended k os) (appended k os) ≡ own ++ rest)
    step true it = (it.0, sym (append_assoc mine (value ∷ []) (appended k os)) ∙ it.1)
    step false it = it
read_own (Read key values ∷ os) k mine own seen (inl here) = (appended k os, ap (λ xs. xs ++ appended k os) here.1)
read_own (Read key values ∷ os) k mine own seen (inr later) = read_own os k mine own seen later

-- values of two transactions are ordered as the transactions are
pub as_these : (h : List Transaction) (k : ℕ) (ts : List ℕ) (t u first second : ℕ) → StandsBefore ts t u → Appends h t k first
    → Appends h u k second → StandsBefore (appended_by h k ts) first second
as_these h k [] t u first second stand one other = absurd (StandsBefore-has [] t u stand).0
as_these h k (v ∷ ts) t u first second stand one other = elim (StandsBefore-cases v ts t u stand) [
  | inl w ↦ across (appended k (operations_of h v)) (appended_by h k ts) first second
      (subst (λ x. Appends h x k first) (sym w.0) one) (appended_has h k ts u second w.1 other)
  | inr w ↦ StandsBefore-front (appended k (operations_of h v)) (appended_by h k ts) first second
      (as_these h k ts t u first second w one other)
]

pub has_or_not : (xs : List ℕ) (x : ℕ) → Has xs x ⊎ (¬ Has xs x)
has_or_not [] x = inr (λ has. has)
has_or_not (y ∷ xs) x = elim (cases_eq y x) [
  | inl same ↦ inl (inl same)
  | inr differ ↦ elim (has_or_not xs x) [
    | inl w ↦ inl (inr w)
    | inr w ↦ inr (λ has. neither y xs x differ w has)
  ]
]
  where
    neither : (y : ℕ) (xs : List ℕ) (x : ℕ) → y ≢ x → ¬ Has xs x → ¬ Has (y ∷ xs) x
    neither y xs x differ none (inl same) = differ same
    neither y xs x differ none (inr there) = none there

-- an item of the front is not in the back
pub apart : (xs ys : List ℕ) (x : ℕ) → IsOnce (xs ++ ys) → Has xs x → ¬ Has ys x
apart [] ys x once has there = has
apart (z ∷ xs) ys x once (inl same) there = once.0 (subst (λ w. Has (xs ++ ys) w) (sym same) (Has-append_right xs ys x there))
apart (z ∷ xs) ys x once (inr later) there = apart xs ys x once.1 later there

-- the items before t, and how they are related to t
stands_before : (before ts : List ℕ) (t u : ℕ) → Has before u → StandsBefore (before ++ t ∷ ts) u t
stands_before [] ts t u has = absurd has
stands_before (v ∷ before) ts t u (inl same) =
    ([], before ++ t ∷ ts, ap (λ w. w ∷ (before ++ t ∷ ts)) same, Has-append_right before (t ∷ ts) t (inl refl))
stands_before (v ∷ before) ts t u (inr later) = StandsBefore-cons v (before ++ t ∷ ts) u t (stands_before before ts t u later)

is_before : (before ts : List ℕ) (t u : ℕ) → IsOnce (before ++ t ∷ ts) → StandsBefore (before ++ t ∷ ts) u t → Has before u
is_before [] ts t u once stand = elim (StandsBefore-cases t ts u t stand) [
  | inl w ↦ absurd (once.0 w.1)
  | inr w ↦ absurd (once.0 (StandsBefore-has ts u t w).1)
]
is_before (v ∷ before) ts t u once stand = elim (StandsBefore-cases v (before ++ t ∷ ts) u t stand) [
  | inl w ↦ inl w.0
  | inr w ↦ inr (is_before before ts t u once.1 w)
]

-- what a committed reader saw at a key shows of the appenders of two values
pub saw_value : (h : List Transaction) (r k t v : ℕ) (seen : List ℕ) → HasSeen h r k seen → Appends h t k v → Has seen v → WasSeen h t r
saw_value h r k t v seen has_seen appends has =
    record { key = k; value = v; seen = seen; appends = appends; has_seen = has_seen; has = has }

pub missed_value : (h : List Transaction) (r k u v : ℕ) (seen : List ℕ) → HasSeen h r k seen → Appends h u k v → ¬ Has seen v → WasMissed h r u
missed_value h r k u v seen has_seen appends has_not =
    record { key = k; value = v; seen = seen; appends = appends; has_seen = has_seen; has_not = has_not }

pub saw_both : (h : List Transaction) (r k t u v w : ℕ) (seen : List ℕ) → HasSeen h r k seen → Appends h t k v → Appends h u k w
    → StandsBefore seen v w → WereSeen h t u
saw_both h r k t u v w seen has_seen one other before = record {
  reader = r;
  key = k;
  first = v;
  second = w;
  seen = seen;
  appends_first = one;
  appends_second = other;
  has_seen = has_seen;
  before = before;
}

-- What is needed of a list of transactions: it holds those whose values a clean read of t saw, and those of the others
-- that it missed stand elsewhere.
pub record IsBase (h : List Transaction) (before : List ℕ) (t k : ℕ) (own seen : List ℕ) : Type 0 where
  pub once : IsOnce before
  pub not_t : ¬ Has before t
  pub seen_in : (u value : ℕ) → MayRun h u → u ≢ t → Appends h u k value → Has seen value → Has before u
  pub missed_out : (u value : ℕ) → Has before u → Appends h u k value → ¬ (¬ Has seen value)
  pub in_order : (u w first second : ℕ) → Has before u → Has before w → u ≢ w → Appends h u k first → Appends h w k second
      → StandsBefore seen first second → StandsBefore before u w

-- a clean read of t sees what those of its base append
pub saw_base : (h : List Transaction) (before : List ℕ) (t k : ℕ) (own seen : List ℕ) → AppendsOnce h → Reads h t k own seen
    → IsClean h t k own seen → IsBase h before t k own seen → seen ≡ appended_by h k before ++ own
saw_base h before t k own seen once reads clean is =
    clean.ends ∙ ap (λ xs. xs ++ own)
    (same_lists clean.base (appended_by h k before) (IsOnce-front clean.base own both_once)
    (appended_once h k before once is.once) have has stand)
  where
    both_once : IsOnce (clean.base ++ own)
    both_once = subst (λ xs. IsOnce xs) clean.ends clean.once

    own_are : (value : ℕ) → Has own value → Appends h t k value
    own_are value there =
        let it = read_own (operations_of h t) k [] own seen reads in
        subst (λ xs. Has xs value) (sym it.1) (Has-append_left own it.0 value there)

    base_seen : (value : ℕ) → Has clean.base value → Has seen value
    base_seen value there = subst (λ xs. Has xs value) (sym clean.ends) (Has-append_left clean.base own value there)

    comes : (value : ℕ) → Has clean.base value → (u : ℕ) × Has before u × Appends h u k value
    comes value there =
        let who = clean.written value (base_seen value there) in
        let differ : who.0 ≢ t = λ e. apart clean.base own value both_once there
        (clean.not_ahead value (base_seen value there) (subst (λ u. Appends h u k value) e who.1)) in
        (who.0, is.seen_in who.0 value who.2 differ who.1 (base_seen value there), who.1)

    have : (value : ℕ) → Has clean.base value → Has (appended_by h k before) value
    have value there = let who = comes value there in appended_has h k before who.0 value who.1 who.2

    has : (value : ℕ) → Has (appended_by h k before) value → Has clean.base value
    has value there =
        let who = has_appended h k before value there in
        let not_t : who.0 ≢ t = λ e. is.not_t (subst (λ u. Has before u) e who.1) in
        elim (has_or_not seen value) [
          | inl w ↦ elim (Has-append_cases clean.base own value (subst (λ xs. Has xs value) clean.ends w)) [
            | inl v ↦ v
            | inr v ↦ absurd (not_t (once.by_one who.0 t k value who.2 (own_are value v)))
          ]
          | inr w ↦ absurd (is.missed_out who.0 value who.1 who.2 w)
        ]

    stand : (first second : ℕ) → StandsBefore clean.base first second → StandsBefore (appended_by h k before) first second
    stand first second it =
        let parts = StandsBefore-has clean.base first second it in
        let one = comes first parts.0 in
        let other = comes second parts.1 in
        let in_seen : StandsBefore seen first second =
        subst (λ xs. StandsBefore xs first second) (sym clean.ends) (StandsBefore-back clean.base own first second it) in
        elim (cases_eq one.0 other.0) [
          | inl e ↦ elim (stand_somehow (appended k (operations_of h one.0)) first second one.2
              (subst (λ u. Appends h u k second) (sym e) other.2) (λ f. not_both seen first second clean.once in_seen
              (subst (λ x. StandsBefore seen x first) f (subst (λ x. StandsBefore seen first x) (sym f) in_seen)))) [
                | inl w ↦ in_its_order h k before one.0 first second one.1 w
                | inr w ↦ absurd (clean.in_order one.0 second first w in_seen)
              ]
          | inr differ ↦ as_these h k before one.0 other.0 first second
              (is.in_order one.0 other.0 first second one.1 other.1 differ one.2 other.2 in_seen) one.2 other.2
        ]

-- a read of t sees what those before it append
pub saw_those : (h : List Transaction) (order before ts : List ℕ) (t k : ℕ) (own seen : List ℕ) → AppendsOnce h → IsAlong h order
    → order ≡ before ++ t ∷ ts → Ended h t Committed → Reads h t k own seen → IsClean h t k own seen
    → seen ≡ appended_by h k before ++ own
saw_those h order before ts t k own seen once is same committed reads clean =
    saw_base h before t k own seen once reads clean (record {
      once = IsOnce-front before (t ∷ ts) order_once;
      not_t = λ there. apart before (t ∷ ts) t order_once there (inl refl);
      seen_in = λ u value may differ appends has.
          let stands : StandsBefore order u t = is.along u t may (is.committed t committed)
          (differ, inl (saw_value h t k u value seen has_seen appends has)) in
          is_before before ts t u order_once (subst (λ xs. StandsBefore xs u t) same stands);
      missed_out = λ u value there appends has_not.
          let differ : t ≢ u = λ e. apart before (t ∷ ts) u order_once there (inl e) in
          let stands : StandsBefore order t u = is.along t u (inl committed) (in_order u there)
          (differ, inr (inl (missed_value h t k u value seen has_seen appends has_not))) in
          not_both (before ++ t ∷ ts) u t order_once (stands_before before ts t u there) (subst (λ xs. StandsBefore xs t u) same stands);
      in_order = λ u w first second has_u has_w differ one other stand.
          let stands : StandsBefore order u w = is.along u w (is.may_run u (in_order u has_u)) (in_order w has_w)
          (differ, inr (inr (saw_both h t k u w first second seen has_seen one other stand))) in
          elim (stand_somehow before u w has_u has_w differ) [
            | inl x ↦ x
            | inr x ↦ absurd (not_both (before ++ t ∷ ts) u w order_once (subst (λ xs. StandsBefore xs u w) same stands)
                (StandsBefore-back before (t ∷ ts) w u x))
          ];
    })
  where
    order_once : IsOnce (before ++ t ∷ ts)
    order_once = subst (λ xs. IsOnce xs) same is.once

    has_seen : HasSeen h t k seen
    has_seen = (committed, (own, reads))

    in_order : (u : ℕ) → Has before u → Has order u
    in_order u there = subst (λ xs. Has xs u) (sym same) (Has-append_left before (t ∷ ts) u there)

-- the rest of the order runs after what comes before it
pub rest_along : (h : List Transaction) (order before ts : List ℕ) (c : Contents) → AppendsOnce h → UnknownOnlyAppend h → AllClean h
    → IsAlong h order → order ≡ before ++ ts → ((k : ℕ) → c k ≡ appended_by h k before) → IsRun h c ts
rest_along h order before [] c once unknown clean is same stands = tt
rest_along h order before (t ∷ ts) c once unknown clean is same stands = (
  sees_all (operations_of h t) c (λ k. appended_by h k before) (λ k. []) (λ k. stands k ∙ sym (append-nil (appended_by h k before)))
      sees,
  rest_along h order (before ++ t ∷ []) ts (after_all (operations_of h t) c) once unknown clean is
      (same ∙ sym (append_assoc before (t ∷ []) ts))
      (λ k. left_by (operations_of h t) c k ∙ ap (λ xs. xs ++ appended k (operations_of h t)) (stands k) ∙ sym (one_more k before)),
)
  where
    sees : (k : ℕ) (own seen : List ℕ) → Reads h t k own seen → seen ≡ appended_by h k before ++ own
    sees k own seen reads = elim (is.may_run t (subst (λ xs. Has xs t) (sym same) (Has-append_right before (t ∷ ts) t (inl refl)))) [
      | inl committed ↦ saw_those h order before ts t k own seen once is same committed reads (clean t k own seen committed reads)
      | inr other ↦ absurd (unknown t k own seen other reads)
    ]

    one_more : (k : ℕ) (us : List ℕ) → appended_by h k (us ++ t ∷ []) ≡ appended_by h k us ++ appended k (operations_of h t)
    one_more k [] = append-nil (appended k (operations_of h t))
    one_more k (u ∷ us) = ap (λ xs. appended k (operations_of h u) ++ xs) (one_more k us)
        ∙ sym (append_assoc (appended k (operations_of h u)) (appended_by h k us) (appended k (operations_of h t)))

pub along_enough : (h : List Transaction) (order : List ℕ) → AppendsOnce h → UnknownOnlyAppend h → AllClean h → IsAlong h order
    → IsSerialRun h order
along_enough h order once unknown clean is = record {
  once = is.once;
  committed = is.committed;
  may_run = is.may_run;
  run = rest_along h order [] order nothing once unknown clean is refl (λ k. refl);
}
