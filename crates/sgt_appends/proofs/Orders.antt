-- In each serial run, a transaction that precedes another comes first.
use Rattle.std.proofs.Common.{◌≡◌, ◌≢◌, ◌<◌, ◌==◌, ℕ, suc, cond, List, [], ◌∷◌, ◌++◌, refl, sym, ap, ◌∙◌, subst, inl, inr, arith, append_assoc, append-nil}
use Rattle.std.proofs.lemmas.Bool.{cases_eq, ne_eqb, eq-eqb}
use Rattle.sgt_appends.specs.declared.transaction.Transaction.{Transaction}
use Rattle.sgt_appends.specs.declared.transaction.Status.TheVariants.{Committed}
use Rattle.sgt_appends.specs.Lists.{Has, IsOnce, StandsBefore}
use Rattle.sgt_appends.specs.Runs.{Contents, nothing, after_all, SeesAll, operations_of, IsRun, Ended, IsSerialRun, IsSerializable}
use Rattle.sgt_appends.specs.Precedences.{appended, Appends, Reads, AppendsOnce, Precedes, IsPath}
use Rattle.sgt_appends.specs.Guides.{appended_by}
use Rattle.sgt_appends.proofs.Words.{Has-append_left, Has-append_right, Has-append_cases, stands_after, StandsBefore-cons}
use Rattle.sgt_appends.proofs.Running.{left_by, sees_read, appended_has, has_appended}

-- the index of t in the order, or its length if t is not in it
unfoldable pub place_of : List ℕ → ℕ → ℕ
place_of [] t = 0
place_of (u ∷ order) t = cond (u == t) 0 (suc (place_of order t))

pub here : (order : List ℕ) (u t : ℕ) → u ≡ t → place_of (u ∷ order) t ≡ 0
unfolding place_of
here order u t same = rw (eq-eqb u t same) refl

pub further : (order : List ℕ) (u t : ℕ) → u ≢ t → place_of (u ∷ order) t ≡ suc (place_of order t)
unfolding place_of
further order u t other = rw (ne_eqb u t other) refl

-- a read of t sees what those before t append, and what t has appended itself
pub record IsReadIn (h : List Transaction) (order : List ℕ) (base : List ℕ) (t k : ℕ) (own seen : List ℕ) : Type 0 where
  pub before : List ℕ
  pub more : List ℕ
  pub are : seen ≡ base ++ (appended_by h k before ++ own)
  pub whole : base ++ appended_by h k order ≡ seen ++ more
  pub earlier : (u : ℕ) → Has before u → place_of order u < place_of order t
  pub later : (u : ℕ) → u ≢ t → ¬ Has before u → place_of order t < place_of order u
  pub own_are : (value : ℕ) → Has own value → Appends h t k value
  pub within : (u : ℕ) → Has before u → Has order u

-- the read is of the transaction that comes first
read_first : (h : List Transaction) (c : Contents) (u : ℕ) (order : List ℕ) (t k : ℕ) (own seen : List ℕ)
    → SeesAll (operations_of h t) c → Reads h t k own seen → u ≡ t → IsReadIn h (u ∷ order) (c k) t k own seen
read_first h c u order t k own seen sees reads same =
    let it = sees_read (operations_of h t) c k (c k) [] own seen sees (sym (append-nil (c k))) reads in
    record {
      before = [];
      more = it.0 ++ appended_by h k order;
      are = it.1.are;
      whole = whole it.0 it.1.are it.1.whole_is;
      earlier = λ v none. absurd none;
      later = λ v differs none. rw (here order u t same, further order u v (λ e. differs (sym e ∙ same))) (omega arith);
      own_are = λ value there. subst (λ xs. Has xs value) (sym it.1.whole_is) (Has-append_left own it.0 value there);
      within = λ v none. absurd none;
    }
  where
    whole : (rest : List ℕ) → seen ≡ c k ++ own → appended k (operations_of h t) ≡ own ++ rest
        → c k ++ (appended k (operations_of h u) ++ appended_by h k order) ≡ seen ++ (rest ++ appended_by h k order)
    whole rest are whole_is =
        rw (same, whole_is, are)
        (ap (λ xs. c k ++ xs) (append_assoc own rest (appended_by h k order))
        ∙ sym (append_assoc (c k) own (rest ++ appended_by h k order)))

-- it is of a later one
read_next : (h : List Transaction) (c : Contents) (u : ℕ) (order : List ℕ) (t k : ℕ) (own seen : List ℕ) → u ≢ t
    → IsReadIn h order (after_all (operations_of h u) c k) t k own seen → IsReadIn h (u ∷ order) (c k) t k own seen
read_next h c u order t k own seen other it = record {
  before = u ∷ it.before;
  more = it.more;
  are = it.are ∙ over (it.before) own;
  whole = whole ∙ it.whole;
  earlier = earlier;
  later = λ v differs none. rw (further order u t other, further order u v (λ e. none (inl e)))
      (omega (arith, it.later v differs (λ there. none (inr there))));
  own_are = it.own_are;
  within = within;
}
  where
    over : (before own' : List ℕ) → after_all (operations_of h u) c k ++ (appended_by h k before ++ own')
        ≡ c k ++ ((appended k (operations_of h u) ++ appended_by h k before) ++ own')
    over before own' = rw (left_by (operations_of h u) c k)
        (append_assoc (c k) (appended k (operations_of h u)) (appended_by h k before ++ own')
        ∙ ap (λ xs. c k ++ xs) (sym (append_assoc (appended k (operations_of h u)) (appended_by h k before) own')))

    whole : c k ++ (appended k (operations_of h u) ++ appended_by h k order) ≡ after_all (operations_of h u) c k ++ appended_by h k order
    whole = rw (left_by (operations_of h u) c k) (sym (append_assoc (c k) (appended k (operations_of h u)) (appended_by h k order)))

    earlier : (v : ℕ) → Has (u ∷ it.before) v → place_of (u ∷ order) v < place_of (u ∷ order) t
    earlier v (inl same) = rw (here order u v same, further order u t other) (omega arith)
    earlier v (inr there) = elim (cases_eq u v) [
      | inl same ↦ rw (here order u v same, further order u t other) (omega arith)
      | inr differ ↦ rw (further order u v differ, further order u t other) (omega (arith, it.earlier v there))
    ]

    within : (v : ℕ) → Has (u ∷ it.before) v → Has (u ∷ order) v
    within v (inl same) = inl same
    within v (inr there) = inr (it.within v there)

later_one : (u t : ℕ) (order : List ℕ) → u ≢ t → Has (u ∷ order) t → Has order t
later_one u t order other (inl same) = absurd (other same)
later_one u t order other (inr later) = later

pub read_in : (h : List Transaction) (c : Contents) (order : List ℕ) (t k : ℕ) (own seen : List ℕ) → IsRun h c order → Has order t
    → Reads h t k own seen → IsReadIn h order (c k) t k own seen
read_in h c [] t k own seen run has reads = absurd has
read_in h c (u ∷ order) t k own seen run has reads = elim (cases_eq u t) [
  | inl same ↦ read_first h c u order t k own seen (subst (λ v. SeesAll (operations_of h v) c) same run.0) reads same
  | inr other ↦ read_next h c u order t k own seen other
      (read_in h (after_all (operations_of h u) c) order t k own seen run.1 (later_one u t order other has) reads)
]

-- a writer whose value was seen comes before
pub seen_first : (h : List Transaction) (order : List ℕ) (t u k value : ℕ) (own seen : List ℕ) → AppendsOnce h
    → IsReadIn h order [] u k own seen → Has seen value → Appends h t k value → t ≢ u → place_of order t < place_of order u
seen_first h order t u k value own seen once it has appends differ =
    elim (Has-append_cases (appended_by h k it.before) own value (subst (λ xs. Has xs value) it.are has)) [
      | inl w ↦
          let who = has_appended h k it.before value w in
          it.earlier t (subst (λ v. Has it.before v) (once.by_one who.0 t k value who.2 appends) who.1)
      | inr w ↦ absurd (differ (once.by_one t u k value appends (it.own_are value w)))
    ]

-- a writer whose value was not seen comes after
pub missed_later : (h : List Transaction) (order : List ℕ) (t u k value : ℕ) (own seen : List ℕ)
    → IsReadIn h order [] t k own seen → ¬ Has seen value → Appends h u k value → t ≢ u → place_of order t < place_of order u
missed_later h order t u k value own seen it has_not appends differ =
    it.later u (λ same. differ (sym same))
    (λ there. has_not (subst (λ xs. Has xs value) (sym it.are)
    (Has-append_left (appended_by h k it.before) own value (appended_has h k it.before u value there appends))))

-- of two values, that of the transaction that comes first is first
pub stands_first : (h : List Transaction) (order : List ℕ) (t u k first second : ℕ) (front back : List ℕ) → AppendsOnce h
    → IsOnce order → appended_by h k order ≡ front ++ first ∷ back → Has back second → Appends h t k first
    → Appends h u k second → t ≢ u → place_of order t < place_of order u
stands_first h [] t u k first second [] back once order_once same has one other differ = absurd (grind arith)
stands_first h [] t u k first second (x ∷ front) back once order_once same has one other differ = absurd (grind arith)
stands_first h (v ∷ order) t u k first second front back once order_once same has one other differ = elim (cases_eq v t) [
  | inl is ↦ rw (here order v t is, further order v u (λ e. differ (sym is ∙ e))) (omega arith)
  | inr is_not ↦
      let rest = stands_after (appended k (operations_of h v)) (appended_by h k order) front back first same
      (λ there. is_not (once.by_one v t k first there one)) in
      elim (cases_eq v u) [
        | inl is ↦
            let who = has_appended h k order second
            (subst (λ xs. Has xs second) (sym rest.1) (Has-append_right rest.0 (first ∷ back) second (inr has))) in
            absurd (order_once.0 (subst (λ w. Has order w) (once.by_one who.0 u k second who.2 other ∙ sym is) who.1))
        | inr neither ↦ rw (further order v t is_not, further order v u neither)
            (omega (arith, stands_first h order t u k first second rest.0 back once order_once.1 rest.1 has one other differ))
      ]
]

-- what precedes comes first
pub precedes_first : (h : List Transaction) (order : List ℕ) (t u : ℕ) → AppendsOnce h → IsSerialRun h order → Precedes h t u
    → place_of order t < place_of order u
precedes_first h order t u once serial precedes = elim precedes.1 [
  | inl w ↦ seen_first h order t u w.key w.value w.has_seen.1.0 w.seen once
      (read u w.key w.has_seen.1.0 w.seen w.has_seen.0 w.has_seen.1.1) w.has w.appends precedes.0
  | inr v ↦ elim v [
    | inl w ↦ missed_later h order t u w.key w.value w.has_seen.1.0 w.seen
        (read t w.key w.has_seen.1.0 w.seen w.has_seen.0 w.has_seen.1.1) w.has_not w.appends precedes.0
    | inr w ↦
        let it = read w.reader w.key w.has_seen.1.0 w.seen w.has_seen.0 w.has_seen.1.1 in
        stands_first h order t u w.key w.first w.second w.before.0 (w.before.1 ++ it.more) once serial.once
        (it.whole ∙ ap (λ xs. xs ++ it.more) w.before.2 ∙ append_assoc w.before.0 (w.first ∷ w.before.1) it.more)
        (Has-append_left w.before.1 it.more w.second w.before.3)
        w.appends_first w.appends_second precedes.0
  ]
]
  where
    read : (r k : ℕ) (own seen : List ℕ) → Ended h r Committed → Reads h r k own seen → IsReadIn h order [] r k own seen
    read r k own seen committed reads = read_in h nothing order r k own seen serial.run (serial.committed r committed) reads

-- the indices rise along a path
pub path_first : (h : List Transaction) (order : List ℕ) (t : ℕ) (others : List ℕ) (u : ℕ) → AppendsOnce h → IsSerialRun h order
    → IsPath h t others u → place_of order t < place_of order u
path_first h order t [] u once serial path = precedes_first h order t u once serial path
path_first h order t (v ∷ others) u once serial path =
    omega (arith, precedes_first h order t v once serial path.0, path_first h order v others u once serial path.1)

pub cycle_enough : (h : List Transaction) (t : ℕ) (others : List ℕ) → AppendsOnce h → IsPath h t others t → ¬ IsSerializable h
cycle_enough h t others once path run = omega (arith, path_first h run.0 t others t once run.1 path)

-- the transaction with the smaller index stands before
place_stand : (order : List ℕ) (t u : ℕ) → place_of order t < place_of order u → Has order u → StandsBefore order t u
place_stand [] t u less has = absurd has
place_stand (x ∷ order) t u less has = elim (cases_eq x u) [
  | inl e ↦ absurd (omega (arith, less, here order x u e))
  | inr differ ↦ elim (cases_eq x t) [
    | inl e ↦ ([], order, ap (λ y. y ∷ order) e, later has differ)
    | inr other ↦ StandsBefore-cons x order t u
        (place_stand order t u (omega (arith, less, further order x t other, further order x u differ)) (later has differ))
  ]
]
  where
    later : Has (x ∷ order) u → x ≢ u → Has order u
    later (inl e) differ = absurd (differ e)
    later (inr there) differ = there

pub precedes_obeyed : (h : List Transaction) (order : List ℕ) (t u : ℕ) → AppendsOnce h → IsSerialRun h order → Precedes h t u
    → Has order u → StandsBefore order t u
precedes_obeyed h order t u once serial precedes has = place_stand order t u (precedes_first h order t u once serial precedes) has
