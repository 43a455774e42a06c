-- In each run of committed reads the edges go forward.
use Rattle.std.proofs.Common.{◌≡◌, ◌≢◌, ◌<◌, ◌⊎◌, ℕ, List, [], ◌∷◌, ◌++◌, sym, ap, ◌∙◌, subst, inl, inr, arith}
use Rattle.sgt_appends.specs.declared.transaction.Transaction.{Transaction}
use Rattle.sgt_appends.specs.declared.transaction.Status.TheVariants.{Committed}
use Rattle.sgt_appends.specs.Lists.{Has, IsOnce, StandsBefore}
use Rattle.sgt_appends.specs.Runs.{operations_of, Ended}
use Rattle.sgt_appends.specs.Precedences.{Appends, Reads, AppendsOnce}
use Rattle.sgt_appends.specs.Guides.{appended_by}
use Rattle.sgt_appends.specs.Faults.{IsIncompatible, IsFault}
use Rattle.sgt_appends.proofs.Words.{Has-append_left, Has-append_right, Has-append_cases, StandsBefore-cons, StandsBefore-cases, StandsBefore-back, StandsBefore-has, IsOnce-front, not_both, stand_somehow}
use Rattle.sgt_appends.proofs.Running.{appended_has, has_appended}
use Rattle.sgt_appends.proofs.Orders.{place_of, here, further}
use Rattle.sgt_appends.proofs.Prefixes.{comparable}
use Rattle.sgt_appends.proofs.Along.{read_own, as_these}
use Rattle.sgt_levels.specs.Levels.{Follows}
use Rattle.sgt_levels.specs.Commits.{IsCommittedRead, IsCommittedRun, IsReadCommitted, IsCommittedPath, IsPartial}
use Rattle.sgt_levels.proofs.Times.{split_stands}
use Rattle.sgt_levels.proofs.Split.{IsSnapshotRead}
use Rattle.sgt_levels.proofs.Wrong.{read_once, no_fault_over}
use Rattle.sgt_levels.proofs.Fronts.{committed_prefix}

pub joins : (xs ys : List ℕ) (x y : ℕ) → Has xs x → Has ys y → StandsBefore (xs ++ ys) x y
joins [] ys x y has there = absurd has
joins (z ∷ xs) ys x y (inl same) there = ([], xs ++ ys, ap (λ w. w ∷ (xs ++ ys)) same, Has-append_right xs ys y there)
joins (z ∷ xs) ys x y (inr later) there = StandsBefore-cons z (xs ++ ys) x y (joins xs ys x y later there)

pub place_less : (order : List ℕ) (t u : ℕ) → IsOnce order → StandsBefore order t u → place_of order t < place_of order u
place_less [] t u once it = absurd (StandsBefore-has [] t u it).0
place_less (x ∷ order) t u once it = elim (StandsBefore-cases x order t u it) [
  | inl w ↦ rw (here order x t w.0, further order x u (λ e. once.0 (subst (λ y. Has order y) (sym e) w.1))) (omega arith)
  | inr w ↦
      let both = StandsBefore-has order t u w in
      rw (
        further order x t (λ e. once.0 (subst (λ y. Has order y) (sym e) both.0)),
        further order x u (λ e. once.0 (subst (λ y. Has order y) (sym e) both.1)),
      )
      (omega (arith, place_less order t u once.1 w))
]

-- a committed read sees what the front has left
pub over : (h : List Transaction) (order : List ℕ) (t k : ℕ) (own seen : List ℕ) → AppendsOnce h → (r : IsCommittedRead h order t k own seen)
    → Reads h t k own seen → IsSnapshotRead h r.front t k own seen
over h order t k own seen once r reads =
    let it = read_own (operations_of h t) k [] own seen reads in
    record {
      are = r.sees;
      own_are = λ value there. subst (λ xs. Has xs value) (sym it.1) (Has-append_left own it.0 value there);
      own_once = IsOnce-front own it.0 (subst (λ xs. IsOnce xs) it.1 (once.once t k));
      more = it.0;
      whole_is = it.1;
    }

saw_front : (h : List Transaction) (front : List ℕ) (t r k value : ℕ) (own seen : List ℕ) → AppendsOnce h
    → IsSnapshotRead h front r k own seen → Has seen value → Appends h t k value → Has front t ⊎ ((t ≡ r) × Has own value)
saw_front h front t r k value own seen once it has appends =
    elim (Has-append_cases (appended_by h k front) own value (subst (λ xs. Has xs value) it.are has)) [
      | inl w ↦
          let who = has_appended h k front value w in
          inl (subst (λ v. Has front v) (once.by_one who.0 t k value who.2 appends) who.1)
      | inr w ↦ inr (once.by_one t r k value appends (it.own_are value w), w)
    ]

missed_front : (h : List Transaction) (front : List ℕ) (u r k value : ℕ) (own seen : List ℕ)
    → IsSnapshotRead h front r k own seen → ¬ Has seen value → Appends h u k value → ¬ Has front u
missed_front h front u r k value own seen it has_not appends there =
    has_not (subst (λ xs. Has xs value) (sym it.are) (Has-append_left (appended_by h k front) own value (appended_has h k front u value there appends)))

in_front : (h : List Transaction) (order : List ℕ) (t k : ℕ) (own seen : List ℕ) (r : IsCommittedRead h order t k own seen) (u : ℕ)
    → Has r.front u → Has order u
in_front h order t k own seen r u there = subst (λ xs. Has xs u) (sym r.splits) (Has-append_left r.front r.back u there)

-- of one in the front and one that is not, the one stands before the other
crosses : (h : List Transaction) (order : List ℕ) (r k : ℕ) (own seen : List ℕ) (it : IsCommittedRead h order r k own seen) (t u : ℕ)
    → Has it.front t → Has order u → ¬ Has it.front u → StandsBefore order t u
crosses h order r k own seen it t u has_t has_u not_u =
    elim (Has-append_cases it.front it.back u (subst (λ xs. Has xs u) it.splits has_u)) [
      | inl w ↦ absurd (not_u w)
      | inr w ↦ subst (λ xs. StandsBefore xs t u) (sym it.splits) (joins it.front it.back t u has_t w)
    ]

pub committed_follows : (h : List Transaction) (order : List ℕ) (t u : ℕ) → AppendsOnce h → IsCommittedRun h order → Has order u
    → Follows h t u → StandsBefore order t u
committed_follows h order t u once run has_u follows = elim follows.1 [
  | inl w ↦
      let in_u = run.committed u w.has_seen.0 in
      let it = run.reads u w.key w.has_seen.1.0 w.seen in_u w.has_seen.1.1 in
      elim (saw_front h it.front t u w.key w.value w.has_seen.1.0 w.seen once
      (over h order u w.key w.has_seen.1.0 w.seen once it w.has_seen.1.1) w.has w.appends) [
        | inl x ↦ crosses h order u w.key w.has_seen.1.0 w.seen it t u x has_u it.not_yet
        | inr x ↦ absurd (follows.0 x.0)
      ]
  | inr v ↦ elim v [
    | inl w ↦
        let in_r = run.committed w.reader w.has_seen.0 in
        let it = run.reads w.reader w.key w.has_seen.1.0 w.seen in_r w.has_seen.1.1 in
        were w.reader w.key w.first w.second w.has_seen.1.0 w.seen it
        (over h order w.reader w.key w.has_seen.1.0 w.seen once it w.has_seen.1.1) w.appends_first w.appends_second w.before
    | inr w ↦
        let in_r = run.committed w.reader w.has_seen.0 in
        let it = run.reads w.reader w.key w.has_seen.1.0 w.seen in_r w.has_seen.1.1 in
        late w.reader w.key w.first w.second w.has_seen.1.0 w.seen in_r it
        (over h order w.reader w.key w.has_seen.1.0 w.seen once it w.has_seen.1.1) w.appends_first w.appends_second w.has w.has_not
  ]
]
  where
    were : (r k first second : ℕ) (own seen : List ℕ) (it : IsCommittedRead h order r k own seen) → IsSnapshotRead h it.front r k own seen
        → Appends h t k first → Appends h u k second → StandsBefore seen first second → StandsBefore order t u
    were r k first second own seen it sees one other stand =
        let both = StandsBefore-has seen first second stand in
        elim (saw_front h it.front t r k first own seen once sees both.0 one) [
          | inl x ↦ elim (saw_front h it.front u r k second own seen once sees both.1 other) [
            | inl y ↦ elim (stand_somehow it.front t u x y follows.0) [
              | inl z ↦ subst (λ xs. StandsBefore xs t u) (sym it.splits) (StandsBefore-back it.front it.back t u z)
              | inr z ↦ absurd (not_both seen first second
                  (read_once h it.front r k own seen once
                  (IsOnce-front it.front it.back (subst (λ xs. IsOnce xs) it.splits run.once)) it.not_yet sees) stand
                  (subst (λ xs. StandsBefore xs second first) (sym sees.are)
                  (StandsBefore-back (appended_by h k it.front) own second first (as_these h k it.front u t second first z other one))))
            ]
            | inr y ↦ crosses h order r k own seen it t u x has_u (λ there. it.not_yet (subst (λ z. Has it.front z) y.0 there))
          ]
          | inr x ↦ elim (split_stands (appended_by h k it.front) own first second (subst (λ xs. StandsBefore xs first second) sees.are stand)) [
            | inl y ↦
                let who = has_appended h k it.front first y in
                absurd (it.not_yet (subst (λ z. Has it.front z) (once.by_one who.0 r k first who.2 (sees.own_are first x.1)) who.1))
            | inr y ↦ absurd (follows.0 (x.0 ∙ sym (once.by_one u r k second other (sees.own_are second y))))
          ]
        ]

    some : (xs : List ℕ) (x : ℕ) → Has xs x → xs ≢ []
    some [] x has = absurd has
    some (y ∷ xs) x has = λ e. grind (arith, e)

    late : (r k first second : ℕ) (own seen : List ℕ) → Has order r → (it : IsCommittedRead h order r k own seen)
        → IsSnapshotRead h it.front r k own seen
        → Appends h t k first → Appends h u k second → Has seen first → ¬ Has seen second → StandsBefore order t u
    late r k first second own seen in_r it sees one other has has_not =
        let not_u : ¬ Has it.front u = missed_front h it.front u r k second own seen sees has_not other in
        elim (saw_front h it.front t r k first own seen once sees has one) [
          | inl x ↦ crosses h order r k own seen it t u x has_u not_u
          | inr x ↦ elim (stand_somehow order t u (subst (λ z. Has order z) (sym x.0) in_r) has_u follows.0) [
            | inl y ↦ y
            | inr y ↦ absurd (not_u (it.locked u second (some own first x.1) (subst (λ z. StandsBefore order u z) x.0 y) other))
          ]
        ]

seen_in : (h : List Transaction) (order : List ℕ) (t r k value : ℕ) (own seen : List ℕ) → AppendsOnce h → IsCommittedRun h order
    → Ended h r Committed → Reads h r k own seen → Has seen value → Appends h t k value → Has order t
seen_in h order t r k value own seen once run ended reads has appends =
    let it = run.reads r k own seen (run.committed r ended) reads in
    elim (saw_front h it.front t r k value own seen once (over h order r k own seen once it reads) has appends) [
      | inl x ↦ in_front h order r k own seen it t x
      | inr x ↦ subst (λ w. Has order w) (sym x.0) (run.committed r ended)
    ]

pub follows_in : (h : List Transaction) (order : List ℕ) (t u : ℕ) → AppendsOnce h → IsCommittedRun h order → Follows h t u → Has order t
follows_in h order t u once run follows = elim follows.1 [
  | inl w ↦ seen_in h order t u w.key w.value w.has_seen.1.0 w.seen once run w.has_seen.0 w.has_seen.1.1 w.has w.appends
  | inr v ↦ elim v [
    | inl w ↦ seen_in h order t w.reader w.key w.first w.has_seen.1.0 w.seen once run w.has_seen.0 w.has_seen.1.1
        (StandsBefore-has w.seen w.first w.second w.before).0 w.appends_first
    | inr w ↦ seen_in h order t w.reader w.key w.first w.has_seen.1.0 w.seen once run w.has_seen.0 w.has_seen.1.1 w.has w.appends_first
  ]
]

path_in : (h : List Transaction) (order : List ℕ) (t : ℕ) (others : List ℕ) (u : ℕ) → AppendsOnce h → IsCommittedRun h order
    → IsCommittedPath h t others u → Has order t
path_in h order t [] u once run path = follows_in h order t u once run path
path_in h order t (v ∷ others) u once run path = follows_in h order t v once run path.0

path_first : (h : List Transaction) (order : List ℕ) (t : ℕ) (others : List ℕ) (u : ℕ) → AppendsOnce h → IsCommittedRun h order
    → Has order u → IsCommittedPath h t others u → place_of order t < place_of order u
path_first h order t [] u once run has_u path = place_less order t u run.once (committed_follows h order t u once run has_u path)
path_first h order t (v ∷ others) u once run has_u path =
    omega (
      arith,
      place_less order t v run.once (committed_follows h order t v once run (path_in h order v others u once run path.1) path.0),
      path_first h order v others u once run has_u path.1,
    )

pub committed_cycle : (h : List Transaction) (t : ℕ) (others : List ℕ) → AppendsOnce h → IsCommittedPath h t others t → ¬ IsReadCommitted h
committed_cycle h t others once path it =
    omega (arith, path_first h it.0 t others t once it.1 (path_in h it.0 t others t once it.1 path) path)

pub committed_fault : (h : List Transaction) (t k : ℕ) (own seen : List ℕ) → AppendsOnce h → Ended h t Committed
    → Reads h t k own seen → IsFault h t k own seen ⊎ IsPartial h t k seen → ¬ IsReadCommitted h
committed_fault h t k own seen once committed reads fault run =
    let it = run.1.reads t k own seen (run.1.committed t committed) reads in
    let sees = over h run.0 t k own seen once it reads in
    elim fault [
      | inl w ↦ no_fault_over h it.front t k own seen once committed
          (IsOnce-front it.front it.back (subst (λ xs. IsOnce xs) it.splits run.1.once)) it.not_yet
          (λ u there. run.1.may_run u (in_front h run.0 t k own seen it u there)) sees
          (λ other. compatible (committed_prefix h run.0 t k own seen run.1.once (run.1.committed t committed) it sees) other) w
      | inr w ↦ elim (saw_front h it.front w.0 t k w.1 own seen once sees w.6 w.4) [
        | inl x ↦ missed_front h it.front w.0 t k w.2 own seen sees w.7 w.5 x
        | inr x ↦ w.3 x.0
      ]
    ]
  where
    compatible : (rest : List ℕ) × (appended_by h k run.0 ≡ seen ++ rest) → ¬ IsIncompatible h k seen
    compatible one (u, list, has_seen, not_one, not_other) =
        let read = run.1.reads u k has_seen.1.0 list (run.1.committed u has_seen.0) has_seen.1.1 in
        let two = committed_prefix h run.0 u k has_seen.1.0 list run.1.once (run.1.committed u has_seen.0) read
        (over h run.0 u k has_seen.1.0 list once read has_seen.1.1) in
        elim (comparable (appended_by h k run.0) seen one.0 list two.0 one.1 two.1) [
          | inl v ↦ not_one v
          | inr v ↦ not_other v
        ]
