-- Begins and commits along the edges are a snapshot run.
use Rattle.std.proofs.Common.{◌≡◌, ◌≢◌, ◌⊎◌, ℕ, List, [], ◌++◌, sym, ap, subst, inl, inr, arith, append-nil}
use Rattle.sgt_appends.specs.declared.transaction.Transaction.{Transaction}
use Rattle.sgt_appends.specs.declared.transaction.Status.TheVariants.{Committed}
use Rattle.sgt_appends.specs.Lists.{Has}
use Rattle.sgt_appends.specs.Runs.{SeesAll, operations_of, Ended}
use Rattle.sgt_appends.specs.Precedences.{Appends, Reads, HasSeen, AppendsOnce, WasMissed, WereSeen}
use Rattle.sgt_appends.specs.Guides.{appended_by}
use Rattle.sgt_appends.specs.Orders.{UnknownOnlyAppend, AllClean}
use Rattle.sgt_appends.proofs.Words.{stand_somehow}
use Rattle.sgt_appends.proofs.Running.{sees_all}
use Rattle.sgt_appends.proofs.Guided.{rises_once}
use Rattle.sgt_appends.proofs.Along.{has_or_not, IsBase, saw_base, saw_value, missed_value, saw_both}
use Rattle.sgt_levels.specs.Snapshots.{before_time, IsSnapshotRun}
use Rattle.sgt_levels.specs.Levels.{WasLate, Depends, IsSplitAlong, IsAlongSplit, AreDecided, OneWasSeen}
use Rattle.sgt_levels.proofs.Times.{in_before, of_before, before_rises, stands_by}

-- a reader saw a value of t, and none yet of u at the same key
pub saw_first : (h : List Transaction) (r k t u v w : ℕ) (seen : List ℕ) → HasSeen h r k seen → Appends h t k v → Appends h u k w
    → Has seen v → ¬ Has seen w → WasLate h t u
saw_first h r k t u v w seen has_seen one other has has_not = record {
  reader = r;
  key = k;
  first = v;
  second = w;
  seen = seen;
  appends_first = one;
  appends_second = other;
  has_seen = has_seen;
  has = has;
  has_not = has_not;
}

snapshot_base : (h : List Transaction) (order : List ℕ) (begin commit : ℕ → ℕ) (t k : ℕ) (own seen : List ℕ)
    → IsSplitAlong h order begin commit → Ended h t Committed → Reads h t k own seen
    → IsBase h (before_time commit (begin t) order) t k own seen
snapshot_base h order begin commit t k own seen is committed reads = record {
  once = rises_once commit (before_time commit (begin t) order) (before_rises commit (begin t) order is.rises);
  not_t = λ there.
      let it = of_before commit (begin t) order t there in
      omega (arith, it.1, is.begins t it.0);
  seen_in = λ u value may differ appends has.
      let it = is.comes u t may (is.committed t committed)
      (differ, inl (saw_value h t k u value seen (committed, (own, reads)) appends has)) in
      in_before commit (begin t) order u it.0 it.1;
  missed_out = λ u value there appends has_not.
      let it = of_before commit (begin t) order u there in
      let missed : WasMissed h t u = missed_value h t k u value seen (committed, (own, reads)) appends has_not in
      let differ : t ≢ u = λ e. omega (arith, it.1, is.begins u it.0, ap begin e) in
      omega (arith, it.1, is.misses t u (is.committed t committed) it.0 (differ, missed));
  in_order = λ u w first second has_u has_w differ one other stand.
      let in_u = of_before commit (begin t) order u has_u in
      let in_w = of_before commit (begin t) order w has_w in
      let were : WereSeen h u w = saw_both h t k u w first second seen (committed, (own, reads)) one other stand in
      let it = is.comes u w (is.may_run u in_u.0) in_w.0 (differ, inr were) in
      stands_by commit (before_time commit (begin t) order) u w (before_rises commit (begin t) order is.rises) has_u has_w
      (omega (arith, it.1, is.begins w in_w.0));
}

pub split_enough : (h : List Transaction) (order : List ℕ) (begin commit : ℕ → ℕ) → AppendsOnce h → UnknownOnlyAppend h
    → AllClean h → IsSplitAlong h order begin commit → IsSnapshotRun h order begin commit
split_enough h order begin commit once unknown clean is = record {
  rises = is.rises;
  committed = is.committed;
  may_run = is.may_run;
  begins = is.begins;
  sees = sees;
  apart = is.apart;
}
  where
    reads_are : (t : ℕ) → Has order t → (k : ℕ) (own seen : List ℕ) → Reads h t k own seen
        → seen ≡ appended_by h k (before_time commit (begin t) order) ++ own
    reads_are t has k own seen reads = elim (is.may_run t has) [
      | inl committed ↦ saw_base h (before_time commit (begin t) order) t k own seen once reads (clean t k own seen committed reads)
          (snapshot_base h order begin commit t k own seen is committed reads)
      | inr other ↦ absurd (unknown t k own seen other reads)
    ]

    sees : (t : ℕ) → Has order t → SeesAll (operations_of h t) (λ k. appended_by h k (before_time commit (begin t) order))
    sees t has = sees_all (operations_of h t) (λ k. appended_by h k (before_time commit (begin t) order))
        (λ k. appended_by h k (before_time commit (begin t) order)) (λ k. [])
        (λ k. sym (append-nil (appended_by h k (before_time commit (begin t) order)))) (reads_are t has)

pub decided_enough : (h : List Transaction) (order : List ℕ) (begin commit : ℕ → ℕ) → AppendsOnce h → UnknownOnlyAppend h
    → AllClean h → AreDecided h order → IsAlongSplit h order begin commit → IsSnapshotRun h order begin commit
decided_enough h order begin commit once unknown clean decided is = split_enough h order begin commit once unknown clean (record {
  rises = is.rises;
  committed = is.committed;
  may_run = is.may_run;
  begins = is.begins;
  comes = λ t u may has_u it. is.depends t u may has_u (elim it.1 [
    | inl w ↦ inl (it.0, inl w)
    | inr w ↦ inl (it.0, inr (inl w))
  ]);
  misses = is.misses;
  apart = λ t u k v w differ has_t has_u one other. elim (decided t u k v w differ has_t has_u one other) [
    | inl x ↦ inl (is.depends t u (is.may_run t has_t) has_u x).1
    | inr x ↦ inr (is.depends u t (is.may_run u has_u) has_t x).1
  ];
})

pub seen_decided : (h : List Transaction) (t u k v w : ℕ) → AppendsOnce h → t ≢ u → Appends h t k v → Appends h u k w
    → OneWasSeen h t u k v w → Depends h t u ⊎ Depends h u t
seen_decided h t u k v w once differ one other it = elim (has_or_not it.seen v) [
  | inl has_v ↦ elim (has_or_not it.seen w) [
    | inl has_w ↦ elim (stand_somehow it.seen v w has_v has_w (λ e. differ (once.by_one t u k w (subst (λ x. Appends h t k x) e one) other))) [
      | inl x ↦ inl (inl (differ, inr (inl (saw_both h it.reader k t u v w it.seen it.has_seen one other x))))
      | inr x ↦ inr (inl ((λ e. differ (sym e)), inr (inl (saw_both h it.reader k u t w v it.seen it.has_seen other one x))))
    ]
    | inr not_w ↦ inl (inl (differ, inr (inr (saw_first h it.reader k t u v w it.seen it.has_seen one other has_v not_w))))
  ]
  | inr not_v ↦ inr (inl (
    (λ e. differ (sym e)),
    inr (inr (saw_first h it.reader k u t w v it.seen it.has_seen other one (then not_v it.has) not_v)),
  ))
]
  where
    then : (¬ Has it.seen v) → Has it.seen v ⊎ Has it.seen w → Has it.seen w
    then never (inl x) = absurd (never x)
    then never (inr x) = x
