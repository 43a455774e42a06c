-- First conflicts, one operation further, and of the whole history.
use Rattle.std.proofs.Common.{◌≡◌, ◌≢◌, ◌<◌, ◌≤◌, ◌+◌, ◌⊎◌, ℕ, zero, suc, List, [], ◌∷◌, ◌++◌, Option, Some, None, IsSome, refl, sym, ap, ◌∙◌, subst, inl, inr, arith}
use Rattle.std.specs.Prelude.{length, slice_get, slice_index_or}
use Rattle.std.specs.Option.{unwrap_or}
use Rattle.std.proofs.lemmas.Bool.{cases_eq, cases_lt}
use Rattle.std.proofs.lemmas.Grind.{common_steps}
use Rattle.sgt_classes.specs.declared.operation.Operation.{Operation}
use Rattle.sgt_classes.specs.declared.operation.Action.{Action}
use Rattle.sgt_classes.specs.declared.operation.Action.TheVariants.{Read, Write}
use Rattle.sgt_classes.specs.declared.graph.Edge.{Edge}
use Rattle.sgt_classes.specs.declared.first_accesses.Counted.{Counted}
use Rattle.sgt_classes.specs.declared.first_accesses.Counted.TheVariants.{Any, Writes}
use Rattle.sgt_classes.specs.Histories.{Does, Uses, item_of}
use Rattle.sgt_classes.specs.Serializability.{Conflict, IsProjectionInPlace}
use Rattle.sgt_classes.specs.Seen.{HasEdge, IsConflictBy, height}
use Rattle.sgt_classes.specs.FirstConflicts.{IsNoLater, IsReportedBefore, IsFirstConflict, AreFirstConflicts}
use Rattle.sgt_classes.specs.FirstAccesses.{IsAccess, IsFirstAccess, IsLastFirst, IsSomeAccess, AreRivals, IsRepeated, IsFirstBy, ArePairs, AreConflicts, IsFirstRival, AreReportedAbove}
use Rattle.sgt_classes.proofs.Places.{before_next, uses_item, uses_within, there, does_at}
use Rattle.sgt_classes.proofs.Sources.{same_doer, same_action}
use Rattle.sgt_classes.proofs.Edges.{pushed, has_kept, has_new}
use Rattle.sgt_classes.proofs.Projection.{edge_by, conflict_by}

-- more of the earlier ones may come
pub conflicts_lower : (q : List Operation) (p n m : ℕ) (es : List Edge) (pairs : ℕ × ℕ → Option ℕ) → m ≤ n → AreConflicts q p n es pairs
    → AreConflicts q p m es pairs
conflicts_lower q p n m es pairs most are = record {
  are_first = are.are_first;
  are_reported = are.are_reported;
  are_pairs = are.are_pairs;
  order = are.order;
  reportable = λ k e at. elim (are.reportable k e at) [
    | inl before ↦ inl before
    | inr here ↦ inr (here.0, omega (arith, most, here.1))
  ];
}

-- one more is reported
pub conflicts_reported : (q : List Operation) (p i t u : ℕ) (es : List Edge) (pairs pairs' : ℕ × ℕ → Option ℕ) → t ≢ u → i < p
    → Conflict q i t p u → ((k : ℕ) → k < i → ¬ Conflict q k t p u) → pairs (t, u) ≡ None → pairs' (t, u) ≡ Some p
    → ((r : ℕ × ℕ) → r ≢ (t, u) → pairs' r ≡ pairs r) → AreConflicts q p (i + 1) es pairs
    → AreConflicts q p i (es ++ record { from = t; to = u; earlier = i; later = p } ∷ []) pairs'
conflicts_reported q p i t u es pairs pairs' differ order conflict no_earlier none here others are = record {
  are_first = λ k e at. elim (pushed es new e k at) [
    | inl w ↦ are.are_first k e w.1
    | inr w ↦ subst (λ f. IsFirstBy q f) w.1 (record {
      conflict = record { differ = differ; order = order; conflict = conflict };
      first = first;
    })
  ];
  are_reported = λ j v k w less before apart made. has_kept es new v w (are.are_reported j v k w less before apart made);
  are_pairs = are_pairs;
  order = reported_before;
  reportable = λ k e at. elim (pushed es new e k at) [
    | inl w ↦ elim (are.reportable k e w.1) [
      | inl before ↦ inl before
      | inr same ↦ inr (same.0, omega (arith, same.1))
    ]
    | inr w ↦ subst (λ (f : Edge). (f.later < p) ⊎ ((f.later ≡ p) × (i ≤ f.earlier))) w.1 (inr (refl, omega arith))
  ];
}
  where
    new : Edge
    new = record { from = t; to = u; earlier = i; later = p }

    without_result : ¬ HasEdge es t u
    without_result has = let some = (are.are_pairs t u).1 has in grind (arith, common_steps, none, some)

    first : (f : Edge) → IsConflictBy q f → f.from ≡ t → f.to ≡ u → IsNoLater new f
    first f made from to =
        let between : Conflict q f.earlier t f.later u =
        subst (λ w. Conflict q f.earlier t f.later w) to (subst (λ v. Conflict q f.earlier v f.later f.to) from made.conflict) in
        elim (cases_lt f.later p) [
          | inl before ↦ absurd (without_result (are.are_reported f.earlier t f.later u before made.order differ between))
          | inr most ↦ elim (cases_eq p f.later) [
            | inl same ↦ elim (cases_lt f.earlier i) [
              | inl less ↦ absurd (no_earlier f.earlier less (subst (λ n. Conflict q f.earlier t n u) (sym same) between))
              | inr least ↦ inr (same, least)
            ]
            | inr apart ↦ inl (omega (arith, most, apart))
          ]
        ]

    other_pair : (v w : ℕ) → ◌≢◌ {A = ℕ × ℕ} (v, w) (t, u) → ¬ ((t ≡ v) × (u ≡ w))
        → (IsSome (pairs' (v, w)) → HasEdge (es ++ new ∷ []) v w) × (HasEdge (es ++ new ∷ []) v w → IsSome (pairs' (v, w)))
    other_pair v w apart not_new = (
      λ some. has_kept es new v w ((are.are_pairs v w).0 (subst (λ o. IsSome o) (others (v, w) apart) some)),
      λ has. subst (λ o. IsSome o) (sym (others (v, w) apart)) (elim (pushed es new has.1 has.0 has.2) [
        | inl old ↦ (are.are_pairs v w).1 (has.0, has.1, old.1, has.3, has.4)
        | inr one ↦ absurd (not_new (ap (λ (e : Edge). e.from) one.1 ∙ has.3, ap (λ (e : Edge). e.to) one.1 ∙ has.4))
      ]),
    )

    are_pairs : ArePairs (es ++ new ∷ []) pairs'
    are_pairs v w = elim (cases_eq v t) [
      | inl same ↦ elim (cases_eq w u) [
        | inl its ↦ (
          λ some. subst (λ n. HasEdge (es ++ new ∷ []) n w) (sym same)
              (subst (λ n. HasEdge (es ++ new ∷ []) t n) (sym its) (has_new es new)),
          λ has. subst (λ n. IsSome (pairs' (n, w))) (sym same) (subst (λ n. IsSome (pairs' (t, n))) (sym its)
              (subst (λ o. IsSome o) (sym here) refl)),
        )
        | inr apart ↦ other_pair v w (λ one. apart (ap (λ (r : ℕ × ℕ). r.1) one)) (λ one. apart (sym one.1))
      ]
      | inr apart ↦ other_pair v w (λ one. apart (ap (λ (r : ℕ × ℕ). r.0) one)) (λ one. apart (sym one.0))
    ]

    reported_before : (j k : ℕ) (e f : Edge) → j < k → slice_get (es ++ new ∷ []) j ≡ Some e → slice_get (es ++ new ∷ []) k ≡ Some f
        → IsReportedBefore e f
    reported_before j k e f less at other = elim (pushed es new e j at) [
      | inl old ↦ elim (pushed es new f k other) [
        | inl its ↦ are.order j k e f less old.1 its.1
        | inr one ↦ subst (λ g. IsReportedBefore e g) one.1 (elim (are.reportable j e old.1) [
          | inl before ↦ inl before
          | inr same ↦ inr (same.0, omega (arith, same.1))
        ])
      ]
      | inr one ↦ elim (pushed es new f k other) [
        | inl its ↦ absurd (omega (arith, less, one.0, its.0))
        | inr its ↦ absurd (omega (arith, less, one.0, its.0))
      ]
    ]

-- where there is a first access there is none before it
no_access : (kind : Counted) (q : List Operation) (p t x : ℕ) → ((k : ℕ) → k < p → ¬ IsFirstAccess kind q k t x) → (n i : ℕ) → i < n → i < p
    → ¬ IsAccess kind q i t x
no_access kind q p t x none zero i less within access = omega (arith, less)
no_access kind q p t x none (suc n) i less within access =
    none i within (access, λ k before. no_access kind q p t x none n k (omega (arith, less, before)) (omega (arith, within, before)))

-- who has done a use
use_does : (q : List Operation) (p u x : ℕ) → Uses q p u x → (b : Action) × Does q p u b
use_does q p u x (inl read) = (Read x, read)
use_does q p u x (inr wrote) = (Write x, wrote)

-- all conflicts of the operation are reported
pub conflicts_after : (kind : Counted) (q : List Operation) (p n x : ℕ) (es : List Edge) (pairs : ℕ × ℕ → Option ℕ)
    → AreConflicts q p n es pairs → AreRivals q p x kind
    → ((u k t : ℕ) (b : Action) → Does q p u b → k < p → t ≢ u → IsFirstAccess kind q k t x → HasEdge es t u)
    → AreConflicts q (p + 1) (p + 1) es pairs
conflicts_after kind q p n x es pairs are rivals reported = record {
  are_first = are.are_first;
  are_reported = λ i t k u less order differ conflict. elim (before_next k p less) [
    | inl earlier ↦ are.are_reported i t k u earlier order differ conflict
    | inr same ↦ here i t u (subst (λ m. i < m) same order) differ (subst (λ m. Conflict q i t m u) same conflict)
  ];
  are_pairs = are.are_pairs;
  order = are.order;
  reportable = λ k e at. elim (are.reportable k e at) [
    | inl before ↦ inl (omega (arith, before))
    | inr same ↦ inl (omega (arith, same.0))
  ];
}
  where
    here : (i t u : ℕ) → i < p → t ≢ u → Conflict q i t p u → HasEdge es t u
    here i t u less differ conflict = by (pairs (t, u)) refl
      where
        does : (b : Action) × Does q p u b
        does = use_does q p u conflict.0 conflict.2

        by : (o : Option ℕ) → pairs (t, u) ≡ o → HasEdge es t u
        by (Some m) is = (are.are_pairs t u).0 (subst (λ o. IsSome o) (sym is) refl)
        by None is = absurd (no_access kind q p t x
            (λ k within first. let some = (are.are_pairs t u).1 (reported u k t does.0 does.1 within differ first) in
            grind (arith, common_steps, is, some))
            (i + 1) i (omega arith) less ((rivals i t u does.0 does.1).0 conflict))

-- the operation conflicts with none
pub conflicts_end : (q : List Operation) (p n w : ℕ) (a : Action) (es : List Edge) (pairs : ℕ × ℕ → Option ℕ) → Does q p w a
    → item_of a ≡ None → AreConflicts q p n es pairs → AreConflicts q (p + 1) (p + 1) es pairs
conflicts_end q p n w a es pairs does none are = record {
  are_first = are.are_first;
  are_reported = λ i t k u less order differ conflict. elim (before_next k p less) [
    | inl earlier ↦ are.are_reported i t k u earlier order differ conflict
    | inr same ↦
        let used : Uses q p u conflict.0 = subst (λ m. Uses q m u conflict.0) same conflict.2 in
        let at = (uses_item q p (record { transaction = w; action = a }) u conflict.0 does used).1 in
        absurd (grind (arith, common_steps, at, none))
  ];
  are_pairs = are.are_pairs;
  order = are.order;
  reportable = λ k e at. elim (are.reportable k e at) [
    | inl before ↦ inl (omega (arith, before))
    | inr same ↦ inl (omega (arith, same.0))
  ];
}

-- a read conflicts with the writes of its item
pub rivals_read : (q : List Operation) (p w x : ℕ) → Does q p w (Read x) → AreRivals q p x Writes
rivals_read q p w x does i t u b at = (
  λ conflict.
      let its : x ≡ conflict.0 = let one = (uses_item q p (record { transaction = w; action = Read x }) u conflict.0 does conflict.2).1 in
      grind (arith, common_steps, one) in
      elim conflict.3 [
        | inl wrote ↦ subst (λ y. Does q i t (Write y)) (sym its) wrote
        | inr wrote ↦ absurd (grind (arith, common_steps, same_action q p w u _ _ does wrote))
      ],
  λ wrote. (x, inr wrote, inl (subst (λ v. Does q p v (Read x)) (same_doer q p w u _ _ does at) does), inl wrote),
)

-- a write conflicts with the uses of its item
pub rivals_write : (q : List Operation) (p w x : ℕ) → Does q p w (Write x) → AreRivals q p x Any
rivals_write q p w x does i t u b at = (
  λ conflict.
      let its : x ≡ conflict.0 = let one = (uses_item q p (record { transaction = w; action = Write x }) u conflict.0 does conflict.2).1 in
      grind (arith, common_steps, one) in
      subst (λ y. Uses q i t y) (sym its) conflict.1,
  λ used. let mine = subst (λ v. Does q p v (Write x)) (same_doer q p w u _ _ does at) does in (x, used, inr mine, inr mine),
)

-- a read repeats a use
pub repeated_read : (q : List Operation) (p w x s : ℕ) (o : Option ℕ) → s ≡ unwrap_or o 0 → Does q p w (Read x)
    → IsSomeAccess Any q p w x o → IsRepeated q p x Writes s
repeated_read q p w x s None same does none i t u b less at wrote = absurd (omega (arith, same, less))
repeated_read q p w x s (Some m) same does is i t u b less at wrote =
    let used : Uses q s u x = subst (λ n. Uses q n u x) (sym same) (subst (λ v. Uses q m v x) (same_doer q p w u _ _ does at) is.1) in
    (omega (arith, same, is.0), (x, inr wrote, used, inl wrote))

-- a write repeats a write
pub repeated_write : (q : List Operation) (p w x s : ℕ) (o : Option ℕ) → s ≡ unwrap_or o 0 → Does q p w (Write x)
    → IsSomeAccess Writes q p w x o → IsRepeated q p x Any s
repeated_write q p w x s None same does none i t u b less at used = absurd (omega (arith, same, less))
repeated_write q p w x s (Some m) same does is i t u b less at used =
    let mine : Does q s u (Write x) =
    subst (λ n. Does q n u (Write x)) (sym same) (subst (λ v. Does q m v (Write x)) (same_doer q p w u _ _ does at) is.1) in
    (omega (arith, same, is.0), (x, used, inr mine, inr mine))

-- above the last first access there is none
pub reported_from_last : (kind : Counted) (q : List Operation) (es : List Edge) (p x u : ℕ) (o : Option ℕ) → IsLastFirst kind q p x o
    → AreReportedAbove kind q es p x u o
reported_from_last kind q es p x u None none = λ k t less differ first. absurd (none k t less first)
reported_from_last kind q es p x u (Some i) is = (is.0, is.1, λ k t after less differ first. absurd (is.2 k t after less first))

-- the last first access is before the place
pub last_within : (kind : Counted) (q : List Operation) (p x : ℕ) (o : Option ℕ) → IsLastFirst kind q p x o → height o ≤ p
last_within kind q p x None none = omega arith
last_within kind q p x (Some i) is = omega (arith, is.0)

-- the first access from which on all are reported
pub reported_from : (kind : Counted) (q : List Operation) (es : List Edge) (p x i : ℕ) (o : Option ℕ) → p < length q → o ≡ Some i
    → ((u : ℕ) (b : Action) → Does q p u b → AreReportedAbove kind q es p x u o) → (i < p) × ((t : ℕ) × IsFirstAccess kind q i t x)
reported_from kind q es p x i o within is above =
    let op : Operation = slice_index_or q p (record { transaction = 0; action = Read 0 }) in
    let at : AreReportedAbove kind q es p x op.transaction (Some i) =
    subst (λ s. AreReportedAbove kind q es p x op.transaction s) is
    (above op.transaction op.action (does_at q p op op.action (there q p within) refl)) in
    (at.0, at.1)

-- a first access that conflicts with the operation is the first operation of its transaction that does
pub first_rival : (kind : Counted) (q : List Operation) (p x i v : ℕ) → AreRivals q p x kind → IsFirstAccess kind q i v x
    → IsFirstRival q i p
first_rival kind q p x i v rivals first t u a b does at =
    let mine : IsFirstAccess kind q i t x = subst (λ w. IsFirstAccess kind q i w x) (accessor kind first.0) first in
    ((rivals i t u b at).1 mine.0, λ k less conflict. mine.1 k less ((rivals k t u b at).0 conflict))
  where
    accessor : (c : Counted) → IsAccess c q i v x → v ≡ t
    accessor Any (inl read) = same_doer q i v t _ _ read does
    accessor Any (inr wrote) = same_doer q i v t _ _ wrote does
    accessor Writes wrote = same_doer q i v t _ _ wrote does

-- the next one is below one that is reported
pub reported_further : (kind : Counted) (q : List Operation) (es es' : List Edge) (p x u i : ℕ) (b : Action) (o : Option ℕ) → Does q p u b
    → AreReportedAbove kind q es p x u (Some i) → ((t w : ℕ) → HasEdge es t w → HasEdge es' t w)
    → ((t w : ℕ) (c d : Action) → Does q i t c → Does q p w d → t ≢ w → HasEdge es' t w) → IsLastFirst kind q i x o
    → AreReportedAbove kind q es' p x u o
reported_further kind q es es' p x u i b o does above kept reported lower = go o lower
  where
    here : (c : Counted) (t : ℕ) → IsAccess c q i t x → t ≢ u → HasEdge es' t u
    here Any t (inl read) differ = reported t u _ b read does differ
    here Any t (inr wrote) differ = reported t u _ b wrote does differ
    here Writes t wrote differ = reported t u _ b wrote does differ

    rest : (k t : ℕ) → ¬ (k < i) → k < p → t ≢ u → IsFirstAccess kind q k t x → HasEdge es' t u
    rest k t not_under less differ first = elim (cases_lt i k) [
      | inl after ↦ kept t u (above.2 k t after less differ first)
      | inr most ↦ elim (cases_eq k i) [
        | inl same ↦ here kind t (subst (λ n. IsAccess kind q n t x) same first.0) differ
        | inr apart ↦ absurd (not_under (omega (arith, most, apart)))
      ]
    ]

    go : (s : Option ℕ) → IsLastFirst kind q i x s → AreReportedAbove kind q es' p x u s
    go None none = λ k t less differ first. rest k t (λ under. none k t under first) less differ first
    go (Some n) is = (
      omega (arith, above.0, is.0),
      is.1,
      λ k t after less differ first. rest k t (λ under. is.2 k t after under first) less differ first,
    )

-- the rest are reported by the operation that is repeated
pub reported_by_repeated : (kind : Counted) (q : List Operation) (p n x i s w : ℕ) (es : List Edge) (pairs : ℕ × ℕ → Option ℕ)
    → AreConflicts q p n es pairs → IsRepeated q p x kind s → i < s → AreReportedAbove kind q es p x w (Some i)
    → (k t : ℕ) (b : Action) → Does q p w b → k < p → t ≢ w → IsFirstAccess kind q k t x → HasEdge es t w
reported_by_repeated kind q p n x i s w es pairs are repeated less above k t b does within differ first = elim (cases_lt i k) [
  | inl after ↦ above.2 k t after within differ first
  | inr most ↦
      let under : k < s = omega (arith, most, less) in
      let made = repeated k t w b under does first.0 in are.are_reported k t s w made.0 under differ made.1
]

-- of two edges of the same two transactions, neither is reported before the other
pub reported_once : (h : List Operation) (e f : Edge) → IsFirstConflict h e → IsFirstConflict h f → e.from ≡ f.from → e.to ≡ f.to
    → ¬ IsReportedBefore e f
reported_once h e f one other from to before =
    let ahead = one.first f other.edge (sym from) (sym to) in
    let following = other.first e one.edge from to in
    elim before [
      | inl less ↦ elim following [
        | inl more ↦ omega (arith, less, more)
        | inr same ↦ omega (arith, less, same.0)
      ]
      | inr same ↦ elim ahead [
        | inl less ↦ omega (arith, less, same.0)
        | inr most ↦ omega (arith, same.1, most.1)
      ]
    ]

-- the first conflicts of the committed projection are those of the history
pub first_conflicts_of : (h q : List Operation) (n : ℕ) (es : List Edge) (pairs : ℕ × ℕ → Option ℕ) → IsProjectionInPlace h q
    → AreConflicts q (length q) n es pairs → AreFirstConflicts h es
first_conflicts_of h q n es pairs is are = record {
  are_first = are_first;
  are_all = λ t u edge.
      let f : Edge = record { from = t; to = u; earlier = edge.place; later = edge.later } in
      let made = conflict_by h q f is (record {
        differ = edge.differ;
        commits_first = edge.commits_first;
        commits_second = edge.commits_second;
        order = edge.order;
        conflict = edge.conflict;
      }) in
      let within = uses_within q edge.later u made.conflict.0 made.conflict.2 in
      are.are_reported edge.place t edge.later u within edge.order edge.differ made.conflict;
  once = λ i j e f at other from to. elim (cases_lt i j) [
    | inl less ↦ absurd (reported_once h e f (are_first i e at) (are_first j f other) from to (are.order i j e f less at other))
    | inr most ↦ elim (cases_eq i j) [
      | inl same ↦ same
      | inr apart ↦ absurd (reported_once h f e (are_first j f other) (are_first i e at) (sym from) (sym to)
          (are.order j i f e (omega (arith, most, apart)) other at))
    ]
  ];
  order = are.order;
}
  where
    are_first : (k : ℕ) (e : Edge) → slice_get es k ≡ Some e → IsFirstConflict h e
    are_first k e at =
        let one = are.are_first k e at in record {
          edge = edge_by h q e is one.conflict;
          first = λ f edge from to. one.first f (conflict_by h q f is edge) from to;
        }
