-- The commit order of a commit ordered history is a serial order.
use Rattle.std.proofs.Common.{◌≡◌, ◌≢◌, ◌<◌, ◌≤◌, ◌+◌, ℕ, true, false, List, [], ◌∷◌, ◌++◌, Option, Some, None, refl, sym, ◌∙◌, subst, inl, inr, arith}
use Rattle.std.specs.Prelude.{length, slice_get, is_some}
use Rattle.std.proofs.lemmas.Bool.{cases_eq, cases_lt}
use Rattle.std.proofs.lemmas.Grind.{common_steps}
use Rattle.std.proofs.lemmas.Option.{slice_get_within}
use Rattle.sgt_classes.specs.declared.operation.Operation.{Operation}
use Rattle.sgt_classes.specs.declared.operation.Action.TheVariants.{Commit}
use Rattle.sgt_classes.specs.declared.graph.Edge.{Edge}
use Rattle.sgt_classes.specs.Histories.{Does}
use Rattle.sgt_classes.specs.Serializability.{Conflict, IsEdge, IsEdgeBy, IsSerialOrder, IsCommitOrdered}
use Rattle.sgt_classes.specs.SerialOrders.{TakesFirst}
use Rattle.sgt_classes.specs.Seen.{IsFirstCommit, AreFirstCommits}
use Rattle.sgt_classes.specs.Sorting.{IsFirstFree}
use Rattle.sgt_classes.proofs.CommitOrder.{edge_earlier}
use Rattle.sgt_classes.proofs.Orderings.{AreOrdered, none_ordered, one_ordered}
use Rattle.sgt_classes.proofs.Places.{does_at}
use Rattle.sgt_classes.proofs.Sources.{same_doer, same_action}

-- edges of the serialization graph
abbrev pub AreEdges : List Operation → List Edge → Type 0
AreEdges h es = (k : ℕ) (e : Edge) → slice_get es k ≡ Some e → IsEdgeBy h e

-- the order of those that commit before place p; the others are left
pub record IsCommitOrder (h : List Operation) (p : ℕ) (order : List ℕ) (left : ℕ → Option ℕ) : Type 0 where
  pub ordered : (es : List Edge) → AreEdges h es → AreOrdered h es order left
  pub later : (t c : ℕ) → left t ≡ Some c → p ≤ c

no_edges : (h : List Operation) → AreEdges h []
no_edges h k e at = absurd (grind (arith, common_steps, at))

-- before the first commit all are left
pub order_begins : (h : List Operation) (left : ℕ → Option ℕ) → AreFirstCommits h (length h) left → IsCommitOrder h 0 [] left
order_begins h left are = record {
  ordered = λ es edges. none_ordered h es left are;
  later = λ t c is. omega arith;
}

-- one that is left commits at the stated position
commits_there : (h : List Operation) (p : ℕ) (order : List ℕ) (left : ℕ → Option ℕ) (t c : ℕ) → IsCommitOrder h p order left
    → left t ≡ Some c → IsFirstCommit h (length h) t (Some c)
commits_there h p order left t c is at = (is.ordered [] (no_edges h)).first_commits t c at

-- one that is left and commits at the place has its commit there
commits_here : (h : List Operation) (p : ℕ) (order : List ℕ) (left : ℕ → Option ℕ) (t c : ℕ) → IsCommitOrder h p order left
    → Does h p t Commit → left t ≡ Some c → c ≡ p
commits_here h p order left t c is does at = elim (cases_lt p c) [
  | inl less ↦ absurd ((commits_there h p order left t c is at).2 (p, less, does))
  | inr most ↦ omega (arith, most, is.later t c at)
]

-- one that is left commits, and has its place
pub order_grows : (h : List Operation) (p t c : ℕ) (order : List ℕ) (left left' : ℕ → Option ℕ) → IsCommitOrdered h → Does h p t Commit
    → left t ≡ Some c → left' t ≡ None → ((u : ℕ) → u ≢ t → left' u ≡ left u) → IsCommitOrder h p order left
    → IsCommitOrder h (p + 1) (order ++ t ∷ []) left'
order_grows h p t c order left left' agrees does at none others is = record {
  ordered = λ es edges. one_ordered h es order left left' t edges (is.ordered es edges) (first es edges) none others;
  later = later;
}
  where
    here : left t ≡ Some p
    here = subst (λ n. left t ≡ Some n) (commits_here h p order left t c is does at) at

    first : (es : List Edge) → AreEdges h es → IsFirstFree es left t
    first es edges = record {
      commit = p;
      commits = here;
      free = λ k e edge to. free e (left e.from) (edges k e edge) to refl;
      first = λ u d other _. is.later u d other;
    }
      where
        free : (e : Edge) (o : Option ℕ) → IsEdgeBy h e → e.to ≡ t → left e.from ≡ o → left e.from ≡ None
        free e None edge to same = same
        free e (Some d) edge to same = absurd (edge_earlier h e.from t p agrees (record {
          differ = λ one. edge.differ (one ∙ sym to);
          commits_first = edge.commits_first;
          commits_second = (p, does);
          place = e.earlier;
          later = e.later;
          order = edge.order;
          conflict = subst (λ v. Conflict h e.earlier e.from e.later v) to edge.conflict;
        }) does (λ before. (commits_there h p order left e.from d is same).2
            (before.0, omega (arith, before.1, is.later e.from d same), before.2)))

    later : (u d : ℕ) → left' u ≡ Some d → p + 1 ≤ d
    later u d mine = elim (cases_eq u t) [
      | inl same ↦ absurd (grind (arith, common_steps, mine, same, none))
      | inr apart ↦
          let old = sym (others u apart) ∙ mine in
          elim (cases_eq d p) [
            | inl same ↦ absurd (apart (same_doer h p u t Commit Commit
                (subst (λ n. Does h n u Commit) same (commits_there h p order left u d is old).1) does))
            | inr differ ↦ omega (arith, differ, is.later u d old)
          ]
    ]

-- the operation is no commit of one that is left
pub order_stays : (h : List Operation) (p : ℕ) (op : Operation) (order : List ℕ) (left : ℕ → Option ℕ) → slice_get h p ≡ Some op
    → (op.action ≡ Commit → left op.transaction ≡ None) → IsCommitOrder h p order left → IsCommitOrder h (p + 1) order left
order_stays h p op order left at none is = record {
  ordered = is.ordered;
  later = λ u d mine. elim (cases_eq d p) [
    | inl same ↦
        let does = subst (λ n. Does h n u Commit) same (commits_there h p order left u d is mine).1 in
        let own = does_at h p op op.action at refl in
        let out = none (same_action h p op.transaction u op.action Commit own does) in
        absurd (grind (arith, common_steps, mine, out, same_doer h p op.transaction u op.action Commit own does))
    | inr differ ↦ omega (arith, differ, is.later u d mine)
  ];
}

-- an edge of the serialization graph, by the two operations that it is known by
abbrev edge_of : (h : List Operation) (t u : ℕ) → IsEdge h t u → Edge
edge_of h t u edge = record { from = t; to = u; earlier = edge.place; later = edge.later }

-- it has one, or none
pub some_of : (o : Option ℕ) → is_some o ≡ true → (c : ℕ) × (o ≡ Some c)
some_of None no_one = absurd (grind (arith, common_steps, no_one))
some_of (Some c) one = (c, refl)

pub none_of : (o : Option ℕ) → is_some o ≡ false → o ≡ None
none_of None no_one = refl
none_of (Some c) one = absurd (grind (arith, common_steps, one))

-- at the end no transaction is left, and the order is a serial one
pub order_serial : (h : List Operation) (p : ℕ) (order : List ℕ) (left : ℕ → Option ℕ) → length h ≤ p → IsCommitOrder h p order left
    → IsSerialOrder h order × TakesFirst h order
order_serial h p order left whole is = (
  record {
    once = plain.once;
    are_committed = λ t. (λ commits. plain.all t commits (none t (left t) refl), λ at. (plain.placed at.0 t at.1).1);
    leads_on = leads_on;
  },
  plain.takes_first,
)
  where
    plain : AreOrdered h [] order left
    plain = is.ordered [] (no_edges h)

    none : (t : ℕ) (o : Option ℕ) → left t ≡ o → left t ≡ None
    none t None same = same
    none t (Some c) same = absurd (omega (arith, slice_get_within h c _ (plain.first_commits t c same).1, is.later t c same, whole))

    one : (t u : ℕ) (edge : IsEdge h t u) → AreEdges h (edge_of h t u edge ∷ [])
    one t u edge k e at = elim (cases_eq k 0) [
      | inl zero ↦ subst (λ f. IsEdgeBy h f) (grind (arith, common_steps, at, zero)) (record {
        differ = edge.differ;
        commits_first = edge.commits_first;
        commits_second = edge.commits_second;
        order = edge.order;
        conflict = edge.conflict;
      })
      | inr more ↦ absurd (grind (arith, common_steps, at, more))
    ]

    leads_on : (i j t u : ℕ) → IsEdge h t u → slice_get order i ≡ Some t → slice_get order j ≡ Some u → i < j
    leads_on i j t u edge first second =
        let before = (is.ordered (edge_of h t u edge ∷ []) (one t u edge)).rises 0 (edge_of h t u edge) j refl second in
        subst (λ n. n < j) (plain.once before.0 i t before.2 first) before.1
