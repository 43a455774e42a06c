-- The committed projection, and what few of its edges reach.
use Rattle.std.proofs.Common.{◌≡◌, ◌≢◌, ◌<◌, ◌+◌, ◌⊎◌, ℕ, zero, suc, List, [], ◌∷◌, ◌++◌, Option, Some, None, refl, sym, ap, ◌∙◌, subst, inl, inr, arith}
use Rattle.std.specs.Prelude.{length, slice_get, slice_index_or, ◌≤◌, is_some, if◌then◌else◌}
use Rattle.std.proofs.lemmas.Bool.{cases_eq, cases_lt}
use Rattle.std.proofs.lemmas.Grind.{common_steps}
use Rattle.std.proofs.lemmas.Option.{slice_get_within, slice_get-get_or}
use Rattle.sgt_classes.specs.declared.operation.Operation.{Operation}
use Rattle.sgt_classes.specs.declared.operation.Action.{Action}
use Rattle.sgt_classes.specs.declared.operation.Action.TheVariants.{Read, Write, Abort}
use Rattle.sgt_classes.specs.declared.graph.Edge.{Edge}
use Rattle.sgt_classes.specs.Histories.{Does, Uses}
use Rattle.sgt_classes.specs.Serializability.{Commits, IsEdge, IsEdgeBy, IsProjectionInPlace, Rises}
use Rattle.sgt_classes.specs.Seen.{IsFirstCommit, AreFirstCommits, projected, IsOverwritten, IsConflictBy, HasConflicts}
use Rattle.sgt_classes.proofs.Places.{before_next, does_same, uses_within}
use Rattle.sgt_classes.proofs.LatestUses.{first_of}
use Rattle.sgt_classes.proofs.Edges.{kept_pushed, at_end}

-- one operation further
pub projected_pushed : (h q : List Operation) (p : ℕ) (commits : ℕ → Option ℕ) (here new : Operation) → length q ≡ p
    → ((i : ℕ) (op : Operation) → i < p → slice_get h i ≡ Some op → slice_get q i ≡ Some (projected commits op))
    → slice_get h p ≡ Some here → new ≡ projected commits here
    → (i : ℕ) (op : Operation) → i < p + 1 → slice_get h i ≡ Some op → slice_get (q ++ new ∷ []) i ≡ Some (projected commits op)
projected_pushed h q p commits here new counted each at is i op less op_at = elim (before_next i p less) [
  | inl earlier ↦ kept_pushed q new _ i (each i op earlier op_at)
  | inr same ↦
      let one : here ≡ op = grind (arith, common_steps, at, subst (λ n. slice_get h n ≡ Some op) same op_at) in
      subst (λ n. slice_get (q ++ new ∷ []) n ≡ Some (projected commits op)) (counted ∙ sym same)
      (at_end q new ∙ ap Some (is ∙ ap (projected commits) one))
]

-- what does something in the projection does it, and commits
projected_does : (h q : List Operation) (commits : ℕ → Option ℕ) (i t : ℕ) (a : Action) → AreFirstCommits h (length h) commits
    → length q ≡ length h → ((i : ℕ) (op : Operation) → slice_get h i ≡ Some op → slice_get q i ≡ Some (projected commits op))
    → a ≢ Abort → Does q i t a → Does h i t a × Commits h t
projected_does h q commits i t a are counted each going does = go (commits (op.transaction)) refl
  where
    op : Operation
    op = slice_index_or h i (record { transaction = 0; action = Abort })

    at : slice_get h i ≡ Some op
    at = let within = slice_get_within q i _ does in slice_get-get_or h i _ (omega (arith, within, counted))

    same : projected commits op ≡ record { transaction = t; action = a }
    same = does_same q i (projected commits op) t a (each i op at) does

    go : (o : Option ℕ) → commits op.transaction ≡ o → Does h i t a × Commits h t
    go None none =
        let aborts : projected commits op ≡ record { transaction = op.transaction; action = Abort } =
        ap (λ o. if is_some o then op else record { transaction = op.transaction; action = Abort }) none in
        absurd (going (ap (λ (b : Operation). b.action) (sym same ∙ aborts)))
    go (Some c) some =
        let stays : projected commits op ≡ op =
        ap (λ o. if is_some o then op else record { transaction = op.transaction; action = Abort }) some in
        let one : op ≡ record { transaction = t; action = a } = sym stays ∙ same in
        let first = subst (λ o. IsFirstCommit h (length h) op.transaction o) some (are op.transaction) in
        (at ∙ ap Some one, subst (λ u. Commits h u) (ap (λ (b : Operation). b.transaction) one) (c, first.1))

-- what one that commits does is in the projection
does_projected : (h q : List Operation) (commits : ℕ → Option ℕ) (i t : ℕ) (a : Action) → AreFirstCommits h (length h) commits
    → ((i : ℕ) (op : Operation) → slice_get h i ≡ Some op → slice_get q i ≡ Some (projected commits op))
    → Does h i t a → Commits h t → Does q i t a
does_projected h q commits i t a are each does committed =
    let first = first_of h t (commits t) committed.0 (are t) committed.1 in
    let op : Operation = record { transaction = t; action = a } in
    let stays : projected commits op ≡ op =
    ap (λ o. if is_some o then op else record { transaction = t; action = Abort }) first.1 in
    each i op does ∙ ap Some stays

pub projection_of : (h q : List Operation) (commits : ℕ → Option ℕ) → AreFirstCommits h (length h) commits → length q ≡ length h
    → ((i : ℕ) (op : Operation) → slice_get h i ≡ Some op → slice_get q i ≡ Some (projected commits op)) → IsProjectionInPlace h q
projection_of h q commits are counted each i t x = (
  (
    λ does. projected_does h q commits i t (Read x) are counted each (λ e. grind (arith, common_steps, e)) does,
    λ both. does_projected h q commits i t (Read x) are each both.0 both.1,
  ),
  (
    λ does. projected_does h q commits i t (Write x) are counted each (λ e. grind (arith, common_steps, e)) does,
    λ both. does_projected h q commits i t (Write x) are each both.0 both.1,
  ),
)

-- a use in the projection is one of the history, by one that commits
used : (h q : List Operation) (i t x : ℕ) → IsProjectionInPlace h q → Uses q i t x → Uses h i t x × Commits h t
used h q i t x is (inl read) = let both = (is i t x).0.0 read in (inl both.0, both.1)
used h q i t x is (inr wrote) = let both = (is i t x).1.0 wrote in (inr both.0, both.1)

uses : (h q : List Operation) (i t x : ℕ) → IsProjectionInPlace h q → Uses h i t x → Commits h t → Uses q i t x
uses h q i t x is (inl read) commits = inl ((is i t x).0.1 (read, commits))
uses h q i t x is (inr wrote) commits = inr ((is i t x).1.1 (wrote, commits))

-- two operations of the projection that conflict are an edge of the history's graph
pub edge_by : (h q : List Operation) (e : Edge) → IsProjectionInPlace h q → IsConflictBy q e → IsEdgeBy h e
edge_by h q e is made =
    let first = used h q e.earlier e.from made.conflict.0 is made.conflict.1 in
    let second = used h q e.later e.to made.conflict.0 is made.conflict.2 in record {
      differ = made.differ;
      commits_first = first.1;
      commits_second = second.1;
      order = made.order;
      conflict = (made.conflict.0, first.0, second.0, writes made.conflict.3);
    }
  where
    writes : Does q e.earlier e.from (Write made.conflict.0) ⊎ Does q e.later e.to (Write made.conflict.0)
        → Does h e.earlier e.from (Write made.conflict.0) ⊎ Does h e.later e.to (Write made.conflict.0)
    writes (inl wrote) = inl ((is e.earlier e.from made.conflict.0).1.0 wrote).0
    writes (inr wrote) = inr ((is e.later e.to made.conflict.0).1.0 wrote).0

-- two operations that make an edge of the history's graph conflict in the projection
pub conflict_by : (h q : List Operation) (e : Edge) → IsProjectionInPlace h q → IsEdgeBy h e → IsConflictBy q e
conflict_by h q e is edge = record {
  differ = edge.differ;
  order = edge.order;
  conflict = (
    edge.conflict.0,
    uses h q e.earlier e.from edge.conflict.0 is edge.conflict.1 edge.commits_first,
    uses h q e.later e.to edge.conflict.0 is edge.conflict.2 edge.commits_second,
    writes edge.conflict.3,
  );
}
  where
    writes : Does h e.earlier e.from (Write edge.conflict.0) ⊎ Does h e.later e.to (Write edge.conflict.0)
        → Does q e.earlier e.from (Write edge.conflict.0) ⊎ Does q e.later e.to (Write edge.conflict.0)
    writes (inl wrote) = inl ((is e.earlier e.from edge.conflict.0).1.1 (wrote, edge.commits_first))
    writes (inr wrote) = inr ((is e.later e.to edge.conflict.0).1.1 (wrote, edge.commits_second))

-- of a conflict along which they do not rise, with a write between, they do not rise along one of its parts
no_write_between : (q : List Operation) (rank : ℕ → ℕ) (n i t j u x : ℕ) → j < n + 1 + i → t ≢ u → Uses q i t x → Uses q j u x
    → rank u ≤ rank t
    → ((k r m v : ℕ) → m < n + k → k < m → r ≢ v → Uses q k r x → Uses q m v x → Does q k r (Write x) ⊎ Does q m v (Write x)
    → rank r < rank v)
    → ¬ IsOverwritten q i j x
no_write_between q rank n i t j u x near differ first second most again over =
    let m : ℕ = over.0 in
    let v : ℕ = over.1 in
    let low = λ (other : t ≢ v). again i t m v (omega (arith, near, over.3)) over.2 other first (inr over.4) (inr over.4) in
    let up = λ (other : v ≢ u). again m v j u (omega (arith, near, over.2)) over.3 other (inr over.4) second (inl over.4) in
    elim (cases_eq t v) [
      | inl mine ↦ elim (cases_eq v u) [
        | inl its ↦ differ (mine ∙ its)
        | inr apart ↦ omega (arith, up apart, ap rank mine, most)
      ]
      | inr other ↦ elim (cases_eq v u) [
        | inl its ↦ omega (arith, low other, ap rank its, most)
        | inr apart ↦ omega (arith, low other, up apart, most)
      ]
    ]

-- numbers that rise along the edges with no write between rise along each conflict
rises_along : (q : List Operation) (es : List Edge) (rank : ℕ → ℕ) (x : ℕ) → HasConflicts q es (length q) → Rises rank es
    → (n i t j u : ℕ) → j < n + i → i < j → t ≢ u → Uses q i t x → Uses q j u x → Does q i t (Write x) ⊎ Does q j u (Write x)
    → rank t < rank u
rises_along q es rank x has rises zero i t j u near less differ first second writes = absurd (omega (arith, near, less))
rises_along q es rank x has rises (suc n) i t j u near less differ first second writes = elim (cases_lt (rank t) (rank u)) [
  | inl rising ↦ rising
  | inr most ↦
      let edge = has i t j u x (uses_within q j u x second) record {
        differ = differ;
        order = less;
        first = first;
        second = second;
        writes = writes;
        next = no_write_between q rank n i t j u x (omega (arith, near)) differ first second most
            (λ k r m v. rises_along q es rank x has rises n k r m v);
      } in
      let up = rises edge.0 edge.1 edge.2 in absurd (omega (arith, up, ap rank edge.3, ap rank edge.4, most))
]

-- and along each edge of the graph
pub rises_all : (h q : List Operation) (es : List Edge) → IsProjectionInPlace h q → HasConflicts q es (length q) → (rank : ℕ → ℕ)
    → Rises rank es → (t u : ℕ) → IsEdge h t u → rank t < rank u
rises_all h q es is has rank rises t u edge =
    let i : ℕ = edge.place in
    let j : ℕ = edge.later in
    let x : ℕ = edge.conflict.0 in
    rises_along q es rank x has rises (j + 1) i t j u (omega arith) edge.order edge.differ
    (uses h q i t x is edge.conflict.1 edge.commits_first) (uses h q j u x is edge.conflict.2 edge.commits_second)
    (writes edge.conflict.3)
  where
    writes : Does h edge.place t (Write edge.conflict.0) ⊎ Does h edge.later u (Write edge.conflict.0)
        → Does q edge.place t (Write edge.conflict.0) ⊎ Does q edge.later u (Write edge.conflict.0)
    writes (inl wrote) = inl ((is edge.place t edge.conflict.0).1.1 (wrote, edge.commits_first))
    writes (inr wrote) = inr ((is edge.later u edge.conflict.0).1.1 (wrote, edge.commits_second))
