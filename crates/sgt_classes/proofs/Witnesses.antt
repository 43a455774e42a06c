-- A serial order shows that the serialization graph has no cycle. Edges that form a cycle show that it has one.
use Rattle.std.proofs.Common.{◌≡◌, ◌<◌, ◌+◌, ◌-◌, ℕ, suc, List, [], ◌∷◌, Some, refl, subst, arith}
use Rattle.std.specs.Prelude.{length, slice_get, slice_index_or}
use Rattle.std.proofs.lemmas.Grind.{common_steps}
use Rattle.std.proofs.lemmas.Option.{slice_get-get_or}
use Rattle.sgt_classes.specs.declared.operation.Operation.{Operation}
use Rattle.sgt_classes.specs.declared.graph.Edge.{Edge}
use Rattle.sgt_classes.specs.Serializability.{Commits, IsEdge, IsEdgeBy, IsPath, IsCycle, IsAcyclic, IsSerialOrder}

-- a transaction with a path commits
commits_of : (h : List Operation) (t u : ℕ) (others : List ℕ) → IsPath h t others u → Commits h t
commits_of h t u [] edge = edge.commits_first
commits_of h t u (v ∷ others) path = path.0.commits_first

-- along a path the positions in a serial order rise
places_rise : (h : List Operation) (order : List ℕ) (i j t u : ℕ) (others : List ℕ) → IsSerialOrder h order → IsPath h t others u
    → slice_get order i ≡ Some t → slice_get order j ≡ Some u → i < j
places_rise h order i j t u [] serial edge first second = serial.leads_on i j t u edge first second
places_rise h order i j t u (v ∷ others) serial path first second =
    let between = (serial.are_committed v).0 path.0.commits_second in
    let near = serial.leads_on i between.0 t v path.0 first between.1 in
    let far = places_rise h order between.0 j v u others serial path.1 between.1 second in
    omega (arith, near, far)

pub serial_order_acyclic : (h : List Operation) (order : List ℕ) → IsSerialOrder h order → IsAcyclic h
serial_order_acyclic h order serial t others path =
    let at = (serial.are_committed t).0 (commits_of h t t others path) in
    let less = places_rise h order at.0 at.0 t t others serial path at.1 at.1 in omega (arith, less)

-- an edge by its two operations is one
edge_of : (h : List Operation) (e : Edge) → IsEdgeBy h e → IsEdge h e.from e.to
edge_of h e is = record {
  differ = is.differ;
  commits_first = is.commits_first;
  commits_second = is.commits_second;
  place = e.earlier;
  later = e.later;
  order = is.order;
  conflict = is.conflict;
}

-- edges that follow one another are a path
path_of : (h : List Operation) (e l : Edge) (rest : List Edge)
    → ((i : ℕ) (f : Edge) → slice_get (e ∷ rest) i ≡ Some f → IsEdgeBy h f)
    → ((i : ℕ) (f g : Edge) → slice_get (e ∷ rest) i ≡ Some f → slice_get (e ∷ rest) (suc i) ≡ Some g → f.to ≡ g.from)
    → slice_get (e ∷ rest) (length rest) ≡ Some l → (others : List ℕ) × IsPath h e.from others l.to
path_of h e l [] are follow last =
    let same : e ≡ l = grind (arith, common_steps, last) in
    ([], subst (λ (f : Edge). IsEdge h e.from f.to) same (edge_of h e (are 0 e refl)))
path_of h e l (f ∷ rest) are follow last =
    let rest_of = path_of h f l rest (λ i g at. are (suc i) g at) (λ i g k at next. follow (suc i) g k at next) last in
    (f.from ∷ rest_of.0, (subst (λ v. IsEdge h e.from v) (follow 0 e f refl refl) (edge_of h e (are 0 e refl)), rest_of.1))

pub cycle_not_acyclic : (h : List Operation) (edges : List Edge) → IsCycle h edges → ¬ IsAcyclic h
cycle_not_acyclic h [] cycle = λ acyclic. let less = cycle.some in omega (arith, less)
cycle_not_acyclic h (e ∷ rest) cycle = λ acyclic. acyclic e.from path.0 path.1
  where
    last : Edge
    last = slice_index_or (e ∷ rest) (length rest) e

    at : slice_get (e ∷ rest) (length rest) ≡ Some last
    at = slice_get-get_or (e ∷ rest) (length rest) e (omega arith)

    next : (i : ℕ) (f g : Edge) → slice_get (e ∷ rest) i ≡ Some f → slice_get (e ∷ rest) (suc i) ≡ Some g → f.to ≡ g.from
    next i f g here after = cycle.follow i f g here (let more : suc i ≡ i + 1 = omega arith in
        subst (λ n. slice_get (e ∷ rest) n ≡ Some g) more after)

    path : (others : List ℕ) × IsPath h e.from others e.from
    path =
        let found = path_of h e last rest cycle.are_edges next at in
        let one_less : length rest ≡ length (e ∷ rest) - 1 = omega arith in
        let end = subst (λ n. slice_get (e ∷ rest) n ≡ Some last) one_less at in
        (found.0, subst (λ v. IsPath h e.from found.0 v) (cycle.closes e last refl end) found.1)
