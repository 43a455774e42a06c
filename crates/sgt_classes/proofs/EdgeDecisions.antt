-- The serializability theorem. It is decided whether the serialization graph has an edge between two transactions, so a graph with no
-- cycle has a serial order.
use Rattle.std.proofs.Common.{◌≡◌, ◌<◌, ◌⊎◌, ℕ, zero, suc, true, false, List, [], ◌∷◌, map, length, Option, Some, None, refl, sym, ap, ◌∙◌, subst, inl, inr, arith}
use Rattle.std.specs.Prelude.{slice_get, filter}
use Rattle.std.proofs.lemmas.Bool.{cases_eq, cases_Bool, both_ways}
use Rattle.std.proofs.lemmas.Grind.{common_steps}
use Rattle.sgt_classes.specs.declared.operation.Operation.{Operation}
use Rattle.sgt_classes.specs.declared.operation.Action.{Action}
use Rattle.sgt_classes.specs.declared.operation.Action.TheVariants.{Read, Write, Commit, Abort}
use Rattle.sgt_classes.specs.Histories.{Does, Uses}
use Rattle.sgt_classes.specs.Serializability.{Commits, Conflict, IsEdge, IsPath, IsAcyclic, IsSerialOrder}
use Rattle.sgt_classes.specs.Equivalence.{is_commit, has_committed, IsSerializable, serial_history, SerializabilityTheorem, SerialOrdersAreEnough, CyclesAreEnough, CommitOrderedAreSerializable}
use Rattle.sgt_classes.proofs.Places.{before_next, does_at, does_same, uses_within}
use Rattle.sgt_classes.proofs.EdgeChains.{same_at}
use Rattle.sgt_classes.proofs.ClosedPaths.{nothing_there}
use Rattle.sgt_classes.proofs.Filters.{kept_there, kept_found}
use Rattle.sgt_classes.proofs.Insertions.{IsPathBy, StandsIn, ordered_by}
use Rattle.sgt_classes.proofs.CommitOrder.{commit_ordered_acyclic}
use Rattle.sgt_classes.proofs.Witnesses.{serial_order_acyclic, cycle_not_acyclic}
use Rattle.sgt_classes.proofs.SerialRuns.{commit_is, commits_true, true_commits, serial_order_runs, serializable_acyclic}

-- if P is decided for each number, it is decided whether it holds of one below n
exists_below : (P : ℕ → Type 0) → ((i : ℕ) → P i ⊎ (P i → ⊥)) → (n : ℕ)
    → ((i : ℕ) × (i < n) × P i) ⊎ ((i : ℕ) → i < n → P i → ⊥)
exists_below P decided zero = inr (λ i less is. omega (arith, less))
exists_below P decided (suc n) = go (decided n) (exists_below P decided n)
  where
    go : P n ⊎ (P n → ⊥) → ((i : ℕ) × (i < n) × P i) ⊎ ((i : ℕ) → i < n → P i → ⊥)
        → ((i : ℕ) × (i < suc n) × P i) ⊎ ((i : ℕ) → i < suc n → P i → ⊥)
    go (inl is) further = inl (n, omega arith, is)
    go (inr not_so) (inl w) = inl (w.0, omega (arith, w.1), w.2)
    go (inr not_so) (inr none) = inr (λ i less is. elim (before_next i n (omega (arith, less))) [
      | inl before ↦ none i before is
      | inr here ↦ not_so (subst P here is)
    ])

-- it is decided whether t reads or writes an item at i
used : (h : List Operation) (i t : ℕ) → ((x : ℕ) × Uses h i t x) ⊎ ((x : ℕ) → Uses h i t x → ⊥)
used h i t = go (slice_get h i) refl
  where
    none_by : (op : Operation) → slice_get h i ≡ Some op
        → ((a : Action) → Does h i t a → op.action ≡ a)
    none_by op at a does = ap (λ (o : Operation). o.action) (does_same h i op t a at does)

    by : (op : Operation) → slice_get h i ≡ Some op → op.transaction ≡ t → (a : Action) → op.action ≡ a
        → ((x : ℕ) × Uses h i t x) ⊎ ((x : ℕ) → Uses h i t x → ⊥)
    by op at mine (Read x) is = inl (x, inl (subst (λ u. Does h i u (Read x)) mine (does_at h i op (Read x) at is)))
    by op at mine (Write x) is = inl (x, inr (subst (λ u. Does h i u (Write x)) mine (does_at h i op (Write x) at is)))
    by op at mine Commit is = inr never
      where
        never : (x : ℕ) → Uses h i t x → ⊥
        never x (inl read) = let one : Commit ≡ Read x = sym is ∙ none_by op at (Read x) read in cc
        never x (inr wrote) = let one : Commit ≡ Write x = sym is ∙ none_by op at (Write x) wrote in cc
    by op at mine Abort is = inr never
      where
        never : (x : ℕ) → Uses h i t x → ⊥
        never x (inl read) = let one : Abort ≡ Read x = sym is ∙ none_by op at (Read x) read in cc
        never x (inr wrote) = let one : Abort ≡ Write x = sym is ∙ none_by op at (Write x) wrote in cc

    whose : (op : Operation) → slice_get h i ≡ Some op → (op.transaction ≡ t) ⊎ (op.transaction ≡ t → ⊥)
        → ((x : ℕ) × Uses h i t x) ⊎ ((x : ℕ) → Uses h i t x → ⊥)
    whose op at (inl mine) = by op at mine op.action refl
    whose op at (inr other) = inr never
      where
        never : (x : ℕ) → Uses h i t x → ⊥
        never x (inl read) = other (ap (λ (o : Operation). o.transaction) (does_same h i op t (Read x) at read))
        never x (inr wrote) = other (ap (λ (o : Operation). o.transaction) (does_same h i op t (Write x) at wrote))

    go : (o : Option Operation) → slice_get h i ≡ o → ((x : ℕ) × Uses h i t x) ⊎ ((x : ℕ) → Uses h i t x → ⊥)
    go None none = inr never
      where
        never : (x : ℕ) → Uses h i t x → ⊥
        never x (inl read) = grind (arith, common_steps, none, read)
        never x (inr wrote) = grind (arith, common_steps, none, wrote)
    go (Some op) at = whose op at (cases_eq op.transaction t)

-- a read or write is on one item
one_item : (h : List Operation) (i t x y : ℕ) → Uses h i t x → Uses h i t y → x ≡ y
one_item h i t x y (inl a) (inl b) =
    let one : Read x ≡ Read y = ap (λ (o : Operation). o.action) (same_at h i _ _ a b) in cc
one_item h i t x y (inl a) (inr b) =
    let one : Read x ≡ Write y = ap (λ (o : Operation). o.action) (same_at h i _ _ a b) in absurd cc
one_item h i t x y (inr a) (inl b) =
    let one : Write x ≡ Read y = ap (λ (o : Operation). o.action) (same_at h i _ _ a b) in absurd cc
one_item h i t x y (inr a) (inr b) =
    let one : Write x ≡ Write y = ap (λ (o : Operation). o.action) (same_at h i _ _ a b) in cc

-- a read is no write
no_write : (h : List Operation) (i t x y : ℕ) → Does h i t (Read x) → ¬ Does h i t (Write y)
no_write h i t x y a b = let one : Read x ≡ Write y = ap (λ (o : Operation). o.action) (same_at h i _ _ a b) in cc

-- it is decided whether two operations conflict
conflict_decided : (h : List Operation) (i t j u : ℕ) → Conflict h i t j u ⊎ (Conflict h i t j u → ⊥)
conflict_decided h i t j u = go (used h i t) (used h j u)
  where
    on_one : (x : ℕ) → Uses h i t x → Uses h j u x → Conflict h i t j u ⊎ (Conflict h i t j u → ⊥)
    on_one x (inr wrote) second = inl (x, inr wrote, second, inl wrote)
    on_one x (inl read) (inr wrote) = inl (x, inl read, inr wrote, inr wrote)
    on_one x (inl first) (inl second) = inr (λ c. elim (c.3) [
      | inl wrote ↦ no_write h i t x c.0 first wrote
      | inr wrote ↦ no_write h j u x c.0 second wrote
    ])

    go : ((x : ℕ) × Uses h i t x) ⊎ ((x : ℕ) → Uses h i t x → ⊥) → ((x : ℕ) × Uses h j u x) ⊎ ((x : ℕ) → Uses h j u x → ⊥)
        → Conflict h i t j u ⊎ (Conflict h i t j u → ⊥)
    go (inr none) other = inr (λ c. none c.0 c.1)
    go (inl w) (inr none) = inr (λ c. none c.0 c.2)
    go (inl w) (inl v) = elim (cases_eq w.0 v.0) [
      | inl same ↦ on_one w.0 w.1 (subst (λ x. Uses h j u x) (sym same) v.1)
      | inr apart ↦ inr (λ c. apart (one_item h i t w.0 c.0 w.1 c.1 ∙ one_item h j u c.0 v.0 c.2 v.1))
    ]

-- it is decided whether there is an edge
edge_decided : (h : List Operation) (t u : ℕ) → IsEdge h t u ⊎ (IsEdge h t u → ⊥)
edge_decided h t u = go (cases_eq t u) (cases_Bool (has_committed h t)) (cases_Bool (has_committed h u)) places
  where
    places : ((j : ℕ) × (j < length h) × ((i : ℕ) × (i < j) × Conflict h i t j u))
        ⊎ ((j : ℕ) → j < length h → ((i : ℕ) × (i < j) × Conflict h i t j u) → ⊥)
    places = exists_below (λ j. (i : ℕ) × (i < j) × Conflict h i t j u) earlier (length h)
      where
        earlier : (j : ℕ) → ((i : ℕ) × (i < j) × Conflict h i t j u) ⊎ (((i : ℕ) × (i < j) × Conflict h i t j u) → ⊥)
        earlier j = elim (exists_below (λ i. Conflict h i t j u) (λ i. conflict_decided h i t j u) j) [
          | inl w ↦ inl w
          | inr none ↦ inr (λ w. none w.0 w.1 w.2)
        ]

    go : (t ≡ u) ⊎ (t ≡ u → ⊥) → (has_committed h t ≡ true) ⊎ (has_committed h t ≡ false)
        → (has_committed h u ≡ true) ⊎ (has_committed h u ≡ false)
        → ((j : ℕ) × (j < length h) × ((i : ℕ) × (i < j) × Conflict h i t j u))
        ⊎ ((j : ℕ) → j < length h → ((i : ℕ) × (i < j) × Conflict h i t j u) → ⊥) → IsEdge h t u ⊎ (IsEdge h t u → ⊥)
    go (inl same) a b c = inr (λ e. e.differ same)
    go (inr differ) (inr is) b c = inr (λ e. both_ways (has_committed h t) is (commits_true h t e.commits_first))
    go (inr differ) (inl is) (inr not_so) c = inr (λ e. both_ways (has_committed h u) not_so (commits_true h u e.commits_second))
    go (inr differ) (inl is) (inl too) (inl w) = inl (record {
      differ = differ;
      commits_first = true_commits h t is;
      commits_second = true_commits h u too;
      place = w.2.0;
      later = w.0;
      order = w.2.1;
      conflict = w.2.2;
    })
    go (inr differ) (inl is) (inl too) (inr none) = inr (λ e. none e.later
        (uses_within h e.later u e.conflict.0 e.conflict.2) (e.place, e.order, e.conflict))

-- the transactions that commit
committers : List Operation → List ℕ
committers h = map (λ (o : Operation). o.transaction) (filter (λ (o : Operation). is_commit o.action) h)

-- the transaction of the i-th operation
map_there : (os : List Operation) (i : ℕ) (o : Operation) → slice_get os i ≡ Some o
    → slice_get (map (λ (p : Operation). p.transaction) os) i ≡ Some o.transaction
map_there [] i o at = absurd (nothing_there i o at)
map_there (p ∷ os) zero o at = let same : p ≡ o = cc in ap (λ (q : Operation). Some q.transaction) same
map_there (p ∷ os) (suc i) o at = map_there os i o at

-- the i-th transaction is that of an operation
map_found : (os : List Operation) (i t : ℕ) → slice_get (map (λ (p : Operation). p.transaction) os) i ≡ Some t
    → (o : Operation) × (slice_get os i ≡ Some o) × (o.transaction ≡ t)
map_found [] i t at = absurd (nothing_there i t at)
map_found (p ∷ os) zero t at = (p, refl, cc)
map_found (p ∷ os) (suc i) t at = map_found os i t at

-- they are in the list
committer : (h : List Operation) (t : ℕ) → Commits h t → StandsIn (committers h) t
unfolding committers
committer h t commits =
    let at = kept_there (λ (o : Operation). is_commit o.action) h commits.0 _ commits.1 refl in
    (_, map_there (filter (λ (o : Operation). is_commit o.action) h) _ _ at)

-- and no others are
committer_commits : (h : List Operation) (t : ℕ) → StandsIn (committers h) t → Commits h t
unfolding committers
committer_commits h t at =
    let w = map_found (filter (λ (o : Operation). is_commit o.action) h) at.0 t at.1 in
    let v = kept_found (λ (o : Operation). is_commit o.action) h at.0 w.0 w.1 in
    (v.0, subst (λ u. Does h v.0 u Commit) w.2 (does_at h v.0 w.0 Commit v.1 (commit_is w.0.action v.2)))

-- a path of the relation `IsEdge` is a path of the graph
path_by : (h : List Operation) (t u : ℕ) (others : List ℕ) → IsPathBy (IsEdge h) t others u → IsPath h t others u
path_by h t u [] path = path
path_by h t u (v ∷ others) path = (path.0, path_by h v u others path.1)

-- if the graph has no cycle, there is a serial order
pub acyclic_order : (h : List Operation) → IsAcyclic h → (order : List ℕ) × IsSerialOrder h order
acyclic_order h acyclic =
    let found = ordered_by (IsEdge h) (committers h) (edge_decided h) (λ t others path. acyclic t others (path_by h t t others path)) in (
      found.0,
      record {
        once = found.1.once;
        are_committed = λ t. (
          λ commits. (found.1.all t).0 (committer h t commits),
          λ at. committer_commits h t ((found.1.all t).1 at),
        );
        leads_on = found.1.leads_on;
      },
    )

-- and so an equivalent serial history
pub acyclic_serializable : (h : List Operation) → IsAcyclic h → IsSerializable h
acyclic_serializable h acyclic =
    let order = acyclic_order h acyclic in (serial_history h order.0, serial_order_runs h order.0 order.1)

pub serializability_theorem : SerializabilityTheorem
serializability_theorem h well = (serializable_acyclic h well, acyclic_serializable h)

pub serial_order_enough : SerialOrdersAreEnough
serial_order_enough h order serial = (serial_order_acyclic h order serial, serial_order_runs h order serial)

pub cycle_enough : CyclesAreEnough
cycle_enough h edges cycle =
    (cycle_not_acyclic h edges cycle, λ well serializable. cycle_not_acyclic h edges cycle (serializable_acyclic h well serializable))

pub commit_ordered_serializable : CommitOrderedAreSerializable
commit_ordered_serializable h ordered =
    let acyclic = commit_ordered_acyclic h ordered in (acyclic, acyclic_serializable h acyclic)
