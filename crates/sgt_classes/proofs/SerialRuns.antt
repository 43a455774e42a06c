-- Serial orders and equivalent serial histories: each serial order gives one, and where there is one the graph has no cycle.
use Rattle.std.proofs.Common.{◌≡◌, ◌≢◌, ◌<◌, ◌⊎◌, ◌&&◌, ℕ, zero, suc, true, false, List, [], ◌∷◌, ◌++◌, take, length, Some, refl, sym, ap, ◌∙◌, subst, inl, inr, arith, eq-eqb, eqb-true, append-nil}
use Rattle.std.specs.Prelude.{slice_get, filter, nat_eq}
use Rattle.std.proofs.lemmas.Bool.{cases_order, cases_Bool, and_parts, and_from, both_ways, false_from_ne_true}
use Rattle.std.proofs.lemmas.Grind.{common_steps}
use Rattle.std.proofs.lemmas.List.Elements.{filter-append}
use Rattle.sgt_classes.specs.declared.operation.Operation.{Operation}
use Rattle.sgt_classes.specs.declared.operation.Action.{Action}
use Rattle.sgt_classes.specs.declared.operation.Action.TheVariants.{Read, Write, Commit, Abort}
use Rattle.sgt_classes.specs.Histories.{Does, Uses, IsWellFormed}
use Rattle.sgt_classes.specs.Serializability.{Commits, Conflict, IsEdge, IsPath, IsAcyclic, IsSerialOrder}
use Rattle.sgt_classes.specs.Equivalence.{Aborts, is_commit, has_committed, committed_projection, operations_of, IsSameOperation, IsWhollyBefore, IsSerialHistory, IsSerialRun, IsSerializable, serial_history}
use Rattle.sgt_classes.proofs.Places.{does_at}
use Rattle.sgt_classes.proofs.EdgeChains.{same_at}
use Rattle.sgt_classes.proofs.ClosedPaths.{nothing_there}
use Rattle.sgt_classes.proofs.Filters.{kept_there, kept_rises, kept_apart, kept_found, same_filtered, none_filtered, joined_cases, any_at, any_found}

-- the test for a commit accepts only a commit
pub commit_is : (a : Action) → is_commit a ≡ true → a ≡ Commit
commit_is (Read x) is = absurd (both_ways false refl is)
commit_is (Write x) is = absurd (both_ways false refl is)
commit_is Commit is = refl
commit_is Abort is = absurd (both_ways false refl is)

-- if t commits, the test says so
pub commits_true : (h : List Operation) (t : ℕ) → Commits h t → has_committed h t ≡ true
commits_true h t commits = any_at (λ (o : Operation). nat_eq o.transaction t && is_commit o.action) h commits.0
    (record { transaction = t; action = Commit }) commits.1 (and_from (nat_eq t t) true (eq-eqb t t refl) refl)

-- if the test says so, t commits
pub true_commits : (h : List Operation) (t : ℕ) → has_committed h t ≡ true → Commits h t
true_commits h t is =
    let w = any_found (λ (o : Operation). nat_eq o.transaction t && is_commit o.action) h is in
    let o : Operation = w.1 in
    let both = and_parts (nat_eq o.transaction t) (is_commit o.action) w.3 in (
      w.0,
      subst (λ n. Does h w.0 n Commit) (eqb-true o.transaction t both.0)
          (does_at h w.0 o Commit w.2 (commit_is o.action both.1)),
    )

-- an operation of the committed projection is one of the history, by a committed transaction; as many committed ones are before it as
-- its position says
pub from_projection : (h : List Operation) (i t : ℕ) (a : Action) → Does (committed_projection h) i t a
    → (k : ℕ) × Does h k t a × (has_committed h t ≡ true)
    × (length (filter (λ (o : Operation). has_committed h o.transaction) (take k h)) ≡ i)
from_projection h i t a does =
    kept_found (λ (o : Operation). has_committed h o.transaction) h i (record { transaction = t; action = a }) does

-- if the two histories have one operation in common at i and k, every description of the first also fits the second
pub moved_by : (g h : List Operation) (i k : ℕ) (op : Operation) → slice_get g i ≡ Some op → slice_get h k ≡ Some op → (o : Operation)
    → slice_get g i ≡ Some o → slice_get h k ≡ Some o
moved_by g h i k op at there o again = there ∙ ap Some (same_at g i op o at again)

-- the same for a read or write
use_moved : (g h : List Operation) (i k t x : ℕ) → ((o : Operation) → slice_get g i ≡ Some o → slice_get h k ≡ Some o)
    → Uses g i t x → Uses h k t x
use_moved g h i k t x moves (inl read) = inl (moves _ read)
use_moved g h i k t x moves (inr wrote) = inr (moves _ wrote)

-- the same for a conflict
pub conflict_moved : (g h : List Operation) (i j k l t u : ℕ) → ((o : Operation) → slice_get g i ≡ Some o → slice_get h k ≡ Some o)
    → ((o : Operation) → slice_get g j ≡ Some o → slice_get h l ≡ Some o) → Conflict g i t j u → Conflict h k t l u
conflict_moved g h i j k l t u first second conflict = (
  conflict.0,
  use_moved g h i k t conflict.0 first conflict.1,
  use_moved g h j l u conflict.0 second conflict.2,
  writes conflict.3,
)
  where
    writes : Does g i t (Write conflict.0) ⊎ Does g j u (Write conflict.0)
        → Does h k t (Write conflict.0) ⊎ Does h l u (Write conflict.0)
    writes (inl wrote) = inl (first _ wrote)
    writes (inr wrote) = inr (second _ wrote)

-- a read or write is an action
use_does : (h : List Operation) (i t x : ℕ) → Uses h i t x → (a : Action) × Does h i t a
use_does h i t x (inl read) = (Read x, read)
use_does h i t x (inr wrote) = (Write x, wrote)

-- two conflicting operations of the committed projection make an edge of the serialization graph
projection_edge : (h : List Operation) (i j t u : ℕ) → t ≢ u → i < j → Conflict (committed_projection h) i t j u → IsEdge h t u
projection_edge h i j t u differ less conflict =
    let a = use_does (committed_projection h) i t conflict.0 conflict.1 in
    let b = use_does (committed_projection h) j u conflict.0 conflict.2 in
    let w = from_projection h i t a.0 a.1 in
    let v = from_projection h j u b.0 b.1 in record {
      differ = differ;
      commits_first = true_commits h t w.2;
      commits_second = true_commits h u v.2;
      place = w.0;
      later = v.0;
      order = kept_apart (λ (o : Operation). has_committed h o.transaction) h w.0 v.0 _ v.1 v.2 (omega (arith, less, w.3, v.3));
      conflict = conflict_moved (committed_projection h) h i j w.0 v.0 t u
          (moved_by (committed_projection h) h i w.0 _ a.1 w.1)
          (moved_by (committed_projection h) h j v.0 _ b.1 v.1) conflict;
    }

-- the two operations of an edge in the committed projection
pub record IsProjectedEdge (h : List Operation) (t u : ℕ) : Type 0 where
  pub place : ℕ
  pub later : ℕ
  pub order : place < later
  pub first : (a : Action) × Does (committed_projection h) place t a
  pub second : (b : Action) × Does (committed_projection h) later u b
  pub conflict : Conflict (committed_projection h) place t later u

edge_projected : (h : List Operation) (t u : ℕ) → IsEdge h t u → IsProjectedEdge h t u
edge_projected h t u edge =
    let a = use_does h edge.place t edge.conflict.0 edge.conflict.1 in
    let b = use_does h edge.later u edge.conflict.0 edge.conflict.2 in
    let first = commits_true h t edge.commits_first in
    let second = commits_true h u edge.commits_second in
    let here = kept_there (λ (o : Operation). has_committed h o.transaction) h edge.place _ a.1 first in
    let there = kept_there (λ (o : Operation). has_committed h o.transaction) h edge.later _ b.1 second in record {
      place = length (filter (λ (o : Operation). has_committed h o.transaction) (take edge.place h));
      later = length (filter (λ (o : Operation). has_committed h o.transaction) (take edge.later h));
      order = kept_rises (λ (o : Operation). has_committed h o.transaction) h edge.place edge.later _ edge.order a.1 first;
      first = (a.0, here);
      second = (b.0, there);
      conflict = conflict_moved h (committed_projection h) edge.place edge.later _ _ t u
          (moved_by h (committed_projection h) edge.place _ _ a.1 here)
          (moved_by h (committed_projection h) edge.later _ _ b.1 there) edge.conflict;
    }

-- in a well formed history, a transaction that commits does not abort
commit_or_abort : (h : List Operation) (t i j : ℕ) → IsWellFormed h → Does h i t Commit → ¬ Does h j t Abort
commit_or_abort h t i j well commits aborts = go (cases_order i j)
  where
    go : (i ≡ j) ⊎ ((i < j) ⊎ (j < i)) → ⊥
    go (inl same) = let there : Does h j t Commit = subst (λ n. Does h n t Commit) same commits in
        let one = same_at h j _ _ there aborts in grind (arith, common_steps, one)
    go (inr (inl before)) = well j t Abort aborts (i, before, inl commits)
    go (inr (inr after)) = well i t Commit commits (j, after, inr aborts)

pub never_aborts : (h : List Operation) (t : ℕ) → IsWellFormed h → Commits h t → ¬ Aborts (committed_projection h) t
never_aborts h t well commits aborts =
    let w = from_projection h aborts.0 t Abort aborts.1 in commit_or_abort h t commits.0 w.0 well commits.1 w.1

-- if the operations of t are the same in g and h, each one in g is the same operation as one in h
pub same_there : (g h : List Operation) (t i : ℕ) (a : Action) → operations_of g t ≡ operations_of h t → Does g i t a
    → (k : ℕ) × IsSameOperation t g i h k
same_there g h t i a same does =
    let mine = kept_there (λ (o : Operation). nat_eq o.transaction t) g i _ does (eq-eqb t t refl) in
    let its : slice_get (operations_of h t) (length (operations_of (take i g) t)) ≡ Some (record { transaction = t; action = a }) =
    subst (λ l. slice_get l (length (operations_of (take i g) t)) ≡ Some (record { transaction = t; action = a })) same mine in
    let w = kept_found (λ (o : Operation). nat_eq o.transaction t) h _ _ its in (
      w.0,
      record {
        action = a;
        here = does;
        there = w.1;
        after_as_many = sym w.3;
      },
    )

-- t and u have operations, and all of t come before all of u
pub record Precedes (g : List Operation) (t u : ℕ) : Type 0 where
  pub first : (i : ℕ) × (a : Action) × Does g i t a
  pub second : (i : ℕ) × (a : Action) × Does g i u a
  pub before : IsWhollyBefore g t u

-- an edge from t to u puts t before u in each equivalent serial history
edge_precedes : (h s : List Operation) (t u : ℕ) → IsWellFormed h → IsSerialRun h s → IsEdge h t u → Precedes s t u
edge_precedes h s t u well run edge = go (run.serial t u edge.differ)
  where
    made : IsProjectedEdge h t u
    made = edge_projected h t u edge

    first : (k : ℕ) × IsSameOperation t (committed_projection h) made.place s k
    first = same_there (committed_projection h) s t made.place made.first.0 (run.equivalent.same_operations t) made.first.1

    second : (k : ℕ) × IsSameOperation u (committed_projection h) made.later s k
    second = same_there (committed_projection h) s u made.later made.second.0 (run.equivalent.same_operations u) made.second.1

    less : first.0 < second.0
    less = run.equivalent.same_order t u made.place made.later first.0 second.0 edge.differ
        (never_aborts h t well edge.commits_first) (never_aborts h u well edge.commits_second) made.conflict first.1 second.1
        made.order

    go : IsWhollyBefore s t u ⊎ IsWhollyBefore s u t → Precedes s t u
    go (inl before) = record {
      first = (first.0, first.1.action, first.1.there);
      second = (second.0, second.1.action, second.1.there);
      before = before;
    }
    go (inr after) =
        let turned = after second.0 first.0 second.1.action first.1.action second.1.there first.1.there in
        absurd (omega (arith, turned, less))

-- so does a path
path_precedes : (h s : List Operation) (t u : ℕ) (others : List ℕ) → IsWellFormed h → IsSerialRun h s → IsPath h t others u
    → Precedes s t u
path_precedes h s t u [] well run edge = edge_precedes h s t u well run edge
path_precedes h s t u (v ∷ others) well run path =
    let near = edge_precedes h s t v well run path.0 in
    let far = path_precedes h s v u others well run path.1 in record {
      first = near.first;
      second = far.second;
      before = λ i j a b here there.
          let less = near.before i near.second.0 a near.second.1 here near.second.2 in
          let more = far.before near.second.0 j near.second.1 b near.second.2 there in omega (arith, less, more);
    }

-- the graph of a serializable history has no cycle
pub serializable_acyclic : (h : List Operation) → IsWellFormed h → IsSerializable h → IsAcyclic h
serializable_acyclic h well run t others path =
    let precedes = path_precedes h run.0 t t others well run.1 path in
    let less = precedes.before precedes.first.0 precedes.first.0 precedes.first.1 precedes.first.1 precedes.first.2 precedes.first.2 in
    omega (arith, less)

-- the operations of v are by v
done_by : (h : List Operation) (v i t : ℕ) (a : Action) → Does (operations_of h v) i t a → t ≡ v
done_by h v i t a does =
    let w = kept_found (λ (o : Operation). nat_eq o.transaction v) h i (record { transaction = t; action = a }) does in
    eqb-true t v w.2

-- a transaction with an operation in the serial history of an order is in the order
in_order : (h : List Operation) (order : List ℕ) (i t : ℕ) (a : Action) → Does (serial_history h order) i t a
    → (n : ℕ) × (slice_get order n ≡ Some t)
in_order h [] i t a does = absurd (nothing_there i _ does)
in_order h (v ∷ order) i t a does = elim (joined_cases (operations_of h v) (serial_history h order) i _ does) [
  | inl w ↦ (0, ap Some (sym (done_by h v i t a w.1)))
  | inr w ↦ let n = in_order h order w.0 t a w.2 in (suc n.0, n.1)
]

-- if each transaction is once in an order, so it is in the rest of the order
rest_once : (v : ℕ) (order : List ℕ)
    → ((i j t : ℕ) → slice_get (v ∷ order) i ≡ Some t → slice_get (v ∷ order) j ≡ Some t → i ≡ j)
    → (i j t : ℕ) → slice_get order i ≡ Some t → slice_get order j ≡ Some t → i ≡ j
rest_once v order once i j t first second = let same = once (suc i) (suc j) t first second in omega (arith, same)

-- and the first one is not in the rest
not_again : (v n t : ℕ) (order : List ℕ)
    → ((i j t : ℕ) → slice_get (v ∷ order) i ≡ Some t → slice_get (v ∷ order) j ≡ Some t → i ≡ j)
    → slice_get order n ≡ Some t → v ≢ t
not_again v n t order once at same = let one = once 0 (suc n) t (ap Some same) at in omega (arith, one)

-- if t is before u in the order, all operations of t come before all of u in the serial history
pub order_before : (h : List Operation) (order : List ℕ) (m n t u : ℕ)
    → ((i j t : ℕ) → slice_get order i ≡ Some t → slice_get order j ≡ Some t → i ≡ j) → m < n → slice_get order m ≡ Some t
    → slice_get order n ≡ Some u → IsWhollyBefore (serial_history h order) t u
order_before h [] m n t u once less first second = absurd (nothing_there m t first)
order_before h (v ∷ order) m zero t u once less first second = absurd (omega (arith, less))
order_before h (v ∷ order) zero (suc n) t u once less first second = λ i j a b here there.
    elim (joined_cases (operations_of h v) (serial_history h order) i _ here) [
      | inl w ↦ elim (joined_cases (operations_of h v) (serial_history h order) j _ there) [
        | inl x ↦ absurd (not_again v n u order once second (sym (done_by h v j u b x.1)))
        | inr x ↦ omega (arith, w.0, x.1)
      ]
      | inr w ↦
          let at = in_order h order w.0 t a w.2 in
          absurd (not_again v at.0 t order once at.1 (let same : v ≡ t = cc in same))
    ]
order_before h (v ∷ order) (suc m) (suc n) t u once less first second = λ i j a b here there.
    elim (joined_cases (operations_of h v) (serial_history h order) i _ here) [
      | inl w ↦ absurd (not_again v m t order once first (sym (done_by h v i t a w.1)))
      | inr w ↦ elim (joined_cases (operations_of h v) (serial_history h order) j _ there) [
        | inl x ↦ absurd (not_again v n u order once second (sym (done_by h v j u b x.1)))
        | inr x ↦
            let further = order_before h order m n t u (rest_once v order once) (omega (arith, less)) first second
            w.0 x.0 a b w.2 x.2 in
            omega (arith, w.1, x.1, further)
      ]
    ]

-- v's operations have none of another transaction
operations_of_other : (h : List Operation) (v t : ℕ) → v ≢ t → operations_of (operations_of h v) t ≡ []
operations_of_other h v t differ =
    none_filtered (λ (o : Operation). nat_eq o.transaction v) (λ (o : Operation). nat_eq o.transaction t) h
    (λ o is. false_from_ne_true (nat_eq o.transaction v)
    (λ too. differ (sym (eqb-true o.transaction v too) ∙ eqb-true o.transaction t is)))

-- a transaction that is not in the order has no operation in the serial history
operations_of_absent : (h : List Operation) (order : List ℕ) (t : ℕ) → ((n : ℕ) → ¬ (slice_get order n ≡ Some t))
    → operations_of (serial_history h order) t ≡ []
operations_of_absent h [] t absent = refl
operations_of_absent h (v ∷ order) t absent =
    filter-append (λ (o : Operation). nat_eq o.transaction t) (operations_of h v) (serial_history h order)
    ∙ ap (λ l. l ++ operations_of (serial_history h order) t) (operations_of_other h v t (λ same. absent 0 (ap Some same)))
    ∙ operations_of_absent h order t (λ n. absent (suc n))

-- one that is once in the order has there the operations that it has in the history
operations_of_present : (h : List Operation) (order : List ℕ) (n t : ℕ)
    → ((i j t : ℕ) → slice_get order i ≡ Some t → slice_get order j ≡ Some t → i ≡ j) → slice_get order n ≡ Some t
    → operations_of (serial_history h order) t ≡ operations_of h t
operations_of_present h [] n t once at = absurd (nothing_there n t at)
operations_of_present h (v ∷ order) zero t once at =
    let same : v ≡ t = cc in
    filter-append (λ (o : Operation). nat_eq o.transaction t) (operations_of h v) (serial_history h order)
    ∙ ap (λ l. operations_of (operations_of h v) t ++ l)
    (operations_of_absent h order t (λ n there. not_again v n t order once there same))
    ∙ append-nil (operations_of (operations_of h v) t)
    ∙ ap (λ w. operations_of (operations_of h w) t) same
    ∙ same_filtered (λ (o : Operation). nat_eq o.transaction t) (λ (o : Operation). nat_eq o.transaction t) h (λ o is. is)
operations_of_present h (v ∷ order) (suc n) t once at =
    filter-append (λ (o : Operation). nat_eq o.transaction t) (operations_of h v) (serial_history h order)
    ∙ ap (λ l. l ++ operations_of (serial_history h order) t) (operations_of_other h v t (not_again v n t order once at))
    ∙ operations_of_present h order n t (rest_once v order once) at

-- a committed transaction has the same operations in the committed projection
projected_operations : (h : List Operation) (t : ℕ) → has_committed h t ≡ true
    → operations_of (committed_projection h) t ≡ operations_of h t
projected_operations h t is =
    same_filtered (λ (o : Operation). has_committed h o.transaction) (λ (o : Operation). nat_eq o.transaction t) h
    (λ o mine. subst (λ n. has_committed h n ≡ true) (sym (eqb-true o.transaction t mine)) is)

-- another has none there
dropped_operations : (h : List Operation) (t : ℕ) → has_committed h t ≡ false
    → operations_of (committed_projection h) t ≡ []
dropped_operations h t is =
    none_filtered (λ (o : Operation). has_committed h o.transaction) (λ (o : Operation). nat_eq o.transaction t) h
    (λ o mine. subst (λ n. has_committed h n ≡ false) (sym (eqb-true o.transaction t mine)) is)

-- the serial history of a serial order has the operations of the committed projection
same_in_order : (h : List Operation) (order : List ℕ) (t : ℕ) → IsSerialOrder h order
    → operations_of (committed_projection h) t ≡ operations_of (serial_history h order) t
same_in_order h order t serial = elim (cases_Bool (has_committed h t)) [
  | inl is ↦
      let at = (serial.are_committed t).0 (true_commits h t is) in
      projected_operations h t is ∙ sym (operations_of_present h order at.0 t serial.once at.1)
  | inr is ↦ dropped_operations h t is
      ∙ sym (operations_of_absent h order t
      (λ n there. both_ways (has_committed h t) is (commits_true h t ((serial.are_committed t).1 (n, there)))))
]

-- a transaction that is not in the order comes before every other, since it has no operation
before_absent : (h : List Operation) (order : List ℕ) (t u : ℕ) → ((n : ℕ) → ¬ (slice_get order n ≡ Some t))
    → IsWhollyBefore (serial_history h order) t u
before_absent h order t u absent = λ i j a b here there. let at = in_order h order i t a here in absurd (absent at.0 at.1)

-- the serial history of a serial order is serial
order_serial : (h : List Operation) (order : List ℕ) → IsSerialOrder h order → IsSerialHistory (serial_history h order)
order_serial h order serial t u differ = go (cases_Bool (has_committed h t)) (cases_Bool (has_committed h u))
  where
    absent : (v : ℕ) → has_committed h v ≡ false → (n : ℕ) → ¬ (slice_get order n ≡ Some v)
    absent v is n there = both_ways (has_committed h v) is (commits_true h v ((serial.are_committed v).1 (n, there)))

    both : (m n : ℕ) → slice_get order m ≡ Some t → slice_get order n ≡ Some u → (m ≡ n) ⊎ ((m < n) ⊎ (n < m))
        → IsWhollyBefore (serial_history h order) t u ⊎ IsWhollyBefore (serial_history h order) u t
    both m n first second (inl same) =
        absurd (differ (same_at order n t u (subst (λ k. slice_get order k ≡ Some t) same first) second))
    both m n first second (inr (inl before)) = inl (order_before h order m n t u serial.once before first second)
    both m n first second (inr (inr after)) = inr (order_before h order n m u t serial.once after second first)

    go : (has_committed h t ≡ true) ⊎ (has_committed h t ≡ false) → (has_committed h u ≡ true) ⊎ (has_committed h u ≡ false)
        → IsWhollyBefore (serial_history h order) t u ⊎ IsWhollyBefore (serial_history h order) u t
    go (inr is) other = inl (before_absent h order t u (absent t is))
    go (inl is) (inr none) = inr (before_absent h order u t (absent u none))
    go (inl is) (inl too) =
        let m = (serial.are_committed t).0 (true_commits h t is) in
        let n = (serial.are_committed u).0 (true_commits h u too) in both m.0 n.0 m.1 n.1 (cases_order m.0 n.0)

-- and conflict equivalent to the committed projection
pub serial_order_runs : (h : List Operation) (order : List ℕ) → IsSerialOrder h order → IsSerialRun h (serial_history h order)
serial_order_runs h order serial = record {
  serial = order_serial h order serial;
  equivalent = record {
    same_operations = λ t. same_in_order h order t serial;
    same_order = λ t u i j k l differ stays remains conflict first second less.
        let edge = projection_edge h i j t u differ less conflict in
        let m = (serial.are_committed t).0 edge.commits_first in
        let n = (serial.are_committed u).0 edge.commits_second in
        order_before h order m.0 n.0 t u serial.once (serial.leads_on m.0 n.0 t u edge m.1 n.1) m.1 n.1 k l first.action
        second.action first.there second.there;
  };
}
