-- Few edges of a serialization graph.
use Rattle.std.proofs.Common.{◌≡◌, ◌≢◌, ◌<◌, ◌+◌, ◌⊎◌, ℕ, zero, suc, List, [], ◌∷◌, ◌++◌, Option, Some, None, refl, sym, ap, ◌∙◌, subst, inl, inr, arith}
use Rattle.std.specs.Prelude.{length, slice_get}
use Rattle.std.proofs.lemmas.Bool.{cases_eq, cases_lt}
use Rattle.std.proofs.lemmas.Grind.{common_steps}
use Rattle.std.proofs.lemmas.List.{length-append}
use Rattle.sgt_classes.specs.declared.operation.Operation.{Operation}
use Rattle.sgt_classes.specs.declared.operation.Action.{Action}
use Rattle.sgt_classes.specs.declared.operation.Action.TheVariants.{Read, Write}
use Rattle.sgt_classes.specs.declared.graph.Edge.{Edge}
use Rattle.sgt_classes.specs.Histories.{Does, Uses, item_of}
use Rattle.sgt_classes.specs.Serializability.{Conflict}
use Rattle.sgt_classes.specs.Seen.{IsLastWrite, AreLastWrites, IsLastRead, IsOverwritten, HasEdge, IsConflictBy, IsNextConflict, HasConflicts, HasReadConflicts, HasWriteConflicts, AreConnectedAbove, height}
use Rattle.sgt_classes.proofs.Places.{doer_at, operation_at, done_at, done_by, before_next, does_same, uses_item, item_uses}
use Rattle.sgt_classes.proofs.Sources.{same_doer, same_action}

-- the members of a list with one more at the end
pub pushed : {X : Type 0} (xs : List X) (new x : X) (k : ℕ) → slice_get (xs ++ new ∷ []) k ≡ Some x
    → ((k < length xs) × (slice_get xs k ≡ Some x)) ⊎ ((k ≡ length xs) × (new ≡ x))
pushed [] new x zero at = inr (refl, grind (arith, common_steps, at))
pushed [] new x (suc k) at = absurd (grind (arith, common_steps, at))
pushed (y ∷ xs) new x zero at = inl (omega arith, at)
pushed (y ∷ xs) new x (suc k) at = elim (pushed xs new x k at) [
  | inl w ↦ inl (omega (arith, w.0), w.1)
  | inr w ↦ inr (omega (arith, w.0), w.1)
]

-- it keeps what stood there
pub kept_pushed : {X : Type 0} (xs : List X) (new x : X) (k : ℕ) → slice_get xs k ≡ Some x → slice_get (xs ++ new ∷ []) k ≡ Some x
kept_pushed [] new x k at = absurd (grind (arith, common_steps, at))
kept_pushed (y ∷ xs) new x zero at = at
kept_pushed (y ∷ xs) new x (suc k) at = kept_pushed xs new x k at

-- and has the new one at the end
pub at_end : {X : Type 0} (xs : List X) (new : X) → slice_get (xs ++ new ∷ []) (length xs) ≡ Some new
at_end [] new = refl
at_end (y ∷ xs) new = at_end xs new

-- it is longer by one
pub longer : {X : Type 0} (xs : List X) (new : X) → length (xs ++ new ∷ []) ≡ length xs + 1
longer xs new = length-append xs (new ∷ [])

-- the edges that are there stay
pub has_kept : (es : List Edge) (new : Edge) (t u : ℕ) → HasEdge es t u → HasEdge (es ++ new ∷ []) t u
has_kept es new t u has = (has.0, has.1, kept_pushed es new has.1 has.0 has.2, has.3, has.4)

-- the new one is there
pub has_new : (es : List Edge) (new : Edge) → HasEdge (es ++ new ∷ []) new.from new.to
has_new es new = (length es, new, at_end es new, refl, refl)

-- the edge by two operations, and it is one of who does the one to who does the other
abbrev pub edge_by : List Operation → ℕ → ℕ → Edge
edge_by q i j = record { from = doer_at q i; to = doer_at q j; earlier = i; later = j }

pub has_edge_by : (q : List Operation) (es : List Edge) (i j : ℕ) → i < j → j < length q → (t u : ℕ) (a b : Action) → Does q i t a
    → Does q j u b → HasEdge (es ++ edge_by q i j ∷ []) t u
has_edge_by q es i j order within t u a b does does_later =
    subst (λ v. HasEdge (es ++ edge_by q i j ∷ []) t v) (done_by q j u b within does_later)
    (subst (λ v. HasEdge (es ++ edge_by q i j ∷ []) v (doer_at q j)) (done_by q i t a (omega (arith, order, within)) does)
    (has_new es (edge_by q i j)))

-- one more edge by two operations that conflict
pub conflicts_pushed : (q : List Operation) (es : List Edge) (new : Edge)
    → ((k : ℕ) (e : Edge) → slice_get es k ≡ Some e → IsConflictBy q e) → IsConflictBy q new
    → (k : ℕ) (e : Edge) → slice_get (es ++ new ∷ []) k ≡ Some e → IsConflictBy q e
conflicts_pushed q es new are conflict k e at = elim (pushed es new e k at) [
  | inl w ↦ are k e w.1
  | inr w ↦ subst (λ f. IsConflictBy q f) w.1 conflict
]

-- the write that a conflict with no write between begins with is the last
pub write_next : (q : List Operation) (p i t u x : ℕ) (o : Option ℕ) → IsLastWrite q p x o → IsNextConflict q i t p u x
    → Does q i t (Write x) → o ≡ Some i
write_next q p i t u x None none next wrote = absurd (none i t next.order wrote)
write_next q p i t u x (Some m) last next wrote = elim (cases_lt i m) [
  | inl less ↦ absurd (next.next (m, last.1.0, less, last.0, last.1.1))
  | inr most ↦ elim (cases_eq m i) [
    | inl same ↦ ap Some same
    | inr apart ↦ absurd (last.2 i t (omega (arith, most, apart)) next.order wrote)
  ]
]

-- what is known of each writer at a place is known of the one that writes there
pub connected_at : (q : List Operation) (es : List Edge) (p x i : ℕ) (o : Option ℕ) → p < length q
    → (operation_at q p).action ≡ Write x → o ≡ Some i
    → ((u y : ℕ) → Does q p u (Write y) → AreConnectedAbove q es p y u o) → AreConnectedAbove q es p x (doer_at q p) (Some i)
connected_at q es p x i o within writes is all =
    subst (λ r. AreConnectedAbove q es p x (doer_at q p) r) is (all _ x (done_at q p (Write x) within writes))

-- a read of the item that the operation writes conflicts with it
pub read_conflict : (q : List Operation) (p m x r w : ℕ) → Does q p w (Write x) → Does q m r (Read x) → (t u : ℕ) (a b : Action)
    → Does q m t a → Does q p u b → Conflict q m t p u
read_conflict q p m x r w writes reads t u a b first second =
    let wrote : Does q p u (Write x) = subst (λ v. Does q p v (Write x)) (same_doer q p w u _ _ writes second) writes in
    (x, inl (subst (λ v. Does q m v (Read x)) (same_doer q m r t _ _ reads first) reads), inr wrote, inr wrote)

-- above the last read since the last write all are overwritten
pub connected_above : (q : List Operation) (es : List Edge) (j x u : ℕ) (o : Option ℕ) → IsLastRead q j x o
    → AreConnectedAbove q es j x u o
connected_above q es j x u None none = λ k r less read. inl (none k r less read)
connected_above q es j x u (Some i) is = (is.0, is.1, λ k r after less read. inl (is.2 k r after less read))

-- below a connected one is the next
pub connected_below : (q : List Operation) (es es' : List Edge) (j x u i v : ℕ) (o : Option ℕ) → AreConnectedAbove q es j x u (Some i)
    → ((t w : ℕ) → HasEdge es t w → HasEdge es' t w) → Does q i v (Read x) → (v ≢ u → HasEdge es' v u) → IsLastRead q i x o
    → AreConnectedAbove q es' j x u o
connected_below q es es' j x u i v o above kept at has lower = go o lower
  where
    here : (v ≡ u) ⊎ HasEdge es' v u
    here = elim (cases_eq v u) [
      | inl same ↦ inl same
      | inr differ ↦ inr (has differ)
    ]

    widen : (k r : ℕ) → IsOverwritten q k j x ⊎ ((r ≡ u) ⊎ HasEdge es r u) → IsOverwritten q k j x ⊎ ((r ≡ u) ⊎ HasEdge es' r u)
    widen k r (inl over) = inl over
    widen k r (inr (inl same)) = inr (inl same)
    widen k r (inr (inr edge)) = inr (inr (kept r u edge))

    rest : (k r : ℕ) → (k < i → IsOverwritten q k i x) → k < j → Does q k r (Read x)
        → IsOverwritten q k j x ⊎ ((r ≡ u) ⊎ HasEdge es' r u)
    rest k r under less read = elim (cases_lt k i) [
      | inl before ↦ let over = under before in inl (over.0, over.1, over.2, omega (arith, above.0, over.3), over.4)
      | inr most ↦ elim (cases_eq i k) [
        | inl same ↦ inr (subst (λ w. (w ≡ u) ⊎ HasEdge es' w u)
            (same_doer q k v r _ _ (subst (λ n. Does q n v (Read x)) same at) read) here)
        | inr apart ↦ widen k r (above.2 k r (omega (arith, most, apart)) less read)
      ]
    ]

    go : (s : Option ℕ) → IsLastRead q i x s → AreConnectedAbove q es' j x u s
    go None none = λ k r less read. rest k r (λ under. none k r under read) less read
    go (Some n) is = (
      omega (arith, above.0, is.0),
      is.1,
      λ k r after less read. rest k r (λ under. is.2 k r after under read) less read,
    )

-- one operation further
pub conflicts_next : (q : List Operation) (es es' : List Edge) (p : ℕ) → HasConflicts q es p
    → ((t u : ℕ) → HasEdge es t u → HasEdge es' t u) → HasWriteConflicts q es' p → HasReadConflicts q es' p → HasConflicts q es' (p + 1)
conflicts_next q es es' p before kept writes reads i t j u x less next = elim (before_next j p less) [
  | inl earlier ↦ kept t u (before i t j u x earlier next)
  | inr same ↦ here (subst (λ n. IsNextConflict q i t n u x) same next)
]
  where
    here : IsNextConflict q i t p u x → HasEdge es' t u
    here at = elim at.first [
      | inl read ↦ reads i t u x at read
      | inr wrote ↦ writes i t u x at wrote
    ]

-- an earlier read of the item is lower
pub read_lower : (q : List Operation) (i x : ℕ) (o r : Option ℕ) → r ≡ Some i → IsLastRead q i x o → height o < height r
read_lower q i x o r is last = subst (λ s. height o < height s) (sym is) (lower o last)
  where
    lower : (s : Option ℕ) → IsLastRead q i x s → height s < height (Some i)
    lower None none = omega arith
    lower (Some n) at = omega (arith, at.0)

-- the edge from the last writer makes up for all conflicts that begin with a write
pub writes_connected : (q : List Operation) (es : List Edge) (p m y : ℕ) (op : Operation) (writers : ℕ → Option ℕ)
    → AreLastWrites q p writers → slice_get q p ≡ Some op → item_of op.action ≡ Some y → writers y ≡ Some m
    → ((t u : ℕ) (a b : Action) → Does q m t a → Does q p u b → t ≢ u → HasEdge es t u) → HasWriteConflicts q es p
writes_connected q es p m y op writers last at item is connected i t u x next wrote =
    connect (subst (λ n. Does q n t (Write x)) (sym same) wrote) next.second
  where
    one : y ≡ x
    one = let used = uses_item q p op u x at next.second in grind (arith, common_steps, item, used.1)

    same : m ≡ i
    same = let found = write_next q p i t u x (writers x) (last x) next wrote in
        let here : writers x ≡ Some m = subst (λ z. writers z ≡ Some m) one is in grind (arith, common_steps, found, here)

    connect : Does q m t (Write x) → Uses q p u x → HasEdge es t u
    connect first (inl read) = connected t u (Write x) (Read x) first read next.differ
    connect first (inr write) = connected t u (Write x) (Write x) first write next.differ

-- the loop over the reads goes on
pub reads_go_on : (q : List Operation) (es es' : List Edge) (p x i r w : ℕ) (o : Option ℕ) → Does q p w (Write x)
    → AreConnectedAbove q es p x w (Some i) → ((t u : ℕ) → HasEdge es t u → HasEdge es' t u)
    → ((t u : ℕ) (a b : Action) → Does q i t a → Does q p u b → t ≢ u → HasEdge es' t u) → Does q i r (Read x) → IsLastRead q i x o
    → (u y : ℕ) → Does q p u (Write y) → AreConnectedAbove q es' p y u o
reads_go_on q es es' p x i r w o own above kept connected read lower u y does =
    let item : x ≡ y = grind (arith, common_steps, same_action q p w u _ _ own does) in
    subst (λ z. AreConnectedAbove q es' p z u o) item (subst (λ v. AreConnectedAbove q es' p x v o) (same_doer q p w u _ _ own does)
    (connected_below q es es' p x w i r o above kept read (connected r w _ _ read own) lower))

-- the reads of an item, as they are looked up
pub reads_begin : (q : List Operation) (es : List Edge) (p x w : ℕ) (o : Option ℕ) → Does q p w (Write x) → IsLastRead q p x o
    → (u y : ℕ) → Does q p u (Write y) → AreConnectedAbove q es p y u o
reads_begin q es p x w o own last u y does =
    let item : x ≡ y = grind (arith, common_steps, same_action q p w u _ _ own does) in
    subst (λ z. AreConnectedAbove q es p z u o) item (connected_above q es p x u o last)

-- an operation on no item conflicts with none
pub unused : (q : List Operation) (i t p u x : ℕ) (op : Operation) → slice_get q p ≡ Some op → item_of op.action ≡ None
    → ¬ IsNextConflict q i t p u x
unused q i t p u x op at none next =
    let used = uses_item q p op u x at next.second in let both : None ≡ Some x = sym none ∙ used.1 in cc

-- nor does one on an item that has not been written with a write
pub unwritten : (q : List Operation) (i t p u x y : ℕ) (op : Operation) (writers : ℕ → Option ℕ) → slice_get q p ≡ Some op
    → item_of op.action ≡ Some y → AreLastWrites q p writers → writers y ≡ None → IsNextConflict q i t p u x → ¬ Does q i t (Write x)
unwritten q i t p u x y op writers at item last none next wrote =
    let used = uses_item q p op u x at next.second in
    let one : Some y ≡ Some x = sym item ∙ used.1 in
    let same : y ≡ x = cc one in
    let no_write = subst (λ o. IsLastWrite q p y o) none (last y) in
    no_write i t next.order (subst (λ z. Does q i t (Write z)) (sym same) wrote)

-- the last write of an item
pub last_of : (q : List Operation) (p y m : ℕ) (writers : ℕ → Option ℕ) → AreLastWrites q p writers → writers y ≡ Some m
    → IsLastWrite q p y (Some m)
last_of q p y m writers last is = subst (λ o. IsLastWrite q p y o) is (last y)

-- an operation on the item that is written conflicts with the write
pub write_conflict : (q : List Operation) (p m y w : ℕ) (op : Operation) → slice_get q p ≡ Some op → item_of op.action ≡ Some y
    → Does q m w (Write y) → (t u : ℕ) (a b : Action) → Does q m t a → Does q p u b → Conflict q m t p u
write_conflict q p m y w op at item wrote t u a b first second =
    let mine : Does q m t (Write y) = subst (λ v. Does q m v (Write y)) (same_doer q m w t _ _ wrote first) wrote in
    let is : item_of b ≡ Some y = sym (ap (λ (o : Operation). item_of o.action) (does_same q p op u b at second)) ∙ item in
    (y, inr mine, item_uses q p u y b is second, inl mine)

-- what conflicts with a read writes the item
pub writes_next : (q : List Operation) (i t p u x : ℕ) → IsNextConflict q i t p u x → Does q i t (Read x) → Does q p u (Write x)
writes_next q i t p u x next read = elim next.writes [
  | inl wrote ↦ let both : Read x ≡ Write x = same_action q i t t _ _ read wrote in cc
  | inr wrote ↦ wrote
]

-- the operation of one that writes is a write
pub written_by : (q : List Operation) (p u x : ℕ) (op : Operation) → slice_get q p ≡ Some op → Does q p u (Write x)
    → op.action ≡ Write x
written_by q p u x op at wrote = ap (λ (o : Operation). o.action) (does_same q p op u (Write x) at wrote)

-- once all reads have their edges
pub reads_connected : (q : List Operation) (es : List Edge) (p : ℕ) (o : Option ℕ) → o ≡ None
    → ((u x : ℕ) → Does q p u (Write x) → AreConnectedAbove q es p x u o) → HasReadConflicts q es p
reads_connected q es p o none above i t u x next read =
    let all : AreConnectedAbove q es p x u None =
    subst (λ s. AreConnectedAbove q es p x u s) none (above u x (writes_next q i t p u x next read)) in
    elim (all i t next.order read) [
      | inl over ↦ absurd (next.next over)
      | inr rest ↦ elim rest [
        | inl same ↦ absurd (next.differ same)
        | inr edge ↦ edge
      ]
    ]
