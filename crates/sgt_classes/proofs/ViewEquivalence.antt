-- Conflict equivalence is reflexive, symmetric and transitive. If no transaction aborts, it implies view equivalence.
use Rattle.std.proofs.Common.{◌≡◌, ◌≢◌, ◌<◌, ◌⊎◌, ℕ, true, List, length, take, refl, sym, ap, ◌∙◌, subst, inl, inr, arith, eq-eqb}
use Rattle.std.specs.Prelude.{filter, nat_eq}
use Rattle.std.proofs.lemmas.Bool.{cases_eq, cases_order}
use Rattle.sgt_classes.specs.declared.operation.Operation.{Operation}
use Rattle.sgt_classes.specs.declared.operation.Action.{Action}
use Rattle.sgt_classes.specs.declared.operation.Action.TheVariants.{Read, Write, Commit, Abort}
use Rattle.sgt_classes.specs.Histories.{Does, Ends, IsWellFormed}
use Rattle.sgt_classes.specs.Classes.{ReadsFrom}
use Rattle.sgt_classes.specs.Serializability.{Conflict}
use Rattle.sgt_classes.specs.Equivalence.{Aborts, has_committed, operations_of, committed_projection, IsSameOperation, AreEquivalent, EquivalenceLaws, SerialRunsAreComplete}
use Rattle.sgt_classes.specs.ViewEquivalence.{NoneAborts, ReadsInitial, IsFinalWrite, EquivalentAreViewEquivalent, SerialRunsReadAlike}
use Rattle.sgt_classes.proofs.EdgeChains.{same_at}
use Rattle.sgt_classes.proofs.Filters.{kept_there, kept_rises, kept_apart}
use Rattle.sgt_classes.proofs.SerialRuns.{same_there, moved_by, conflict_moved, from_projection, never_aborts, true_commits}

-- the same operation, with the histories exchanged
turned : (t : ℕ) (g h : List Operation) (i k : ℕ) → IsSameOperation t g i h k → IsSameOperation t h k g i
turned t g h i k same = record {
  action = same.action;
  here = same.there;
  there = same.here;
  after_as_many = sym same.after_as_many;
}

-- its action is the same in both
does_there : (t : ℕ) (g h : List Operation) (i k : ℕ) (a : Action) → IsSameOperation t g i h k → Does g i t a → Does h k t a
does_there t g h i k a same does = moved_by g h i k _ same.here same.there _ does

-- two operations of one transaction are in the same order in both
mine_kept : (t : ℕ) (g h : List Operation) (i j k l : ℕ) → IsSameOperation t g i h k → IsSameOperation t g j h l → i < j → k < l
mine_kept t g h i j k l first second less =
    let more = kept_rises (λ (o : Operation). nat_eq o.transaction t) g i j _ less first.here (eq-eqb t t refl) in
    kept_apart (λ (o : Operation). nat_eq o.transaction t) h k l _ second.there (eq-eqb t t refl)
    (omega (arith, more, first.after_as_many, second.after_as_many))

-- an operation is at one position of the other history only
one_place : (t : ℕ) (g h : List Operation) (i k l : ℕ) → IsSameOperation t g i h k → IsSameOperation t g i h l → k ≡ l
one_place t g h i k l first second = go (cases_order k l)
  where
    count : length (operations_of (take k h) t) ≡ length (operations_of (take l h) t)
    count = sym first.after_as_many ∙ second.after_as_many

    go : (k ≡ l) ⊎ ((k < l) ⊎ (l < k)) → k ≡ l
    go (inl same) = same
    go (inr (inl before)) =
        let more = kept_rises (λ (o : Operation). nat_eq o.transaction t) h k l _ before first.there (eq-eqb t t refl) in
        absurd (omega (arith, more, count))
    go (inr (inr after)) =
        let more = kept_rises (λ (o : Operation). nat_eq o.transaction t) h l k _ after second.there (eq-eqb t t refl) in
        absurd (omega (arith, more, count))

-- a conflict, with the operations exchanged
conflict_turned : (h : List Operation) (i t j u : ℕ) → Conflict h i t j u → Conflict h j u i t
conflict_turned h i t j u c = (c.0, c.2, c.1, swap c.3)
  where
    swap : Does h i t (Write c.0) ⊎ Does h j u (Write c.0) → Does h j u (Write c.0) ⊎ Does h i t (Write c.0)
    swap (inl wrote) = inr wrote
    swap (inr wrote) = inl wrote

-- if t has the same operations in both and aborts in one, it aborts in the other
aborts_there : (g h : List Operation) (t : ℕ) → operations_of g t ≡ operations_of h t → Aborts g t → Aborts h t
aborts_there g h t same aborts =
    let w = same_there g h t aborts.0 Abort same aborts.1 in (w.0, does_there t g h aborts.0 w.0 Abort w.1 aborts.1)

reflexive : (h : List Operation) → AreEquivalent h h
reflexive h = record {
  same_operations = λ t. refl;
  same_order = λ t u i j k l differ stays remains conflict first second less.
      let here = one_place t h h i i k (itself t i k first) first in
      let there = one_place u h h j j l (itself u j l second) second in omega (arith, less, here, there);
}
  where
    itself : (t i k : ℕ) → IsSameOperation t h i h k → IsSameOperation t h i h i
    itself t i k same = record {
      action = same.action;
      here = same.here;
      there = same.here;
      after_as_many = refl;
    }

symmetric : (g h : List Operation) → AreEquivalent g h → AreEquivalent h g
symmetric g h e = record {
  same_operations = λ t. sym (e.same_operations t);
  same_order = λ t u i j k l differ stays remains conflict first second less.
      go t u i j k l differ (λ aborts. stays (aborts_there g h t (e.same_operations t) aborts))
      (λ aborts. remains (aborts_there g h u (e.same_operations u) aborts)) conflict first second less (cases_order k l);
}
  where
    go : (t u i j k l : ℕ) → t ≢ u → ¬ Aborts g t → ¬ Aborts g u → Conflict h i t j u → IsSameOperation t h i g k
        → IsSameOperation u h j g l → i < j → (k ≡ l) ⊎ ((k < l) ⊎ (l < k)) → k < l
    go t u i j k l differ stays remains conflict first second less (inl same) =
        let here : Does g l t first.action = subst (λ n. Does g n t first.action) same first.there in
        absurd (differ (ap (λ (o : Operation). o.transaction) (same_at g l _ _ here second.there)))
    go t u i j k l differ stays remains conflict first second less (inr (inl before)) = before
    go t u i j k l differ stays remains conflict first second less (inr (inr after)) =
        let moved = conflict_moved h g i j k l t u (moved_by h g i k _ first.here first.there)
        (moved_by h g j l _ second.here second.there) conflict in
        let back = e.same_order u t l k j i (λ same. differ (sym same)) remains stays (conflict_turned g k t l u moved)
        (turned u h g j l second) (turned t h g i k first) after in
        absurd (omega (arith, back, less))

transitive : (f g h : List Operation) → AreEquivalent f g → AreEquivalent g h → AreEquivalent f h
transitive f g h d e = record {
  same_operations = λ t. d.same_operations t ∙ e.same_operations t;
  same_order = λ t u i j k l differ stays remains conflict first second less.
      let m = same_there f g t i first.action (d.same_operations t) first.here in
      let n = same_there f g u j second.action (d.same_operations u) second.here in
      let moved = conflict_moved f g i j m.0 n.0 t u (moved_by f g i m.0 _ m.1.here m.1.there)
      (moved_by f g j n.0 _ n.1.here n.1.there) conflict in
      let between = d.same_order t u i j m.0 n.0 differ stays remains conflict m.1 n.1 less in
      e.same_order t u m.0 n.0 k l differ (λ aborts. stays (aborts_there g f t (sym (d.same_operations t)) aborts))
      (λ aborts. remains (aborts_there g f u (sym (d.same_operations u)) aborts)) moved (onward t i m.0 k m.1 first)
      (onward u j n.0 l n.1 second) between;
}
  where
    onward : (t i m k : ℕ) → IsSameOperation t f i g m → IsSameOperation t f i h k → IsSameOperation t g m h k
    onward t i m k first second = record {
      action = first.action;
      here = first.there;
      there = does_there t f h i k first.action second first.here;
      after_as_many = sym first.after_as_many ∙ second.after_as_many;
    }

pub equivalence_laws : EquivalenceLaws
equivalence_laws = record {
  reflexive = reflexive;
  symmetric = symmetric;
  transitive = transitive;
}

-- if no transaction aborts, all conflicting operations are in the same order, also those of one transaction
order_kept : (g h : List Operation) (t u i j k l : ℕ) → NoneAborts g → AreEquivalent g h → Conflict g i t j u
    → IsSameOperation t g i h k → IsSameOperation u g j h l → i < j → k < l
order_kept g h t u i j k l none e conflict first second less = elim (cases_eq t u) [
  | inl same ↦ mine_kept t g h i j k l first (subst (λ v. IsSameOperation v g j h l) (sym same) second) less
  | inr differ ↦ e.same_order t u i j k l differ (none t) (none u) conflict first second less
]

-- if no transaction aborts in g, none does in h
none_there : (g h : List Operation) → NoneAborts g → AreEquivalent g h → NoneAborts h
none_there g h none e t aborts = none t (aborts_there h g t (sym (e.same_operations t)) aborts)

-- at n of g, t makes the write that it makes at m of h
pub record IsWriteThere (g h : List Operation) (m t x n : ℕ) : Type 0 where
  pub same : IsSameOperation t h m g n
  pub wrote : Does g n t (Write x)

-- each write of h is one of g
write_there : (g h : List Operation) (m t x : ℕ) → AreEquivalent g h → Does h m t (Write x) → (n : ℕ) × IsWriteThere g h m t x n
write_there g h m t x e does =
    let w = same_there h g t m (Write x) (sym (e.same_operations t)) does in (
      w.0,
      record {
        same = w.1;
        wrote = does_there t h g m w.0 (Write x) w.1 does;
      },
    )

-- a write before a read of the item in h is before it in g
before_read : (g h : List Operation) (m t x n j l r : ℕ) → NoneAborts g → AreEquivalent g h → Does h m t (Write x)
    → IsWriteThere g h m t x n → IsSameOperation r g j h l → Does g j r (Read x) → m < l → n < j
before_read g h m t x n j l r none e does w second read less =
    order_kept h g t r m l n j (none_there g h none e) (symmetric g h e)
    (x, inr does, inl (does_there r g h j l (Read x) second read), inl does) w.same (turned r g h j l second) less

-- a write after another of the item in h is after it in g
after_write : (g h : List Operation) (m t x n i k w : ℕ) → NoneAborts g → AreEquivalent g h → Does h m t (Write x)
    → IsWriteThere g h m t x n → IsSameOperation w g i h k → Does g i w (Write x) → k < m → i < n
after_write g h m t x n i k w none e does there first wrote less =
    order_kept h g w t k m i n (none_there g h none e) (symmetric g h e)
    (x, inr (does_there w g h i k (Write x) first wrote), inr does, inr does) (turned w g h i k first) there.same less

-- what a read reads from in g it reads from in h
reads_kept : (g h : List Operation) (i j k l x w r : ℕ) → NoneAborts g → AreEquivalent g h → IsSameOperation w g i h k
    → IsSameOperation r g j h l → ReadsFrom g i j x w r → ReadsFrom h k l x w r
reads_kept g h i j k l x w r none e first second reads = record {
  earlier = order_kept g h w r i j k l none e (x, inr reads.written, inl reads.read, inl reads.written) first second reads.earlier;
  written = does_there w g h i k (Write x) first reads.written;
  read = does_there r g h j l (Read x) second reads.read;
  standing = λ aborted. none_there g h none e w (aborted.0, aborted.2);
  last = λ m t after before does.
      let n = write_there g h m t x e does in
      let aborted = reads.last n.0 t (after_write g h m t x n.0 i k w none e does n.1 first reads.written after)
      (before_read g h m t x n.0 j l r none e does n.1 second reads.read before) n.1.wrote in
      absurd (none t (aborted.0, aborted.2));
}

-- the same for the initial value
initial_kept : (g h : List Operation) (j l x r : ℕ) → NoneAborts g → AreEquivalent g h → IsSameOperation r g j h l
    → ReadsInitial g j r x → ReadsInitial h l r x
initial_kept g h j l x r none e same reads = (
  does_there r g h j l (Read x) same reads.0,
  λ m t before does.
      let n = write_there g h m t x e does in
      let aborted = reads.1 n.0 t (before_read g h m t x n.0 j l r none e does n.1 same reads.0 before) n.1.wrote in
      absurd (none t (aborted.0, aborted.2)),
)

-- and for final writes
final_kept : (g h : List Operation) (i k x t : ℕ) → NoneAborts g → AreEquivalent g h → IsSameOperation t g i h k
    → IsFinalWrite g i t x → IsFinalWrite h k t x
final_kept g h i k x t none e same final = (
  does_there t g h i k (Write x) same final.0,
  none_there g h none e t,
  λ m u after does.
      let n = write_there g h m u x e does in
      absurd (none u (final.2 n.0 u (after_write g h m u x n.0 i k t none e does n.1 same final.0 after) n.1.wrote)),
)

pub equivalent_view : EquivalentAreViewEquivalent
equivalent_view g h none e =
    let back = symmetric g h e in
    let none_back = none_there g h none e in record {
      same_operations = e.same_operations;
      same_reads = λ i j k l x w r stays remains first second. (
        reads_kept g h i j k l x w r none e first second,
        reads_kept h g k l i j x w r none_back back (turned w g h i k first) (turned r g h j l second),
      );
      same_initial_reads = λ j l x r remains same. (
        initial_kept g h j l x r none e same,
        initial_kept h g l j x r none_back back (turned r g h j l same),
      );
      same_final_writes = λ i k x t same. (
        final_kept g h i k x t none e same,
        final_kept h g k i x t none_back back (turned t g h i k same),
      );
    }

pub serial_run_reads : SerialRunsReadAlike
serial_run_reads h s well run = equivalent_view (committed_projection h) s none run.equivalent
  where
    none : NoneAborts (committed_projection h)
    none t aborts =
        let w = from_projection h aborts.0 t Abort aborts.1 in never_aborts h t well (true_commits h t w.2) aborts

-- a history that is equivalent to a well formed one is well formed
well_formed_there : (g h : List Operation) → AreEquivalent g h → IsWellFormed g → IsWellFormed h
well_formed_there g h e well i t a does ended = go ended.2
  where
    at : (b : Action) (k : ℕ) → Does h k t b → (n : ℕ) × IsSameOperation t h k g n
    at b k done = same_there h g t k b (sym (e.same_operations t)) done

    here : (n : ℕ) × IsSameOperation t h i g n
    here = at a i does

    go : Ends h ended.0 t → ⊥
    go (inl commits) =
        let there = at Commit ended.0 commits in
        well here.0 t a (does_there t h g i here.0 a here.1 does) (
          there.0,
          mine_kept t h g ended.0 i there.0 here.0 there.1 here.1 ended.1,
          inl (does_there t h g ended.0 there.0 Commit there.1 commits),
        )
    go (inr aborts) =
        let there = at Abort ended.0 aborts in
        well here.0 t a (does_there t h g i here.0 a here.1 does) (
          there.0,
          mine_kept t h g ended.0 i there.0 here.0 there.1 here.1 ended.1,
          inr (does_there t h g ended.0 there.0 Abort there.1 aborts),
        )

-- the committed projection of a well formed history is well formed
well_formed_projection : (h : List Operation) → IsWellFormed h → IsWellFormed (committed_projection h)
well_formed_projection h well i t a does ended = go ended.2
  where
    apart : (k m : ℕ) (b : Action) → Does h m t b → has_committed h t ≡ true
        → length (filter (λ (o : Operation). has_committed h o.transaction) (take k h))
        < length (filter (λ (o : Operation). has_committed h o.transaction) (take m h)) → k < m
    apart k m b done is less = kept_apart (λ (o : Operation). has_committed h o.transaction) h k m _ done is less

    go : Ends (committed_projection h) ended.0 t → ⊥
    go (inl commits) =
        let w = from_projection h i t a does in
        let v = from_projection h ended.0 t Commit commits in
        let less = ended.1 in
        well w.0 t a w.1 (v.0, apart v.0 w.0 a w.1 w.2 (omega (arith, less, w.3, v.3)), inl v.1)
    go (inr aborts) =
        let w = from_projection h i t a does in
        let v = from_projection h ended.0 t Abort aborts in
        let less = ended.1 in
        well w.0 t a w.1 (v.0, apart v.0 w.0 a w.1 w.2 (omega (arith, less, w.3, v.3)), inr v.1)

pub serial_run_complete : SerialRunsAreComplete
serial_run_complete h s well run = (
  well_formed_there (committed_projection h) s run.equivalent (well_formed_projection h well),
  λ i t a does.
      let w = same_there s (committed_projection h) t i a (sym (run.equivalent.same_operations t)) does in
      let v = from_projection h w.0 t a (does_there t s (committed_projection h) i w.0 a w.1 does) in
      let commits = true_commits h t v.2 in
      let there = kept_there (λ (o : Operation). has_committed h o.transaction) h commits.0 _ commits.1 v.2 in
      let n = same_there (committed_projection h) s t _ Commit (run.equivalent.same_operations t) there in
      (n.0, does_there t (committed_projection h) s _ n.0 Commit n.1 there),
)
