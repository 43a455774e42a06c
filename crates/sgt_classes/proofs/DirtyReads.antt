-- Dirty reads, and recoverability, one operation further.
use Rattle.std.proofs.Common.{◌≡◌, ◌≢◌, ◌<◌, ◌+◌, ℕ, List, Option, Some, None, sym, ap, ◌∙◌, subst, inl, inr, arith}
use Rattle.std.specs.Prelude.{length}
use Rattle.std.proofs.lemmas.Bool.{cases_eq, cases_lt}
use Rattle.std.proofs.lemmas.Grind.{common_steps}
use Rattle.sgt_classes.specs.declared.operation.Operation.{Operation}
use Rattle.sgt_classes.specs.declared.operation.Action.TheVariants.{Read, Write, Commit}
use Rattle.sgt_classes.specs.Histories.{Does, CommittedBefore}
use Rattle.sgt_classes.specs.Classes.{BreaksAvoidance, BreaksRecoverability}
use Rattle.sgt_classes.specs.Seen.{IsDirtyRead, IsLastDirtyRead, AreDirtyReads, IsCleanBy, AreCleanAbove, height}
use Rattle.sgt_classes.proofs.Places.{operation_at, doer_at, done_at, before_next}
use Rattle.sgt_classes.proofs.Sources.{same_doer, same_action}

-- what is read comes from one writer
pub one_source : (h : List Operation) (i n k : ℕ) (a : BreaksAvoidance h i k) (b : BreaksAvoidance h n k) → a.writer ≡ b.writer
one_source h i n k a b =
    let item : a.item ≡ b.item = grind (arith, common_steps, same_action h k _ _ _ _ a.reads.read b.reads.read) in
    elim (cases_lt i n) [
      | inl less ↦ absurd (b.reads.standing (a.reads.last n b.writer less b.reads.earlier
          (subst (λ x. Does h n b.writer (Write x)) (sym item) b.reads.written)))
      | inr most ↦ elim (cases_eq i n) [
        | inl same ↦ same_doer h n _ _ _ _ (subst (λ m. Does h m a.writer (Write a.item)) same a.reads.written) b.reads.written
        | inr apart ↦ absurd (a.reads.standing (b.reads.last i a.writer (omega (arith, most, apart)) a.reads.earlier
            (subst (λ x. Does h i a.writer (Write x)) item a.reads.written)))
      ]
    ]

-- the last dirty read stays where the operation is none
last_kept : (h : List Operation) (p t : ℕ) (o : Option ℕ) → ¬ IsDirtyRead h p t → IsLastDirtyRead h p t o
    → IsLastDirtyRead h (p + 1) t o
last_kept h p t None not_here none = λ k less dirty. elim (before_next k p less) [
  | inl earlier ↦ none k earlier dirty
  | inr e ↦ not_here (subst (λ n. IsDirtyRead h n t) e dirty)
]
last_kept h p t (Some i) not_here is = (
  omega (arith, is.0),
  is.1,
  λ k after less dirty. elim (before_next k p less) [
    | inl earlier ↦ is.2 k after earlier dirty
    | inr e ↦ not_here (subst (λ n. IsDirtyRead h n t) e dirty)
  ],
)

-- an operation that is no dirty read changes nothing
pub dirty_kept : (h : List Operation) (p : ℕ) (lasts earlier writers : ℕ → Option ℕ) → ((i : ℕ) → ¬ BreaksAvoidance h i p)
    → AreDirtyReads h p lasts earlier writers → AreDirtyReads h (p + 1) lasts earlier writers
dirty_kept h p lasts earlier writers clean are = record {
  lasts_are = λ t. last_kept h p t (lasts t) (λ dirty. clean dirty.1.0 dirty.1.1) (are.lasts_are t);
  earlier_are = earlier_are;
  fresh = λ k most. are.fresh k (omega (arith, most));
  writers_are = writers_are;
}
  where
    earlier_are : (k t : ℕ) → k < p + 1 → IsDirtyRead h k t → IsLastDirtyRead h k t (earlier k)
    earlier_are k t less dirty = elim (before_next k p less) [
      | inl before ↦ are.earlier_are k t before dirty
      | inr e ↦ absurd (clean dirty.1.0 (subst (λ n. BreaksAvoidance h dirty.1.0 n) e dirty.1.1))
    ]

    writers_are : (i k : ℕ) → k < p + 1 → (read : BreaksAvoidance h i k) → writers k ≡ Some read.writer
    writers_are i k less read = elim (before_next k p less) [
      | inl before ↦ are.writers_are i k before read
      | inr e ↦ absurd (clean i (subst (λ n. BreaksAvoidance h i n) e read))
    ]

-- what is noted of a dirty read
pub dirty_noted : (h : List Operation) (p i t w : ℕ) (lasts earlier writers lasts' earlier' writers' : ℕ → Option ℕ)
    → Does h p t (Read w) → (read : BreaksAvoidance h i p) → AreDirtyReads h p lasts earlier writers
    → lasts' t ≡ Some p → ((u : ℕ) → u ≢ t → lasts' u ≡ lasts u)
    → earlier' p ≡ lasts t → ((k : ℕ) → k ≢ p → earlier' k ≡ earlier k)
    → writers' p ≡ Some read.writer → ((k : ℕ) → k ≢ p → writers' k ≡ writers k) → AreDirtyReads h (p + 1) lasts' earlier' writers'
dirty_noted h p i t w lasts earlier writers lasts' earlier' writers' does read are here others lower others_earlier wrote others_writers =
    record {
      lasts_are = lasts_are;
      earlier_are = earlier_are;
      fresh = λ k most. others_earlier k (omega (arith, most)) ∙ are.fresh k (omega (arith, most));
      writers_are = writers_are;
    }
  where
    lasts_are : (u : ℕ) → IsLastDirtyRead h (p + 1) u (lasts' u)
    lasts_are u = elim (cases_eq u t) [
      | inl same ↦ subst (λ v. IsLastDirtyRead h (p + 1) v (lasts' v)) (sym same)
          (subst (λ o. IsLastDirtyRead h (p + 1) t o) (sym here)
          (omega arith, ((w, does), (i, read)), λ k after less dirty. omega (arith, after, less)))
      | inr differ ↦ subst (λ o. IsLastDirtyRead h (p + 1) u o) (sym (others u differ)) (last_kept h p u (lasts u)
          (λ dirty. differ (same_doer h p u t _ _ dirty.0.1 does)) (are.lasts_are u))
    ]

    at_place : (u : ℕ) → IsDirtyRead h p u → IsLastDirtyRead h p u (earlier' p)
    at_place u dirty =
        let same : t ≡ u = same_doer h p t u _ _ does dirty.0.1 in
        subst (λ o. IsLastDirtyRead h p u o) (sym lower) (subst (λ v. IsLastDirtyRead h p v (lasts t)) same (are.lasts_are t))

    earlier_are : (k u : ℕ) → k < p + 1 → IsDirtyRead h k u → IsLastDirtyRead h k u (earlier' k)
    earlier_are k u less dirty = elim (cases_eq k p) [
      | inl same ↦ subst (λ n. IsLastDirtyRead h n u (earlier' n)) (sym same)
          (at_place u (subst (λ n. IsDirtyRead h n u) same dirty))
      | inr apart ↦ subst (λ o. IsLastDirtyRead h k u o) (sym (others_earlier k apart))
          (are.earlier_are k u (omega (arith, less, apart)) dirty)
    ]

    writers_are : (n k : ℕ) → k < p + 1 → (other : BreaksAvoidance h n k) → writers' k ≡ Some other.writer
    writers_are n k less other = elim (cases_eq k p) [
      | inl same ↦ subst (λ m. (o : BreaksAvoidance h n m) → writers' m ≡ Some o.writer) (sym same)
          (λ o. wrote ∙ ap Some (one_source h i n p read o)) other
      | inr apart ↦ others_writers k apart ∙ are.writers_are n k (omega (arith, less, apart)) other
    ]

-- above the last dirty read there is none
pub clean_above : (h : List Operation) (j t : ℕ) (o : Option ℕ) → IsLastDirtyRead h j t o → AreCleanAbove h j t o
clean_above h j t None none = λ k less dirty. absurd (none k less dirty)
clean_above h j t (Some i) is = (is.0, is.1, λ k after less dirty. absurd (is.2 k after less dirty))

-- below a clean one is the next
pub clean_below : (h : List Operation) (j t i : ℕ) (o : Option ℕ) → AreCleanAbove h j t (Some i) → IsCleanBy h i j
    → IsLastDirtyRead h i t o → AreCleanAbove h j t o
clean_below h j t i o above clean lower = go o lower
  where
    rest : (k : ℕ) → (k < i → ¬ IsDirtyRead h k t) → k < j → IsDirtyRead h k t → IsCleanBy h k j
    rest k under less dirty = elim (cases_lt k i) [
      | inl before ↦ absurd (under before dirty)
      | inr most ↦ elim (cases_eq i k) [
        | inl here ↦ subst (λ n. IsCleanBy h n j) here clean
        | inr apart ↦ above.2 k (omega (arith, most, apart)) less dirty
      ]
    ]

    go : (q : Option ℕ) → IsLastDirtyRead h i t q → AreCleanAbove h j t q
    go None none = λ k less dirty. rest k (λ under. none k under) less dirty
    go (Some n) is = (
      omega (arith, above.0, is.0),
      is.1,
      λ k after less dirty. rest k (λ under. is.2 k after under) less dirty,
    )

-- an earlier dirty read is lower
pub height_earlier : (h : List Operation) (i t : ℕ) (o : Option ℕ) → IsLastDirtyRead h i t o → height o < height (Some i)
height_earlier h i t None none = omega arith
height_earlier h i t (Some n) is = omega (arith, is.0)

-- a read of what a committed one has written
pub clean_by : (h : List Operation) (j k w : ℕ) (o : Option ℕ) → ((i : ℕ) (read : BreaksAvoidance h i k) → o ≡ Some read.writer)
    → o ≡ Some w → CommittedBefore h w j → IsCleanBy h k j
clean_by h j k w o is here committed i read =
    subst (λ u. CommittedBefore h u j) (grind (arith, common_steps, sym here ∙ is i read)) committed

-- what breaks recoverability is a dirty read
pub dirty_of : (h : List Operation) (k p : ℕ) (broken : BreaksRecoverability h k p) → BreaksAvoidance h broken.write k
dirty_of h k p broken = record {
  item = broken.item;
  writer = broken.writer;
  reader = broken.reader;
  differ = broken.differ;
  reads = broken.reads;
  uncommitted = λ (committed : CommittedBefore h broken.writer k).
      broken.uncommitted (committed.0, omega (arith, committed.1, broken.earlier), committed.2);
}

-- what is known of each committer at a place is known of the one that commits there
pub clean_at : (h : List Operation) (p i : ℕ) (o : Option ℕ) → p < length h → (operation_at h p).action ≡ Commit → o ≡ Some i
    → ((t : ℕ) → Does h p t Commit → AreCleanAbove h p t o) → AreCleanAbove h p (doer_at h p) (Some i)
clean_at h p i o within commits is all =
    subst (λ r. AreCleanAbove h p (doer_at h p) r) is (all _ (done_at h p Commit within commits))

-- a commit after clean reads alone
pub recoverable_clean : (h : List Operation) (p t : ℕ) → Does h p t Commit → AreCleanAbove h p t None → (k : ℕ)
    → ¬ BreaksRecoverability h k p
unfolding dirty_of
recoverable_clean h p t does clean k broken =
    let reader : broken.reader ≡ t = same_doer h p broken.reader t _ _ broken.commits does in
    let read = dirty_of h k p broken in
    broken.uncommitted (clean k broken.earlier
    ((broken.item, subst (λ u. Does h k u (Read broken.item)) reader broken.reads.read), (broken.write, read)) broken.write read)

-- a commit after a read of what one has written that has not committed
pub recoverable_broken : (h : List Operation) (p k t w : ℕ) (o : Option ℕ) → Does h p t Commit → k < p → IsDirtyRead h k t
    → ((i : ℕ) (read : BreaksAvoidance h i k) → o ≡ Some read.writer) → o ≡ Some w → ¬ CommittedBefore h w p
    → BreaksRecoverability h k p
recoverable_broken h p k t w o does less dirty is here uncommitted =
    let read = dirty.1.1 in
    let writer : read.writer ≡ w = grind (arith, common_steps, sym here ∙ is dirty.1.0 read) in
    let reader : t ≡ read.reader = same_doer h k t read.reader _ _ dirty.0.1 read.reads.read in record {
      item = read.item;
      write = dirty.1.0;
      writer = read.writer;
      reader = read.reader;
      differ = read.differ;
      earlier = less;
      reads = read.reads;
      commits = subst (λ u. Does h p u Commit) reader does;
      uncommitted = λ committed. uncommitted (subst (λ u. CommittedBefore h u p) writer committed);
    }
