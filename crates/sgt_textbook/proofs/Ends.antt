-- The textbook's history of a legal one is well formed: no transaction does anything after its end.
use Rattle.std.proofs.Common.{◌≡◌, ◌<◌, ◌+◌, ℕ, zero, suc, true, ◌⊎◌, List, [], ◌∷◌, ◌++◌, length, Some, refl, sym, ap, subst, inl, inr, ◌∙◌, arith}
use Rattle.std.specs.Prelude.{slice_get}
use Rattle.sgt_model.specs.declared.event.Event.{Event}
use Rattle.sgt_model.specs.declared.event.Event.TheVariants.{Start, Step, Access, Commit, Quit}
use Rattle.sgt_model.specs.declared.reply.Reply.{Reply}
use Rattle.sgt_model.specs.declared.reply.Reply.TheVariants as reply
use Rattle.sgt_model.specs.declared.reply.Fate.TheVariants as fate
use Rattle.sgt_model.specs.declared.entry.Entry.{Entry}
use Rattle.sgt_model.specs.Contents.{Key}
use Rattle.sgt_model.specs.Paths.{Member, Rising}
use Rattle.sgt_model.specs.Fates.{subject, live}
use Rattle.sgt_model.specs.Falls.{Falls}
use Rattle.sgt_model.specs.Configurations.{Configuration}
use Rattle.sgt_model.specs.Legality.{LegalReply, Legal}
use Rattle.sgt_model.specs.Aborts.{ReplyIsJustified, AbortsHaveCause}
use Rattle.sgt_model.specs.Laws.{AbortsAlwaysHaveCause}
use Rattle.sgt_model.proofs.Facts.{some_is, live-no_fate, access-live, end-live, live-not_committed, aborted-fate}
use Rattle.sgt_model.proofs.OneReply.{rising_below, rising_rest}
use Rattle.sgt_classes.specs.declared.operation.Action.{Action}
use Rattle.sgt_classes.specs.declared.operation.Action.TheVariants as action
use Rattle.sgt_classes.specs.Histories.{Does, Ends, IsWellFormed}
use Rattle.sgt_textbook.specs.Textbook.{named, stepping, each_does, operations_in, operations_of, textbook}
use Rattle.sgt_textbook.specs.Laws.{AreWellFormed}
use Rattle.sgt_textbook.proofs.Places.{InFirst, InSecond, split_at, still}
use Rattle.sgt_textbook.proofs.Entries.{does, Reported, reports, each_is, alone, named_is}
use Rattle.sgt_textbook.proofs.Histories.{commit_committed, abort_aborted}

-- each number is once in the list
abbrev AreOnce : List ℕ → Type 0
AreOnce l = (n m t : ℕ) → slice_get l n ≡ Some t → slice_get l m ≡ Some t → n ≡ m

member_of : (l : List ℕ) (n t : ℕ) → slice_get l n ≡ Some t → Member t l
member_of [] n t at = absurd (cc)
member_of (u ∷ l) zero t at = inl (sym (some_is u t at))
member_of (u ∷ l) (suc n) t at = inr (member_of l n t at)

rising_once : (l : List ℕ) → Rising l → AreOnce l
rising_once [] r n m t first second = absurd (cc)
rising_once (u ∷ l) r zero zero t first second = refl
rising_once (u ∷ l) r zero (suc m) t first second =
    let less = rising_below u l r t (member_of l m t second) in let same = some_is u t first in absurd (omega (arith, less, same))
rising_once (u ∷ l) r (suc n) zero t first second =
    let less = rising_below u l r t (member_of l n t first) in let same = some_is u t second in absurd (omega (arith, less, same))
rising_once (u ∷ l) r (suc n) (suc m) t first second = ap suc (rising_once l (rising_rest u l r) n m t first second)

named_subject : (event : Event) (j t : ℕ) → slice_get (named event) j ≡ Some t → t ≡ subject event
named_subject (Start p args) j t at = absurd (cc)
named_subject (Step u) j t at = sym (alone u j t at).1
named_subject (Access u d) j t at = sym (alone u j t at).1
named_subject (Commit u) j t at = sym (alone u j t at).1
named_subject (Quit u) j t at = sym (alone u j t at).1

named_once : (event : Event) → AreOnce (named event)
named_once event n m t first second = (named_is event n t first).0 ∙ sym (named_is event m t second).0

stepping_once : (event : Event) → AreOnce (stepping event)
stepping_once (Step u) n m t first second = (alone u n t first).0 ∙ sym (alone u m t second).0
stepping_once (Access u d) n m t first second = (alone u n t first).0 ∙ sym (alone u m t second).0
stepping_once _ n m t first second = absurd (cc)

-- the event's transaction is not among those aborted in cascade with it
undone_once : (past : List Entry) (event : Event) (fell : List ℕ) → Falls past (subject event) fell → AreOnce (named event ++ fell)
undone_once past event fell falls n m t first second =
    go (split_at (named event) fell n t first) (split_at (named event) fell m t second)
  where
    apart : (k j : ℕ) → slice_get (named event) k ≡ Some t → slice_get fell j ≡ Some t → ⊥
    apart k j at there = (falls.each t (member_of fell j t there)).1 (named_subject event k t at)

    go : InFirst (named event) n t ⊎ InSecond (named event) fell n t → InFirst (named event) m t ⊎ InSecond (named event) fell m t → n ≡ m
    go (inl a) (inl b) = named_once event n m t a.1 b.1
    go (inl a) (inr b) = absurd (apart n b.0 a.1 b.2)
    go (inr a) (inl b) = absurd (apart m a.0 b.1 a.2)
    go (inr a) (inr b) = let same = rising_once fell falls.rising a.0 b.0 t a.2 b.2 in
        let x = a.1 in let y = b.1 in omega (arith, same, x, y)

-- of one entry each transaction has one operation at most
each_once : (a : Action) (l : List ℕ) → AreOnce l → (n m t : ℕ) (b c : Action) → slice_get (each_does a l) n ≡ Some (does t b)
    → slice_get (each_does a l) m ≡ Some (does t c) → n ≡ m
each_once a l once n m t b c first second = once n m t (each_is a l n t b first).1 (each_is a l m t c second).1

one_each : (number : Key → ℕ) (s : Configuration) (past : List Entry) (event : Event) (r : Reply) → ReplyIsJustified s past event r
    → (n m t : ℕ) (a b : Action) → slice_get (operations_in number event r) n ≡ Some (does t a)
    → slice_get (operations_in number event r) m ≡ Some (does t b) → n ≡ m
one_each number s past event (reply.Looked k v) cause = each_once _ (stepping event) (stepping_once event)
one_each number s past event (reply.Wrote k v) cause = each_once _ (stepping event) (stepping_once event)
one_each number s past event (reply.Committed answers) cause = each_once _ (named event) (named_once event)
one_each number s past event (reply.Aborted why fell) cause = each_once _ (named event ++ fell) (undone_once past event fell cause.1)
one_each number s past event (reply.Refused code fell) cause = each_once _ (named event ++ fell) (undone_once past event fell cause.1)
one_each number s past event _ cause = λ n m t a b first second. absurd (cc)

-- a transaction with an operation was live before
acts_live : (number : Key → ℕ) (s : Configuration) (past : List Entry) (event : Event) (r : Reply) → LegalReply s past event r
    → (j t : ℕ) (a : Action) → Reported number event r j t a → live past t ≡ true
acts_live number s past event r h j t (action.Read x) reported =
    subst (λ u. live past u ≡ true) reported.by (access-live s past event r h reported.access reported.is)
acts_live number s past event r h j t (action.Write x) reported =
    subst (λ u. live past u ≡ true) reported.by (access-live s past event r h reported.access reported.is)
acts_live number s past event r h j t action.Commit reported = end-live s past event r h t fate.Committed reported
acts_live number s past event r h j t action.Abort reported = end-live s past event r h t reported.0 reported.1

ends_last : (number : Key → ℕ) (s : Configuration) (past : List Entry) → AbortsHaveCause s past → Legal s past
    → IsWellFormed (textbook number past)
ends_last number s [] caused h i t a at ended = absurd (cc)
ends_last number s (e ∷ past) caused h i t a at ended =
    go (λ before. ends_last number s past caused.0 h.0 i t a before) (split_at (textbook number past) (operations_of number e) i _ at)
  where
    -- before the entry it had not ended
    first : (m : ℕ) → slice_get (operations_of number e) m ≡ Some (does t a) → live past t ≡ true
    first m there = acts_live number s past e.event e.reply h.1 m t a ((reports number e.event e.reply).reported m t a there)

    -- and by the entry it ends once
    later : (m : ℕ) → i ≡ length (textbook number past) + m → slice_get (operations_of number e) m ≡ Some (does t a) → (b : Action)
        → InSecond (textbook number past) (operations_of number e) ended.0 (does t b) → ⊥
    later m place there b new =
        let same = one_each number s past e.event e.reply caused.1 new.0 m t b a new.2 there in
        let less = ended.1 in let k = new.1 in omega (arith, same, less, k, place)

    go : (Does (textbook number past) i t a → (k : ℕ) × (k < i) × Ends (textbook number past) k t → ⊥)
        → InFirst (textbook number past) i (does t a) ⊎ InSecond (textbook number past) (operations_of number e) i (does t a) → ⊥
    go rest (inl old) =
        let less = ended.1 in
        let within : ended.0 < length (textbook number past) = omega (arith, less, old.0) in
        rest old.1 (
          ended.0,
          ended.1,
          elim (ended.2) [
            | inl commits ↦ inl (still (textbook number past) (operations_of number e) ended.0 _ within commits)
            | inr aborts ↦ inr (still (textbook number past) (operations_of number e) ended.0 _ within aborts)
          ],
        )
    go rest (inr new) = elim (ended.2) [
      | inl commits ↦ elim (split_at (textbook number past) (operations_of number e) ended.0 _ commits) [
        | inl old ↦ live-not_committed past t (first new.0 new.2) (commit_committed number s past h.0 ended.0 t old.1)
        | inr again ↦ later new.0 new.1 new.2 action.Commit again
      ]
      | inr aborts ↦ elim (split_at (textbook number past) (operations_of number e) ended.0 _ aborts) [
        | inl old ↦ absurd (cc (sym (live-no_fate past t (first new.0 new.2))
            ∙ (aborted-fate past t (abort_aborted number s past h.0 ended.0 t old.1)).1))
        | inr again ↦ later new.0 new.1 new.2 action.Abort again
      ]
    ]

pub well_formed : AbortsAlwaysHaveCause → AreWellFormed
well_formed have_cause number injective s past h = ends_last number s past (have_cause s past h) h
