-- Worked histories in the textbook's notation.
use Rattle.std.specs.Prelude.{◌≡◌, ◌<◌, ℕ, zero, suc, pos, List, [], ◌∷◌, Some, refl}
use Rattle.std.proofs.Common.{ap, inr, arith}
use Rattle.sgt_model.specs.declared.event.Event.TheVariants.{Start, Step}
use Rattle.sgt_model.specs.declared.reply.Reply.TheVariants as reply
use Rattle.sgt_model.specs.declared.entry.Entry.{Entry}
use Rattle.sgt_model.specs.Contents.{Key}
use Rattle.sgt_model.specs.Legality.{Legal}
use Rattle.sgt_model.proofs.Facts.{some_is}
use Rattle.sgt_model.proofs.Computed.{made_by}
use Rattle.sgt_model.proofs.ExampleConfigurations.{small_bank_read, entry}
use Rattle.sgt_model.proofs.ExamplesCallers.{write_skew, own_removal}
use Rattle.sgt_model.proofs.ExamplesReads.{dirty_read_waits, quit_takes_reader, read_past_aborted}
use Rattle.sgt_model.proofs.ExamplesReplay.{two_deposits}
use Rattle.sgt_model.proofs.ExamplesRefusals.{refusal_takes_reader}
use Rattle.sgt_classes.specs.declared.operation.Operation.{Operation}
use Rattle.sgt_classes.specs.declared.operation.Action.{Action}
use Rattle.sgt_classes.specs.declared.operation.Action.TheVariants as action
use Rattle.sgt_classes.specs.Histories.{Does}
use Rattle.sgt_textbook.specs.Textbook.{textbook, commit_order}
use Rattle.sgt_textbook.specs.Laws.{SomeCascade}
use Rattle.sgt_textbook.proofs.Entries.{does}

-- 0 writes, and 1 reads what it wrote; how they end stands after it
abbrev dirty_read_then : (Key → ℕ) → List Operation → List Operation
dirty_read_then number ends =
    does 0 (action.Read (number (0, pos 1)))
    ∷ does 0 (action.Read (number (2, pos 101)))
    ∷ does 0 (action.Write (number (2, pos 101)))
    ∷ does 1 (action.Read (number (0, pos 1)))
    ∷ does 1 (action.Read (number (1, pos 101)))
    ∷ does 1 (action.Read (number (2, pos 101)))
    ∷ ends

-- a dirty read, and an abort that aborts its reader in cascade
quit_takes_reader-textbook : (number : Key → ℕ) → textbook number quit_takes_reader ≡
    dirty_read_then number (does 0 action.Abort ∷ does 1 action.Abort ∷ [])
quit_takes_reader-textbook number = refl

-- a read past an aborted write
read_past_aborted-textbook : (number : Key → ℕ) → textbook number read_past_aborted ≡
    does 0 (action.Write (number (3, pos 7)))
    ∷ does 1 (action.Write (number (3, pos 7)))
    ∷ does 1 action.Abort
    ∷ does 2 (action.Read (number (3, pos 7)))
    ∷ does 0 action.Abort
    ∷ does 2 action.Abort
    ∷ []
read_past_aborted-textbook number = refl

-- a transaction that reads an uncommitted value commits after its writer
dirty_read_waits-textbook : (number : Key → ℕ) → textbook number dirty_read_waits ≡
    dirty_read_then number (does 0 action.Commit ∷ does 1 action.Commit ∷ [])
dirty_read_waits-textbook number = refl

dirty_read_waits-order : commit_order dirty_read_waits ≡ 0 ∷ 1 ∷ []
dirty_read_waits-order = refl

-- one that is aborted in between is not in the order of commits
two_deposits-order : commit_order two_deposits ≡ 0 ∷ 2 ∷ []
two_deposits-order = refl

-- a refusal is an abort, and aborts its reader in cascade
refusal_takes_reader-textbook : (number : Key → ℕ) → textbook number refusal_takes_reader ≡
    does 0 (action.Write (number (3, pos 7)))
    ∷ does 1 (action.Read (number (3, pos 7)))
    ∷ does 0 action.Abort
    ∷ does 1 action.Abort
    ∷ []
refusal_takes_reader-textbook number = refl

-- accesses on which callers decide are reads and writes as all others: 1's write is rejected, so it is none, and 1 is aborted. A
-- read of a record that does not exist is a read
write_skew-textbook : (number : Key → ℕ) → textbook number write_skew ≡
    does 0 (action.Read (number (2, pos 101)))
    ∷ does 0 (action.Read (number (2, pos 102)))
    ∷ does 1 (action.Read (number (2, pos 101)))
    ∷ does 1 (action.Read (number (2, pos 102)))
    ∷ does 0 (action.Write (number (2, pos 101)))
    ∷ does 1 action.Abort
    ∷ does 0 (action.Read (number (3, pos 9)))
    ∷ does 0 action.Commit
    ∷ []
write_skew-textbook number = refl

-- a removal is a write
own_removal-textbook : (number : Key → ℕ) → textbook number own_removal ≡
    does 0 (action.Write (number (2, pos 101)))
    ∷ does 0 (action.Read (number (2, pos 101)))
    ∷ does 1 (action.Read (number (2, pos 101)))
    ∷ []
own_removal-textbook number = refl

-- a transaction reads what another has written, and neither has ended
abbrev dirty_read : List Entry
dirty_read =
    entry (Step 1) (reply.Looked (3, pos 7) (Some (pos 1)))
    ∷ entry (Step 0) (reply.Wrote (3, pos 7) (Some (pos 1)))
    ∷ entry (Start 6 []) (reply.Started 1)
    ∷ entry (Start 5 (pos 1 ∷ [])) (reply.Started 0)
    ∷ []

dirty_read-legal : Legal small_bank_read dirty_read
dirty_read-legal = ((((tt, refl), refl), inr (made_by (0 ∷ []) refl)), inr (made_by (1 ∷ []) refl))

dirty_read-textbook : (number : Key → ℕ) → textbook number dirty_read ≡
    does 0 (action.Write (number (3, pos 7))) ∷ does 1 (action.Read (number (3, pos 7))) ∷ []
dirty_read-textbook number = refl

-- before position 1 only the first operation is done
only_first : (op : Operation) (rest : List Operation) (i t : ℕ) (a : Action) → i < 1 → Does (op ∷ rest) i t a → op.action ≡ a
only_first op rest zero t a h at = ap (λ (o : Operation). o.action) (some_is op (does t a) at)
only_first op rest (suc i) t a h at = absurd (omega (arith, h))

writes_alone : (x y i t : ℕ) (a : Action) → i < 1 → Does (does 0 (action.Write x) ∷ does 1 (action.Read y) ∷ []) i t a → action.Write x ≡ a
writes_alone x y i t a h at = only_first (does 0 (action.Write x)) (does 1 (action.Read y) ∷ []) i t a h at

no_abort : (x : ℕ) → action.Write x ≡ action.Abort → ⊥
no_abort x e = cc

no_commit : (x : ℕ) → action.Write x ≡ action.Commit → ⊥
no_commit x e = cc

-- so a legal history need not avoid cascading aborts
pub some_cascade : SomeCascade
some_cascade = (
  small_bank_read,
  dirty_read,
  dirty_read-legal,
  λ number avoids. avoids 0 1 (record {
    item = number (3, pos 7);
    writer = 0;
    reader = 1;
    differ = λ same. cc same;
    reads = record {
      earlier = omega arith;
      written = refl;
      read = refl;
      standing = λ a. no_abort _ (writes_alone (number (3, pos 7)) (number (3, pos 7)) a.0 0 action.Abort a.1 a.2);
      last = λ k t above below. absurd (omega (arith, above, below));
    };
    uncommitted = λ c. no_commit _ (writes_alone (number (3, pos 7)) (number (3, pos 7)) c.0 0 action.Commit c.1 c.2);
  }),
)
