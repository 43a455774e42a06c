-- The classes lie within one another.
use Rattle.std.proofs.Common.{inl, inr}
use Rattle.sgt_classes.specs.Histories.{EndedBefore}
use Rattle.sgt_classes.specs.Classes.{RigorousAreStrict, StrictAvoidCascadingAborts, AvoidingAreRecoverable}
use Rattle.sgt_classes.proofs.DirtyReads.{dirty_of}

pub rigorous_strict : RigorousAreStrict
rigorous_strict h rigorous i j broken = rigorous i j (inl broken)

pub strict_avoids : StrictAvoidCascadingAborts
strict_avoids h strict i j broken = strict i j record {
  item = broken.item;
  writer = broken.writer;
  user = broken.reader;
  differ = broken.differ;
  earlier = broken.reads.earlier;
  written = broken.reads.written;
  used = inl broken.reads.read;
  active = active;
}
  where
    active : EndedBefore h broken.writer j → ⊥
    active ended = elim ended.2 [
      | inl committed ↦ broken.uncommitted (ended.0, ended.1, committed)
      | inr aborted ↦ broken.reads.standing (ended.0, ended.1, aborted)
    ]

pub avoiding_recoverable : AvoidingAreRecoverable
avoiding_recoverable h avoids k j broken = avoids broken.write k (dirty_of h k j broken)
