use Rattle.std.proofs.Common.{length, ap, sym, subst, ◌∙◌}
use Rattle.sgt_log.specs.PackedEntries.{no_entry, unpacked, IsAmong}
use Rattle.sgt_log.proofs.Packed.{index_any}
use Rattle.sgt_log.proofs.packed_entry.PackedEntry.unpacked.Goals as goal

pub returns-in-Other : goal.returns-in-Other
returns-in-Other c =
    c.index-others-at.is
    ∙ index_any _ _ _ no_entry (subst (IsAmong (length c.args.others.now)) c.in-Other.is c.requires)
    ∙ ap (unpacked c.args.others.now) (sym c.in-Other.is)
