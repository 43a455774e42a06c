-- What an entry is to a caller that makes one step after another.
use Rattle.std.specs.Prelude.{◌≡◌, true}
use Rattle.sgt_model.specs.declared.entry.Entry.{Entry}
use Rattle.sgt_log.specs.declared.packed_entry.PackedEntry.{PackedEntry}
use Rattle.sgt_log.specs.declared.packed_entry.PackedEntry.TheVariants as packed
use Rattle.sgt_log.specs.declared.step_kind.StepKind.{StepKind}
use Rattle.sgt_log.specs.declared.step_kind.StepKind.TheVariants as kind
use Rattle.sgt_log.specs.EntryParts.{is_access, is_at_end, IsQuiet}

-- an entry of this kind
abbrev pub IsOfKind : StepKind → Entry → Type 0
IsOfKind kind.Access e = IsQuiet e × (is_access e.reply ≡ true)
IsOfKind kind.End e = IsQuiet e × (is_at_end e.reply ≡ true)
IsOfKind kind.Other e = Unit {0}

-- the kind of a packed entry
abbrev pub kind_of : PackedEntry → StepKind
kind_of (packed.Looked table t id v) = kind.Access
kind_of (packed.Wrote table t id v) = kind.Access
kind_of (packed.Ended t) = kind.End
kind_of _ = kind.Other
