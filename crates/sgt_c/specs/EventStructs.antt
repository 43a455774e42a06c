-- What the fields of an event say to C.
use Rattle.std.specs.Prelude.{◌≡◌, ℕ, take, Some, None}
use Rattle.sgt_model.specs.Contents.{Key}
use Rattle.sgt_model.specs.declared.event.Event.{Event}
use Rattle.sgt_model.specs.declared.event.Event.TheVariants.{Start, Step, Access, Commit, Quit}
use Rattle.sgt_model.specs.declared.event.Request.{Request}
use Rattle.sgt_model.specs.declared.event.Request.TheVariants.{Read, Write}
use Rattle.sgt_c.specs.declared.event_struct.SgtEvent.{SgtEvent}

-- the transaction and the record of an access
abbrev pub IsOn : SgtEvent → ℕ → Key → Type 0
IsOn s t key = (s.tid ≡ t) × (s.table ≡ key.0) × (s.number ≡ key.1)

-- 5 for a read, 6 for a write with its value, 7 for a removal
abbrev pub HoldsRequest : SgtEvent → ℕ → Request → Type 0
HoldsRequest s t (Read key) = (s.kind ≡ 5) × IsOn s t key
HoldsRequest s t (Write key (Some value)) = (s.kind ≡ 6) × IsOn s t key × (s.value ≡ value)
HoldsRequest s t (Write key None) = (s.kind ≡ 7) × IsOn s t key

-- the kind and the fields that belong to it
abbrev pub HoldsEvent : SgtEvent → Event → Type 0
HoldsEvent s (Start procedure args) = (s.kind ≡ 1) × (s.procedure ≡ procedure) × (take s.args s.arg ≡ args)
HoldsEvent s (Step t) = (s.kind ≡ 2) × (s.tid ≡ t)
HoldsEvent s (Access t request) = HoldsRequest s t request
HoldsEvent s (Commit t) = (s.kind ≡ 3) × (s.tid ≡ t)
HoldsEvent s (Quit t) = (s.kind ≡ 4) × (s.tid ≡ t)
