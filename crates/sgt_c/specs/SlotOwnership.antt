-- What a slot owns: nothing, or what a box of its engine owns.
use Rattle.std.specs.Prelude.{Option, Some, None}
use base.Fml.{Fml, ftrue}
use base.Stored.{Coded}
use denote.RawPtr.{Ptr}
use Rattle.std.specs.Box.Ownership.{box_owns}
use Rattle.std.specs.Global.{Global}
use Rattle.std.specs.contracts.impls.GlobalAllocator.TheImpl.{ghosts}
use Rattle.std.specs.contracts.option.Option.{the_row as option_row}
use Rattle.sgt_c.specs.contracts.held.Held.{the_row}

-- nothing if it is empty, else what the box of its engine owns
abbrev pub slot_owns : Global → Ptr → Option the_row.Denot → Fml
slot_owns alloc at None = ftrue
slot_owns alloc at (Some engine) = box_owns (ghosts.dealloc_token alloc) the_row at engine

-- how the logic encodes the content of a slot
abbrev pub slot_coded : Coded (Option the_row.Denot)
slot_coded = (option_row the_row).coded
