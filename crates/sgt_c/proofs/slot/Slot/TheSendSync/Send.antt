-- A slot may move to another thread: it owns the engine in memory, which may, and the right to free its block, which is
-- bound to no thread.
use mir.Raw.{raw}
use base.Fraction.{full_share}
use base.Shift.{Keyless}
use denote.Exit.{Exit, unchanged, leaves, hidden, under}
use denote.Memory.{lone}
use denote.Param.Send.{IsSend, Quiet, AllSend, part_keyless, owning_send, struct_send, sendable}
use denote.RawPtr.{Ptr, block_ptr, null_ptr, lies_at}
use denote.Struct.Owning.{shape, fields, to}
use denote.Struct.Struct.{exits_of}
use Rattle.std.proofs.Crossing as crossing
use Rattle.std.proofs.alloc.Global.TheSendSync as handle
use Rattle.std.specs.Global.{Global}
use Rattle.std.specs.Prelude.{Option, Some, None}
use Rattle.sgt_c.proofs.Crossing.{held_send}
use Rattle.sgt_c.specs.SlotOwnership.{slot_owns}
use Rattle.sgt_c.specs.contracts.held.Held as Held
use Rattle.sgt_c.specs.contracts.slot.Slot.{the_row, the_type}

lies_keyless : (at : Ptr) (engine : (Held.the_row).Denot) → Keyless (lies_at Held.the_row full_share at engine)
lies_keyless (block_ptr b o) engine = part_keyless Held.the_row held_send full_share engine b o
lies_keyless null_ptr engine = tt

owns_keyless : (alloc : Global) (at : Ptr) (held : Option (Held.the_row).Denot) → Keyless (slot_owns alloc at held)
owns_keyless alloc at None = tt
owns_keyless alloc at (Some engine) = (lies_keyless at engine, crossing.frees.frees alloc (raw (lone Held.the_row.mir)) at)

-- what is quiet of the fields is quiet of the struct that holds them
still_quiet : {D X : Type 0} (inside : D → X) (e : Exit X) → Quiet e → Quiet (hidden (under inside e))
still_quiet inside unchanged q = λ x w. tt
still_quiet inside (leaves L l S s first) q = λ d. q (inside d)

pub send : IsSend the_row
send =
    let all : AllSend (fields the_type) = (search sendable, (handle.the_field_send, tt)) in
    owning_send the_type all (λ s. owns_keyless s.alloc s.at s.held)
    (λ k. still_quiet (to the_type) (exits_of k (fields the_type)) ((struct_send (shape the_type) all).leaving k))
