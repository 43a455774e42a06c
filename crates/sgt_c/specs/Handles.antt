-- What the state of a handle says.
use Rattle.std.specs.Prelude.{◌≡◌, ◌↔◌, ◌≤◌, ℕ, Option, None}
use Rattle.sgt_c.specs.declared.held.Held.{Held}

-- another call is running: 0 is closed, and 1 open
abbrev pub IsBusy : ℕ → Type 0
IsBusy state = 2 ≤ state

-- no call is running, and there is no engine
abbrev pub IsClosed : ℕ → Option Held → Type 0
IsClosed state held = (¬ IsBusy state) × (held ≡ None)

-- the handle is busy after a call only if it was before, and as it was then
abbrev pub LeavesFree : ℕ → ℕ → Type 0
LeavesFree before after = (IsBusy after → IsBusy before) × (IsBusy before → after ≡ before)

-- a call of the engine in a handle: its status is 10 if another call is in it, 2 if there is none
abbrev pub Visits : ℕ → ℕ → Option Held → ℕ → Type 0
Visits status before held after = ((status ≡ 10) ↔ IsBusy before) × ((status ≡ 2) ↔ IsClosed before held) × LeavesFree before after

-- the same of a call that tests its numbers first: its status is 5 if they are not accepted
abbrev pub VisitsIf : Type 0 → ℕ → ℕ → Option Held → ℕ → Type 0
VisitsIf accepted status before held after = ((status ≡ 5) ↔ (¬ accepted)) × ((status ≡ 10) ↔ (accepted × IsBusy before))
    × ((status ≡ 2) ↔ (accepted × IsClosed before held)) × LeavesFree before after

-- the same of a call that opens a handle
abbrev pub VisitsToOpen : ℕ → ℕ → ℕ → Type 0
VisitsToOpen status before after = ((status ≡ 10) ↔ IsBusy before) × LeavesFree before after
