-- The claims of a finding, with real time or without.
use Rattle.std.specs.Prelude.{◌≡◌, ◌≢◌, ◌<◌, ℕ, Bool, true, false, List, Option, Some, None, slice_get}
use Rattle.sgt_appends.specs.declared.transaction.Status.TheVariants.{Committed}
use Rattle.sgt_appends.specs.declared.transaction.Transaction.{Transaction}
use Rattle.sgt_appends.specs.Lists.{Has, StandsBefore}
use Rattle.sgt_appends.specs.Runs.{Ended, IsSerialRun}
use Rattle.sgt_appends.specs.Precedences.{Precedes}
use Rattle.sgt_levels.specs.declared.tie.Ground.{Ground}
use Rattle.sgt_clients.specs.declared.clients.Span.{Span}
use Rattle.sgt_clients.specs.declared.finding.Finding.{Finding}
use Rattle.sgt_clients.specs.declared.finding.Finding.TheVariants.{Serial, Cycle, Fault}

-- t ended before u began
pub record EndedBefore (spans : List Span) (t u : ℕ) : Type 0 where
  pub first : Span
  pub second : Span
  pub ended : ℕ
  pub first_is : slice_get spans t ≡ Some first
  pub second_is : slice_get spans u ≡ Some second
  pub ended_is : first.ended ≡ Some ended
  pub before : ended < second.began

-- of two transactions of the order, if one ended before the other began, it stands first
abbrev pub KeepsTime : List Span → List ℕ → Type 0
KeepsTime spans order = (t u : ℕ) → Has order t → Has order u → EndedBefore spans t u → StandsBefore order t u

-- a serial run, which keeps real time if this is strict
abbrev pub IsOrder : Bool → List Transaction → List Span → List ℕ → Type 0
IsOrder false h spans order = IsSerialRun h order
IsOrder true h spans order = IsSerialRun h order × KeepsTime spans order

-- there is such an order: the history is serializable, or strictly serializable
abbrev pub HasOrder : Bool → List Transaction → List Span → Type 0
HasOrder strict h spans = (order : List ℕ) × IsOrder strict h spans order

-- what a step says of its two transactions: by its ground, or without one by real time
abbrev pub Shows : List Transaction → List Span → ℕ → ℕ → Option Ground → Type 0
Shows h spans t u (Some reason) = Precedes h t u
Shows h spans t u None = (t ≢ u) × Ended h t Committed × EndedBefore spans t u

-- a serial order is one, and in place of one a witness is found only if there is none
abbrev pub IsFound : Bool → List Transaction → List Span → Finding → Type 0
IsFound strict h spans (Serial order) = IsOrder strict h spans order.items
IsFound strict h spans (Cycle steps name) = ¬ HasOrder strict h spans
IsFound strict h spans (Fault reader read fault name) = ¬ HasOrder strict h spans

-- whether it is an order
abbrev pub is_order : Finding → Bool
is_order (Serial order) = true
is_order (Cycle steps name) = false
is_order (Fault reader read fault name) = false
