-- The rest of a procedure at a position, and how a cursor moves from position to position.
use Rattle.std.specs.Prelude.{◌≡◌, ℕ, ℤ, ◌+◌, ◌*◌, ◌<◌, ◌≤◌, length, Some, IfSome, Ok, Err, slice_set}
use Rattle.sgt_model.specs.Numbers.{IsValue}
use Rattle.sgt_model.specs.Syntax.{Block}
use Rattle.sgt_model.specs.Executions.{OrCode}
use Rattle.sgt_model.specs.Left.{Rest, Reached, AtLook, AtFind, AtStore, AtEnd, reach}
use Rattle.sgt_model.specs.declared.procedure.Statement.{Statement}
use Rattle.sgt_model.specs.ProcedureTexts.{in_front}
use Rattle.sgt_proc.specs.declared.place.Place.{Place}
use Rattle.sgt_proc.specs.declared.place.Stop.{Stop}
use Rattle.sgt_proc.specs.declared.place.Stop.TheVariants as stop
use Rattle.sgt_proc.specs.declared.place.Went.{Went}
use Rattle.sgt_proc.specs.declared.place.Went.TheVariants.{Stopped, On, Inside}
use Rattle.sgt_proc.specs.Flaws.{size}
use Rattle.sgt_proc.specs.Paths.{following, IsPath, inner, to_come}

-- a position is in a text
pub record IsIn (b : Block) (m : Place) : Type 0 where
  pub path : IsPath m.path.items b
  pub few : m.at ≤ 64

-- with a register set
abbrev pub with_found_in : Place → ℕ → ℤ → Place
with_found_in m r v = record m { registers = slice_set m.registers r (Some v) }

-- the rest when this many statements of the innermost list are done
abbrev pub rest_from : Block → Place → ℕ → Rest
rest_from b m at = record { statements = to_come m.path.items at b; args = m.args; registers = m.registers; answers = m.answers }

-- where the remaining statements lead without an access
abbrev pub reach_from : Block → Place → OrCode Reached
reach_from b m = reach (to_come m.path.items m.at b) m.args m.registers m.answers

-- the result of stopping there
abbrev pub reached_at : Block → Place → Stop → OrCode Reached
reached_at b m (stop.Look key to absent) = Ok (AtLook key to absent (rest_from b m (m.at + 1)))
reached_at b m (stop.Find key to absent) = Ok (AtFind key to absent (rest_from b m (m.at + 1)))
reached_at b m (stop.Put key v) = Ok (AtStore key v (rest_from b m (m.at + 1)))
reached_at b m stop.End = Ok (AtEnd m.registers m.answers)
reached_at b m (stop.Asks code) = Err code
reached_at b m (stop.Absent code) = Err code

-- the index of a stop at an access is below 64
abbrev pub StopsBefore : Place → Stop → Type 0
StopsBefore m (stop.Look key to absent) = m.at < 64
StopsBefore m (stop.Find key to absent) = m.at < 64
StopsBefore m (stop.Put key v) = m.at < 64
StopsBefore m _ = Unit {0}

-- what is to be written is a value, or none
abbrev pub StopsAtValue : Stop → Type 0
StopsAtValue (stop.Put key v) = IfSome v IsValue
StopsAtValue _ = Unit {0}

-- it has not stopped for a read that found no record
abbrev pub HasFound : Stop → Type 0
HasFound (stop.Absent code) = ⊥
HasFound _ = Unit {0}

-- from a position the remaining statements led here, where they stop
pub record Stops (b : Block) (old : Place) (s : Stop) (new : Place) : Type 0 where
  pub same : reached_at b new s ≡ reach_from b old
  pub inside : IsIn b new
  pub before : StopsBefore new s
  pub found : HasFound s

-- the distance to the end
abbrev pub distance : Block → Place → ℕ
distance b m = 2 * size (to_come m.path.items m.at b) + length m.path.items

-- from a position the remaining statements led to another, which is nearer to the end
pub record Passes (b : Block) (old new : Place) : Type 0 where
  pub same : reach_from b new ≡ reach_from b old
  pub inside : IsIn b new
  pub nearer : distance b new < distance b old

-- it stopped or continued
abbrev pub GoesOn : Block → Place → Went → Stop → Place → Type 0
GoesOn b old Stopped s new = Stops b old s new
GoesOn b old On s new = Passes b old new
GoesOn b old Inside s new = Passes b old new

-- a statement was executed that is the next one of a text
abbrev pub Steps : Block → Statement → Place → Went → Stop → Place → Type 0
Steps b s old went stop new = IsIn b old → following old.at (inner old.path.items b) ≡ in_front s (following (old.at + 1) (inner old.path.items b)) → GoesOn b old went stop new
