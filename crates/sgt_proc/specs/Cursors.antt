-- The view of a cursor.
use Rattle.std.specs.Prelude.{◌≡◌}
use Rattle.sgt_model.specs.Syntax.{Block}
use Rattle.sgt_model.specs.Left.{Left, ToRun, ToRaise, reached}
use Rattle.sgt_proc.specs.declared.place.Place.{Place}
use Rattle.sgt_proc.specs.declared.place.Stop.{Stop}
use Rattle.sgt_proc.specs.declared.place.Stop.TheVariants as stop
use Rattle.sgt_proc.specs.Places.{IsIn, rest_from, reached_at, StopsBefore, StopsAtValue}

-- the rest right after the last access; a code, if that was a read that found no record
abbrev pub left_after : Block → Place → Stop → Left
left_after b following (stop.Absent code) = ToRaise code
left_after b following _ = ToRun (rest_from b following following.at)

-- a cursor stands where the rest leads without an access
pub record Stands (b : Block) (following now : Place) (s : Stop) : Type 0 where
  pub inside : IsIn b now
  pub before : StopsBefore now s
  pub in_range : StopsAtValue s
  pub same : reached_at b now s ≡ reached (left_after b following s)
