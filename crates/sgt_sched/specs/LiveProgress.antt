-- The progress of a live transaction, as it is stored here.
use Rattle.std.specs.Prelude.{ℕ}
use Rattle.sgt_model.specs.Syntax.{ProcedureText}
use Rattle.sgt_model.specs.Left.{Left}

-- the number of its procedure, and its cursor: the procedure and its remainder
pub record Progress : Type 0 where
  pub procedure : ℕ
  pub cursor : ProcedureText × Left

-- the remainder of its procedure
abbrev pub left_kept : Progress → Left
left_kept c = c.cursor.1
