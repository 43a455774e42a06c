-- The remainder of a live transaction's procedure, by the rules and a history.
use Rattle.std.specs.Prelude.{ℕ, ℤ, List, Option, Some, None}
use Rattle.sgt_model.specs.declared.entry.Entry.{Entry}
use Rattle.sgt_model.specs.Syntax.{ProcedureText}
use Rattle.sgt_model.specs.Executions.{stuck}
use Rattle.sgt_model.specs.Left.{Left, ToRaise, left_at_start, left_after}
use Rattle.sgt_model.specs.Configurations.{Rules}
use Rattle.sgt_model.specs.Progress.{Call, call_of, reads, made}

-- the remainder of a procedure at its start; a procedure that does not exist is never started
abbrev pub left_if : Option ProcedureText → List ℤ → Left
left_if None args = ToRaise stuck
left_if (Some p) args = left_at_start p args

-- the remainder of a call at its start
abbrev pub left_of_call : Rules → Call → Left
left_of_call rules c = left_if (rules.procedures c.procedure) c.args

-- the remainder of t in a history: just after the accesses that it made, whose reads returned what it read
abbrev pub left_of : Rules → List Entry → ℕ → Left
left_of rules past t = left_after (left_of_call rules (call_of past t)) (reads past t) (made past t)
