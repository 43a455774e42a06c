-- The replay in the plain meaning of the language. The committed and refused procedures of a history are executed one after
-- another, in reply order, each on the database that the ones before it left. It uses no runs: a law says that it is the
-- replay of runs.
use Rattle.std.specs.Prelude.{◌≡◌, ℤ, List, [], ◌∷◌, Option, Some, None}
use Rattle.sgt_model.specs.declared.limits.Limits.{Limits}
use Rattle.sgt_model.specs.declared.entry.Entry.{Entry}
use Rattle.sgt_model.specs.Contents.{Key, Contents}
use Rattle.sgt_model.specs.Syntax.{ProcedureText}
use Rattle.sgt_model.specs.Runs.{Outcome, Asked, with_accesses}
use Rattle.sgt_model.specs.Executions.{stuck, execution}
use Rattle.sgt_model.specs.Values.{settled}
use Rattle.sgt_model.specs.Configurations.{configuration, procedure_at}
use Rattle.sgt_model.specs.Progress.{Call}
use Rattle.sgt_model.specs.Legality.{Legal}
use Rattle.sgt_model.specs.Replay.{Folded, with_outcome, reported_calls, reported}

-- the execution of a procedure, if there is one
abbrev pub execution_if : Option ProcedureText → List ℤ → Contents → Outcome
execution_if None args database = Asked stuck
execution_if (Some p) args database = execution p args database

-- what a call does to a database: procedures are numbered from 0
abbrev pub execution_of : List ProcedureText → Call → Contents → Outcome
execution_of programs c database = with_accesses c.caller_accesses (execution_if (procedure_at programs c.procedure) c.args database)

-- these calls, the last one first, executed one after another on the initial database
abbrev pub execute_in_turn : Contents → List ProcedureText → List Call → Folded
execute_in_turn opening programs [] = record { results = []; last = opening }
execute_in_turn opening programs (c ∷ before) = with_outcome (execution_of programs c (execute_in_turn opening programs before).last) (execute_in_turn opening programs before)

-- the committed and refused transactions, executed one after another in reply order on the initial database
abbrev pub executed : Contents → List ProcedureText → List Entry → Folded
executed opening programs past = execute_in_turn opening programs (reported_calls past)

-- executed one after another, the procedures of the committed and refused transactions give the answers or codes that were
-- reported, and leave the committed values
pub record IsExecuted (opening : Contents) (programs : List ProcedureText) (past : List Entry) : Type 0 where
  pub answers : (executed opening programs past).results ≡ reported past
  pub database : (k : Key) → (executed opening programs past).last k ≡ settled opening past k

-- every legal history of these procedures is executed
abbrev pub HistoriesAreExecuted : Type 0
HistoriesAreExecuted = (opening : Contents) (programs : List ProcedureText) (limits : Limits) (past : List Entry) → Legal (configuration opening programs limits) past → IsExecuted opening programs past
