-- The replay of runs is the replay of executions, since a run is an execution.
use Rattle.std.specs.Prelude.{◌≡◌, ℤ, List, [], ◌∷◌, Option, Some, None}
use Rattle.std.proofs.Common.{refl, sym, ap, ◌∙◌}
use Rattle.sgt_model.specs.declared.limits.Limits.{Limits}
use Rattle.sgt_model.specs.Contents.{Contents}
use Rattle.sgt_model.specs.Syntax.{ProcedureText}
use Rattle.sgt_model.specs.Runs.{serial, with_accesses}
use Rattle.sgt_model.specs.Configurations.{run_if, configuration, procedure_at}
use Rattle.sgt_model.specs.Progress.{Call, outcome_in}
use Rattle.sgt_model.specs.Replay.{Folded, with_outcome, run_in_turn, reported_calls}
use Rattle.sgt_model.specs.ExecutedReplay.{execution_if, execution_of, execute_in_turn, HistoriesAreExecuted}
use Rattle.sgt_model.proofs.Executions.{serial_is}
use Rattle.sgt_model.proofs.Replays.{is_serializable}

-- the run of a call is its execution
run_is : (p : Option ProcedureText) (args : List ℤ) (m : Contents) → serial (run_if p args) m ≡ execution_if p args m
run_is None args m = refl
run_is (Some p) args m = serial_is p args m

call_is : (opening : Contents) (programs : List ProcedureText) (limits : Limits) (c : Call) (m : Contents)
    → outcome_in (configuration opening programs limits).rules c m ≡ execution_of programs c m
call_is opening programs limits c m = ap (with_accesses c.caller_accesses) (run_is (procedure_at programs c.procedure) c.args m)

replay_is : (opening : Contents) (programs : List ProcedureText) (limits : Limits) (calls : List Call)
    → run_in_turn (configuration opening programs limits) calls ≡ execute_in_turn opening programs calls
replay_is opening programs limits [] = refl
replay_is opening programs limits (c ∷ before) =
    let ran : Folded = execute_in_turn opening programs before in
    ap (λ (f : Folded). with_outcome (outcome_in (configuration opening programs limits).rules c f.last) f)
    (replay_is opening programs limits before)
    ∙ ap (λ o. with_outcome o ran) (call_is opening programs limits c ran.last)

-- the law
pub is_executed : HistoriesAreExecuted
is_executed opening programs limits past legal =
    let same = replay_is opening programs limits (reported_calls past) in
    let replay = is_serializable (configuration opening programs limits) past legal in
    record {
      answers = ap (λ (f : Folded). f.results) (sym same) ∙ replay.answers;
      database = λ k. ap (λ (f : Folded). f.last k) (sym same) ∙ replay.database k;
    }
