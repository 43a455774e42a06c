-- What an engine is made of: its configuration (`Configuration`).
use Rattle.std.specs.Prelude.{ℕ, ℤ, cond, nat_eq, List, Option, Some, None, slice_get}
use Rattle.std.specs.Option.{option_map}
use Rattle.sgt_model.specs.declared.limits.Limits.{Limits}
use Rattle.sgt_model.specs.Contents.{Contents}
use Rattle.sgt_model.specs.Syntax.{ProcedureText, empty}
use Rattle.sgt_model.specs.Runs.{Run}
use Rattle.sgt_model.specs.Meaning.{wrong, run_with}

-- the rules by which events are answered: the procedure of each number, or none, and the limits
pub record Rules : Type 0 where
  pub procedures : ℕ → Option ProcedureText
  pub limits : Limits

-- the initial contents, and the rules
pub record Configuration : Type 0 where
  pub opening : Contents
  pub rules : Rules

-- how many arguments procedure n takes, if there is one
abbrev pub takes : Rules → ℕ → Option ℕ
takes r n = option_map (λ (p : ProcedureText). p.args) (r.procedures n)

-- the run of a procedure, if there is one
abbrev pub run_if : Option ProcedureText → List ℤ → Run
run_if None args = wrong
run_if (Some p) args = run_with p args

-- the procedure that takes no arguments, does nothing and answers nothing: what follows it is its caller's own
abbrev pub empty_procedure : ProcedureText
empty_procedure = record { args = 0; body = empty }

-- procedure n of a list, numbered from 0. Number 65535 is the empty one, whatever the list
abbrev pub procedure_at : List ProcedureText → ℕ → Option ProcedureText
procedure_at programs n = cond (nat_eq n 65535) (Some empty_procedure) (slice_get programs n)

-- the rules of these procedures and limits
abbrev pub rules_from : List ProcedureText → Limits → Rules
rules_from programs limits = record { procedures = procedure_at programs; limits = limits }

-- the configuration of these initial contents, procedures and limits
abbrev pub configuration : Contents → List ProcedureText → Limits → Configuration
configuration opening programs limits = record { opening = opening; rules = rules_from programs limits }
