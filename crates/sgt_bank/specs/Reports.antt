-- The text of a bank's report.
use Rattle.std.specs.Prelude.{ℕ, ◌+◌, List, [], ◌∷◌, ◌++◌}
use Rattle.sgt_model.specs.declared.entry.Entry.{Entry}
use Rattle.sgt_model.specs.Databases.{Row}
use Rattle.sgt_format.specs.DatabaseText.{database_text}
use Rattle.sgt_audit.specs.declared.outcome.Outcome.{Outcome}
use Rattle.sgt_bank.specs.OutcomeText.{outcome_line}

-- the lines of outcomes, of the jobs from number n on
abbrev pub outcome_lines : {N : Type 0} → ℕ → List Entry → List (Outcome N) → List ℕ
outcome_lines n history [] = []
outcome_lines n history (o ∷ os) = outcome_line n history o ++ outcome_lines (n + 1) history os

-- all of them, and then the database
abbrev pub report_text : {N : Type 0} → List Entry → List (Outcome N) → List Row → List ℕ
report_text history outcomes rows = outcome_lines 0 history outcomes ++ database_text rows
