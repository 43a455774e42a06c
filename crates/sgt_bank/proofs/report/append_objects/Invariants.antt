use Rattle.std.proofs.Common.{◌≡◌, ◌++◌, drop}
use Rattle.sgt_bank.specs.OutcomeJson.{outcomes_json}
use Rattle.sgt_bank.proofs.report.append_objects.Given as goal

-- the lines that are left give what all of them give
abbrev pub invariant-loop-number : goal.invariant-loop-number
invariant-loop-number g l =
    l.text.items ++ outcomes_json l.number l.failed l.history.entries (drop l.number l.outcomes) ≡ l.fn.text.items ++ outcomes_json 0
    l.failed l.history.entries l.outcomes
