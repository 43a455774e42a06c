use Rattle.std.proofs.Common.{◌≡◌, ◌++◌, drop}
use Rattle.sgt_bank.specs.Reports.{outcome_lines}
use Rattle.sgt_bank.proofs.report.append_outcomes.Given as goal

-- the lines that are left give what all of them give
abbrev pub invariant-loop-number : goal.invariant-loop-number
invariant-loop-number g l =
    l.text.items ++ outcome_lines l.number l.history.entries (drop l.number l.outcomes) ≡ l.fn.text.items ++ outcome_lines 0
    l.history.entries l.outcomes
