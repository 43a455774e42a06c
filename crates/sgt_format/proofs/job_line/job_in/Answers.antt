use Rattle.std.proofs.Common.{map, ap, sym, ◌∙◌, rules, ◌≡◌, None}
use Rattle.std.specs.Prelude.{option_and_then}
use Rattle.serde_json.specs.View.{view}
use Rattle.sgt_format.specs.JobLines.{job_from}
use Rattle.sgt_format.proofs.Shapes.{three_values, no_job}
use Rattle.sgt_format.proofs.job_line.job_in.Goals as goal
use Rattle.sgt_format.proofs.job_line.job_in.Goals.{in_default-via-then-branch-lt3, in_default-via-else-branch-lt3+else-this-lt4}

pub returns-in-len3 : goal.returns-in-len3
returns-in-len3 c = c.of_three.ensures
    ∙ (ap (λ v. job_from (map view v)) (sym (three_values c.in_ok-items.field-0.now _ _ _ c.in-len3.len_at_least c.in-len3.len_below
    c.word-item.is c.number-item.is c.list-item.is))
    ∙ ap (option_and_then job_from) c.in_ok-items.ensures)

pub returns-in_default : goal.returns-in_default
returns-in_default c =
    let none : job_from (map view c.in_ok-items.field-0.now) ≡ None = elim c.in_default.branch [
      | in_default-via-then-branch-lt3 w ↦ no_job c.in_ok-items.field-0.now (search rules)
      | in_default-via-else-branch-lt3+else-this-lt4 w ↦ no_job c.in_ok-items.field-0.now (search rules)
    ] in
    sym none ∙ ap (option_and_then job_from) c.in_ok-items.ensures
