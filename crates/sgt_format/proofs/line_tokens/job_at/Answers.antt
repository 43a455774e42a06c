use Rattle.std.proofs.Common.{rules, sym, ap, ◌∙◌}
use Rattle.sgt_proc_json.specs.Trees.{natural}
use Rattle.sgt_format.proofs.LineTokens.{spelled_job}
use Rattle.sgt_format.proofs.Numerals.{from_bits}
use Rattle.sgt_format.proofs.line_tokens.job_at.Goals as goal

pub returns : goal.returns
returns c =
    let small = ap (natural 16) (from_bits c.in_ok-word.first (search rules)) ∙ sym c.in_ok-procedure_of.ensures in
    spelled_job _ _ _ c.in_ok-word.ensures.0 c.in_ok-word.first c.in_ok-procedure_of.field-0 c.in_ok-args.ensures.0
    c.in_ok-args.args _ c.in_ok-word.ensures.1 c.in_ok-args.ensures.1 c.in_ok-word.ensures.2 c.in_ok-args.ensures.2
    c.in_ok-args.ensures.3 small c.job_call.ensures
