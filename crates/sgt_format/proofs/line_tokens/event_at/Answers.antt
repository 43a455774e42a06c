use Rattle.std.proofs.Common.{rules, refl, sym, ap, ◌∙◌}
use Rattle.sgt_proc_json.specs.Trees.{natural}
use Rattle.sgt_format.proofs.LineTokens.{spelled_transaction, spelled_start}
use Rattle.sgt_format.proofs.Numerals.{from_bits}
use Rattle.sgt_format.proofs.line_tokens.event_at.Goals as goal

pub returns-then-takes_end_array : goal.returns-then-takes_end_array
returns-then-takes_end_array c =
    let small = ap (natural 32) (from_bits c.in_ok-word.first (search rules)) ∙ sym c.in_ok-tid_of.ensures in
    spelled_transaction _ _ _ _ c.in_ok-word.ensures.0 c.in_ok-word.first c.in_ok-tid_of.field-0 _ c.in_ok-word.ensures.1
    (c.if-takes_end_array.ensures.taken refl) (c.if-not-has_ended.ensures refl) c.in_ok-word.ensures.2 small c.of_transaction.ensures

pub returns : goal.returns
returns c =
    let small = ap (natural 16) (from_bits c.in_ok-word.first (search rules)) ∙ sym c.in_ok-procedure_of.ensures in
    spelled_start _ _ _ c.in_ok-word.ensures.0 c.in_ok-word.first c.in_ok-procedure_of.field-0 c.in_ok-args.ensures.0
    c.in_ok-args.args _ c.in_ok-word.ensures.1 (sym (c.if-takes_end_array.ensures.kept refl) ∙ c.in_ok-args.ensures.1)
    c.in_ok-word.ensures.2 c.in_ok-args.ensures.2 c.in_ok-args.ensures.3 small c.of_procedure.ensures
