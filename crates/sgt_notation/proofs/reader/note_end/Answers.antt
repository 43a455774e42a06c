use Rattle.std.proofs.Common.{sym, ◌∙◌}
use Rattle.sgt_notation.proofs.Ends.{one_end}
use Rattle.sgt_notation.proofs.reader.note_end.Goals as goal

pub returns : goal.returns
returns c = λ before known.
    one_end before c.args.operation _ _ c.args.place (sym c.is_end.ensures ∙ c.if-not-is_end.false) known c.in_ok-set_place.ensures.at
    c.in_ok-set_place.ensures.others
