use Rattle.std.proofs.Common.{◌++◌, ◌∙◌, ap}
use Rattle.std.specs.Prelude.{codes}
use Rattle.sgt_format.proofs.Pieces.{two_more}
use Rattle.sgt_notation.specs.Spellings.{text_at}
use Rattle.sgt_notation.specs.Readings.{texts}
use Rattle.sgt_notation.proofs.ItemTexts.{name_text}
use Rattle.sgt_notation.proofs.spelling.append_item.Goals as goal

pub returns : goal.returns
returns c =
    (two_more c.args.text.now.items c.append_name.new.text.items c.extend_from_slice-2.new.self.items _ (codes "]")
    (two_more c.args.text.now.items c.extend_from_slice.new.self.items c.append_name.new.text.items (codes "[")
    (text_at (texts c.args.history.now) c.args.item)
    c.in_ok-extend_from_slice.ensures.items
    (c.in_ok-append_name.ensures ∙ ap (λ l. c.extend_from_slice.new.self.items ++ l) (name_text c.args.history.now c.args.item)))
    c.in_ok-extend_from_slice-2.ensures.items)
