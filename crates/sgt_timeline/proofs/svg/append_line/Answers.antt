use Rattle.std.proofs.Common.{◌++◌, ap, ◌∙◌}
use Rattle.sgt_format.proofs.Pieces.{two_more}
use Rattle.sgt_timeline.specs.PictureText.{line_text}
use Rattle.sgt_timeline.proofs.Texts.{after_one}
use Rattle.sgt_timeline.proofs.svg.append_line.Goals as goal

pub returns : goal.returns
unfolding line_text
returns c =
    let named = c.extend_from_slice-2.new.self.items in
    after_one c.append_filled.result c.args.text.now.items _ _ named _
    (two_more c.args.text.now.items c.extend_from_slice.new.self.items named _ _ c.in_ok-extend_from_slice.ensures.items
    (c.in_ok-extend_from_slice-2.ensures.items ∙ ap (λ k. c.extend_from_slice.new.self.items ++ k) c.kind_name.ensures))
    c.append_filled.ensures
