use Rattle.std.proofs.Common.{◌++◌, ap, ◌∙◌}
use Rattle.sgt_format.proofs.Pieces.{two_more}
use Rattle.sgt_timeline.specs.PictureText.{escaped, note_text}
use Rattle.sgt_timeline.proofs.svg.append_note.Goals as goal

pub returns : goal.returns
unfolding note_text
returns c =
    let started = c.append_filled.new.text.items in
    two_more c.args.text.now.items c.append_escaped.new.text.items c.extend_from_slice.new.self.items _ _
    (two_more c.args.text.now.items started c.append_escaped.new.text.items _ _ c.in_ok-append_filled.ensures
    (c.in_ok-append_escaped.ensures ∙ ap (λ w. started ++ escaped w) c.as_slice.ensures.value))
    c.in_ok-extend_from_slice.ensures.items
