use Rattle.sgt_format.proofs.Pieces.{two_more}
use Rattle.sgt_timeline.specs.PictureText.{paper_text}
use Rattle.sgt_timeline.proofs.Texts.{after_one}
use Rattle.sgt_timeline.proofs.svg.append_paper.Goals as goal

pub returns : goal.returns
unfolding paper_text
returns c = after_one c.append_filled.result c.args.text.now.items _ _ c.extend_from_slice-2.new.self.items _
    (two_more c.args.text.now.items c.extend_from_slice.new.self.items c.extend_from_slice-2.new.self.items _ _
    c.in_ok-extend_from_slice.ensures.items c.in_ok-extend_from_slice-2.ensures.items)
    c.append_filled.ensures
