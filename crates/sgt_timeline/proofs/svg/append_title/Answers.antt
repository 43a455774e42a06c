use Rattle.sgt_timeline.specs.PictureText.{title_text}
use Rattle.sgt_timeline.proofs.Texts.{after_one}
use Rattle.sgt_timeline.proofs.svg.append_title.Goals as goal

pub returns : goal.returns
unfolding title_text
returns c = after_one c.append_filled-2.result c.args.text.now.items _ _ c.append_filled.new.text.items _ c.in_ok-append_filled.ensures
    c.append_filled-2.ensures
