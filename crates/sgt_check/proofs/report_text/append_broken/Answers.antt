use Rattle.std.proofs.Common.{◌++◌, map}
use Rattle.std.specs.Prelude.{codes}
use Rattle.sgt_format.specs.Templates.{filled}
use Rattle.sgt_check.specs.Mentions.{mentioned_text}
use Rattle.sgt_check.proofs.Pieces.{grow, on_ok}
use Rattle.sgt_check.proofs.report_text.append_broken.Goals as goal

pub returns : goal.returns
returns c =
    let start = c.args.text.now.items in
    let named = c.extend_from_slice.new.self.items in
    let reported = c.extend_from_slice-2.new.self.items in
    on_ok c.append_filled.result _ _
    (grow start reported c.append_filled.new.text.items (c.args.name.now ++ codes " no: ")
    (filled c.args.why.now (map mentioned_text c.args.parts.now))
    (grow start named reported c.args.name.now (codes " no: ") c.in_ok-extend_from_slice.ensures.items
    c.in_ok-extend_from_slice-2.ensures.items))
    c.append_filled.ensures
