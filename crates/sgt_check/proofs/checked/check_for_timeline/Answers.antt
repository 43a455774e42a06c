use Rattle.std.proofs.Common.{rules, ◌++◌, ◌∙◌, ap}
use Rattle.sgt_timeline.specs.PictureText.{picture_text}
use Rattle.sgt_check.specs.Reports.{IsReport}
use Rattle.sgt_check.proofs.checked.check_for_timeline.Goals as goal

pub returns-clause-written : goal.returns-clause-written
returns-clause-written c =
    let picture = c.in_ok-picture.picture in record {
      picture = picture;
      drawn = c.in_ok-picture.ensures;
      written = c.in_ok-append_picture.ensures ∙ ap (λ l. l ++ picture_text c.args.history.now picture) c.new-lines.ensures.items;
    }

pub returns-clause-verdict : goal.returns-clause-verdict
returns-clause-verdict c well =
    let found : IsReport c.args.history.now.operations.items c.in_ok-report.report = search rules in
    c.is_sound-sound.ensures c.args.history.now.operations.items (found.serializable well) found.recoverable

pub returns-clause-counts : goal.returns-clause-counts
returns-clause-counts c =
    let found : IsReport c.args.history.now.operations.items c.in_ok-report.report = search rules in found.counts
