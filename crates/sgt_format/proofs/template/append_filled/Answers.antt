use Rattle.std.proofs.Common.{rules, ◌∙◌}
use Rattle.sgt_format.proofs.Templates.{fill_more, fill_end}
use Rattle.sgt_format.proofs.template.append_filled.Goals as goal

pub loop-part-preserved : goal.loop-part-preserved
loop-part-preserved g c =
    fill_more g.S.Spelled.spelled c.loop-part.text.items _ c.extend_from_slice.new.self.items c.append_to.new.text.items _ _ _
    c.args.parts.now
    c.loop-part.part-index c.part-item.result c.loop-part-test.true c.loop-part.invariant c.split_at_mark.ensures.before
    c.split_at_mark.ensures.after c.in_ok-extend_from_slice.ensures.items (c.in_ok-append_to.ensures ∙ search rules)

pub returns : goal.returns
returns g c = c.in_ok-extend_from_slice-2.ensures.items ∙ fill_end g.S.Spelled.spelled c.loop-part.text.items _ _ c.args.parts.now
    c.loop-part.part-index c.loop-part-test.false c.loop-part.invariant
