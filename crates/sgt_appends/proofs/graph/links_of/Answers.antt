use Rattle.std.proofs.Common.{rules, sym, subst}
use Rattle.sgt_appends.specs.Indexes.{position_of}
use Rattle.sgt_appends.specs.Lines.{line_in, keys_in}
use Rattle.sgt_appends.specs.Required.{AreLinked}
use Rattle.sgt_appends.proofs.Steps.{none_linked_yet, linked_whole}
use Rattle.sgt_appends.proofs.graph.links_of.Goals as goal

pub loop-number-init : goal.loop-number-init
loop-number-init c = record {
  linked = subst (λ ls. AreLinked c.args.history.now (position_of c.args.appends.now) (line_in c.args.lines.now) (keys_in c.args.lines.now) ls 0 0)
      (sym c.new-links.ensures.items)
      (none_linked_yet c.args.history.now (position_of c.args.appends.now) (line_in c.args.lines.now) (keys_in c.args.lines.now));
  longest = λ k r p seen is reads. absurd (search rules);
}

pub returns : goal.returns
returns c =
    linked_whole c.args.history.now (position_of c.args.appends.now) (line_in c.args.lines.now) (keys_in c.args.lines.now)
    c.loop-number.links.items c.loop-number.number c.loop-number.invariant.linked (search rules)
