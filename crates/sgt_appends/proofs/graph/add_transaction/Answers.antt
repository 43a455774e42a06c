use Rattle.std.proofs.Common.{rules, ◌≡◌, ◌≤◌, Some, None, sym, ap, subst, length, arith}
use Rattle.std.specs.Prelude.{slice_get}
use Rattle.std.proofs.lemmas.Grind.{common_steps}
use Rattle.std.proofs.lemmas.Option.{gets}
use Rattle.sgt_appends.specs.Runs.{operations_or_none}
use Rattle.sgt_appends.specs.Indexes.{position_of}
use Rattle.sgt_appends.specs.Lines.{line_in, keys_in}
use Rattle.sgt_appends.proofs.Steps.{linked_one, linked_next}
use Rattle.sgt_appends.proofs.graph.add_transaction.Goals as goal

pub loop-position-preserved : goal.loop-position-preserved
loop-position-preserved c = record {
  linked = linked_one c.args.clean.history.now (position_of c.args.clean.appends.now) (line_in c.args.clean.lines.now) (keys_in c.args.clean.lines.now)
      c.loop-position.links.items c.add_position.new.links.items c.args.number c.loop-position.position c.loop-position.invariant.linked
      c.in_ok-add_position.ensures.more c.in_ok-add_position.ensures.read c.in_ok-add_position.ensures.append;
  longest = c.in_ok-add_position.ensures.longest;
}

pub returns-in_default-clause-linked : goal.returns-in_default-clause-linked
returns-in_default-clause-linked c =
    let nowhere : slice_get c.args.clean.history.now c.args.number ≡ None =
    grind (arith, common_steps, gets, c.in_default.ensures.lookup, c.in_default.is) in
    linked_next c.args.clean.history.now (position_of c.args.clean.appends.now) (line_in c.args.clean.lines.now) (keys_in c.args.clean.lines.now)
    c.args.links.now.items c.args.number 0 c.requires.linked
    (subst (λ os. length os ≤ 0) (sym (ap operations_or_none nowhere)) (omega arith))

pub returns-clause-linked : goal.returns-clause-linked
returns-clause-linked c =
    let there : slice_get c.args.clean.history.now c.args.number ≡ Some c.in-Some.transaction.now =
    grind (arith, common_steps, gets, c.in-Some.ensures.lookup) in
    linked_next c.args.clean.history.now (position_of c.args.clean.appends.now) (line_in c.args.clean.lines.now) (keys_in c.args.clean.lines.now)
    c.loop-position.links.items c.args.number c.loop-position.position c.loop-position.invariant.linked
    (subst (λ os. length os ≤ c.loop-position.position) (sym (ap operations_or_none there)) (search rules))
