use Rattle.std.proofs.Common.{rules, ◌≡◌, ◌≤◌, Some, None, sym, ap, subst, length, arith}
use Rattle.std.specs.Prelude.{slice_get}
use Rattle.std.proofs.lemmas.Grind.{common_steps}
use Rattle.std.proofs.lemmas.Option.{gets}
use Rattle.sgt_appends.specs.Runs.{operations_or_none}
use Rattle.sgt_appends.specs.Lines.{line_in, keys_in}
use Rattle.sgt_appends.proofs.Added.{own_next}
use Rattle.sgt_appends.proofs.Longest.{lines_next}
use Rattle.sgt_appends.proofs.lines.Lines.add_transaction.Goals as goal

pub returns-in_default : goal.returns-in_default
returns-in_default c =
    let nowhere : slice_get c.args.history.now c.args.number ≡ None = grind (arith, common_steps, gets, c.in_default.ensures.lookup, c.in_default.is) in
    lines_next c.args.history.now c.args.number 0 (line_in c.args.self.now) (keys_in c.args.self.now) c.requires
    (subst (λ os. length os ≤ 0) (sym (ap operations_or_none nowhere)) (omega arith))

pub returns : goal.returns
returns c =
    let there : slice_get c.args.history.now c.args.number ≡ Some c.in-Some.transaction.now =
    grind (arith, common_steps, gets, c.in-Some.ensures.lookup) in
    lines_next c.args.history.now c.args.number c.loop-position.position (line_in c.loop-position.self) (keys_in c.loop-position.self)
    c.loop-position.invariant.lines
    (subst (λ os. length os ≤ c.loop-position.position) (sym (ap operations_or_none there)) (search rules))

pub loop-position-preserved : goal.loop-position-preserved
loop-position-preserved c =
    let there : slice_get c.args.history.now c.args.number ≡ Some c.in-Some.transaction.now =
    grind (arith, common_steps, gets, c.in-Some.ensures.lookup) in
    record {
      lines = c.in_ok-add_position.ensures;
      own = λ k. own_next c.args.history.now c.args.number k c.loop-position.position c.in-Some.transaction.now
          c.deref-operation-items.result.now c.operation-item.result _ _ there c.deref-operation-items.ensures.value (search rules)
          c.operation-item.is (c.loop-position.invariant.own k) (c.in_ok-note.ensures k);
    }
