use Rattle.std.proofs.Common.{rules, refl, inl, inr, arith}
use Rattle.std.proofs.lemmas.Grind.{common_steps}
use Rattle.std.proofs.lemmas.Option.{gets}
use Rattle.sgt_appends.proofs.Passed.{may_run, not_aborted, never_there}
use Rattle.sgt_appends.proofs.solver.add_node.Goals as goal

pub returns-in_default : goal.returns-in_default
returns-in_default c = inr (
  never_there c.args.history.now c.args.node (grind (arith, common_steps, gets, c.in_default.ensures.lookup, c.in_default.is)),
  refl,
)

pub returns-then-eq : goal.returns-then-eq
returns-then-eq c = inr (
  not_aborted c.args.history.now c.args.node c.in-Some.transaction.now (grind (arith, common_steps, gets, c.in-Some.ensures.lookup))
      (search rules),
  refl,
)

pub returns : goal.returns
returns c = inl (
  may_run c.args.history.now c.args.node c.in-Some.transaction.now (grind (arith, common_steps, gets, c.in-Some.ensures.lookup))
      (λ aborted. grind (arith, common_steps, aborted, c.if-eq.ensures, c.if-eq.false)),
  c.in_ok-push.ensures.items,
)
