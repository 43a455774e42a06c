use Rattle.std.proofs.Common.{◌||◌, nat_eq, ap, ◌∙◌}
use Rattle.sgt_c.proofs.Decisions.{plan_said}
use Rattle.sgt_c.proofs.shared.planning.plan_next.Goals as goal

pub returns-clause-plan : goal.returns-clause-plan
returns-clause-plan c = (
  c.next-planned.result,
  c.planned_status.ensures,
  plan_said c.args.entries c.args.is_busy c.args.now c.args.plan.now c.plan_struct.result _ _ c.next-planned.result c.next-planned.new.wakes _
      c.read_plan-next.ensures c.plan_struct.ensures
      (λ w. c.note_wake.ensures.woken ∙ ap (λ b. b || nat_eq c.args.wakes.now 1) w)
      c.next-planned.ensures.turn,
)
