use Rattle.std.proofs.Common.{rules}
use Rattle.sgt_appends.specs.Tables.{stands}
use Rattle.sgt_appends.proofs.Same.{sees_one, leaves_one}
use Rattle.sgt_appends.proofs.contents.Contents.run.Goals as goal

pub loop-operation-preserved : goal.loop-operation-preserved
loop-operation-preserved c = record {
  sees = sees_one c.args.operations.now c.loop-operation.operation-index c.operation-item.result (stands c.loop-operation.self)
      (stands c.step.new.self) (stands c.args.self.now) (search rules) c.operation-item.is (c.in_ok-step.ensures.sees (search rules))
      c.in_ok-step.ensures.after c.loop-operation.invariant.sees;
  leaves = leaves_one c.args.operations.now c.loop-operation.operation-index c.operation-item.result (stands c.loop-operation.self)
      (stands c.step.new.self) (stands c.args.self.now) (search rules) c.operation-item.is
      c.in_ok-step.ensures.after c.loop-operation.invariant.leaves;
}
