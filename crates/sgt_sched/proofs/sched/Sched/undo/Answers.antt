use Rattle.std.proofs.Common.{sym, ◌∙◌, subst}
use Rattle.sgt_model.specs.FallsIn.{FallsIn}
use Rattle.sgt_model.specs.ShortReplies.{full_cause}
use Rattle.sgt_sched.specs.Scheduler.{state}
use Rattle.sgt_sched.proofs.Aborted.{drops_first, next_node, next_falls, undone}
use Rattle.sgt_sched.proofs.sched.Sched.undo.Goals as goal

pub loop-reader-init : goal.loop-reader-init
loop-reader-init g c =
    record {
      falls = subst (λ l. FallsIn (state c.args.self.now) c.args.t l) (sym c.as_slice-reader-items.ensures) c.falling_with-fell.ensures;
      drops = drops_first c.args.t (full_cause c.args.cause c.args.cycle.now) (state c.args.self.now) (state c.end_aborted.new.self)
          c.end_aborted.ensures.ends;
      kept = c.end_aborted.ensures.kept;
    }

pub end_aborted-requires-in-loop-reader-clause-live : goal.end_aborted-requires-in-loop-reader-clause-live
end_aborted-requires-in-loop-reader-clause-live g c = λ κs lives. next_node c.args.t
    (full_cause c.args.cause c.args.cycle.now) c.as_slice-reader-items.result.now _ _
    c.loop-reader.invariant.falls c.loop-reader.reader-index c.reader-item.result c.loop-reader-test.true c.reader-item.is
    c.loop-reader.invariant.drops

pub loop-reader-preserved : goal.loop-reader-preserved
loop-reader-preserved g c = record {
  falls = c.loop-reader.invariant.falls;
  drops = next_falls c.args.t (full_cause c.args.cause c.args.cycle.now) c.as_slice-reader-items.result.now _ _ c.loop-reader.invariant.falls
      c.loop-reader.reader-index
      c.reader-item.result c.loop-reader-test.true c.reader-item.is c.loop-reader.invariant.drops _
      c.end_aborted-in-loop-reader.ensures.ends;
  kept = (
    c.end_aborted-in-loop-reader.ensures.kept.0 ∙ c.loop-reader.invariant.kept.0,
    c.end_aborted-in-loop-reader.ensures.kept.1
        ∙ c.loop-reader.invariant.kept.1,
  );
}

pub returns-clause-undone : goal.returns-clause-undone
returns-clause-undone g c = undone c.args.t
    (full_cause c.args.cause c.args.cycle.now) c.falling_with-fell.result c.as_slice-reader-items.result.now
    c.loop-reader.reader-index _ _ c.as_slice-reader-items.ensures c.loop-reader-test.false c.falling_with-fell.ensures
    c.loop-reader.invariant.drops

pub returns-clause-kept : goal.returns-clause-kept
returns-clause-kept g c = c.loop-reader.invariant.kept
