use Rattle.std.proofs.Common.{rules, arith, get_or, refl}
use Rattle.std.proofs.lemmas.Option.{slice_get-get_or}
use Rattle.sgt_c.proofs.KeptFields.{keep_all, kept_next, no_outcome}
use Rattle.sgt_c.proofs.ManyRuns.{no_call, ran_before, ran_next, rest_next}
use Rattle.sgt_c.proofs.run_many.run_each.Goals as goal

pub loop-index-init : goal.loop-index-init
loop-index-init c = record { ran = refl; capacity = refl; rest = refl; kept = keep_all c.args.outcomes.now }

pub loop-index-preserved : goal.loop-index-preserved
loop-index-preserved c = record {
  ran = ran_next c.args.calls.now c.loop-index.outcomes c.loop-index.index no_call c.run_one.new.into c.args.engine.now
      c.loop-index.engine c.run_one.new.engine c.loop-index-test.true
      (omega (arith, c.loop-index.invariant.capacity, c.requires.capacity)) c.loop-index.invariant.ran c.in-Ok.ensures.ran;
  capacity = search rules;
  rest = rest_next c.loop-index.outcomes c.args.outcomes.now c.loop-index.index c.run_one.new.into c.loop-index.invariant.rest;
  kept = kept_next c.args.outcomes.now c.loop-index.outcomes c.loop-index.index no_outcome c.run_one.new.into
      (omega (arith, c.loop-index-test.true, c.loop-index.invariant.capacity, c.requires.capacity)) c.loop-index.invariant.rest
      c.run_one.ensures.kept c.loop-index.invariant.kept;
}

pub returns-in-Err-clause-stopped : goal.returns-in-Err-clause-stopped
returns-in-Err-clause-stopped c = (
  get_or c.args.calls.now c.loop-index.index no_call,
  c.loop-index.engine,
  c.in-Err.ensures.gave_up.0,
  slice_get-get_or c.args.calls.now c.loop-index.index no_call c.loop-index-test.true,
  ran_before c.args.calls.now c.loop-index.outcomes c.loop-index.index c.run_one.new.into c.args.engine.now c.loop-index.engine
      c.loop-index-test.true c.loop-index.invariant.ran,
  c.in-Err.ensures.gave_up.1,
)
