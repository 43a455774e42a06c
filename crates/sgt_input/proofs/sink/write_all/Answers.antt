use Rattle.std.proofs.Common.{rules}
use Rattle.sgt_input.proofs.Bytes.{appends_more}
use Rattle.sgt_input.proofs.sink.write_all.Goals as goal

pub loop-at-preserved : goal.loop-at-preserved
loop-at-preserved g c = record {
  within = search rules;
  written = appends_more _ _ _ c.args.bytes.now c.loop-at.at c.in_ok-at.field-0 c.loop-at.invariant.written c.in_ok-at.ensures.bytes;
  well = search rules;
}
