use Rattle.std.proofs.Common.{rules, ◌∙◌, ◌++◌, ap, append_assoc}
use Rattle.sgt_notation.specs.Numbering.{texts_of}
use Rattle.sgt_clients.proofs.Spelled.{spelled_one}
use Rattle.sgt_clients.proofs.operations.read_operations.Goals as goal

pub loop-place-preserved : goal.loop-place-preserved
loop-place-preserved c =
    let first = c.loop-place.invariant.more in
    let then = c.in_ok-operation.ensures.more in record {
      known = c.in_ok-operation.ensures.known;
      more = (first.0 ++ then.0, then.1 ∙ ap (λ l. l ++ then.0) first.1 ∙ append_assoc (texts_of c.args.keys.now) first.0 then.0);
      spelled = spelled_one c.args.committed (texts_of c.loop-place.keys) then.0 (texts_of c.read_operation.new.keys) c.args.items.now
          c.loop-place.place c.index-items-place.result c.loop-place.accesses.items _ c.loop-place.counted.items _
          c.in_ok-operation.operation c.loop-place-test.true (search rules) then.1 c.loop-place.invariant.spelled
          c.in_ok-operation.ensures.spelled (search rules) c.in_ok-add_operation.ensures;
    }
