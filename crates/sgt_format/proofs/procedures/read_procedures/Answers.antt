use Rattle.std.proofs.Common.{rules, ◌≡◌, Err}
use Rattle.sgt_format.proofs.ReadProcedures.{one_more, next_refused}
use Rattle.sgt_format.proofs.procedures.read_procedures.Goals as goal

pub loop-index-preserved : goal.loop-index-preserved
loop-index-preserved c = record {
  so_far = rw c.push_reserved.ensures.items
      (one_more c.args.trees.now c.loop-index.index _ c.loop-index.list.items c.in_ok-read_procedure.field-0 c.loop-index-test.true
      c.index-trees-index.is c.loop-index.invariant.so_far c.in_ok-read_procedure.ensures.procedure);
  capacity = search rules;
  count = search rules;
}

pub returns-in_err-read_procedure-clause-refused : goal.returns-in_err-read_procedure-clause-refused
returns-in_err-read_procedure-clause-refused c =
    let error : c.from_residual-in_err-read_procedure.result ≡ Err c.in_err-read_procedure.field-0.0 = search rules in
    rw error (next_refused c.args.trees.now c.loop-index.index _ _ c.loop-index.list.items c.in_err-read_procedure.field-0.0
    (search rules) c.loop-index-test.true c.index-trees-index.is c.loop-index.invariant.so_far c.in_err-read_procedure.ensures.refused)
