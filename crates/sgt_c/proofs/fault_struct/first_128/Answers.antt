use Rattle.std.proofs.Common.{sym, arith}
use Rattle.std.proofs.lemmas.List.{length-take-le, take_all}
use Rattle.sgt_c.proofs.fault_struct.first_128.Goals as goal

pub slice_bounds-result-end : goal.slice_bounds-result-end
slice_bounds-result-end c = sym (length-take-le 128 c.args.positions.now (omega (arith, c.if-positions-le128.false)))

pub returns-then-positions-le128-clause-first : goal.returns-then-positions-le128-clause-first
returns-then-positions-le128-clause-first c = sym (take_all 128 c.args.positions.now (omega (arith, c.if-positions-le128.true)))

pub returns-else-positions-le128-clause-few : goal.returns-else-positions-le128-clause-few
returns-else-positions-le128-clause-few c =
    let all = length-take-le 128 c.args.positions.now (omega (arith, c.if-positions-le128.false)) in omega (arith, all)
