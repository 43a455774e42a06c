use Rattle.std.proofs.Common.{rules, arith}
use Rattle.std.specs.List.{All}
use Rattle.sgt_c.specs.Rows.{IsRow}
use Rattle.sgt_c.proofs.opening.sgt_open_with.Goals as goal

pub returns-in-Ok-clause-bad_call : goal.returns-in-Ok-clause-bad_call
returns-in-Ok-clause-bad_call c =
    let rows : All IsRow c.args.rows.now = search rules in
    (λ is. absurd (omega (arith, is)), λ bad. absurd (bad.2 rows))
