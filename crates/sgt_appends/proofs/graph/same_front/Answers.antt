use Rattle.std.proofs.Common.{length, take, ap, sym, ◌∙◌, arith}
use Rattle.std.proofs.lemmas.Grind.{common_steps}
use Rattle.std.proofs.lemmas.List.{take_all}
use Rattle.sgt_appends.proofs.Prefixes.{take_front}
use Rattle.sgt_appends.proofs.graph.same_front.Goals as goal

pub returns-then-starts_with-clause-of_seen : goal.returns-then-starts_with-clause-of_seen
returns-then-starts_with-clause-of_seen c =
    let it = c.starts_with.ensures.0 c.if-starts_with.true in
    grind (arith, common_steps, it.1)

pub returns-then-starts_with-clause-same : goal.returns-then-starts_with-clause-same
returns-then-starts_with-clause-same c =
    let it = c.starts_with.ensures.0 c.if-starts_with.true in
    ap (take (length c.args.before.now)) it.1 ∙ take_front c.args.before.now it.0
    ∙ sym (take_all (length c.args.before.now) c.args.before.now (omega arith))
