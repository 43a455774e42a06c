use Rattle.std.proofs.Common.{◌++◌, ap, ◌∙◌}
use Rattle.std.proofs.lemmas.List.{take_all}
use Rattle.sgt_audit.proofs.names.add_all.Goals as goal

pub returns : goal.returns
returns c = c.loop-t.invariant
    ∙ ap (λ tids. c.args.named.now.items ++ tids) (take_all c.loop-t.t-index c.args.tids.now c.loop-t-test.false)
