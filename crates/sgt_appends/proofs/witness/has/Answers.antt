use Rattle.std.proofs.Common.{rules, refl}
use Rattle.sgt_appends.proofs.Spots.{has_at}
use Rattle.sgt_appends.proofs.witness.has.Goals as goal

pub returns-then-x-value : goal.returns-then-x-value
returns-then-x-value c =
    ((λ yes. has_at c.args.values.now c.loop-x.x-index c.args.value (search rules) c.if-x-value.true), (λ has. refl))
