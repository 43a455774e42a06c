use Rattle.std.proofs.Common.{refl, arith}
use Rattle.sgt_timeline.proofs.Rising.{all_drawn}
use Rattle.sgt_timeline.proofs.drawn.Drawn.first.Goals as goal

pub returns-then-len-le-MOST : goal.returns-then-len-le-MOST
returns-then-len-le-MOST c =
    all_drawn c.args.whole c.args.len c.args.len _ c.in_ok-places_below.ensures (omega arith) c.if-len-le-MOST.true (λ _. refl)

pub returns : goal.returns
returns c = all_drawn c.args.whole c.args.len 400 _ c.in_ok-places_below-2.ensures (omega (arith, c.if-len-le-MOST.false)) (omega arith)
    (λ short. omega (arith, short, c.requires, c.if-len-le-MOST.false))
