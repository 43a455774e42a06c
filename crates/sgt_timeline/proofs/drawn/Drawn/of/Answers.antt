use Rattle.std.proofs.Common.{length, refl, arith}
use Rattle.sgt_timeline.proofs.Rising.{all_drawn}
use Rattle.sgt_timeline.proofs.drawn.Drawn.of.Goals as goal

pub returns-then-history-whole : goal.returns-then-history-whole
returns-then-history-whole c =
    let n = length c.args.history.now in
    all_drawn c.args.whole n n _ c.in_ok-places_below.ensures (omega arith) (omega (arith, c.if-history-whole.true, c.requires))
    (λ _. refl)
