use Rattle.std.proofs.Common.{refl}
use Rattle.sgt_access.proofs.Rivals.{conflicting_there}
use Rattle.sgt_access.proofs.conflicts.has_rival_among.Goals as goal

pub returns-then-is_rival_of : goal.returns-then-is_rival_of
returns-then-is_rival_of c =
    let rival = c.is_rival_of.ensures.0 c.if-is_rival_of.true in record {
      exact = (
        (λ is. (
          c.access-item.result.by,
          rival.0,
          conflicting_there c.args.accesses.now c.loop-access.access-index c.access-item.result _ c.args.key c.args.kind
              c.loop-access-test.true c.access-item.is rival.1,
        )),
        (λ some. refl),
      );
    }
