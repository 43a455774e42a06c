use Rattle.std.proofs.Common.{refl}
use Rattle.sgt_c.proofs.opening.make_with.Goals as goal

pub returns-clause-opened : goal.returns-clause-opened
returns-clause-opened c =
    rw c.in_ok-boxed.ensures.engine (
      c.in_ok-opening.opening,
      _,
      c.in_ok-opening.ensures.opening,
      (refl, refl, c.in_ok-database.ensures),
      c.in_ok-engine.ensures.configuration,
      c.in_ok-engine.ensures.fresh,
    )
