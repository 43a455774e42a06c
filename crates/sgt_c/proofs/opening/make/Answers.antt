use Rattle.sgt_c.proofs.opening.make.Goals as goal

pub returns-clause-opened : goal.returns-clause-opened
returns-clause-opened c =
    rw c.in_ok-boxed.ensures.engine
    (c.in_ok-opening.opening, c.in_ok-opening.ensures.opening, c.in_ok-engine.ensures.configuration, c.in_ok-engine.ensures.fresh)
