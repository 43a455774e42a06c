use Rattle.std.proofs.Common.{subst, sym}
use Rattle.sgt_model.specs.Legality.{Legal}
use Rattle.sgt_engine.specs.EngineView.{configuration_of}
use Rattle.sgt_c.proofs.writes.sgt_wrote.Goals as goal

pub has_written-found-requires : goal.has_written-found-requires
has_written-found-requires c =
    (configuration_of c.deref.result.now.engine, subst (Legal (configuration_of c.deref.result.now.engine)) (sym c.history.ensures.entries) c.history.ensures.guarantees.legal)
