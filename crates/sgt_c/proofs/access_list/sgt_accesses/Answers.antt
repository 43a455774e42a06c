use Rattle.std.proofs.Common.{subst, sym}
use Rattle.sgt_model.specs.Legality.{Legal}
use Rattle.sgt_engine.specs.EngineView.{configuration_of}
use Rattle.sgt_c.proofs.access_list.sgt_accesses.Goals as goal

pub write_accesses-written-requires : goal.write_accesses-written-requires
write_accesses-written-requires c =
    (configuration_of c.deref.result.now.engine, subst (Legal (configuration_of c.deref.result.now.engine)) (sym c.history.ensures.entries) c.history.ensures.guarantees.legal)
