use Rattle.std.proofs.Common.{subst, sym}
use Rattle.sgt_model.specs.Legality.{Legal}
use Rattle.sgt_engine.specs.EngineView.{configuration_of}
use Rattle.sgt_c.proofs.shared.handing_on.sgt_desk_hand_on.Goals as goal

pub pass-passed-requires : goal.pass-passed-requires
pass-passed-requires c =
    (configuration_of c.deref-2.result.now.engine, subst (Legal (configuration_of c.deref-2.result.now.engine)) (sym c.history.ensures.entries) c.history.ensures.guarantees.legal)
