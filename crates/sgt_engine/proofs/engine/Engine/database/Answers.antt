use Rattle.std.proofs.Common.{sym, subst, ◌∙◌}
use Rattle.std.proofs.lemmas.Result.{IfOk-weaker}
use Rattle.sgt_model.specs.Legality.{Legal}
use Rattle.sgt_engine.specs.EngineView.{configuration_of}
use Rattle.sgt_engine.proofs.engine.Engine.database.Goals as goal

pub returns-clause-replayed : goal.returns-clause-replayed
returns-clause-replayed g c = IfOk-weaker c.committed_rows.result _ _ (λ d are k.
    are k
    ∙ sym ((c.replay_is_serial.ensures (configuration_of c.args.self.now) _ legal).database k)) c.committed_rows.ensures.values
  where
    legal : Legal (configuration_of c.args.self.now) c.args.self.now.past
    legal = subst (λ e. Legal (configuration_of e) e.past) c.self.view_is c.self.invariant.0
