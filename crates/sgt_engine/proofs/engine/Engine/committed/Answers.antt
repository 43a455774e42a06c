use Rattle.std.proofs.Common.{sym, ap, ◌∙◌}
use Rattle.sgt_model.specs.Databases.{contents_of}
use Rattle.sgt_model.specs.Configurations.{configuration}
use Rattle.sgt_model.specs.Replay.{folded}
use Rattle.sgt_engine.specs.EngineView.{configuration_of}
use Rattle.sgt_engine.proofs.engine.Engine.committed.Goals as goal

pub returns-clause-replayed : goal.returns-clause-replayed
returns-clause-replayed g c =
    c.committed.ensures.value
    ∙ (ap (λ r. g.R.Records.settled r c.args.key) c.records.ensures
    ∙ (c.self.invariant.1.settled c.args.key
    ∙ (sym ((c.replay_is_serial.ensures (configuration (contents_of c.self.inside.opening) c.self.inside.sched.procedures
    c.self.inside.sched.limits) _ c.self.invariant.0).database c.args.key)
    ∙ ap (λ e. (folded (configuration_of e) e.past).last c.args.key) c.self.view_is)))
