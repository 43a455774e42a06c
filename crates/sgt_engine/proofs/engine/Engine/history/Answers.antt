use Rattle.std.proofs.Common.{rules}
use Rattle.sgt_model.specs.Legality.{Legal}
use Rattle.sgt_engine.specs.EngineView.{configuration_of}
use Rattle.sgt_engine.proofs.Guaranteed.{guaranteed}
use Rattle.sgt_engine.proofs.engine.Engine.history.Goals as goal

pub returns-clause-guarantees : goal.returns-clause-guarantees
returns-clause-guarantees g c =
    let legal : Legal (configuration_of c.args.self.now) c.args.self.now.past = search rules in
    guaranteed c.headline_holds.ensures _ legal
