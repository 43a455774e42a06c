use Rattle.std.proofs.Common.{ap, ◌∙◌}
use Rattle.std.proofs.lemmas.Result.{IfOk-weaker}
use Rattle.sgt_model.specs.Databases.{contents_of}
use Rattle.sgt_model.specs.Values.{settled}
use Rattle.sgt_engine.proofs.KeysWritten.{changed}
use Rattle.sgt_engine.proofs.engine.Engine.changed_opening.Goals as goal

pub returns-clause-values : goal.returns-clause-values
returns-clause-values g c = IfOk-weaker c.changed.result _ _ (λ d are k.
    are k
    ∙ (changed (contents_of c.self.inside.opening) c.self.inside.history.entries k _
    (ap (λ r. g.R.Records.settled r k) c.records.ensures ∙ c.self.invariant.1.settled k)
    ∙ ap (λ e. settled (contents_of e.opening) e.past k) c.self.view_is)) c.changed.ensures.values
