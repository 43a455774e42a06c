use Rattle.std.proofs.Common.{rules, ap, reverse, ◌∙◌}
use Rattle.sgt_model.specs.Databases.{contents_of}
use Rattle.sgt_model.specs.Legality.{Legal}
use Rattle.sgt_engine.specs.EngineView.{configuration_of}
use Rattle.sgt_engine.proofs.Cuts.{goes_on_from}
use Rattle.sgt_engine.proofs.engine.Engine.cut.Goals as goal

pub returns-clause-goes_on : goal.returns-clause-goes_on
returns-clause-goes_on g c =
    goes_on_from c.args.self.now _
    (λ k. ap (λ d. contents_of d k) c.replace-opening.ensures.after ∙ c.in_ok-database.ensures.values k)
    (search rules) (search rules) (ap reverse (ap (λ h. h.entries) c.replace-history.ensures.after ∙ c.new.ensures.entries))

pub returns-clause-headline : goal.returns-clause-headline
returns-clause-headline g c =
    let legal : Legal (configuration_of c.args.self.now) (reverse c.replace-history.result.entries) = search rules in
    c.headline_holds.ensures _ _ legal
