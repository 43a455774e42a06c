use Rattle.std.proofs.Common.{ap, ◌∙◌}
use Rattle.sgt_engine.specs.EngineView.{EngineView}
use Rattle.sgt_engine.proofs.engine.Engine.put_at_start.Goals as goal

pub returns-clause-put : goal.returns-clause-put
returns-clause-put g c = record {
  contents = c.in_ok-opening.ensures.contents;
  new = c.in_ok-opening.ensures.new;
  procedures = c.reopen.ensures.kept.0 ∙ ap (λ (e : EngineView). e.procedures) c.self.view_is;
  limits = c.reopen.ensures.kept.1 ∙ ap (λ (e : EngineView). e.limits) c.self.view_is;
  past = ap (λ (e : EngineView). e.past) c.self.view_is;
}
