use Rattle.std.proofs.Common.{sym, ap, ◌∙◌, reverse}
use Rattle.sgt_engine.specs.EngineView.{EngineView}
use Rattle.sgt_engine.proofs.Puts.{none_after}
use Rattle.sgt_engine.proofs.engine.Engine.is_new.Goals as goal

pub returns : goal.returns
returns g c =
    let same = ap (λ (e : EngineView). e.past) c.self.view_is in (
      (λ empty. sym same ∙ ap reverse (c.is_empty.ensures.0 empty)),
      (λ none. c.is_empty.ensures.1 (none_after c.self.inside.history.entries (same ∙ none))),
    )
