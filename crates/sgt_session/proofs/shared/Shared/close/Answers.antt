use Rattle.std.proofs.Common.{◌≡◌, ◌∙◌, length, reverse, refl, ap, sym, subst, arith}
use Rattle.std.proofs.lemmas.List.{reverse-reverse, length-reverse}
use Rattle.std.specs.List.{sum_by}
use Rattle.sgt_model.specs.Legality.{Legal}
use Rattle.sgt_progress.specs.Progress.{MakesProgress}
use Rattle.sgt_progress.specs.RealTime.{KeepsRealTime}
use Rattle.sgt_engine.specs.EngineView.{EngineView}
use Rattle.sgt_session.specs.Accounts.{AccountsForHistory}
use Rattle.sgt_session.proofs.shared.Shared.close.Goals as goal

pub accounts-requires : goal.accounts-requires
accounts-requires g c =
    let entries = c.history.result.now.entries in
    let same = c.as_slice.ensures.value ∙ c.audit.ensures.sessions in (
      omega (arith, ap length same, c.audit.ensures.all),
      sym (length-reverse entries)
          ∙ ap length (c.history.ensures.entries ∙ ap (λ (e : EngineView). e.past) c.audit.ensures.same)
          ∙ c.audit.ensures.counted
          ∙ ap (sum_by length) (sym same),
    )

pub returns-clause-configuration : goal.returns-clause-configuration
returns-clause-configuration g c = c.into_engine.ensures.configuration

pub returns-clause-legal : goal.returns-clause-legal
returns-clause-legal g c = subst (λ s. Legal s c.into_engine.result.value.past) c.into_engine.ensures.configuration c.into_engine.ensures.guarantees.legal

pub returns-clause-real_time : goal.returns-clause-real_time
returns-clause-real_time g c =
    subst (λ s. KeepsRealTime s c.into_engine.result.value.past) c.into_engine.ensures.configuration c.into_engine.ensures.guarantees.real_time

pub returns-clause-progress : goal.returns-clause-progress
returns-clause-progress g c =
    subst (λ s. MakesProgress s c.into_engine.result.value.past) c.into_engine.ensures.configuration c.into_engine.ensures.guarantees.progress

pub returns-clause-accounts : goal.returns-clause-accounts
returns-clause-accounts g c =
    let entries : c.history.result.now.entries ≡ reverse c.into_engine.result.value.past =
    sym (reverse-reverse c.history.result.now.entries)
    ∙ ap reverse (c.history.ensures.entries ∙ ap (λ (e : EngineView). e.past) (sym c.into_engine.ensures.same)) in
    subst (λ rs. AccountsForHistory (reverse c.into_engine.result.value.past) rs) c.as_slice.ensures.value
    (subst (λ es. AccountsForHistory es c.as_slice.result.now) entries (c.if-not-accounts.ensures refl))
