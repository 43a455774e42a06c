-- The committed values after a cut.
use Rattle.std.proofs.Common.{◌≡◌, ◌<◌, List, [], ◌∷◌, length, refl, sym, ap, ◌∙◌, arith}
use Rattle.sgt_model.specs.Databases.{contents_of, IsByKey}
use Rattle.sgt_model.specs.Configurations.{Configuration}
use Rattle.sgt_model.specs.Values.{settled}
use Rattle.sgt_engine.specs.Cuts.{GoesOn, configuration_after}
use Rattle.sgt_engine.specs.EngineView.{EngineView, configuration_of}
use Rattle.sgt_engine.specs.Guarantees.{Guarantees}
use Rattle.sgt_c.specs.Cuts.{CommitsAreKept, IsCut}

-- with an empty history the committed values are the initial ones
pub commits_kept : (before after : EngineView) → GoesOn before after → CommitsAreKept before after
commits_kept before after on k =
    ap (λ past. settled (contents_of after.opening) past k) on.past ∙ ap (λ (s : Configuration). s.opening k) on.configuration

-- an engine with an empty history is as after a cut
pub nothing_cut : (e : EngineView) → e.past ≡ [] → IsByKey e.opening → Guarantees e → IsCut e e
nothing_cut e none by_key guarantees = (
  record { configuration = ap (configuration_after (configuration_of e)) (sym none); procedures = refl; limits = refl; past = none },
  λ k. refl,
  by_key,
  λ k. ap (λ past. settled (contents_of e.opening) past k) (sym none) ∙ sym (guarantees.headline.replay.database k),
  guarantees,
)

-- a list of no length
pub none_of_none : {A : Type 0} (xs : List A) → length xs ≡ 0 → xs ≡ []
none_of_none [] e = refl
none_of_none (x ∷ xs) e = absurd (omega (arith, e))

pub some_of_some : {A : Type 0} (xs : List A) → 0 < length xs → ¬ (xs ≡ [])
some_of_some xs e none = absurd (omega (arith, e, ap length none))
