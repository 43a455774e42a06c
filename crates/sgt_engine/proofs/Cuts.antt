-- What a cut leaves.
use Rattle.std.proofs.Common.{◌≡◌, []}
use Rattle.sgt_model.specs.Contents.{Key}
use Rattle.sgt_model.specs.Databases.{contents_of}
use Rattle.sgt_model.specs.Configurations.{configuration}
use Rattle.sgt_model.specs.Values.{settled}
use Rattle.sgt_engine.specs.Cuts.{GoesOn}
use Rattle.sgt_engine.specs.EngineView.{EngineView}

-- the engine continues: its initial database is what was committed, its rules are the same, and its history is empty
pub goes_on_from : (before after : EngineView)
    → ((k : Key) → contents_of after.opening k ≡ settled (contents_of before.opening) before.past k)
    → after.procedures ≡ before.procedures → after.limits ≡ before.limits → after.past ≡ [] → GoesOn before after
goes_on_from before after values procedures limits past = record {
  configuration = λ i. configuration (λ k. values k i) (procedures i) (limits i);
  procedures = procedures;
  limits = limits;
  past = past;
}
