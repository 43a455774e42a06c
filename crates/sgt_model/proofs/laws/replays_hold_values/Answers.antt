use Rattle.sgt_model.proofs.StoredValues.{runs_store_values, replays_hold_values, committed_are_values}
use Rattle.sgt_model.proofs.laws.replays_hold_values.Goals as goal

pub returns : goal.returns
returns c = record {
  stored = runs_store_values;
  replayed = replays_hold_values;
  committed = committed_are_values;
}
