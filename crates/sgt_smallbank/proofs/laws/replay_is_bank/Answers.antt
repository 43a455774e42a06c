use Rattle.sgt_smallbank.proofs.Replays.{openings_hold_values, replay_is_bank}
use Rattle.sgt_smallbank.proofs.laws.replay_is_bank.Goals as goal

pub returns : goal.returns
returns c = record {
  opening = openings_hold_values;
  replay = replay_is_bank c.replay_is_serial.ensures c.committed_are_admitted.ensures c.replays_hold_values.ensures.replayed;
}
