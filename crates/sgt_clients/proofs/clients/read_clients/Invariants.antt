use Rattle.std.specs.Prelude.{◌≡◌, ◌<◌, ◌≤◌, ◌-◌, false, length, slice_index}
use Rattle.sgt_notation.specs.Numbering.{KnowsItems}
use Rattle.sgt_clients.specs.Objects.{is_between}
use Rattle.sgt_clients.proofs.ReadTo.{ReadTo}
use Rattle.sgt_clients.proofs.clients.read_clients.Given as goal

abbrev pub invariant-loop-place : goal.invariant-loop-place
invariant-loop-place l = record {
  bounds : l.place.at ≤ length l.text;
  known : KnowsItems l.reader.keys;
  known_processes : KnowsItems l.reader.processes;
  few : l.reader.entries ≤ l.place.at;
  starts : l.place.at < length l.text → is_between (slice_index l.text l.place.at) ≡ false;
  read : ReadTo l.text l.place.at l.place.line l.reader;
}

abbrev pub decreases-loop-place : goal.decreases-loop-place
decreases-loop-place l = length l.text - l.place.at
