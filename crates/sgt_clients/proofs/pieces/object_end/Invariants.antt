use Rattle.std.specs.Prelude.{◌≡◌, ◌<◌, ◌≤◌, ◌-◌, length, take, drop}
use Rattle.sgt_clients.specs.Objects.{line_after_all, outside, after_all}
use Rattle.sgt_clients.proofs.Scans.{StaysOpen}
use Rattle.sgt_clients.proofs.pieces.object_end.Given as goal

abbrev pub invariant-loop-place : goal.invariant-loop-place
invariant-loop-place l = record {
  onwards : l.fn.from.at ≤ l.place.at;
  bounds : l.place.at < length l.text;
  depth : l.nesting.depth ≤ l.place.at;
  nesting : l.nesting ≡ after_all outside (take (l.place.at - l.fn.from.at) (drop l.fn.from.at l.text));
  stays : StaysOpen (drop l.fn.from.at l.text) (l.place.at - l.fn.from.at);
  line : l.place.line ≡ line_after_all l.fn.from.line (take (l.place.at - l.fn.from.at) (drop l.fn.from.at l.text));
}

abbrev pub decreases-loop-place : goal.decreases-loop-place
decreases-loop-place l = length l.text - l.place.at
