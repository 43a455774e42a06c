use Rattle.std.specs.Prelude.{◌≡◌, ◌≤◌, ◌-◌, length, take, drop}
use Rattle.sgt_clients.specs.Objects.{AreBetween, line_after_all}
use Rattle.sgt_clients.proofs.pieces.next_object.Given as goal

abbrev pub invariant-loop-place : goal.invariant-loop-place
invariant-loop-place l = record {
  onwards : l.fn.from.at ≤ l.place.at;
  bounds : l.place.at ≤ length l.text;
  gap : AreBetween (take (l.place.at - l.fn.from.at) (drop l.fn.from.at l.text));
  line : l.place.line ≡ line_after_all l.fn.from.line (take (l.place.at - l.fn.from.at) (drop l.fn.from.at l.text));
}

abbrev pub decreases-loop-place : goal.decreases-loop-place
decreases-loop-place l = length l.text - l.place.at
