use Rattle.std.specs.Prelude.{◌≡◌, ◌<◌, ◌≤◌, ◌+◌, ◌-◌, ◌^◌, false, length, drop}
use Rattle.sgt_notation.specs.Words.{words}
use Rattle.sgt_notation.proofs.words.next_word.Given as goal

abbrev pub invariant-loop-place : goal.invariant-loop-place
invariant-loop-place l = record {
  same : words false l.fn.from.line (drop l.fn.from.at l.text) ≡ words l.comment l.place.line (drop l.place.at l.text);
  onwards : l.fn.from.at ≤ l.place.at;
  bounds : l.place.at ≤ length l.text;
  countable : l.place.line + length l.text < 2 ^ 64 + l.place.at;
}

abbrev pub decreases-loop-place : goal.decreases-loop-place
decreases-loop-place l = length l.text - l.place.at
