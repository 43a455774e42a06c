use Rattle.std.specs.Prelude.{◌≡◌, ◌<◌, ◌≤◌, ◌+◌, ◌-◌, ◌^◌, false, length, drop, take, slice_index}
use Rattle.sgt_notation.specs.Words.{words, words_of, parts_words}
use Rattle.sgt_notation.specs.Readings.{AreRead}
use Rattle.sgt_notation.specs.Numbering.{KnowsHistory, texts_of}
use Rattle.sgt_notation.proofs.reader.read_history.Given as goal

abbrev pub invariant-loop-place : goal.invariant-loop-place
invariant-loop-place l = record {
  known : KnowsHistory l.reader;
  bounds : l.place.at ≤ length l.text;
  countable : l.place.line + length l.text < 2 ^ 64 + l.place.at;
  word : l.place.at < length l.text → parts_words (slice_index l.text l.place.at) ≡ false;
  few : length (texts_of l.reader.items) ≤ l.place.at;
  rest : drop (length l.reader.operations.items) (words_of l.text) ≡ words false l.place.line (drop l.place.at l.text);
  read : AreRead (take (length l.reader.operations.items) (words_of l.text)) (texts_of l.reader.items) l.reader.operations.items;
}

abbrev pub decreases-loop-place : goal.decreases-loop-place
decreases-loop-place l = length l.text - l.place.at
