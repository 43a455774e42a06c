use Rattle.std.specs.Prelude.{◌≡◌, ◌<◌, ◌≤◌, ◌-◌, ℕ, false, length, slice_index}
use Rattle.sgt_notation.specs.Words.{parts_words}
use Rattle.sgt_notation.proofs.words.word_end.Given as goal

abbrev pub invariant-loop-end : goal.invariant-loop-end
invariant-loop-end l = record {
  onwards : l.fn.from < l.end;
  bounds : l.end ≤ length l.text;
  inside : (i : ℕ) → l.fn.from ≤ i → i < l.end → parts_words (slice_index l.text i) ≡ false;
}

abbrev pub decreases-loop-end : goal.decreases-loop-end
decreases-loop-end l = length l.text - l.end
