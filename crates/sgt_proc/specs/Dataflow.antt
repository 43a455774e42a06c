-- A backward dataflow analysis: what holds before statements, from what holds after them.
use Rattle.std.specs.Prelude.{◌≡◌, ℕ, min, Bool}
use Rattle.sgt_model.specs.Syntax.{Block}
use Rattle.sgt_model.specs.Ways.{Way, onto}
use Rattle.sgt_proc.specs.Flaws.{uses_unset, most_answers}

-- whether the register is used before it is set, from the same after the statements
abbrev pub LiveBefore : ℕ → Block → Bool → Bool → Type 0
LiveBefore r b following here = (rest : Way) → following ≡ uses_unset r rest → here ≡ uses_unset r (onto b rest)

-- the most answers up to 9, from those after the statements
abbrev pub AnswersFrom : Block → ℕ → ℕ → Type 0
AnswersFrom b following here = (rest : Way) → following ≡ min 9 (most_answers rest) → here ≡ min 9 (most_answers (onto b rest))
