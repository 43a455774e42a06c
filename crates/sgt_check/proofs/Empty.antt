-- A text without words.
use Rattle.std.proofs.Common.{◌≡◌, ℕ, List, [], ◌∷◌, length, refl, arith}
use Rattle.sgt_classes.specs.declared.operation.Operation.{Operation}
use Rattle.sgt_notation.specs.Words.{Word}
use Rattle.sgt_notation.specs.Readings.{AreRead}

-- words that spell no operation are none
pub no_words : (ws : List Word) (items : List (List ℕ)) (ops : List Operation) → AreRead ws items ops → length ops ≡ 0
    → ws ≡ []
no_words [] items ops read none = refl
no_words (w ∷ ws) items [] read none = absurd read.spelled
no_words (w ∷ ws) items (o ∷ os) read none = absurd (omega (arith, none))
