-- Which operations of a history a picture has marks of.
use Rattle.std.specs.Prelude.{◌≡◌, ◌≤◌, ◌+◌, ℕ, zero, suc, List, [], ◌∷◌, ◌++◌, length, map}
use Rattle.sgt_classes.specs.declared.operation.Operation.{Operation}
use Rattle.sgt_timeline.specs.declared.picture.Mark.{Mark}
use Rattle.sgt_timeline.specs.declared.picture.Picture.{Picture}

-- the places below n, from the first
abbrev pub all_places : ℕ → List ℕ
all_places zero = []
all_places (suc n) = all_places n ++ n ∷ []

-- these places are from low on and below high, each after the one before it
abbrev pub AreRising : ℕ → List ℕ → ℕ → Type 0
AreRising low [] high = low ≤ high
AreRising low (p ∷ ps) high = (low ≤ p) × AreRising (p + 1) ps high

-- The places that are drawn of a history of n operations: each once, in their order. One of at most `most` operations is drawn
-- whole. At most 400 are drawn.
pub record AreDrawn (most n : ℕ) (places : List ℕ) : Type 0 where
  pub once : AreRising 0 places n
  pub whole : n ≤ most → places ≡ all_places n
  pub few : length places ≤ 400

-- the places of the operations that the marks are of
abbrev pub marked : List Mark → List ℕ
marked marks = map (λ m. m.place) marks

-- The picture has just one mark of each operation that is drawn, and no other. A history of at most `most` operations is drawn
-- whole.
abbrev pub IsDrawnUpTo : ℕ → List Operation → Picture → Type 0
IsDrawnUpTo most h p = AreDrawn most (length h) (marked p.marks.items)

-- The same of a history that is drawn whole if it has at most 400 operations.
abbrev pub IsDrawnFrom : List Operation → Picture → Type 0
IsDrawnFrom h p = IsDrawnUpTo 400 h p
