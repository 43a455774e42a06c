-- The text of the picture of a history.
use Rattle.std.specs.Prelude.{◌≡◌, ℕ, List}
use Rattle.sgt_notation.specs.declared.history.History.{History}
use Rattle.sgt_timeline.specs.declared.picture.Picture.{Picture}
use Rattle.sgt_timeline.specs.Drawn.{IsDrawnUpTo}
use Rattle.sgt_timeline.specs.PictureText.{picture_text}

-- The text of a picture of the history. It has exactly one mark for each operation that is drawn: for each one of a history of at
-- most `most`.
pub record IsPictured (most : ℕ) (h : History) (text : List ℕ) : Type 0 where
  pub picture : Picture
  pub drawn : IsDrawnUpTo most h.operations.items picture
  pub written : text ≡ picture_text h picture
