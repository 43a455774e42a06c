-- The content of a buffer.
use Rattle.std.specs.Prelude.{ℕ, List}

-- the last line that was taken, and the bytes after it
pub record Buffered : Type 0 where
  pub line : List ℕ
  pub held : List ℕ
