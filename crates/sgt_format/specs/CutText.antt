-- The lines that answer a cut.
use Rattle.std.specs.Prelude.{ℕ, List, ◌++◌, codes}
use Rattle.std.specs.Fmt.{decimal}

-- this many entries were cut
abbrev pub cut_text : ℕ → List ℕ
cut_text entries = codes "cut " ++ decimal entries ++ codes "\n"

-- nothing was cut, as a transaction is live
abbrev pub still_live_text : List ℕ
still_live_text = codes "still live\n"
