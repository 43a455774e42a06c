-- How reading and spelling are related.
use Rattle.std.specs.Prelude.{◌≡◌, ◌↔◌, Ok}
use Rattle.serde_json.specs.Data.{Data}
use Rattle.sgt_model.specs.Syntax.{ProcedureText}
use Rattle.sgt_proc_json.specs.Spelling.{Spells}
use Rattle.sgt_proc_json.specs.Readings.{reading}

-- a tree reads as a procedure exactly if it spells it
abbrev pub ReadingIsSpelling : Type 0
ReadingIsSpelling = (p : ProcedureText) (tree : Data) → Spells p tree ↔ (reading tree ≡ Ok p)
