-- What a line of a script spells: an event, or a cut of the history.
use Rattle.std.specs.Prelude.{ℕ, cond, List, [], ◌∷◌, Option, Some, None, option_map, option_and_then, Result, Err, codes}
use Rattle.std.specs.Option.{ok_or, option_map_or}
use Rattle.std.specs.Str.{bytes_eq}
use Rattle.serde_json.specs.Data.{Data}
use Rattle.serde_json.specs.Find.{as_str}
use Rattle.sgt_format.specs.Trees.{tree_of, list}
use Rattle.sgt_format.specs.EventLines.{begin, event_from}
use Rattle.sgt_model.specs.declared.event.Event as model
use Rattle.sgt_format.specs.declared.script_line.LineKind.{LineKind}
use Rattle.sgt_format.specs.declared.script_line.LineKind.TheVariants as kind
use Rattle.sgt_format.specs.declared.script_line.ScriptLine.{ScriptLine}
use Rattle.sgt_format.specs.declared.script_line.ScriptLine.TheVariants.{Event, Cut}
use Rattle.sgt_format.specs.declared.errors.LineError.{LineError}
use Rattle.sgt_format.specs.declared.errors.LineError.TheVariants.{NotJson, BadLine}

-- the line of a kind, with its event
abbrev pub line_of : LineKind → model.Event → ScriptLine
line_of kind.Event event = Event event
line_of kind.Cut event = Cut

-- a word alone
abbrev pub of_word : List ℕ → Option ScriptLine
of_word word = cond (bytes_eq word (codes "begin")) (Some (Event begin)) (cond (bytes_eq word (codes "cut")) (Some Cut) None)

-- `["cut"]`, or an event
abbrev pub script_line_from : List Data → Option ScriptLine
script_line_from (word ∷ []) = option_and_then of_word (as_str word)
script_line_from trees = option_map Event (event_from trees)

-- what a tree spells
abbrev pub script_line_in : Data → Option ScriptLine
script_line_in tree = option_and_then script_line_from (list tree)

-- what a line spells, or why it spells nothing
abbrev pub script_line_of : List ℕ → Result ScriptLine LineError
script_line_of line = option_map_or (λ tree. ok_or (script_line_in tree) BadLine) (tree_of line) (Err NotJson)
