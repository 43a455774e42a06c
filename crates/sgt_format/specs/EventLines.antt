-- Which event a line spells.
use Rattle.std.specs.Prelude.{ℕ, ℤ, cond, nat_le, length, List, [], ◌∷◌, Option, Some, None, option_map, option_and_then, Result, Err, codes}
use Rattle.std.specs.Option.{ok_or, option_map_or}
use Rattle.std.specs.Str.{bytes_eq}
use Rattle.serde_json.specs.Data.{Data}
use Rattle.serde_json.specs.Find.{as_str}
use Rattle.sgt_model.specs.declared.event.Event.{Event}
use Rattle.sgt_model.specs.declared.event.Request.{Request}
use Rattle.sgt_model.specs.declared.event.Event.TheVariants.{Start, Step, Access, Commit, Quit}
use Rattle.sgt_proc_json.specs.Trees.{whole, natural}
use Rattle.sgt_format.specs.Trees.{tree_of, list, each}
use Rattle.sgt_format.specs.AccessLines.{keyed, valued}
use Rattle.sgt_format.specs.declared.errors.LineError.{LineError}
use Rattle.sgt_format.specs.declared.errors.LineError.TheVariants.{NotJson, BadLine}

-- the number of a transaction, from 0 to 4,294,967,295
abbrev pub tid : Data → Option ℕ
tid tree = option_and_then (natural 32) (whole tree)

-- the number of a procedure, from 0 to 65,535
abbrev pub procedure : Data → Option ℕ
procedure tree = option_and_then (natural 16) (whole tree)

-- at most four whole numbers
abbrev pub arguments_from : List Data → Option (List ℤ)
arguments_from trees = cond (nat_le (length trees) 4) (each whole trees) None

-- the same for a tree that is a list
abbrev pub arguments : Data → Option (List ℤ)
arguments tree = option_and_then arguments_from (list tree)

-- a start of the empty procedure
abbrev pub begin : Event
begin = Start 65535 []

-- a word alone
abbrev pub of_word : List ℕ → Option Event
of_word word = cond (bytes_eq word (codes "begin")) (Some begin) None

-- a word and a transaction
abbrev pub of_transaction : List ℕ → ℕ → Option Event
of_transaction word t = cond (bytes_eq word (codes "step")) (Some (Step t)) (cond (bytes_eq word (codes "commit")) (Some (Commit t)) (cond (bytes_eq word (codes "quit")) (Some (Quit t)) None))

-- a word, a procedure and arguments
abbrev pub of_procedure : List ℕ → ℕ → List ℤ → Option Event
of_procedure word p args = cond (bytes_eq word (codes "start")) (Some (Start p args)) None

-- a transaction and an access
abbrev pub accessed : Option ℕ → Option Request → Option Event
accessed t request = option_and_then (λ n. option_map (Access n) request) t

-- `["begin"]`, `["step", t]`, `["commit", t]`, `["quit", t]`, `["start", procedure, [arg, ..]]`, `["read", t, table, number]`,
-- `["remove", t, table, number]`, `["write", t, table, number, value]`
abbrev pub event_from : List Data → Option Event
event_from (word ∷ []) = option_and_then of_word (as_str word)
event_from (word ∷ t ∷ []) = option_and_then (λ w. option_and_then (of_transaction w) (tid t)) (as_str word)
event_from (word ∷ p ∷ args ∷ []) = option_and_then (λ w. option_and_then (λ n. option_and_then (of_procedure w n) (arguments args)) (procedure p)) (as_str word)
event_from (word ∷ t ∷ table ∷ id ∷ []) = accessed (tid t) (keyed word table id)
event_from (word ∷ t ∷ table ∷ id ∷ held ∷ []) = accessed (tid t) (valued word table id held)
event_from trees = None

-- the event that a tree spells
abbrev pub event_in : Data → Option Event
event_in tree = option_and_then event_from (list tree)

-- the event of a line, or why it spells none
abbrev pub event_of : List ℕ → Result Event LineError
event_of line = option_map_or (λ tree. ok_or (event_in tree) BadLine) (tree_of line) (Err NotJson)
