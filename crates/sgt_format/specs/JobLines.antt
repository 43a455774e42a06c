-- Which job a line spells.
use Rattle.std.specs.Prelude.{ℕ, ℤ, cond, List, [], ◌∷◌, Option, Some, None, option_and_then, Result, Err, codes}
use Rattle.std.specs.Option.{ok_or, option_map_or}
use Rattle.std.specs.Str.{bytes_eq}
use Rattle.serde_json.specs.Data.{Data}
use Rattle.serde_json.specs.Find.{as_str}
use Rattle.sgt_format.specs.Trees.{tree_of, list}
use Rattle.sgt_format.specs.EventLines.{procedure, arguments}
use Rattle.sgt_model.specs.declared.call.Call.{Call}
use Rattle.sgt_format.specs.declared.errors.LineError.{LineError}
use Rattle.sgt_format.specs.declared.errors.LineError.TheVariants.{NotJson, BadLine}

-- a word, a procedure and arguments
abbrev pub job_call : List ℕ → ℕ → List ℤ → Option Call
job_call word p args = cond (bytes_eq word (codes "job")) (Some (record { procedure = p; args = args })) None

-- `["job", procedure, [arg, ..]]`
abbrev pub job_from : List Data → Option Call
job_from (word ∷ p ∷ args ∷ []) = option_and_then (λ w. option_and_then (λ n. option_and_then (job_call w n) (arguments args)) (procedure p)) (as_str word)
job_from trees = None

-- the job that a tree spells
abbrev pub job_in : Data → Option Call
job_in tree = option_and_then job_from (list tree)

-- the job of a line, or why it spells none
abbrev pub job_of : List ℕ → Result Call LineError
job_of line = option_map_or (λ tree. ok_or (job_in tree) BadLine) (tree_of line) (Err NotJson)
