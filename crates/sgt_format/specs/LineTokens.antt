-- What the tokens of a line spell.
use Rattle.std.specs.Prelude.{ℕ, ℤ, List, [], ◌∷◌, Option, Some, option_and_then, option_map}
use Rattle.json.specs.Token.{Token}
use Rattle.json.specs.Json.{if_last, value}
use Rattle.serde_json.specs.Data.{Data}
use Rattle.serde_json.specs.Find.{as_i64}
use Rattle.serde_json.specs.Read.{number_of, of_json, max_depth}
use Rattle.sgt_model.specs.declared.event.Event.{Event}
use Rattle.sgt_format.specs.EventLines.{event_in}
use Rattle.sgt_format.specs.JobLines.{job_in}
use Rattle.sgt_model.specs.declared.call.Call.{Call}

-- the whole number that a text spells
abbrev pub whole_number : List ℕ → Option ℤ
whole_number text = option_and_then as_i64 (number_of text)

-- the whole numbers that texts spell
abbrev pub whole_numbers : List (List ℕ) → Option (List ℤ)
whole_numbers [] = Some []
whole_numbers (text ∷ texts) = option_and_then (λ n. option_map (λ rest. n ∷ rest) (whole_numbers texts)) (whole_number text)

-- the tree that tokens spell
abbrev pub tree_at : List Token → Option Data
tree_at tokens = option_and_then of_json (option_and_then (λ p. if_last p.0 p.1) (value max_depth tokens))

-- the event that tokens spell
abbrev pub event_at : List Token → Option Event
event_at tokens = option_and_then event_in (tree_at tokens)

-- the job that tokens spell
abbrev pub job_at : List Token → Option Call
job_at tokens = option_and_then job_in (tree_at tokens)
