-- Which access a line spells on which a transaction's caller decides.
use Rattle.std.specs.Prelude.{ℕ, ℤ, cond, List, Option, Some, None, option_and_then, codes}
use Rattle.std.specs.Str.{bytes_eq}
use Rattle.serde_json.specs.Data.{Data}
use Rattle.serde_json.specs.Find.{as_str}
use Rattle.sgt_model.specs.Contents.{Key}
use Rattle.sgt_model.specs.declared.event.Request.{Request}
use Rattle.sgt_model.specs.declared.event.Request.TheVariants.{Read, Write}
use Rattle.sgt_proc_json.specs.Trees.{whole}
use Rattle.sgt_format.specs.RecordLines.{key_of}

-- the key of a table from 0 to 7 and a number there, which is a value
abbrev pub key : Data → Data → Option Key
key table id = option_and_then (λ t. option_and_then (key_of t) (whole id)) (whole table)

-- a word and a key: a read or a removal
abbrev pub of_key : List ℕ → Key → Option Request
of_key word k = cond (bytes_eq word (codes "read")) (Some (Read k)) (cond (bytes_eq word (codes "remove")) (Some (Write k None)) None)

-- a word, a key and what is written there, any whole number of 64 bits
abbrev pub of_value : List ℕ → Key → ℤ → Option Request
of_value word k held = cond (bytes_eq word (codes "write")) (Some (Write k (Some held))) None

-- a word, a table and a number
abbrev pub keyed : Data → Data → Data → Option Request
keyed word table id = option_and_then (λ w. option_and_then (of_key w) (key table id)) (as_str word)

-- a word, a table, a number and a value
abbrev pub valued : Data → Data → Data → Data → Option Request
valued word table id held = option_and_then (λ w. option_and_then (λ k. option_and_then (of_value w k) (whole held)) (key table id)) (as_str word)
