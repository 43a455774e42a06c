-- An opening, and the records that the lines after line 1 add to its database.
use Rattle.std.specs.Prelude.{◌≡◌, ℕ, ◌+◌, cond, ⊤, List, [], ◌∷◌, length, Option, Some, None, IsSome, option_and_then, Result, Ok, Err}
use Rattle.std.specs.Option.{is_some}
use Rattle.sgt_model.specs.Contents.{Key, Contents, put_in}
use Rattle.sgt_model.specs.Databases.{contents_of}
use Rattle.sgt_format.specs.RecordLines.{record_line_of, record_of}
use Rattle.sgt_format.specs.Openings.{Opens}
use Rattle.sgt_format.specs.declared.opening.Opening.{Opening}
use Rattle.sgt_format.specs.declared.record_line.RecordLine.{RecordLine}
use Rattle.sgt_format.specs.declared.record_line.Record.{Record}

-- ---- lines

-- a record line before later ones; after any other line no record line counts
abbrev pub led_by : Option RecordLine → List RecordLine → List RecordLine
led_by None later = []
led_by (Some said) later = said ∷ later

-- the record lines before the first other line
abbrev pub leading_records : List (List ℕ) → List RecordLine
leading_records [] = []
leading_records (l ∷ ls) = led_by (record_line_of l) (leading_records ls)

-- these lines if the first of them is no record line, else the later ones
abbrev pub from_other : Option RecordLine → List (List ℕ) → List (List ℕ) → List (List ℕ)
from_other None these following = these
from_other (Some said) these following = following

-- the lines from the first that is no record line
abbrev pub after_records : List (List ℕ) → List (List ℕ)
after_records [] = []
after_records (l ∷ ls) = from_other (record_line_of l) (l ∷ ls) (after_records ls)

-- the number of the first line after line 1 that is no record line
abbrev pub number_after : List (List ℕ) → ℕ
number_after later = 2 + length (leading_records later)

-- each of these lines is a record line
abbrev pub AreRecordLines : List (List ℕ) → Type 0
AreRecordLines [] = ⊤
AreRecordLines (l ∷ ls) = IsSome (record_line_of l) × AreRecordLines ls

-- ---- contents

-- the contents with a record added, unless its key has a value already
abbrev pub put_new : Contents → Record → Option Contents
put_new m put = cond (is_some (m put.key)) None (Some (put_in m put.key put.value))

-- the contents with the record of a line added; none if one of its numbers is out of range or its key has a value
-- already
abbrev pub put_record : Contents → RecordLine → Option Contents
put_record m said = option_and_then (put_new m) (record_of said)

-- what the later lines make of the contents after line n; or n, if its record cannot be added
abbrev pub and_then_put : ℕ → Option Contents → (Contents → Result Contents ℕ) → Result Contents ℕ
and_then_put n None later = Err n
and_then_put n (Some m) later = later m

-- the contents with the records of these lines added, from line n on; or the number of the first line that cannot be
-- added
abbrev pub put_records : ℕ → Contents → List RecordLine → Result Contents ℕ
put_records n m [] = Ok m
put_records n m (said ∷ later) = and_then_put n (put_record m said) (λ next. put_records (n + 1) next later)

-- ---- openings

-- line 1 spells an initial opening, and these record lines after it fill its database to that of the opening
pub record OpensWith (least : ℕ) (line : List ℕ) (records : List RecordLine) (opening : Opening) : Type 0 where
  pub first : Opening
  pub opens : Opens least line first
  pub limits : opening.limits ≡ first.limits
  pub procedures : opening.procedures ≡ first.procedures
  pub values : Contents
  pub put : put_records 2 (contents_of first.database) records ≡ Ok values
  pub contents : (key : Key) → contents_of opening.database key ≡ values key

-- line 1 spells an initial opening, and line n is the first of these record lines after it that cannot be added
pub record RefusesRecord (least : ℕ) (line : List ℕ) (records : List RecordLine) (n : ℕ) : Type 0 where
  pub first : Opening
  pub opens : Opens least line first
  pub bad : put_records 2 (contents_of first.database) records ≡ Err n
