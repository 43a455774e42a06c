-- The record lines at the front of the lines that are left.
use Rattle.std.specs.Prelude.{◌≡◌, ℕ, ◌+◌, ◌⊎◌, true, ⊤, List, [], ◌∷◌, ◌++◌, length, Option, None, Some, Ok, Err}
use Rattle.std.specs.Option.{is_some}
use Rattle.sgt_model.specs.Contents.{Key, Contents, put_in}
use Rattle.sgt_format.specs.RecordLines.{record_line_of, record_of}
use Rattle.sgt_format.specs.FilledOpenings.{AreRecordLines, leading_records, after_records, put_records}
use Rattle.sgt_format.specs.declared.record_line.RecordLine.{RecordLine}
use Rattle.sgt_format.specs.declared.record_line.Record.{Record}
use Rattle.sgt_input.specs.declared.fault.Fault.{Fault}
use Rattle.sgt_input.specs.declared.fault.Fault.TheVariants.{BadRecord}
use Rattle.sgt_input.specs.Lines.{Cut, whole_lines}

-- ---- lines

-- the known lines are this one, a record line that says this, and then these
abbrev pub GivesRecord : Option Cut → List ℕ → RecordLine → Option Cut → Type 0
GivesRecord None line said new = ⊤
GivesRecord (Some old) line said None = ⊥
GivesRecord (Some old) line said (Some new) =
    (old.given ≡ line ∷ new.given) × (old.ending ≡ new.ending) × (record_line_of line ≡ Some said)

-- the known lines do not begin with a record line
abbrev pub LeadsNone : Option Cut → Type 0
LeadsNone None = ⊤
LeadsNone (Some c) = (leading_records c.given ≡ []) × (after_records c.given ≡ c.given)

-- the known lines begin with a record line that says this
abbrev pub IsAhead : RecordLine → Option Cut → Type 0
IsAhead said None = ⊤
IsAhead said (Some c) = (line : List ℕ) × (later : List (List ℕ)) × (c.given ≡ line ∷ later) × (record_line_of line ≡ Some said)

-- the known lines stay as they are
abbrev pub Stays : Option Cut → Option Cut → Type 0
Stays None new = ⊤
Stays (Some old) None = ⊥
Stays (Some old) (Some new) = new ≡ old

-- ---- bytes

-- the first bytes are the record lines n + 1 to m, each with its newline, and then the second bytes
pub record ArePassed (n : ℕ) (old : List ℕ) (m : ℕ) (now : List ℕ) : Type 0 where
  pub read : List ℕ
  pub lines : List (List ℕ)
  pub bytes : old ≡ read ++ now
  pub whole : (rest : List ℕ) → whole_lines (read ++ rest) ≡ lines ++ whole_lines rest
  pub are : AreRecordLines lines
  pub number : m ≡ n + length lines

-- the same for bytes that are known
abbrev pub Passes : ℕ → Option (List ℕ) → ℕ → Option (List ℕ) → Type 0
Passes n None m now = ⊤
Passes n (Some old) m None = ⊥
Passes n (Some old) m (Some now) = ArePassed n old m now

-- every whole line in the known bytes read between the two states is a record line
abbrev pub ReadsRecords : Option (List ℕ) → Option (List ℕ) → Type 0
ReadsRecords None now = ⊤
ReadsRecords (Some old) None = ⊥
ReadsRecords (Some old) (Some now) = (read : List ℕ) × (old ≡ read ++ now) × AreRecordLines (whole_lines read)

-- ---- records

-- the leading record lines after line n turn the contents before into those after, and leave the other lines, after
-- line n'
pub record LeavesCut (n : ℕ) (before : Contents) (old : Cut) (n' : ℕ) (after : Contents) (new : Cut) : Type 0 where
  pub values : Contents
  pub put : put_records (n + 1) before (leading_records old.given) ≡ Ok values
  pub contents : (key : Key) → after key ≡ values key
  pub left : new.given ≡ after_records old.given
  pub ending : new.ending ≡ old.ending
  pub number : n' ≡ n + length (leading_records old.given)

-- the same for lines that are known
abbrev pub Leaves : ℕ → Contents → Option Cut → ℕ → Contents → Option Cut → Type 0
Leaves n before None n' after new = ⊤
Leaves n before (Some old) n' after None = ⊥
Leaves n before (Some old) n' after (Some new) = LeavesCut n before old n' after new

-- the fault names the line of the first record that cannot be added to these contents; the known lines come after line
-- n
abbrev pub IsBadRecord : Fault → ℕ → Contents → Option Cut → Type 0
IsBadRecord f n before None = ⊤
IsBadRecord f n before (Some old) =
    (bad : ℕ) × (f ≡ BadRecord bad) × (put_records (n + 1) before (leading_records old.given) ≡ Err bad)

-- the record that a line says was added under a key that had no value
abbrev pub PutsNew : Contents → RecordLine → Contents → Type 0
PutsNew before said after = (put : Record) × (record_of said ≡ Some put) × (before put.key ≡ None)
    × ((key : Key) → after key ≡ put_in before put.key put.value key)

-- the line says no record, or one whose key has a value
abbrev pub CantPut : Contents → RecordLine → Type 0
CantPut before said = (record_of said ≡ None) ⊎ ((put : Record) × (record_of said ≡ Some put) × (is_some (before put.key) ≡ true))
