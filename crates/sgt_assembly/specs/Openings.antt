-- The configuration that the program's engine starts from. An `Opening` is the first line of an input with its record
-- lines.
use Rattle.std.specs.Prelude.{ℕ, List, ◌++◌}
use Rattle.sgt_model.specs.declared.entry.Entry.{Entry}
use Rattle.sgt_model.specs.Databases.{contents_of}
use Rattle.sgt_model.specs.Configurations.{Configuration, configuration}
use Rattle.sgt_model.specs.Legality.{Legal}
use Rattle.sgt_model.specs.StoredValues.{HoldValues}
use Rattle.sgt_smallbank.specs.Texts.{procedures}
use Rattle.sgt_smallbank.specs.Replays.{CommitsAreBank}
use Rattle.sgt_format.specs.FilledOpenings.{OpensWith}
use Rattle.sgt_format.specs.declared.opening.Opening.{Opening}
use Rattle.sgt_format.specs.declared.record_line.RecordLine.{RecordLine}

-- the configuration of an opening: SmallBank's procedures, and after them its own
abbrev pub opened_configuration : Opening → Configuration
opened_configuration opening = configuration (contents_of opening.database) (procedures ++ opening.procedures.items) opening.limits

-- the initial database of an opening that lines spell holds values: those of its accounts and of its records
abbrev pub OpenedHoldValues : Type 0
OpenedHoldValues = (least : ℕ) (line : List ℕ) (records : List RecordLine) (opening : Opening)
    → OpensWith least line records opening → HoldValues (contents_of opening.database)

-- after an opening that lines spell, each commit of one of SmallBank's procedures in a legal history is the bank's
-- arithmetic
abbrev pub OpenedIsBank : Type 0
OpenedIsBank = (least : ℕ) (line : List ℕ) (records : List RecordLine) (opening : Opening) (past : List Entry)
    → OpensWith least line records opening → Legal (opened_configuration opening) past → CommitsAreBank (opened_configuration opening) past
