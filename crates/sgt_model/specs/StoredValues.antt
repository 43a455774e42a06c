-- Contents that hold values, and why those of a replay do: a run writes nothing else.
use Rattle.std.specs.Prelude.{ℤ, List, Option, IfSome}
use Rattle.sgt_model.specs.declared.limits.Limits.{Limits}
use Rattle.sgt_model.specs.declared.entry.Entry.{Entry}
use Rattle.sgt_model.specs.Numbers.{IsValue}
use Rattle.sgt_model.specs.Contents.{Key, Contents}
use Rattle.sgt_model.specs.Syntax.{ProcedureText}
use Rattle.sgt_model.specs.Runs.{Run, looks, puts, ends, raises}
use Rattle.sgt_model.specs.Meaning.{run_with}
use Rattle.sgt_model.specs.Values.{settled}
use Rattle.sgt_model.specs.Configurations.{configuration}
use Rattle.sgt_model.specs.Progress.{Call}
use Rattle.sgt_model.specs.Legality.{Legal}
use Rattle.sgt_model.specs.Replay.{run_in_turn}

-- the contents hold only values
abbrev pub HoldValues : Contents → Type 0
HoldValues m = (k : Key) → IfSome (m k) IsValue

-- the run writes only values, whatever its reads return
abbrev pub StoresValues : Run → Type 0
StoresValues (looks k go) = (found : Option ℤ) → StoresValues (go found)
StoresValues (puts k v rest) = IfSome v IsValue × StoresValues rest
StoresValues (ends answers) = Unit {0}
StoresValues (raises code) = Unit {0}

-- the run of a procedure writes only values, whatever its text and its arguments
abbrev pub RunsStoreValues : Type 0
RunsStoreValues = (p : ProcedureText) (args : List ℤ) → StoresValues (run_with p args)

-- if the initial database holds values, so do the contents after transactions that ran one after another
abbrev pub ReplaysHoldValues : Type 0
ReplaysHoldValues = (opening : Contents) (programs : List ProcedureText) (limits : Limits) (calls : List Call) → HoldValues opening → HoldValues (run_in_turn (configuration opening programs limits) calls).last

-- and so do the committed contents after a legal history
abbrev pub CommittedAreValues : Type 0
CommittedAreValues = (opening : Contents) (programs : List ProcedureText) (limits : Limits) (past : List Entry) → HoldValues opening → Legal (configuration opening programs limits) past → HoldValues (settled opening past)
