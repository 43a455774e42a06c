-- The claims of a verdict.
use Rattle.std.specs.Prelude.{◌↔◌, List}
use Rattle.sgt_appends.specs.declared.transaction.Transaction.{Transaction}
use Rattle.sgt_appends.specs.declared.check.Verdict.{Verdict}
use Rattle.sgt_appends.specs.declared.check.Verdict.TheVariants.{Serial, Violated, AppendedTwice, UnknownReads}
use Rattle.sgt_appends.specs.declared.check.Witness.{Witness}
use Rattle.sgt_appends.specs.declared.check.Witness.TheVariants.{Cycle, Fault}
use Rattle.sgt_appends.specs.Runs.{IsSerialRun, IsSerializable}
use Rattle.sgt_appends.specs.Precedences.{AppendsOnce}
use Rattle.sgt_appends.specs.Orders.{UnknownOnlyAppend}
use Rattle.sgt_appends.specs.Reads.{HasFault, HasUnknownRead}
use Rattle.sgt_appends.specs.Witnesses.{AllPrecede, IsEdgeCycle}

-- the edges are a cycle and all follow from what was observed, and a fault is one of the read
abbrev pub IsWitness : List Transaction → Witness → Type 0
IsWitness h (Cycle edges) = IsEdgeCycle h edges.items × AllPrecede h edges.items
IsWitness h (Fault reader read fault) = HasFault h reader read fault

-- `Serial`: the order is a serial run. `Violated`: there is none, and the witness holds. `AppendedTwice`: a value is
-- appended twice to a key. `UnknownReads`: a transaction with an unknown end has a read at this position.
abbrev pub IsRight : List Transaction → Verdict → Type 0
IsRight h (Serial order) = IsSerialRun h order.items
IsRight h (Violated witness) = (¬ IsSerializable h) × IsWitness h witness
IsRight h AppendedTwice = ¬ AppendsOnce h
IsRight h (UnknownReads reader read) = HasUnknownRead h reader read

-- the verdict is `Serial`
abbrev pub SaysSerial : Verdict → Type 0
SaysSerial (Serial order) = Unit {0}
SaysSerial (Violated witness) = ⊥
SaysSerial AppendedTwice = ⊥
SaysSerial (UnknownReads reader read) = ⊥

-- the verdict is `Violated`
abbrev pub SaysViolated : Verdict → Type 0
SaysViolated (Serial order) = ⊥
SaysViolated (Violated witness) = Unit {0}
SaysViolated AppendedTwice = ⊥
SaysViolated (UnknownReads reader read) = ⊥

-- Under the two premises, the verdict is `Serial` exactly if there is a serial run, and otherwise `Violated`.
abbrev pub IsExact : List Transaction → Verdict → Type 0
IsExact h verdict = AppendsOnce h → UnknownOnlyAppend h → (SaysSerial verdict ↔ IsSerializable h) × (SaysViolated verdict ↔ (¬ IsSerializable h))
