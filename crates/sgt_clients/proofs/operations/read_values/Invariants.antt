use Rattle.std.proofs.Common.{take}
use Rattle.std.specs.Prelude.{map}
use Rattle.serde_json.specs.View.{view}
use Rattle.sgt_clients.specs.Entries.{SpellEachValue}
use Rattle.sgt_clients.proofs.operations.read_values.Given as goal

abbrev pub invariant-loop-item : goal.invariant-loop-item
invariant-loop-item l = SpellEachValue (map view (take l.item-index l.items)) l.values.items
