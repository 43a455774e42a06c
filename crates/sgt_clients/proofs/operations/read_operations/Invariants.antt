use Rattle.std.proofs.Common.{◌≡◌, ◌++◌, ℕ, List, take}
use Rattle.std.specs.Prelude.{map}
use Rattle.serde_json.specs.View.{view}
use Rattle.sgt_notation.specs.Numbering.{KnowsItems, texts_of}
use Rattle.sgt_clients.specs.Entries.{SpellAll}
use Rattle.sgt_clients.proofs.operations.read_operations.Given as goal

abbrev pub invariant-loop-place : goal.invariant-loop-place
invariant-loop-place l = record {
  known : KnowsItems l.keys;
  more : (more : List (List ℕ)) × (texts_of l.keys ≡ texts_of l.fn.keys ++ more);
  spelled : SpellAll l.committed (texts_of l.keys) (map view (take l.place l.items)) l.accesses.items l.counted.items;
}
