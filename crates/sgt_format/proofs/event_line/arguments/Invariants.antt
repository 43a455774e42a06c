use Rattle.std.proofs.Common.{◌≡◌, ◌++◌, drop, length}
use Rattle.std.specs.Prelude.{map, option_map}
use Rattle.serde_json.specs.View.{view}
use Rattle.sgt_format.specs.Trees.{each}
use Rattle.sgt_proc_json.specs.Trees.{whole}
use Rattle.sgt_format.proofs.event_line.arguments.Given as goal

abbrev pub invariant-loop-item : goal.invariant-loop-item
invariant-loop-item l = record {
  count : length l.args ≡ l.item-index;
  left : option_map (λ rest. l.args ++ rest) (each whole (map view (drop l.item-index l.items))) ≡ each whole (map view l.items);
}
