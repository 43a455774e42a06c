use Rattle.std.proofs.Common.{◌≡◌, take, length, map}
use Rattle.std.specs.Vec.{vec_len, vec_capacity}
use Rattle.serde_json.specs.View.{view}
use Rattle.sgt_format.specs.Procedures.{AreProcedures}
use Rattle.sgt_format.proofs.procedures.read_procedures.Given as goal

-- the trees so far spell the procedures so far, and the capacity is enough for all
abbrev pub invariant-loop-index : goal.invariant-loop-index
invariant-loop-index l = record {
  so_far : AreProcedures (map view (take l.index l.trees)) l.list.items;
  capacity : vec_capacity l.list ≡ length l.trees;
  count : vec_len l.list ≡ l.index;
}
