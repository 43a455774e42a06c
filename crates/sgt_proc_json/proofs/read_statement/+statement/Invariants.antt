use Rattle.std.proofs.Common.{◌≡◌, drop, length}
use Rattle.std.specs.Vec.{vec_len, vec_capacity}
use Rattle.serde_json.specs.View.{items_view}
use Rattle.sgt_proc_json.specs.Readings.{one, statements}
use Rattle.sgt_proc_json.proofs.StatementsRead.{onto_block}
use Rattle.sgt_proc_json.proofs.read_statement.+statement.Given as goal

-- the statements so far, in front of what the items left spell
abbrev pub invariant-read_statements-loop-position : goal.invariant-read_statements-loop-position
invariant-read_statements-loop-position l = record {
  so_far : statements 0 (items_view l.items) ≡ one (onto_block l.list.items) (statements l.position (items_view (drop l.position l.items)));
  capacity : vec_capacity l.list ≡ length l.items;
  count : vec_len l.list ≡ l.position;
}
