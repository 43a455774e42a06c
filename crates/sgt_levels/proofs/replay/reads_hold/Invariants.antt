use Rattle.std.proofs.Common.{◌≡◌, ◌<◌, ℕ, Some, take}
use Rattle.std.specs.Prelude.{slice_get}
use Rattle.std.specs.Global.{Vec}
use Rattle.sgt_appends.specs.declared.transaction.Operation.TheVariants.{Read}
use Rattle.sgt_appends.specs.Precedences.{appended}
use Rattle.sgt_levels.specs.Replays.{values_in, SeenFrom}
use Rattle.sgt_levels.proofs.replay.reads_hold.Given as goal

abbrev pub invariant-loop-operation : goal.invariant-loop-operation
invariant-loop-operation l = record {
  own : (k : ℕ) → values_in l.own k ≡ appended k (take l.operation-index l.operations);
  held : (p k : ℕ) (values : Vec ℕ) → p < l.operation-index → slice_get l.operations p ≡ Some (Read k values)
      → SeenFrom l.history l.order l.place l.start k (appended k (take p l.operations)) values.items;
}
