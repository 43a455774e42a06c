use Rattle.std.proofs.Common.{◌≡◌, ◌≢◌, false, Some, None, IfSome, cond, take}
use Rattle.std.specs.BTreeMap.{get}
use Rattle.std.specs.Option.{option_flatten}
use Rattle.sgt_model.specs.Contents.{Key}
use Rattle.sgt_model.specs.Databases.{key_cmp}
use Rattle.sgt_model.specs.Numbers.{IsValue}
use Rattle.sgt_engine.specs.Writes.{is_written}
use Rattle.sgt_engine.proofs.changes.written_values.Given as goal

-- the values of the keys that were written so far
abbrev pub invariant-loop-place : goal.invariant-loop-place
invariant-loop-place g l = record {
  values : (k : Key) → get key_cmp l.values k
      ≡ cond (is_written k (take l.place l.history.entries)) (Some (g.R.Records.settled l.records k)) None;
  in_range : (k : Key) → IfSome (option_flatten (get key_cmp l.values k)) IsValue;
  removes : l.removes ≡ false → (k : Key) → get key_cmp l.values k ≢ Some None;
}
