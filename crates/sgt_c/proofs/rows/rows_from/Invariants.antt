use Rattle.std.proofs.Common.{◌≡◌, ◌-◌, ℕ, ◌<◌, ◌≤◌, length, true, false, Some, slice_get}
use Rattle.sgt_model.specs.Databases.{Row, key_lt}
use Rattle.sgt_c.proofs.rows.rows_from.Given as goal

abbrev pub invariant-loop-low : goal.invariant-loop-low
invariant-loop-low l = record {
  ordered : l.low ≤ l.high;
  within : l.high ≤ length l.rows;
  below : (i : ℕ) (r : Row) → i < l.low → slice_get l.rows i ≡ Some r → key_lt r.0 l.key ≡ true;
  above : (i : ℕ) (r : Row) → l.high ≤ i → slice_get l.rows i ≡ Some r → key_lt r.0 l.key ≡ false;
}

abbrev pub decreases-loop-low : goal.decreases-loop-low
decreases-loop-low l = l.high - l.low
