use Rattle.std.proofs.Common.{◌≡◌, ◌<◌, ℕ}
use Rattle.sgt_appends.specs.Tables.{stands}
use Rattle.sgt_appends.specs.Reads.{own_at, IsCleanAt}
use Rattle.sgt_appends.proofs.reads.fault_in.Given as goal

abbrev pub invariant-loop-position : goal.invariant-loop-position
invariant-loop-position l = record {
  clean : (p : ℕ) → p < l.position → IsCleanAt l.history l.number p;
  own : (k : ℕ) → stands l.own k ≡ own_at l.history l.number l.position k;
}
