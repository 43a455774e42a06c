use Rattle.std.proofs.Common.{◌≡◌, ℕ}
use Rattle.sgt_appends.specs.Tables.{stands}
use Rattle.sgt_appends.specs.Reads.{own_at}
use Rattle.sgt_appends.specs.Lines.{line_in, keys_in, AreLines}
use Rattle.sgt_appends.proofs.lines.Lines.add_transaction.Given as goal

abbrev pub invariant-loop-position : goal.invariant-loop-position
invariant-loop-position l = record {
  lines : AreLines l.history l.number l.position (line_in l.self) (keys_in l.self);
  own : (k : ℕ) → stands l.own k ≡ own_at l.history l.number l.position k;
}
