use Rattle.std.proofs.Common.{◌≡◌, ◌≤◌, ◌-◌, ◌+◌, length}
use Rattle.std.specs.Io.KnownBytes.{Consumes}
use Rattle.sgt_check.proofs.input.read_input.Given as goal

abbrev pub invariant-loop-count : goal.invariant-loop-count
invariant-loop-count g l = record {
  taken : Consumes (g.S.Source.rest l.fn.source) (g.S.Source.rest l.source) l.text.items;
  short : length l.text.items ≤ 268435456;
  buffer : length l.buffer.items ≡ 65536;
  given : g.S.Source.given l.source ≤ g.S.Source.given l.fn.source + length l.text.items;
  well : g.S.Source.failures l.source ≡ g.S.Source.failures l.fn.source;
}

abbrev pub decreases-loop-count : goal.decreases-loop-count
decreases-loop-count g l = 268435456 - length l.text.items
