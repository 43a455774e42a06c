use Rattle.std.proofs.Common.{◌≡◌, ◌≤◌, ◌+◌, false}
use Rattle.std.specs.Io.KnownBytes.{Keeps}
use Rattle.sgt_input.specs.Intake.{bytes_left, come, IsReady, work}
use Rattle.sgt_input.proofs.lines.Lines.fill.Given as goal

abbrev pub invariant-loop-self : goal.invariant-loop-self
invariant-loop-self g l = record {
  number : l.self.number ≡ l.fn.self.number;
  within : l.self.within ≡ l.fn.self.within;
  bytes : Keeps (bytes_left l.fn.self (g.S.Source.rest l.fn.source)) (bytes_left l.self (g.S.Source.rest l.source));
  counted : g.S.Source.given l.source + come l.fn.self ≤ g.S.Source.given l.fn.source + come l.self;
  untouched : IsReady l.fn.self → (l.self ≡ l.fn.self) × (l.source ≡ l.fn.source);
  ended : l.self.ended ≡ false → l.fn.self.ended ≡ false;
  well : g.S.Source.failures l.source ≡ g.S.Source.failures l.fn.source;
}

abbrev pub decreases-loop-self : goal.decreases-loop-self
decreases-loop-self g l = work l.self
