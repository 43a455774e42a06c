use Rattle.std.proofs.Common.{length, ◌-◌, ◌≡◌, ◌≤◌, ◌<◌, take}
use Rattle.std.specs.Fmt.{decimal}
use Rattle.sgt_format.proofs.plain_line.leading_digits.Given as goal

abbrev pub invariant-loop-digits : goal.invariant-loop-digits
invariant-loop-digits l = record {
  within : l.digits ≤ length l.text;
  some : 0 < l.number;
  small : l.number < 1_000_000_000_000_000_000;
  read : take l.digits l.text ≡ decimal l.number;
}

abbrev pub decreases-loop-digits : goal.decreases-loop-digits
decreases-loop-digits l = length l.text - l.digits
