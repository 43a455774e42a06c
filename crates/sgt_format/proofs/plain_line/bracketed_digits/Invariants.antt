use Rattle.std.proofs.Common.{length, ◌-◌, ◌^◌, ◌≡◌, ◌<◌, take}
use Rattle.std.specs.Fmt.{decimal}
use Rattle.sgt_format.proofs.plain_line.bracketed_digits.Given as goal

abbrev pub invariant-loop-number : goal.invariant-loop-number
invariant-loop-number l = record {
  within : l.digits < length l.text;
  some : 0 < l.number;
  small : l.number < 10 ^ l.digits;
  read : take l.digits l.text ≡ decimal l.number;
}

abbrev pub decreases-loop-number : goal.decreases-loop-number
decreases-loop-number l = length l.text - l.digits
