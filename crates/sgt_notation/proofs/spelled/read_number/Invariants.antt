use Rattle.std.specs.Prelude.{◌≡◌, ◌<◌, ℕ, take, get_or}
use Rattle.std.specs.Int.{IsInRange}
use Rattle.sgt_notation.proofs.NumberTexts.{read_on}
use Rattle.sgt_notation.proofs.spelled.read_number.Given as goal

abbrev pub invariant-loop-digit : goal.invariant-loop-digit
invariant-loop-digit l = record {
  value : l.value ≡ read_on 0 (take l.digit-index l.digits);
  digits : (i : ℕ) → i < l.digit-index → IsInRange 48 57 (get_or l.digits i 0);
}
