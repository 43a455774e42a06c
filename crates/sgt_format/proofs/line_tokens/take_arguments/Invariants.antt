use Rattle.std.proofs.Common.{◌≡◌, ◌≤◌, ◌++◌, ◌-◌, ℕ, List, length, Some}
use Rattle.std.specs.Prelude.{map}
use Rattle.json.specs.Token.{number}
use Rattle.sgt_format.specs.LineTokens.{whole_numbers}
use Rattle.sgt_format.proofs.line_tokens.take_arguments.Given as goal

abbrev pub invariant-loop-args : goal.invariant-loop-args
invariant-loop-args l = record {
  few : length l.args ≤ 4;
  read : (texts : List (List ℕ)) × (l.fn.reader ≡ map number texts ++ l.reader) × (whole_numbers texts ≡ Some l.args);
}

abbrev pub decreases-loop-args : goal.decreases-loop-args
decreases-loop-args l = 4 - length l.args
