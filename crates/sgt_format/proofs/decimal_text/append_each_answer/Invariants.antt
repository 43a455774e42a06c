use Rattle.std.proofs.Common.{◌≡◌, ◌++◌, take}
use Rattle.std.specs.Fmt.{signed_decimal}
use Rattle.sgt_format.specs.Decimals.{each_item}
use Rattle.sgt_format.proofs.decimal_text.append_each_answer.Given as goal

abbrev pub invariant-loop-answer : goal.invariant-loop-answer
invariant-loop-answer l = l.line.items ≡ l.fn.line.items ++ each_item signed_decimal (take l.answer-index l.answers)
