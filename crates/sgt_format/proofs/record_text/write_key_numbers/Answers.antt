use Rattle.std.proofs.Common.{arith}
use Rattle.std.proofs.lemmas.Fmt.{length-decimal-le}
use Rattle.sgt_format.proofs.record_text.write_key_numbers.Goals as goal

pub write_digits-requires : goal.write_digits-requires
write_digits-requires c = (omega (arith, length-decimal-le 1 c.from.result (omega arith) (omega arith) (omega arith)), omega arith)

pub returns-clause-start : goal.returns-clause-start
returns-clause-start c = omega (arith, length-decimal-le 1 c.from.result (omega arith) (omega arith) (omega arith))
