use Rattle.std.proofs.Common.{map, ap, ◌∙◌, arith}
use Rattle.sgt_notation.specs.Readings.{shown_byte}
use Rattle.sgt_notation.proofs.Gets.{take_first}
use Rattle.sgt_notation.proofs.fault.Shown.of.Goals as goal

pub returns : goal.returns
returns c = c.loop-byte.invariant
    ∙ ap (map shown_byte) (take_first 32 c.min.result c.loop-byte.byte-index c.args.word.now c.min.ensures
    (omega (arith, c.loop-byte-test.false)))
