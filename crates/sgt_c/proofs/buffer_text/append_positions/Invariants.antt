use Rattle.std.proofs.Common.{◌≡◌, ◌++◌, take}
use Rattle.std.specs.Fmt.{decimal}
use Rattle.sgt_format.specs.Decimals.{each_item}
use Rattle.sgt_c.proofs.buffer_text.append_positions.Given as goal

abbrev pub invariant-loop-position : goal.invariant-loop-position
invariant-loop-position l = l.line.items ≡ l.fn.line.items ++ each_item decimal (take l.position-index l.place)
