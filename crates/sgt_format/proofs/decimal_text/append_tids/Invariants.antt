use Rattle.std.proofs.Common.{◌≡◌, ◌++◌, take}
use Rattle.std.specs.Fmt.{decimal}
use Rattle.sgt_format.specs.Decimals.{each_item}
use Rattle.sgt_format.proofs.decimal_text.append_tids.Given as goal

abbrev pub invariant-loop-tid : goal.invariant-loop-tid
invariant-loop-tid l = l.line.items ≡ l.fn.line.items ++ each_item decimal (take l.tid-index l.tids)
