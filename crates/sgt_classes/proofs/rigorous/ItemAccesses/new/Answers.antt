use Rattle.std.proofs.Common.{rules}
use Rattle.sgt_classes.proofs.rigorous.ItemAccesses.new.Goals as goal

pub returns : goal.returns
returns c = λ h. record { last = c.new.ensures.last _; ends = c.new.ensures.ends _; reads = search rules }
