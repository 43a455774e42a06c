use Rattle.std.proofs.Common.{◌≡◌, ◌++◌, take, drop}
use Rattle.sgt_format.specs.Templates.{before_mark, after_mark}
use Rattle.sgt_format.proofs.template.split_at_mark.Given as goal

abbrev pub invariant-loop-mark : goal.invariant-loop-mark
invariant-loop-mark l = record {
  before : before_mark l.template ≡ take l.mark l.template ++ before_mark (drop l.mark l.template);
  after : after_mark l.template ≡ after_mark (drop l.mark l.template);
}
