use Rattle.std.proofs.Common.{◌≡◌, drop}
use Rattle.std.specs.List.{list_all}
use Rattle.sgt_model.specs.Numbers.{is_value}
use Rattle.sgt_sched.proofs.arguments.args_fit.Given as goal

abbrev pub invariant-loop-arg : goal.invariant-loop-arg
invariant-loop-arg l = list_all is_value (drop l.arg-index l.args) ≡ list_all is_value l.args
