use Rattle.std.proofs.Common.{arith}
use Rattle.sgt_proc.specs.declared.flaw.Flaw.TheVariants.{ManyArguments}
use Rattle.sgt_proc.proofs.checked.Checked.args.Goals as goal

pub returns-clause-few : goal.returns-clause-few
returns-clause-few c = grind (arith, c.self.invariant ManyArguments)
