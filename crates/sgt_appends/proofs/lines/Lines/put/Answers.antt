use Rattle.std.proofs.Common.{refl, arith}
use Rattle.std.proofs.lemmas.Grind.{common_steps}
use Rattle.sgt_appends.proofs.lines.Lines.put.Goals as goal

pub returns-clause-line : goal.returns-clause-line
returns-clause-line c = record {
  line = record { number = c.args.number; values = c.args.values };
  here = c.in_ok-insert.ensures.updates.1;
  number_is = refl;
  values_are = refl;
  others = λ l differs. grind (arith, common_steps, c.in_ok-insert.ensures.updates);
}
