use Rattle.std.proofs.Common.{rules, take, subst}
use Rattle.sgt_input.specs.Lines.{IsBreak}
use Rattle.sgt_input.proofs.Breaks.{long-found}
use Rattle.sgt_input.proofs.lines.Lines.give.Goals as goal

pub returns-then-len-gt-LONGEST_LINE-clause-fault : goal.returns-then-len-gt-LONGEST_LINE-clause-fault
returns-then-len-gt-LONGEST_LINE-clause-fault c = (
  search rules,
  long-found c.args.self.now.within c.in-Some.len c.args.self.now.held
      (subst (IsBreak (take c.args.self.now.within c.args.self.now.held)) c.in-Some.is c.first_break.ensures) (search rules),
)
