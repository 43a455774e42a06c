use Rattle.std.proofs.Common.{subst, sym}
use Rattle.sgt_appends.proofs.Loops.{cycle_shown}
use Rattle.sgt_levels.specs.Rounds.{AreSpaced}
use Rattle.sgt_levels.proofs.Rounds.{spaced_cycle, no_miss_cycle}
use Rattle.sgt_levels.proofs.ruling.ruled_out.Goals as goal

pub returns-then-has_no_miss-clause-rules_out : goal.returns-then-has_no_miss-clause-rules_out
returns-then-has_no_miss-clause-rules_out c = λ h once cycle.
    no_miss_cycle h c.args.edges.now once cycle (c.has_no_miss.ensures.yes c.if-has_no_miss.true)

pub returns-then-are_spaced-clause-rules_out : goal.returns-then-are_spaced-clause-rules_out
returns-then-are_spaced-clause-rules_out c = λ h once cycle. spaced_cycle h c.args.edges.now once cycle
    (subst (λ b. AreSpaced b c.args.edges.now) c.last_missed.ensures (c.are_spaced.ensures.yes c.if-are_spaced.true))

pub returns-then-are_spaced-clause-weakest : goal.returns-then-are_spaced-clause-weakest
returns-then-are_spaced-clause-weakest c = (
  subst (λ b. AreSpaced b c.args.edges.now) c.last_missed.ensures (c.are_spaced.ensures.yes c.if-are_spaced.true),
  c.has_no_miss.ensures.no c.if-has_no_miss.false,
)

pub returns-clause-rules_out : goal.returns-clause-rules_out
returns-clause-rules_out c = λ h once cycle. cycle_shown h c.args.edges.now once cycle

pub returns-clause-weakest : goal.returns-clause-weakest
returns-clause-weakest c = (
  (λ spaced. c.are_spaced.ensures.no c.if-are_spaced.false (subst (λ b. AreSpaced b c.args.edges.now) (sym c.last_missed.ensures) spaced)),
  c.has_no_miss.ensures.no c.if-has_no_miss.false,
)
