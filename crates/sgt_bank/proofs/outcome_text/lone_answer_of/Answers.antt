use Rattle.std.proofs.Common.{rules}
use Rattle.sgt_bank.proofs.LoneAnswers.{lone}
use Rattle.sgt_bank.proofs.outcome_text.lone_answer_of.Goals as goal

pub returns-then-answers-eq1 : goal.returns-then-answers-eq1
returns-then-answers-eq1 c =
    lone _ c.answers-answers.result.now _ (search rules) c.answers-answers.ensures.answers (search rules) (search rules)
