use Rattle.std.proofs.Common.{◌≡◌, [], arith}
use Rattle.std.proofs.lemmas.Grind.{common_steps}
use Rattle.sgt_format.proofs.Numerals.{after_minus, without_minus}
use Rattle.sgt_format.proofs.line_tokens.sign_and_digits.Goals as goal
use Rattle.sgt_format.proofs.line_tokens.sign_and_digits.Goals.{else-not-is_empty-via-then-not-is_empty+else-text-eq45, else-not-is_empty-via-else-not-is_empty}

pub returns-then-text-eq45 : goal.returns-then-text-eq45
returns-then-text-eq45 c = after_minus c.args.text.now c.if-text-eq45.true

pub returns-else-not-is_empty : goal.returns-else-not-is_empty
returns-else-not-is_empty c = elim c.else-not-is_empty.branch [
  | else-not-is_empty-via-then-not-is_empty+else-text-eq45 w ↦ without_minus c.args.text.now w.if-text-eq45.false
  | else-not-is_empty-via-else-not-is_empty w ↦ without_minus c.args.text.now
      (let empty : c.args.text.now ≡ [] = (grind (arith, common_steps, c.is_empty.ensures)) in rw empty (grind arith))
]
