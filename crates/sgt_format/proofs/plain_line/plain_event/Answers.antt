use Rattle.std.proofs.Common.{refl}
use Rattle.sgt_format.proofs.PlainLines.{plain_step, plain_commit}
use Rattle.sgt_format.proofs.plain_line.plain_event.Goals as goal

pub returns-then-line-eq101 : goal.returns-then-line-eq101
returns-then-line-eq101 c =
    plain_step _ c.in_ok-tid_after.ensures.number.0 _ _ c.in_ok-tid_after.ensures.number.1 c.in_ok-tid_after.ensures.number.2 refl
    c.in_ok-tid_after.ensures.small

pub returns-then-line-eq109 : goal.returns-then-line-eq109
returns-then-line-eq109 c =
    plain_commit _ c.in_ok-tid_after-2.ensures.number.0 _ _ c.in_ok-tid_after-2.ensures.number.1
    c.in_ok-tid_after-2.ensures.number.2 refl c.in_ok-tid_after-2.ensures.small
