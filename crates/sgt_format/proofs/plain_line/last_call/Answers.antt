use Rattle.std.proofs.Common.{rules}
use Rattle.sgt_format.proofs.PlainCalls.{call_of}
use Rattle.sgt_format.proofs.plain_line.last_call.Goals as goal

pub returns : goal.returns
returns c =
    call_of _ _ _ _ c.in_ok-item_after.ensures.0 c.in_ok-number.number _ _ c.in_ok-number.ensures.text c.in_ok-item_after.ensures.1
    c.in_ok-item_after.ensures.2 c.in_ok-following.ensures c.in_ok-last_arguments.ensures.text
    (search rules) (search rules) c.in_ok-last_arguments.ensures.small c.in_ok-last_arguments.ensures.few
