use Rattle.sgt_format.proofs.PlainCalls.{job_called}
use Rattle.sgt_format.proofs.plain_line.plain_job.Goals as goal

pub returns : goal.returns
returns c =
    job_called _ c.in_ok-item_after.ensures.0 _ _ c.in_ok-item_after.ensures.1 c.in_ok-item_after.ensures.2 c.in_ok-last_call.ensures
