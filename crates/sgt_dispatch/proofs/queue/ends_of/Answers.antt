use Rattle.sgt_dispatch.proofs.Steps.{queue_begins}
use Rattle.sgt_dispatch.proofs.queue.ends_of.Goals as goal

pub bounded_with-requires-clause-rule : goal.bounded_with-requires-clause-rule
bounded_with-requires-clause-rule c = queue_begins
