use Rattle.crossbeam_channel.specs.Claims.{view}
use Rattle.sgt_dispatch.proofs.Steps.{cut_keeps}
use Rattle.sgt_dispatch.proofs.queue.another.Goals as goal

pub another-requires-clause-rule : goal.another-requires-clause-rule
another-requires-clause-rule c = cut_keeps _ (view c.args.pass.now) c.requires.parts
