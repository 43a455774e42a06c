use Rattle.crossbeam_channel.specs.Claims.{view}
use Rattle.sgt_dispatch.proofs.Steps.{put_keeps}
use Rattle.sgt_dispatch.proofs.producer.Putter.send.Goals as goal

pub send_as-requires-clause-rule : goal.send_as-requires-clause-rule
send_as-requires-clause-rule g c = (
  put_keeps _ _ (view c.self.inside.pass) c.args.item c.self.invariant.1.is_producer,
  λ items views f at. tt,
)
