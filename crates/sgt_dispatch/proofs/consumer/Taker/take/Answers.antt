use Rattle.std.proofs.Common.{arith}
use Rattle.crossbeam_channel.specs.Claims.{view}
use Rattle.sgt_dispatch.proofs.Steps.{take_keeps}
use Rattle.sgt_dispatch.proofs.consumer.Taker.take.Goals as goal

pub recv_as-requires-clause-rule : goal.recv_as-requires-clause-rule
recv_as-requires-clause-rule g c =
    (take_keeps _ (view c.self.inside.pass) c.self.invariant.1.is_producer (omega (arith, c.self.invariant.1.part)), λ items views f at. tt)
