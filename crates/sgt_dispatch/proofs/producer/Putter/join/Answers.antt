use Rattle.std.proofs.Common.{ap, ◌∙◌}
use Rattle.crossbeam_channel.specs.Claims.{view}
use Rattle.sgt_dispatch.specs.declared.log.Log.{Log}
use Rattle.sgt_dispatch.proofs.Steps.{join_keeps, producer_learns}
use Rattle.sgt_dispatch.proofs.producer.Putter.join.Goals as goal

pub absorb-requires-clause-rule : goal.absorb-requires-clause-rule
absorb-requires-clause-rule c = join_keeps _ (view c.self.inside.pass) _
    (view c.stub.inside.pass) c.self.invariant.1.some_part c.stub.invariant.is_producer c.stub.invariant.joined

pub learn_as-requires-clause-rule : goal.learn_as-requires-clause-rule
learn_as-requires-clause-rule c =
    let mine = c.self.invariant.1 in
    let now = c.absorb.ensures.rule in
    producer_learns _ (view c.absorb.new.pass) (ap (λ (log : Log). log.is_producer) now ∙ mine.is_producer)
    (ap (λ (log : Log). log.taken) now ∙ mine.taken)
