use Rattle.std.proofs.Common.{sym, refl}
use Rattle.std.proofs.lemmas.Bool.{true≢false}
use Rattle.sgt_sched.proofs.Accessed.{rivals_few, rivals_are_nodes, blocks_from_cycle, free_seen}
use Rattle.sgt_sched.specs.Scheduler.{parts}
use Rattle.sgt_sched.proofs.sched.Sched.is_blocked.Goals as goal

pub rivals-rivals-requires : goal.rivals-rivals-requires
rivals-rivals-requires g c = record { few = rivals_few c.args.self.now.kept }

pub test-requires-clause-preds : goal.test-requires-clause-preds
test-requires-clause-preds g c = rivals_are_nodes c.args.self.now.kept c.args.t c.requires.live c.args.key c.args.kind
    c.rivals-rivals.result c.rivals-rivals.ensures.exact

pub returns-in-Accepted : goal.returns-in-Accepted
returns-in-Accepted g c = (
  (λ e. absurd (true≢false (sym e))),
  (λ b. absurd (free_seen c.args.self.now.kept c.args.t c.requires.live c.args.key c.args.kind c.rivals-rivals.result
      c.rivals-rivals.ensures.exact (parts c.args.self.now) refl c.in-Accepted.ensures.verdict b)),
)

pub returns-in-Closes : goal.returns-in-Closes
returns-in-Closes g c = (
  (λ e. (
    c.in-Closes.ensures.verdict.0,
    blocks_from_cycle c.args.self.now.kept c.args.t c.requires.live c.args.key
        c.args.kind c.rivals-rivals.result c.rivals-rivals.ensures.exact c.in-Closes.ensures.verdict.0 c.in-Closes.ensures.verdict.2,
  )),
  (λ b. refl),
)
