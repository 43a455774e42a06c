use Rattle.std.proofs.Common.{◌≡◌, ◌≢◌, true, [], position, Some, refl, ap, ◌∙◌, sym, subst}
use Rattle.sgt_model.specs.CallEffects.{StepOn}
use Rattle.sgt_cycle.specs.Path.{NoPath}
use Rattle.sgt_sched.specs.LiveList.{has_number}
use Rattle.sgt_sched.proofs.Stepped.{made_with, whatever, rejected}
use Rattle.sgt_sched.specs.Replies.{WithLists, with_reply}
use Rattle.sgt_sched.specs.Operations.{kind_of, next_of, of_kind}
use Rattle.sgt_sched.specs.Scheduler.{parts, state, asks_of, Tries}
use Rattle.sgt_sched.specs.Steps.{AreRivals}
use Rattle.sgt_sched.proofs.Accessed.{rivals_few, rivals_are_nodes, rivals_seen, blocks_from_cycle, free_seen}
use Rattle.sgt_sched.proofs.Aborted.{refuses}
use Rattle.sgt_sched.proofs.sched.Sched.access_after.Goals as goal

pub rivals-rivals-requires : goal.rivals-rivals-requires
rivals-rivals-requires g c = record { few = rivals_few c.args.self.now.kept }

pub plan_or_abort-requires-clause-others : goal.plan_or_abort-requires-clause-others
plan_or_abort-requires-clause-others g c κs lives = rivals_are_nodes c.args.self.now.kept c.args.t c.requires.live c.args.key _
    c.rivals-rivals.result c.rivals-rivals.ensures.exact

pub returns-in_default-clause-done : goal.returns-in_default-clause-done
returns-in_default-clause-done g c =
    let closes = c.in_default.ensures.closes refl in
    let kind = kind_of (of_kind c.args.kind c.args.value) in
    let exact = subst (λ k. AreRivals (state c.args.self.now) c.args.t c.args.key k c.rivals-rivals.result)
    (c.kind.ensures ∙ ap kind_of c.of-operation.ensures) c.rivals-rivals.ensures.exact in
    record {
      done = rejected (asks_of c.args.self.now) c.args.t c.args.key (of_kind c.args.kind c.args.value) (state c.args.self.now) _ _
          (refuses c.args.t c.args.key kind closes.1.0 closes.0 (state c.args.self.now) _ _ closes.1.1
          (blocks_from_cycle c.args.self.now.kept c.args.t c.requires.live c.args.key kind c.rivals-rivals.result
          exact closes.1.0 closes.1.2) closes.2);
      refused = tt;
      kept = c.in_default.ensures.kept;
    }

pub make_access-requires-clause-rivals : goal.make_access-requires-clause-rivals
make_access-requires-clause-rivals g c κs lives = rivals_seen g.A.Accesses.list _ _ (sym (ap parts c.in-Some.ensures.free.0)) c.args.t
    c.args.key (kind_of c.of-operation.result)
    c.rivals-rivals.result
    (subst (λ k. AreRivals (state c.args.self.now) c.args.t c.args.key k c.rivals-rivals.result) c.kind.ensures
    c.rivals-rivals.ensures.exact)

pub make_access-requires-clause-live : goal.make_access-requires-clause-live
make_access-requires-clause-live g c κs lives = subst (λ s. g.G.Graph.nodes s.graph c.args.t ≡ true)
    (sym c.in-Some.ensures.free.0) c.requires.live

pub make_access-requires-clause-at : goal.make_access-requires-clause-at
make_access-requires-clause-at g c κs lives = subst (λ s. position (has_number c.args.t) s.live ≡ Some c.args.index)
    (sym c.in-Some.ensures.free.0) c.requires.at

pub make_access-requires-clause-free : goal.make_access-requires-clause-free
make_access-requires-clause-free g c κs lives = subst (λ s. NoPath (g.G.Graph.pairs s.graph) c.args.t c.rivals-rivals.result)
    (sym c.in-Some.ensures.free.0) c.in-Some.ensures.free.2

pub make_access-requires-clause-planned : goal.make_access-requires-clause-planned
make_access-requires-clause-planned g c κs lives = subst
    (λ s. c.rivals-rivals.result ≢ [] → g.G.Graph.is_planned s.graph c.args.t c.rivals-rivals.result c.in-Some.link)
    (sym c.in-Some.ensures.free.0) c.in-Some.ensures.free.3

pub returns-in_default-clause-no_memory : goal.returns-in_default-clause-no_memory
returns-in_default-clause-no_memory g c b = refl
