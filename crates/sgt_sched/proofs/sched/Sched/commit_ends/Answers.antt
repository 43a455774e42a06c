use Rattle.std.proofs.Common.{false, refl, sym, ap, subst, ◌∙◌}
use Rattle.sgt_sched.specs.Endings.{AtItsCommit}
use Rattle.sgt_sched.specs.Operations.{next_by}
use Rattle.sgt_sched.specs.Scheduler.{state, asks_of}
use Rattle.sgt_sched.proofs.Endings.{never, commit_ends_by, first_by}
use Rattle.sgt_sched.proofs.sched.Sched.commit_ends.Goals as goal

pub returns-in-Some-Ends : goal.returns-in-Some-Ends
returns-in-Some-Ends g c = commit_ends_by (asks_of c.args.self.now) c.args.t (state c.args.self.now) _
    (ap (next_by (state c.args.self.now) c.args.t) (sym c.in-Some-Ends.field-0-is) ∙ c.in-Some-Ends.ensures.next)
    (c.in-Some-Ends.ensures.unended.0 refl) _
    (first_by c.args.t (state c.args.self.now) c.decide.result _ c.is_none.ensures c.decide.ensures.waits c.decide.ensures.free)

pub returns-in-AtStep : goal.returns-in-AtStep
returns-in-AtStep g c = commit_ends_by (asks_of c.args.self.now) c.args.t (state c.args.self.now) _
    (ap (next_by (state c.args.self.now) c.args.t) (sym c.in-Some-Asks.field-0-is) ∙ c.in-Some-Asks.ensures.next)
    (c.in-Some-Asks.ensures.unended.0 refl) false
    (never (λ e. subst AtItsCommit c.in-AtStep.is e.0))

pub returns-in-AtCommit : goal.returns-in-AtCommit
returns-in-AtCommit g c =
    let first = first_by c.args.t (state c.args.self.now) c.decide-in-AtCommit.result _ c.is_none-in-AtCommit.ensures
    c.decide-in-AtCommit.ensures.waits c.decide-in-AtCommit.ensures.free in
    commit_ends_by (asks_of c.args.self.now) c.args.t (state c.args.self.now) _
    (ap (next_by (state c.args.self.now) c.args.t) (sym c.in-Some-Asks.field-0-is) ∙ c.in-Some-Asks.ensures.next)
    (c.in-Some-Asks.ensures.unended.0 refl) _
    ((λ e. (subst AtItsCommit (sym c.in-AtCommit.is) tt, first.0 e)), (λ x. first.1 x.1))
