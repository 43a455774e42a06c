use Rattle.std.proofs.Common.{true, false, refl, sym, ap, subst, ◌∙◌}
use Rattle.std.proofs.lemmas.Bool.{true≢false}
use Rattle.sgt_sched.specs.Endings.{AtItsStep}
use Rattle.sgt_sched.specs.Operations.{next_by}
use Rattle.sgt_sched.specs.Scheduler.{state, asks_of}
use Rattle.sgt_sched.proofs.Endings.{never, step_ends_by}
use Rattle.sgt_sched.proofs.sched.Sched.step_ends.Goals as goal

pub returns-in-Look : goal.returns-in-Look
returns-in-Look g c = step_ends_by (asks_of c.args.self.now) c.args.t (state c.args.self.now) _
    (ap (next_by (state c.args.self.now) c.args.t) (sym c.in-Look.is) ∙ c.in-Some.ensures.next)
    (c.in-Some.ensures.unended.0 refl) _ c.is_blocked.ensures

pub returns-in-Put : goal.returns-in-Put
returns-in-Put g c = step_ends_by (asks_of c.args.self.now) c.args.t (state c.args.self.now) _
    (ap (next_by (state c.args.self.now) c.args.t) (sym c.in-Put.is) ∙ c.in-Some.ensures.next)
    (c.in-Some.ensures.unended.0 refl) _ c.is_blocked-in-Put.ensures

pub returns-in-Ends : goal.returns-in-Ends
returns-in-Ends g c = step_ends_by (asks_of c.args.self.now) c.args.t (state c.args.self.now) _
    (ap (next_by (state c.args.self.now) c.args.t) (sym c.in-Ends.is) ∙ c.in-Some.ensures.next) (c.in-Some.ensures.unended.0 refl) false
    (never (λ e. e))

pub returns-in-AtStep : goal.returns-in-AtStep
returns-in-AtStep g c = step_ends_by (asks_of c.args.self.now) c.args.t (state c.args.self.now) _
    (ap (next_by (state c.args.self.now) c.args.t) (sym c.in-Asks.is) ∙ c.in-Some.ensures.next) (c.in-Some.ensures.unended.0 refl) true
    ((λ e. subst AtItsStep (sym c.in-AtStep.is) tt), (λ e. refl))

pub returns-in-AtCommit : goal.returns-in-AtCommit
returns-in-AtCommit g c = step_ends_by (asks_of c.args.self.now) c.args.t (state c.args.self.now) _
    (ap (next_by (state c.args.self.now) c.args.t) (sym c.in-Asks.is) ∙ c.in-Some.ensures.next) (c.in-Some.ensures.unended.0 refl) false
    (never (λ e. subst AtItsStep c.in-AtCommit.is e))

pub returns-in_default : goal.returns-in_default
returns-in_default g c = never (λ e. true≢false (sym (c.in_default.ensures.unended.1 e.0)))
