use Rattle.std.proofs.Common.{false}
use Rattle.sgt_sched.proofs.Endings.{ends_by, never}
use Rattle.sgt_sched.specs.Scheduler.{state, rules_of}
use Rattle.sgt_sched.proofs.sched.Sched.ends.Goals as goal

pub returns-in-Start : goal.returns-in-Start
returns-in-Start g c =
    let by = ends_by (rules_of c.args.self.now) _ _ c.in-Start.is (state c.args.self.now) false (never (λ e. e)) in
    record { exact = by.0; replies = by.1 }

pub returns-in-Step : goal.returns-in-Step
returns-in-Step g c =
    let by = ends_by (rules_of c.args.self.now) _ _ c.in-Step.is (state c.args.self.now) _ c.step_ends.ensures in
    record { exact = by.0; replies = by.1 }

pub returns-in-Access : goal.returns-in-Access
returns-in-Access g c =
    let by = ends_by (rules_of c.args.self.now) _ _ c.in-Access.is (state c.args.self.now) _ c.request_ends.ensures in
    record { exact = by.0; replies = by.1 }

pub returns-in-Commit : goal.returns-in-Commit
returns-in-Commit g c =
    let by = ends_by (rules_of c.args.self.now) _ _ c.in-Commit.is (state c.args.self.now) _ c.commit_ends.ensures in
    record { exact = by.0; replies = by.1 }

pub returns-in-Quit : goal.returns-in-Quit
returns-in-Quit g c =
    let by = ends_by (rules_of c.args.self.now) _ _ c.in-Quit.is (state c.args.self.now) _ c.is_live.ensures.unended in
    record { exact = by.0; replies = by.1 }
