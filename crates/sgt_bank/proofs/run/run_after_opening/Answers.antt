use Rattle.std.proofs.Common.{ap, subst, ◌∙◌}
use Rattle.std.specs.Prelude.{reverse}
use Rattle.sgt_model.specs.Configurations.{Configuration}
use Rattle.sgt_model.specs.Legality.{Legal}
use Rattle.sgt_model.specs.Replay.{folded, ReplayAgrees}
use Rattle.sgt_model.specs.Aborts.{AbortsHaveCause}
use Rattle.sgt_bank.proofs.RunLaws.{each-run}
use Rattle.sgt_bank.proofs.run.run_after_opening.Goals as goal

pub returns-in-Ok-clause-report : goal.returns-in-Ok-clause-report
returns-in-Ok-clause-report g c =
    let ran = c.in-Ok.ensures.report in
    let past = reverse c.in-Ok.report.history.entries in
    let same = c.in_ok-bank.ensures.configuration in
    record {
      legal = subst (λ (s : Configuration). Legal s past) same ran.legal;
      stand = ran.outcomes;
      each = each-run c.in-Ok.report.outcomes.items c.args.options.workers c.requires.workers.0 ran.outcomes.counts.untaken;
      replay = subst (λ (s : Configuration). ReplayAgrees s past) same ran.replay;
      no_cycle = ran.no_cycle;
      causes = subst (λ (s : Configuration). AbortsHaveCause s past) same ran.causes;
      order = ran.order;
      database = λ k. ran.replayed k ∙ ap (λ (s : Configuration). (folded s past).last k) same;
      by_key = ran.by_key;
    }
