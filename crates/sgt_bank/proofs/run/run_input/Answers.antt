use Rattle.std.proofs.Common.{rules, ◌≡◌, subst, arith, length}
use Rattle.std.proofs.lemmas.Slice.Zip.{AllZip-long}
use Rattle.sgt_bank.specs.Banks.{AreRun}
use Rattle.sgt_bank.proofs.RunLaws.{is-run}
use Rattle.sgt_bank.proofs.run.run_input.Goals as goal

pub returns-clause-run : goal.returns-clause-run
returns-clause-run g c =
    is-run c.opened_is_bank.ensures c.args.options.workers c.args.options.tries c.args.options.most (g.S.Source.rest c.args.source.now)
    c.in_ok-opening.opening c.in_ok-opening.jobs.items c.in_ok-report.report.history.entries c.in_ok-report.report.outcomes.items
    c.in_ok-report.report.database
    c.in_ok-opening.ensures.input
    (subst (λ js. AreRun c.in_ok-opening.opening js c.args.options.workers c.args.options.tries c.in_ok-report.report.history.entries
    c.in_ok-report.report.outcomes.items c.in_ok-report.report.database) c.as_slice-2.ensures.value c.in_ok-report.ensures.report)

pub returns-clause-few : goal.returns-clause-few
returns-clause-few g c =
    let long : length c.in_ok-report.report.outcomes.items ≡ length c.as_slice-2.result.now =
    AllZip-long _ _ _ c.in_ok-report.ensures.report.stand.each in
    search (rules, arith, long, c.in_ok-opening.ensures.numbered.0)
