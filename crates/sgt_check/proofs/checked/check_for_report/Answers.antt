use Rattle.std.proofs.Common.{rules}
use Rattle.sgt_check.specs.Reports.{IsReport}
use Rattle.sgt_check.proofs.checked.check_for_report.Goals as goal

pub returns-clause-written : goal.returns-clause-written
returns-clause-written c = record {
  report = c.in_ok-report.report;
  found = search rules;
  written = search rules;
}

pub returns-clause-verdict : goal.returns-clause-verdict
returns-clause-verdict c well =
    let found : IsReport c.args.history.now.operations.items c.in_ok-report.report = search rules in
    c.is_sound.ensures c.args.history.now.operations.items (found.serializable well) found.recoverable

pub returns-clause-counts : goal.returns-clause-counts
returns-clause-counts c =
    let found : IsReport c.args.history.now.operations.items c.in_ok-report.report = search rules in found.counts
