use Rattle.std.proofs.Common.{rules, subst}
use Rattle.sgt_appends.specs.Runs.{IsSerialRun}
use Rattle.sgt_clients.specs.Findings.{KeepsTime}
use Rattle.sgt_clients.proofs.strict.serial_finding.Goals as goal

pub returns-then-branch : goal.returns-then-branch
returns-then-branch c =
    let run : IsSerialRun c.args.clients.now.transactions.items c.args.order.items = search rules in
    let time : KeepsTime c.args.clients.now.spans.items c.args.order.items =
    subst (λ spans. KeepsTime spans c.args.order.items) c.as_slice.ensures.value
    (subst (λ order. KeepsTime c.as_slice.result.now order) c.as_slice-2.ensures.value (c.keeps_time.ensures c.if-keeps_time.true)) in
    (run, time)
