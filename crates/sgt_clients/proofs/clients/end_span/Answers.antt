use Rattle.std.proofs.Common.{rules, None}
use Rattle.sgt_clients.specs.Histories.{ends_at}
use Rattle.sgt_clients.proofs.Stored.{changed_set, changed_past}
use Rattle.sgt_clients.proofs.clients.end_span.Goals as goal

pub returns-then-number-spans : goal.returns-then-number-spans
returns-then-number-spans c =
    changed_set (ends_at c.args.entry) c.args.spans.now c.args.number (record { began = 0; ended = None }) c.if-number-spans.true

pub returns-else-number-spans : goal.returns-else-number-spans
returns-else-number-spans c = changed_past (ends_at c.args.entry) c.args.spans.now c.args.number (search rules)
