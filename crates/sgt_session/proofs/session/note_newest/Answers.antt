use Rattle.std.proofs.Common.{rules, ◌≡◌}
use Rattle.sgt_session.specs.Receipts.{entry_of}
use Rattle.sgt_log.specs.EntryParts.{IsQuiet}
use Rattle.sgt_session.proofs.Filed.{last_of}
use Rattle.sgt_session.proofs.Owns.{quiet_own}
use Rattle.sgt_session.proofs.session.note_newest.Goals as goal

pub note_rare-requires : goal.note_rare-requires
note_rare-requires c =
    let last = last_of c.args.receipts.now.receipts c.requires.some in
    let same : c.last_entry.result ≡ entry_of last.1 = c.last_entry.ensures last.0 last.1 last.2 in
    rw same (c.requires.spare last.0 last.1 last.2)

pub returns-then-is_step-clause-own : goal.returns-then-is_step-clause-own
returns-then-is_step-clause-own c rs r is =
    let quiet : IsQuiet (entry_of r) = c.is_step.ensures c.if-is_step.true (entry_of r) (c.requires.kind rs r is) in
    quiet_own c.args.own.now.items r.event r.reply quiet.0 quiet.1

pub returns-then-is_step-clause-count : goal.returns-then-is_step-clause-count
returns-then-is_step-clause-count c rs r is =
    let quiet : IsQuiet (entry_of r) = c.is_step.ensures c.if-is_step.true (entry_of r) (c.requires.kind rs r is) in
    search rules

pub returns-clause-own : goal.returns-clause-own
returns-clause-own c rs r is =
    let same : c.last_entry.result ≡ entry_of r = c.last_entry.ensures rs r is in
    rw same at c.note_rare.ensures.own

pub returns-clause-count : goal.returns-clause-count
returns-clause-count c rs r is =
    let same : c.last_entry.result ≡ entry_of r = c.last_entry.ensures rs r is in
    rw same at c.note_rare.ensures.count
