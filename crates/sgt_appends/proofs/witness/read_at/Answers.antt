use Rattle.std.proofs.Common.{rules}
use Rattle.sgt_appends.proofs.Passed.{seen_here, has_seen_at, own_seen_at}
use Rattle.sgt_appends.proofs.witness.read_at.Goals as goal

pub returns-clause-seen : goal.returns-clause-seen
returns-clause-seen c =
    let read = c.in_ok-read.read in
    has_seen_at c.args.history.now c.args.transaction c.args.place c.args.of read.seen.now
    (seen_here c.args.history.now c.args.transaction c.args.place c.args.of read.reader read.position read.key read.seen.now
    (search rules) (search rules) (search rules) (search rules) (search rules))

pub returns-clause-own : goal.returns-clause-own
returns-clause-own c =
    let read = c.in_ok-read.read in
    own_seen_at c.args.history.now c.args.transaction c.args.place c.args.of read.seen.now
    (seen_here c.args.history.now c.args.transaction c.args.place c.args.of read.reader read.position read.key read.seen.now
    (search rules) (search rules) (search rules) (search rules) (search rules))

pub returns-clause-at : goal.returns-clause-at
returns-clause-at c =
    let read = c.in_ok-read.read in
    seen_here c.args.history.now c.args.transaction c.args.place c.args.of read.reader read.position read.key read.seen.now
    (search rules) (search rules) (search rules) (search rules) (search rules)
