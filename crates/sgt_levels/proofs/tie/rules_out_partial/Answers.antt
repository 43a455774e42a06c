use Rattle.std.proofs.Common.{rules, ◌≢◌, subst, inr}
use Rattle.sgt_appends.specs.Precedences.{HasSeen}
use Rattle.sgt_levels.proofs.Commits.{committed_fault}
use Rattle.sgt_levels.proofs.tie.rules_out_partial.Goals as goal

pub returns : goal.returns
returns c = λ yes.
    let h = c.args.history.now in
    let p = c.args.partial.now in
    let differ : p.by ≢ p.reader = search rules in
    let it = c.saw_one.ensures yes in
    let w = it.0 in
    let reads = subst (λ r. HasSeen h r w.key w.seen) it.1 w.has_seen in
    committed_fault h p.reader w.key reads.1.0 w.seen c.requires reads.0 reads.1.1
    (inr (p.by, w.first, w.second, differ, w.appends_first, w.appends_second, w.has, w.has_not))
