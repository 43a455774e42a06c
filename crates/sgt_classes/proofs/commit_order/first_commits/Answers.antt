use Rattle.std.proofs.Common.{rules, ◌+◌, sym, subst, arith}
use Rattle.sgt_classes.specs.declared.operation.Action.TheVariants.{Commit}
use Rattle.sgt_classes.specs.Tables.{entry_of}
use Rattle.sgt_classes.specs.Seen.{AreFirstCommits}
use Rattle.sgt_classes.proofs.Places.{operation_at, doer_at, there, done_at}
use Rattle.sgt_classes.proofs.CommitOrders.{none_of}
use Rattle.sgt_classes.proofs.LatestUses.{first_commit, later_commit}
use Rattle.sgt_classes.proofs.commit_order.first_commits.Goals.{then-eq+then-not-contains_key+in_ok-set_place, else-eq, else-eq-via-then-eq+else-not-contains_key, else-eq-via-else-eq}
use Rattle.sgt_classes.proofs.commit_order.first_commits.Goals as goal

pub loop-place-preserved : goal.loop-place-preserved
loop-place-preserved c =
    let h = c.args.history.now in
    let p = c.loop-place.place in
    elim c.if-eq.branch [
      | then-eq+then-not-contains_key+in_ok-set_place w ↦ subst (λ m. AreFirstCommits h (p + 1) (entry_of m)) (sym w.commits-is)
          (first_commit h p (doer_at h p) (entry_of c.loop-place.commits) (entry_of w.set_place.new.self)
          (done_at h p Commit c.loop-place-test.true (search rules)) (none_of (entry_of c.loop-place.commits (doer_at h p)) (search rules))
          w.in_ok-set_place.ensures.at w.in_ok-set_place.ensures.others c.loop-place.invariant)
      | else-eq w ↦ subst (λ m. AreFirstCommits h (p + 1) (entry_of m)) (sym w.commits-is)
          (later_commit h p (operation_at h p) (entry_of c.loop-place.commits) (there h p c.loop-place-test.true)
          (elim w.else-eq.branch [
            | else-eq-via-then-eq+else-not-contains_key v ↦ λ is. search rules
            | else-eq-via-else-eq v ↦ λ is. absurd (search rules)
          ])
          c.loop-place.invariant)
    ]

pub returns : goal.returns
returns c = subst (λ n. AreFirstCommits c.args.history.now n (entry_of c.loop-place.commits))
    (omega (arith, c.loop-place-test.false, c.loop-place.auto.place-end)) c.loop-place.invariant
