use Rattle.std.proofs.Common.{rules, ◌≡◌, subst}
use Rattle.sgt_appends.specs.declared.transaction.Status.TheVariants.{Committed}
use Rattle.sgt_appends.specs.Runs.{Ended}
use Rattle.sgt_appends.specs.Reads.{IsReadAt}
use Rattle.sgt_appends.proofs.compatible.incompatible.Goals as goal

pub returns : goal.returns
returns c =
    let h = c.args.history.now in
    let before = c.in_ok-before.before in
    let place = c.in_ok-before.ensures.place in
    let read = c.in_ok-before.ensures.some in
    let key : before.key ≡ c.args.read.key = search rules in (
      c.args.read.key,
      c.args.read.seen.now,
      c.requires.committed,
      c.requires.read,
      (
        before.seen.now,
        subst (λ r. Ended h r Committed) place.0 read.0,
        subst (λ k. IsReadAt h c.args.other c.args.position k before.seen.now) key
            (subst (λ p. IsReadAt h c.args.other p before.key before.seen.now) place.1
            (subst (λ r. IsReadAt h r before.position before.key before.seen.now) place.0 read.1)),
        search rules,
        search rules,
      ),
    )
