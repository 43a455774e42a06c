use Rattle.std.proofs.Common.{rules, ◌≡◌, Some, subst}
use Rattle.sgt_appends.specs.Reads.{IsReadAt}
use Rattle.sgt_appends.specs.Required.{reads_in}
use Rattle.sgt_appends.proofs.LongReads.{front_linked}
use Rattle.sgt_appends.proofs.graph.linked_already.Goals as goal

pub returns-in-Some-read_of-clause-linked : goal.returns-in-Some-read_of-clause-linked
returns-in-Some-read_of-clause-linked c = λ at links long.
    let h = c.args.history.now in
    let before = c.in-Some-read_of.before in
    let there : reads_in c.args.longest.now c.args.read.key ≡ Some (c.in-Some.reader, c.in-Some.position) = search rules in
    let key : before.key ≡ c.args.read.key = search rules in
    let reader : before.reader ≡ c.in-Some.reader = search rules in
    let position : before.position ≡ c.in-Some.position = search rules in
    let reads : IsReadAt h before.reader before.position before.key before.seen.now = search rules in
    front_linked at links c.args.read.key c.same_front.result before.seen.now c.args.read.seen.now c.same_front.ensures.of_before
    c.same_front.ensures.of_seen c.same_front.ensures.same
    (long c.args.read.key c.in-Some.reader c.in-Some.position before.seen.now there
    (subst (λ k. IsReadAt h c.in-Some.reader c.in-Some.position k before.seen.now) key
    (subst (λ q. IsReadAt h c.in-Some.reader q before.key before.seen.now) position
    (subst (λ r. IsReadAt h r before.position before.key before.seen.now) reader reads))))
