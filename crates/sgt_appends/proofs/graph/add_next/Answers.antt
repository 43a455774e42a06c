use Rattle.std.proofs.Common.{rules, subst, arith}
use Rattle.std.proofs.lemmas.Grind.{common_steps}
use Rattle.sgt_appends.specs.Indexes.{position_of}
use Rattle.sgt_appends.specs.Required.{AreNextLinked, IsNextLink, reads_in}
use Rattle.sgt_appends.proofs.More.{none_more}
use Rattle.sgt_appends.proofs.LongReads.{long_one}
use Rattle.sgt_appends.proofs.graph.add_next.Goals as goal

pub add_from-requires-clause-linked : goal.add_from-requires-clause-linked
add_from-requires-clause-linked c =
    c.linked_already-from.ensures.linked (position_of c.args.appends.now) c.args.links.now.items c.requires.longest

pub returns-then-from-read-clause-more : goal.returns-then-from-read-clause-more
returns-then-from-read-clause-more c =
    none_more c.args.links.now.items
    (IsNextLink (position_of c.args.appends.now) c.args.read.reader c.args.read.position c.args.read.key c.args.read.seen.now)

pub returns-then-from-read-clause-linked : goal.returns-then-from-read-clause-linked
returns-then-from-read-clause-linked c =
    subst (λ n. AreNextLinked (position_of c.args.appends.now) c.args.links.now.items c.args.read.key c.args.read.seen.now n) (search rules)
    (c.linked_already-from.ensures.linked (position_of c.args.appends.now) c.args.links.now.items c.requires.longest)

pub returns-clause-longest : goal.returns-clause-longest
returns-clause-longest c =
    long_one c.args.history.now (position_of c.args.appends.now) c.args.links.now.items c.add_from.new.links.items
    (reads_in c.args.longest.now) (reads_in c.insert.new.self) c.args.read.key c.args.read.reader c.args.read.position c.args.read.seen.now
    c.in_ok-add_from.ensures.more.stay c.requires.longest c.requires.read c.in_ok-add_from.ensures.linked
    c.in_ok-insert.ensures.updates.1
    (λ l differs. grind (arith, common_steps, c.in_ok-insert.ensures.updates))
