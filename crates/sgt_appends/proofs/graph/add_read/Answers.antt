use Rattle.std.proofs.Common.{rules}
use Rattle.sgt_appends.specs.Indexes.{position_of}
use Rattle.sgt_appends.specs.Lines.{line_in, keys_in}
use Rattle.sgt_appends.specs.Meanings.{IsMeant}
use Rattle.sgt_appends.specs.Required.{reads_in}
use Rattle.sgt_appends.proofs.LongReads.{long_still}
use Rattle.sgt_appends.proofs.More.{none_more}
use Rattle.sgt_appends.proofs.Steps.{seen_indexed, read_more, read_linked}
use Rattle.sgt_appends.proofs.graph.add_read.Goals as goal

pub add_next-requires-clause-indexed : goal.add_next-requires-clause-indexed
add_next-requires-clause-indexed c =
    seen_indexed c.args.clean.history.now (position_of c.args.clean.appends.now) c.in-Some.read.reader c.in-Some.read.position c.in-Some.read.key
    c.in-Some.read.seen.now c.requires.clean.index c.requires.clean.clean c.in-Some.ensures.some

pub add_last-requires : goal.add_last-requires
add_last-requires c =
    seen_indexed c.args.clean.history.now (position_of c.args.clean.appends.now) c.in-Some.read.reader c.in-Some.read.position c.in-Some.read.key
    c.in-Some.read.seen.now c.requires.clean.index c.requires.clean.clean c.in-Some.ensures.some

pub returns-in_ok-add_missed-in-Some-clause-more : goal.returns-in_ok-add_missed-in-Some-clause-more
returns-in_ok-add_missed-in-Some-clause-more c =
    read_more c.args.clean.history.now (position_of c.args.clean.appends.now) (line_in c.args.clean.lines.now) (keys_in c.args.clean.lines.now)
    c.in-Some.read.reader c.in-Some.read.position c.in-Some.read.key c.in-Some.read.seen.now c.args.links.now.items c.add_next.new.links.items
    c.add_last.new.links.items c.add_missed.new.links.items c.requires.clean.index c.requires.clean.numbered c.in-Some.ensures.some
    c.in_ok-add_next-in-Some.ensures.more c.in_ok-add_last-in-Some.ensures.more c.in_ok-add_missed-in-Some.ensures.more

pub returns-in_ok-add_missed-in-Some-clause-linked : goal.returns-in_ok-add_missed-in-Some-clause-linked
returns-in_ok-add_missed-in-Some-clause-linked c =
    read_linked c.args.clean.history.now (position_of c.args.clean.appends.now) (line_in c.args.clean.lines.now) c.args.number c.args.position
    c.in-Some.read.reader c.in-Some.read.position c.in-Some.read.key c.in-Some.read.seen.now c.add_next.new.links.items
    c.add_last.new.links.items c.add_missed.new.links.items c.in-Some.ensures.place.0 c.in-Some.ensures.place.1 c.in-Some.ensures.some.1
    c.in_ok-add_next-in-Some.ensures.linked c.in_ok-add_last-in-Some.ensures.linked c.in_ok-add_missed-in-Some.ensures.linked
    c.in_ok-add_last-in-Some.ensures.more.stay c.in_ok-add_missed-in-Some.ensures.more.stay

pub returns-in-None-clause-more : goal.returns-in-None-clause-more
returns-in-None-clause-more c =
    none_more c.args.links.now.items (IsMeant c.args.clean.history.now (line_in c.args.clean.lines.now) (keys_in c.args.clean.lines.now))

pub returns-in-None-clause-linked : goal.returns-in-None-clause-linked
returns-in-None-clause-linked c = λ k seen committed is. absurd (c.in-None.ensures.none (search rules) k seen committed is)

pub returns-in_ok-add_missed-in-Some-clause-longest : goal.returns-in_ok-add_missed-in-Some-clause-longest
returns-in_ok-add_missed-in-Some-clause-longest c =
    long_still c.args.clean.history.now (position_of c.args.clean.appends.now) c.add_last.new.links.items c.add_missed.new.links.items
    (reads_in c.add_next.new.longest) c.in_ok-add_missed-in-Some.ensures.more.stay
    (long_still c.args.clean.history.now (position_of c.args.clean.appends.now) c.add_next.new.links.items c.add_last.new.links.items
    (reads_in c.add_next.new.longest) c.in_ok-add_last-in-Some.ensures.more.stay c.in_ok-add_next-in-Some.ensures.longest)
