use Rattle.sgt_appends.specs.Indexes.{position_of}
use Rattle.sgt_appends.specs.Lines.{line_in, keys_in}
use Rattle.sgt_appends.specs.Meanings.{IsMeant}
use Rattle.sgt_appends.specs.Required.{reads_in}
use Rattle.sgt_appends.proofs.LongReads.{long_still}
use Rattle.sgt_appends.proofs.Steps.{from_end_meant, both_more, read_at_still}
use Rattle.sgt_appends.proofs.graph.add_position.Goals as goal

pub returns-clause-more : goal.returns-clause-more
returns-clause-more c =
    both_more c.args.links.now.items c.add_read.new.links.items c.add_unseen.new.links.items
    (IsMeant c.args.clean.history.now (line_in c.args.clean.lines.now) (keys_in c.args.clean.lines.now)) c.in_ok-add_read.ensures.more
    (from_end_meant c.args.clean.history.now (line_in c.args.clean.lines.now) (keys_in c.args.clean.lines.now) c.add_read.new.links.items
    c.add_unseen.new.links.items c.in_ok-add_unseen.ensures.more)

pub returns-clause-read : goal.returns-clause-read
returns-clause-read c =
    read_at_still c.args.clean.history.now (position_of c.args.clean.appends.now) (line_in c.args.clean.lines.now) c.add_read.new.links.items
    c.add_unseen.new.links.items c.args.number c.args.position c.in_ok-add_unseen.ensures.more.stay c.in_ok-add_read.ensures.linked

pub returns-clause-longest : goal.returns-clause-longest
returns-clause-longest c =
    long_still c.args.clean.history.now (position_of c.args.clean.appends.now) c.add_read.new.links.items c.add_unseen.new.links.items
    (reads_in c.add_read.new.longest) c.in_ok-add_unseen.ensures.more.stay c.in_ok-add_read.ensures.longest
