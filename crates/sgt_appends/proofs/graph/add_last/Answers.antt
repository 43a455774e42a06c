use Rattle.std.proofs.Common.{rules, ◌≡◌, get_or, refl}
use Rattle.sgt_appends.specs.declared.sorting.Link.{Link}
use Rattle.sgt_appends.specs.declared.witness.Reason.TheVariants.{Seen}
use Rattle.sgt_appends.specs.Indexes.{position_of}
use Rattle.sgt_appends.specs.Required.{IsSeenLink}
use Rattle.sgt_appends.proofs.More.{more_as, last_linked, none_other}
use Rattle.sgt_appends.proofs.Spots.{has_at}
use Rattle.sgt_appends.proofs.graph.add_last.Goals as goal

pub returns-in_ok-add-in-Some-clause-more : goal.returns-in_ok-add-in-Some-clause-more
returns-in_ok-add-in-Some-clause-more c =
    let last = c.in-Some.ensures.some in
    let i = last.0 in
    let link : Link = record { from = c.in-Some.from; to = c.args.read.reader; reason = Seen c.in-Some.append c.args.read.position } in
    more_as c.args.links.now.items c.add.new.links.items (λ l. l ≡ link)
    (IsSeenLink (position_of c.args.appends.now) c.args.read.reader c.args.read.position c.args.read.key c.args.read.seen.now)
    c.in_ok-add-in-Some.ensures.0
    (λ l differ is. (
      get_or c.args.read.seen.now i 0,
      (c.in-Some.from, c.in-Some.append),
      has_at c.args.read.seen.now i (get_or c.args.read.seen.now i 0) last.1 refl,
      last.2,
      is,
    ))

pub returns-in_ok-add-in-Some-clause-linked : goal.returns-in_ok-add-in-Some-clause-linked
returns-in_ok-add-in-Some-clause-linked c =
    last_linked (position_of c.args.appends.now) c.add.new.links.items c.args.read.reader c.args.read.key c.args.read.seen.now
    (c.in-Some.from, c.in-Some.append) c.in-Some.ensures.some c.in_ok-add-in-Some.ensures.1

pub returns-in-None-clause-linked : goal.returns-in-None-clause-linked
returns-in-None-clause-linked c =
    none_other (position_of c.args.appends.now) c.args.links.now.items c.args.read.reader c.args.read.key c.args.read.seen.now
    (c.in-None.ensures.none (search rules))
