use Rattle.std.proofs.Common.{◌≡◌, arith}
use Rattle.std.proofs.lemmas.Option.{slice_get_within}
use Rattle.sgt_appends.specs.declared.sorting.Link.{Link}
use Rattle.sgt_appends.specs.declared.witness.Reason.TheVariants.{Missed}
use Rattle.sgt_appends.specs.Indexes.{position_of}
use Rattle.sgt_appends.specs.Lines.{line_in, keys_in}
use Rattle.sgt_appends.specs.Required.{IsMissLink}
use Rattle.sgt_appends.proofs.More.{more_as}
use Rattle.sgt_appends.proofs.graph.add_missed.Goals as goal

pub missed-requires-clause-fits : goal.missed-requires-clause-fits
missed-requires-clause-fits c =
    omega (
      arith,
      c.requires.fits,
      slice_get_within (keys_in c.args.lines.now) c.in-Some.line.now.number c.args.read.key
          (c.requires.numbered c.args.read.key c.in-Some.line.now c.in-Some.ensures.some),
    )

pub returns-clause-more : goal.returns-clause-more
returns-clause-more c =
    let link : Link = record { from = c.args.read.reader; to = c.in_ok-to.to; reason = Missed c.args.read.position c.in_ok-to.append } in
    more_as c.args.links.now.items c.add.new.links.items (λ l. l ≡ link)
    (IsMissLink (position_of c.args.appends.now) c.args.transactions (line_in c.args.lines.now) c.args.read.reader c.args.read.position
    c.args.read.key c.args.read.seen.now)
    c.in_ok-add.ensures.0
    (λ l differ is. (c.in-Some.line.now, (c.in_ok-to.to, c.in_ok-to.append), c.in-Some.ensures.some, c.in_ok-to.ensures, is))
