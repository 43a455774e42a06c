use Rattle.std.proofs.Common.{rules, ◌≡◌}
use Rattle.sgt_appends.specs.declared.sorting.Link.{Link}
use Rattle.sgt_appends.specs.declared.witness.Reason.TheVariants.{Missed}
use Rattle.sgt_appends.specs.Lines.{line_in, keys_in}
use Rattle.sgt_appends.specs.Meanings.{LeadsFromEnd}
use Rattle.sgt_appends.proofs.More.{more_as}
use Rattle.sgt_appends.proofs.Meant.{unseen_meant, unseen_linked, unseen_none}
use Rattle.sgt_appends.proofs.graph.add_unseen.Goals as goal

pub returns-in_ok-add-in-Some-clause-more : goal.returns-in_ok-add-in-Some-clause-more
returns-in_ok-add-in-Some-clause-more c =
    let link : Link = record { from = c.in-Some.end; to = c.args.number; reason = Missed 0 c.args.position } in
    more_as c.args.links.now.items c.add.new.links.items (λ l. l ≡ link)
    (LeadsFromEnd c.args.history.now (line_in c.args.lines.now) (keys_in c.args.lines.now)) c.in_ok-add-in-Some.ensures.0
    (λ l differ is. unseen_meant c.args.history.now (line_in c.args.lines.now) (keys_in c.args.lines.now) c.args.number c.args.position
    c.in-Some.end l c.requires.numbered c.in-Some.ensures.some is)

pub returns-in_ok-add-in-Some-clause-linked : goal.returns-in_ok-add-in-Some-clause-linked
returns-in_ok-add-in-Some-clause-linked c =
    unseen_linked c.args.history.now (line_in c.args.lines.now) c.add.new.links.items c.args.number c.args.position c.in-Some.end
    c.in-Some.ensures.some c.in_ok-add-in-Some.ensures.1

pub returns-in-None-clause-linked : goal.returns-in-None-clause-linked
returns-in-None-clause-linked c =
    unseen_none c.args.history.now (line_in c.args.lines.now) c.args.links.now.items c.args.number c.args.position
    (c.in-None.ensures.none (search rules))
