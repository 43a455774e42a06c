use Rattle.std.proofs.Common.{Some, ap, sym, ◌∙◌}
use Rattle.sgt_log.proofs.Entries.{seen_at, plain-entry}
use Rattle.sgt_log.proofs.history.History.is_same_step.Goals as goal

pub returns : goal.returns
returns c t =
    let same = c.is_same_step.ensures t in
    let e = same.0 in
    let mine = seen_at c.self.inside.tids.items c.self.inside.values.items c.self.inside.entries.items c.args.self.now.entries
    c.args.place e (ap (λ h. h.entries) c.self.view_is) c.self.invariant.0 c.requires.here same.3 in
    let theirs = seen_at c.other.inside.tids.items c.other.inside.values.items c.other.inside.entries.items c.args.other.now.entries
    c.args.index e (ap (λ h. h.entries) c.other.view_is) c.other.invariant.0 c.requires.there same.4 in
    mine.0
    ∙ ap Some (plain-entry c.self.inside.tids.items c.self.inside.values.items e.event e.reply same.1 same.2
    ∙ sym (plain-entry c.other.inside.tids.items c.other.inside.values.items e.event e.reply same.1 same.2))
    ∙ sym theirs.0
