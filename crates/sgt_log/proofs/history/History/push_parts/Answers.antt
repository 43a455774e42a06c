use Rattle.std.proofs.Common.{◌∷◌, [], ◌++◌, ap, ◌∙◌, map, arith}
use Rattle.sgt_log.specs.StoredEntries.{entry_of}
use Rattle.sgt_log.specs.EntryParts.{full_entry}
use Rattle.sgt_log.proofs.Entries.{entries-pushed, entries-after}
use Rattle.sgt_log.proofs.history.History.push_parts.Goals as goal

pub invariant_of-self : goal.invariant_of-self
invariant_of-self c =
    let used = ap (λ h. h.spare) c.self.view_is in (
      entries-pushed c.self.inside.tids.items c.of-event.new.tids.items c.self.inside.values.items c.of-event.new.values.items
          c.self.inside.entries.items c.push.new.self.items c.of-event.result c.of-event.ensures.more_tids
          c.of-event.ensures.more_values c.self.invariant.0 c.of-event.ensures.within c.push.ensures.items,
      omega (arith, used, c.requires.spare, c.self.invariant.1, c.push.ensures.len, c.push.ensures.capacity),
      omega (arith, used, c.requires.spare, c.self.invariant.2, c.of-event.ensures.len_tids, c.of-event.ensures.capacity_tids),
      omega (arith, used, c.requires.spare, c.self.invariant.3, c.of-event.ensures.len_values, c.of-event.ensures.capacity_values),
    )

pub returns-clause-entries : goal.returns-clause-entries
returns-clause-entries c =
    entries-after c.self.inside.tids.items c.of-event.new.tids.items c.self.inside.values.items c.of-event.new.values.items
    c.self.inside.entries.items c.push.new.self.items c.of-event.result c.of-event.ensures.more_tids
    c.of-event.ensures.more_values c.self.invariant.0 c.push.ensures.items
    ∙ ap (λ e. map (entry_of c.self.inside.tids.items c.self.inside.values.items) c.self.inside.entries.items ++ e ∷ [])
    c.of-event.ensures.entry
    ∙ ap (λ h. h.entries ++ full_entry c.args.event c.args.reply.now c.args.lists.now ∷ []) c.self.view_is
