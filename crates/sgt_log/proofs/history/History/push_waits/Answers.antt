use Rattle.std.proofs.Common.{◌∷◌, [], ◌++◌, ap, sym, ◌∙◌, arith, append-nil, refl}
use Rattle.sgt_model.specs.declared.event.Event.TheVariants as event
use Rattle.sgt_model.specs.declared.reply.Reply.TheVariants as reply
use Rattle.sgt_log.specs.declared.stored_event.StoredEvent.TheVariants as stored_event
use Rattle.sgt_log.specs.declared.stored_reply.StoredReply.TheVariants as stored_reply
use Rattle.sgt_log.specs.declared.stored_entry.StoredEntry.{StoredEntry}
use Rattle.sgt_log.proofs.Entries.{entries-pushed, entries-after, plain-within}
use Rattle.sgt_log.proofs.history.History.push_waits.Goals as goal

pub invariant_of-self : goal.invariant_of-self
invariant_of-self c =
    let used = ap (λ h. h.spare) c.self.view_is in
    let filed : StoredEntry = record { event = stored_event.Commit c.args.t; reply = stored_reply.Waits c.args.first } in (
      entries-pushed c.self.inside.tids.items c.self.inside.tids.items c.self.inside.values.items c.self.inside.values.items
          c.self.inside.entries.items c.push.new.self.items filed
          ([], sym (append-nil _)) ([], sym (append-nil _))
          c.self.invariant.0 (plain-within _ _ filed.event filed.reply refl (refl, refl, refl) tt)
          c.push.ensures.items,
      omega (arith, used, c.requires, c.self.invariant.1, c.push.ensures.len, c.push.ensures.capacity),
      omega (arith, used, c.requires, c.self.invariant.2),
      omega (arith, used, c.requires, c.self.invariant.3),
    )

pub returns-clause-entries : goal.returns-clause-entries
returns-clause-entries c =
    let filed : StoredEntry = record { event = stored_event.Commit c.args.t; reply = stored_reply.Waits c.args.first } in
    entries-after c.self.inside.tids.items c.self.inside.tids.items c.self.inside.values.items c.self.inside.values.items
    c.self.inside.entries.items c.push.new.self.items filed
    ([], sym (append-nil _)) ([], sym (append-nil _))
    c.self.invariant.0 c.push.ensures.items
    ∙ ap (λ h. h.entries ++ record { event = event.Commit c.args.t; reply = reply.Waits c.args.first } ∷ []) c.self.view_is
