use Rattle.std.proofs.Common.{◌∷◌, [], ◌++◌, ap, ap₂, sym, ◌∙◌, arith, append-nil}
use Rattle.sgt_log.specs.declared.stored_entry.StoredEntry.{StoredEntry}
use Rattle.sgt_log.specs.EntryParts.{full_event}
use Rattle.sgt_log.proofs.Entries.{entries-pushed, entries-after, joined_is, plain-reply, plain-reply-within, request-whole}
use Rattle.sgt_log.proofs.history.History.push_access.Goals as goal

pub invariant_of-self : goal.invariant_of-self
invariant_of-self c =
    let used = ap (λ h. h.spare) c.self.view_is in
    let filed : StoredEntry = record { event = c.of-event.result; reply = c.args.reply } in (
      entries-pushed c.self.inside.tids.items c.self.inside.tids.items c.self.inside.values.items c.of-event.new.values.items
          c.self.inside.entries.items c.push.new.self.items filed ([], sym (append-nil _)) c.of-event.ensures.more
          c.self.invariant.0 (c.of-event.ensures.within, plain-reply-within _ _ c.args.reply c.requires.reply c.requires.key)
          c.push.ensures.items,
      omega (arith, used, c.requires.spare, c.self.invariant.1, c.push.ensures.len, c.push.ensures.capacity),
      omega (arith, used, c.requires.spare, c.self.invariant.2),
      omega (arith, used, c.requires.spare, c.self.invariant.3, c.of-event.ensures.len, c.of-event.ensures.capacity),
    )

pub returns-clause-entries : goal.returns-clause-entries
returns-clause-entries c =
    let filed : StoredEntry = record { event = c.of-event.result; reply = c.args.reply } in
    let event = c.of-event.ensures.event
    ∙ ap₂ full_event c.of_request-event.ensures (c.as_slice.ensures ∙ c.request_args-args.ensures.args)
    ∙ request-whole c.args.t c.args.request.now in
    entries-after c.self.inside.tids.items c.self.inside.tids.items c.self.inside.values.items c.of-event.new.values.items
    c.self.inside.entries.items c.push.new.self.items filed ([], sym (append-nil _)) c.of-event.ensures.more
    c.self.invariant.0 c.push.ensures.items
    ∙ ap₂ (λ es e. es ++ e ∷ []) (ap (λ h. h.entries) c.self.view_is)
    (joined_is _ _ _ c.of-event.result c.args.reply _ _ ([], sym (append-nil _)) c.of-event.ensures.within event
    (plain-reply _ _ c.args.reply c.requires.reply))
