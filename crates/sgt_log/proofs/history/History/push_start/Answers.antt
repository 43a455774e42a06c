use Rattle.std.proofs.Common.{◌∷◌, [], ◌++◌, ap, sym, ◌∙◌, map, arith, append-nil}
use Rattle.sgt_model.specs.declared.event.Event.TheVariants as event
use Rattle.sgt_model.specs.declared.reply.Reply.TheVariants as reply
use Rattle.sgt_log.specs.declared.stored_event.StoredEvent.TheVariants as stored_event
use Rattle.sgt_log.specs.declared.stored_reply.StoredReply.TheVariants as stored_reply
use Rattle.sgt_log.specs.declared.stored_entry.StoredEntry.{StoredEntry}
use Rattle.sgt_log.specs.StoredEntries.{entry_of}
use Rattle.sgt_log.proofs.Entries.{entries-pushed, entries-after}
use Rattle.sgt_log.proofs.history.History.push_start.Goals as goal

pub invariant_of-self : goal.invariant_of-self
invariant_of-self c =
    let used = ap (λ h. h.spare) c.self.view_is in
    let filed : StoredEntry = record {
      event = stored_event.Start c.args.procedure c.append-part.result.count c.append-part.result.from;
      reply = stored_reply.Started
          c.args.t;
    } in (
      entries-pushed c.self.inside.tids.items c.self.inside.tids.items c.self.inside.values.items c.append-part.new.list.items
          c.self.inside.entries.items c.push_whole.new.self.items filed ([], sym (append-nil _))
          (c.args.args.now, c.append-part.ensures.items) c.self.invariant.0 (
            record { args = c.append-part.ensures.within; few = omega (arith, c.append-part.ensures.count, c.requires.few); own = tt },
            record {
              answers = (omega arith, omega arith);
              few = omega arith;
              cycle = (omega arith, omega arith);
              fell = (omega arith, omega arith);
              key = tt;
            },
          )
          c.push_whole.ensures.items,
      omega (arith, used, c.requires.spare, c.self.invariant.1, c.push_whole.ensures.len, c.push_whole.ensures.capacity),
      omega (arith, used, c.requires.spare, c.self.invariant.2),
      omega (arith, used, c.requires.spare, c.requires.few, c.self.invariant.3, c.append-part.ensures.len, c.append-part.ensures.capacity),
    )

pub returns-clause-entries : goal.returns-clause-entries
returns-clause-entries c =
    let filed : StoredEntry = record {
      event = stored_event.Start c.args.procedure c.append-part.result.count c.append-part.result.from;
      reply = stored_reply.Started
          c.args.t;
    } in
    entries-after c.self.inside.tids.items c.self.inside.tids.items c.self.inside.values.items c.append-part.new.list.items
    c.self.inside.entries.items c.push_whole.new.self.items filed ([], sym (append-nil _))
    (c.args.args.now, c.append-part.ensures.items) c.self.invariant.0 c.push_whole.ensures.items
    ∙ ap (λ l. map (entry_of c.self.inside.tids.items c.self.inside.values.items) c.self.inside.entries.items ++
    record { event = event.Start c.args.procedure l; reply = reply.Started c.args.t } ∷ [])
    c.append-part.ensures.part
    ∙ ap (λ h. h.entries ++ record { event = event.Start c.args.procedure c.args.args.now; reply = reply.Started c.args.t } ∷ [])
    c.self.view_is
