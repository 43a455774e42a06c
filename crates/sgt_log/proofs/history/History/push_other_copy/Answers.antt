use Rattle.std.proofs.Common.{◌≤◌, [], ◌∷◌, ◌++◌, length, ap, ap₂, sym, subst, ◌∙◌, arith}
use Rattle.std.proofs.lemmas.Option.{same_Some}
use Rattle.sgt_model.specs.declared.event.Event.TheVariants as event
use Rattle.sgt_model.specs.declared.reply.Reply.TheVariants as reply
use Rattle.sgt_log.specs.declared.packed_entry.PackedEntry.TheVariants as packed
use Rattle.sgt_log.specs.declared.span.Span.{Span}
use Rattle.sgt_log.specs.PackedEntries.{unpacked}
use Rattle.sgt_log.specs.Spans.{part_of, IsWithin}
use Rattle.sgt_log.proofs.Entries.{seen_at}
use Rattle.sgt_log.proofs.history.History.push_other_copy.Goals as goal

pub items-args-requires : goal.items-args-requires
items-args-requires c =
    let span : Span = record { from = c.in-Started.from; count = c.in-Started.count } in
    let start = unpacked [] (packed.Started c.in-Started.procedure c.in-Started.count c.in-Started.t c.in-Started.from) in
    let seen = seen_at c.other.inside.tids.items c.other.inside.values.items c.other.inside.entries.items c.args.other.now.entries
    c.args.place start (ap (λ h. h.entries) c.other.view_is) c.other.invariant.0 c.requires.there (c.in-Started.ensures tt) in
    subst (IsWithin (length c.as_slice.result.now)) (sym c.new.ensures)
    (subst (λ vs. IsWithin (length vs) span) (sym c.as_slice.ensures.value) seen.1.0.args)

pub push_start-requires-clause-few : goal.push_start-requires-clause-few
push_start-requires-clause-few c =
    let start = unpacked [] (packed.Started c.in-Started.procedure c.in-Started.count c.in-Started.t c.in-Started.from) in
    let seen = seen_at c.other.inside.tids.items c.other.inside.values.items c.other.inside.entries.items c.args.other.now.entries
    c.args.place start (ap (λ h. h.entries) c.other.view_is) c.other.invariant.0 c.requires.there (c.in-Started.ensures tt) in
    let few : c.in-Started.count ≤ 4 = seen.1.0.few in
    let count = ap (λ s. s.count) c.new.ensures in
    omega (arith, c.items-args.ensures.count, count, few)

pub items-answers-requires : goal.items-answers-requires
items-answers-requires c =
    let span : Span = record { from = c.in-Committed.from; count = c.in-Committed.count } in
    let commit = unpacked [] (packed.Committed c.in-Committed.count c.in-Committed.t c.in-Committed.from) in
    let seen = seen_at c.other.inside.tids.items c.other.inside.values.items c.other.inside.entries.items c.args.other.now.entries
    c.args.place commit (ap (λ h. h.entries) c.other.view_is) c.other.invariant.0 c.requires.there (c.in-Committed.ensures tt) in
    subst (IsWithin (length c.as_slice-in-Committed.result.now)) (sym c.new-in-Committed.ensures)
    (subst (λ vs. IsWithin (length vs) span) (sym c.as_slice-in-Committed.ensures.value) seen.1.1.answers)

pub push_commit-requires-clause-few : goal.push_commit-requires-clause-few
push_commit-requires-clause-few c =
    let commit = unpacked [] (packed.Committed c.in-Committed.count c.in-Committed.t c.in-Committed.from) in
    let seen = seen_at c.other.inside.tids.items c.other.inside.values.items c.other.inside.entries.items c.args.other.now.entries
    c.args.place commit (ap (λ h. h.entries) c.other.view_is) c.other.invariant.0 c.requires.there (c.in-Committed.ensures tt) in
    let few : c.in-Committed.count ≤ 8 = seen.1.1.few in
    let count = ap (λ s. s.count) c.new-in-Committed.ensures in
    omega (arith, c.items-answers.ensures.count, count, few)

pub returns-in-Started-clause-entries : goal.returns-in-Started-clause-entries
returns-in-Started-clause-entries c e there =
    let start = unpacked [] (packed.Started c.in-Started.procedure c.in-Started.count c.in-Started.t c.in-Started.from) in
    let seen = seen_at c.other.inside.tids.items c.other.inside.values.items c.other.inside.entries.items c.args.other.now.entries
    c.args.place start (ap (λ h. h.entries) c.other.view_is) c.other.invariant.0 c.requires.there (c.in-Started.ensures tt) in
    c.push_start.ensures.entries
    ∙ ap (λ args. c.args.self.now.entries
    ++ record { event = event.Start c.in-Started.procedure args; reply = reply.Started c.in-Started.t } ∷ [])
    (c.items-args.ensures.items ∙ ap₂ part_of c.as_slice.ensures.value c.new.ensures)
    ∙ ap (λ x. c.args.self.now.entries ++ x ∷ []) (same_Some _ e (sym seen.0 ∙ there))

pub returns-in-Committed-clause-entries : goal.returns-in-Committed-clause-entries
returns-in-Committed-clause-entries c e there =
    let commit = unpacked [] (packed.Committed c.in-Committed.count c.in-Committed.t c.in-Committed.from) in
    let seen = seen_at c.other.inside.tids.items c.other.inside.values.items c.other.inside.entries.items c.args.other.now.entries
    c.args.place commit (ap (λ h. h.entries) c.other.view_is) c.other.invariant.0 c.requires.there (c.in-Committed.ensures tt) in
    c.push_commit.ensures.entries
    ∙ ap (λ answers. c.args.self.now.entries
    ++ record { event = event.Commit c.in-Committed.t; reply = reply.Committed answers } ∷ [])
    (c.items-answers.ensures.items ∙ ap₂ part_of c.as_slice-in-Committed.ensures.value c.new-in-Committed.ensures)
    ∙ ap (λ x. c.args.self.now.entries ++ x ∷ []) (same_Some _ e (sym seen.0 ∙ there))
