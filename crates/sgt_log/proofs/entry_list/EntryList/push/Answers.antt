use Rattle.std.proofs.Common.{◌≡◌, ◌∷◌, [], ◌++◌, length, ap, ap₂, ◌∙◌, arith}
use Rattle.std.specs.Prelude.{slice_index_or}
use Rattle.std.proofs.lemmas.List.{length-append, length-map}
use Rattle.sgt_log.specs.declared.packed_entry.PackedEntry.TheVariants as packed
use Rattle.sgt_log.specs.declared.stored_entry.StoredEntry.{StoredEntry}
use Rattle.sgt_log.specs.PackedEntries.{no_entry, unpacked}
use Rattle.sgt_log.proofs.Packed.{among_pushed, items_pushed, index_last}
use Rattle.sgt_log.proofs.entry_list.EntryList.push.Goals as goal

pub invariant_of-self : goal.invariant_of-self
invariant_of-self c =
    let os = c.self.inside.others.items in
    let entry : StoredEntry = record { event = c.args.event; reply = c.args.reply } in
    let longer = ap length c.push_reserved.ensures.items ∙ length-append os (entry ∷ []) in
    let count = ap (λ v. length v.items) c.self.view_is in
    let long = length-map c.self.inside.packed.items (unpacked os) in
    let capacity = ap (λ v. v.capacity) c.self.view_is in
    let held = c.self.inside.packed.ok.0 in (
      among_pushed os c.push_reserved.new.self.items c.self.inside.packed.items c.push_reserved-2.new.self.items
          (packed.Other c.len-at.result) (entry ∷ [], c.push_reserved.ensures.items) c.self.invariant.0
          (omega (arith, longer, c.len-at.ensures)) c.push_reserved-2.ensures.items,
      omega (arith, c.requires, count, long, capacity, held, c.push_reserved-2.ensures.len),
      omega (arith, c.self.invariant.2, c.push_reserved-2.ensures.capacity),
      omega (
        arith,
        c.self.invariant.3,
        c.push_reserved.ensures.len,
        c.push_reserved.ensures.capacity,
        c.push_reserved-2.ensures.len,
      ),
    )

pub returns-clause-items : goal.returns-clause-items
returns-clause-items c =
    let os = c.self.inside.others.items in
    let entry : StoredEntry = record { event = c.args.event; reply = c.args.reply } in
    let at : c.len-at.result ≡ length os = omega (arith, c.len-at.ensures, c.self.inside.others.ok.0) in
    let last : slice_index_or c.push_reserved.new.self.items c.len-at.result no_entry ≡ entry =
    ap₂ (λ es n. slice_index_or es n no_entry) c.push_reserved.ensures.items at ∙ index_last os entry no_entry in
    items_pushed os c.push_reserved.new.self.items c.self.inside.packed.items c.push_reserved-2.new.self.items
    (packed.Other c.len-at.result) (entry ∷ [], c.push_reserved.ensures.items) c.self.invariant.0 c.push_reserved-2.ensures.items
    ∙ ap₂ (λ es e. es ++ e ∷ []) (ap (λ v. v.items) c.self.view_is) last
