use Rattle.std.proofs.Common.{◌∷◌, [], ◌++◌, length, ap, ap₂, sym, ◌∙◌, arith, append-nil}
use Rattle.std.proofs.lemmas.List.{length-map}
use Rattle.sgt_log.specs.PackedEntries.{unpacked}
use Rattle.sgt_log.proofs.Packed.{among_pushed, items_pushed, whole_among, whole_same}
use Rattle.sgt_log.proofs.entry_list.EntryList.push_whole.Goals as goal

pub invariant_of-self : goal.invariant_of-self
invariant_of-self c =
    let os = c.self.inside.others.items in
    let count = ap (λ v. length v.items) c.self.view_is in
    let long = length-map c.self.inside.packed.items (unpacked os) in
    let capacity = ap (λ v. v.capacity) c.self.view_is in
    let held = c.self.inside.packed.ok.0 in (
      among_pushed os os c.self.inside.packed.items c.push_reserved.new.self.items
          c.args.entry ([], sym (append-nil _)) c.self.invariant.0 (whole_among _ c.args.entry c.requires.whole)
          c.push_reserved.ensures.items,
      omega (arith, c.requires.spare, count, long, capacity, held, c.push_reserved.ensures.len),
      omega (arith, c.self.invariant.2, c.push_reserved.ensures.capacity),
      omega (arith, c.self.invariant.3, c.push_reserved.ensures.len),
    )

pub returns-clause-items : goal.returns-clause-items
returns-clause-items c =
    items_pushed c.self.inside.others.items c.self.inside.others.items c.self.inside.packed.items c.push_reserved.new.self.items
    c.args.entry ([], sym (append-nil _)) c.self.invariant.0 c.push_reserved.ensures.items
    ∙ ap₂ (λ es e. es ++ e ∷ []) (ap (λ v. v.items) c.self.view_is) (whole_same _ [] c.args.entry c.requires.whole)
