use Rattle.std.proofs.Common.{◌≡◌, length, ap, sym, subst, ◌∙◌, arith}
use Rattle.std.specs.Prelude.{slice_index_or}
use Rattle.std.proofs.lemmas.List.{length-map}
use Rattle.sgt_log.specs.PackedEntries.{unpacked, IsAmong}
use Rattle.sgt_log.proofs.Packed.{among_at, item_at}
use Rattle.sgt_log.proofs.entry_list.EntryList.at.Goals as goal

pub unpacked-requires : goal.unpacked-requires
unpacked-requires c =
    let items = ap (λ v. length v.items) c.self.view_is in
    let long = length-map c.self.inside.packed.items (unpacked c.self.inside.others.items) in
    subst (λ os. IsAmong (length os) c.index.result.now) (sym c.as_slice.ensures.value)
    (among_at _ c.self.inside.packed.items c.args.place c.index.result.now c.self.invariant.0
    (omega (arith, c.requires, items, long)) c.index.ensures)

pub returns : goal.returns
returns c =
    let is = c.unpacked.ensures ∙ ap (λ os. unpacked os c.index.result.now) c.as_slice.ensures.value in
    subst (λ e. e ≡ slice_index_or c.args.self.now.items c.args.place e) (sym is)
    (item_at c.self.inside.others.items c.self.inside.packed.items c.args.self.now.items c.args.place c.index.result.now
    (ap (λ v. v.items) c.self.view_is) c.requires c.index.ensures)
