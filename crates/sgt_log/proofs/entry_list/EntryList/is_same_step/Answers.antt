use Rattle.std.proofs.Common.{◌≡◌, [], ap, sym, subst}
use Rattle.std.specs.Prelude.{slice_index_or}
use Rattle.sgt_log.specs.PackedEntries.{unpacked}
use Rattle.sgt_log.proofs.Packed.{step_item, step_plain}
use Rattle.sgt_log.proofs.entry_list.EntryList.is_same_step.Goals as goal

pub returns : goal.returns
returns c t =
    let same = c.is_same_step.ensures t in
    let p = c.index.result.now in
    let plain = step_plain [] p same.0 in (
      unpacked [] p,
      plain.0,
      plain.1,
      step_item c.self.inside.others.items c.self.inside.packed.items c.args.self.now.items c.args.place p
          (ap (λ v. v.items) c.self.view_is) c.requires.here c.index.ensures same.0,
      step_item c.other.inside.others.items c.other.inside.packed.items c.args.other.now.items c.args.index p
          (ap (λ v. v.items) c.other.view_is) c.requires.there
          (subst (λ x. x ≡ slice_index_or c.other.inside.packed.items c.args.index x) (sym same.1) c.index-2.ensures) same.0,
    )
