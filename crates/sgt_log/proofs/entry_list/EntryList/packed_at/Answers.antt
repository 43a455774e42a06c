use Rattle.std.proofs.Common.{ap}
use Rattle.sgt_log.proofs.Packed.{whole_item}
use Rattle.sgt_log.proofs.entry_list.EntryList.packed_at.Goals as goal

pub returns : goal.returns
returns c whole =
    whole_item c.self.inside.others.items c.self.inside.packed.items c.args.self.now.items c.args.place c.index.result.now
    (ap (λ v. v.items) c.self.view_is) c.requires c.index.ensures whole
