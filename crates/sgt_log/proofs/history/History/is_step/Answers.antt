use Rattle.std.proofs.Common.{[], ap}
use Rattle.sgt_log.specs.PackedEntries.{unpacked}
use Rattle.sgt_log.specs.StoredEntries.{entry_of}
use Rattle.sgt_log.proofs.Entries.{seen_at, taken}
use Rattle.sgt_log.proofs.Packed.{step_quiet}
use Rattle.sgt_log.proofs.history.History.is_step.Goals as goal

pub returns : goal.returns
returns c t =
    let step = c.is_step_at.ensures t in
    let seen = seen_at c.self.inside.tids.items c.self.inside.values.items c.self.inside.entries.items c.args.self.now.entries
    c.args.place (unpacked [] step.0) (ap (λ h. h.entries) c.self.view_is) c.self.invariant.0 c.requires step.2 in (
      entry_of c.self.inside.tids.items c.self.inside.values.items (unpacked [] step.0),
      step_quiet c.self.inside.tids.items c.self.inside.values.items step.0 step.1,
      seen.0,
      taken c.args.self.now.entries c.args.place _ seen.0,
    )
