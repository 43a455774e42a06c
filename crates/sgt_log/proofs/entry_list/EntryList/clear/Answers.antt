use Rattle.std.proofs.Common.{sym, subst, arith}
use Rattle.sgt_log.specs.PackedEntries.{AreAmong}
use Rattle.sgt_log.proofs.entry_list.EntryList.clear.Goals as goal

pub invariant_of-self : goal.invariant_of-self
invariant_of-self c = (
  subst (AreAmong _) (sym c.clear.ensures.items) tt,
  omega (arith, c.clear.ensures.len),
  omega (arith, c.len.ensures, c.self.inside.packed.ok.0, c.self.invariant.2, c.clear.ensures.capacity),
  omega (
    arith,
    c.len.ensures,
    c.self.inside.packed.ok.0,
    c.self.invariant.1,
    c.self.invariant.3,
    c.clear.ensures.len,
    c.clear-2.ensures.len,
    c.clear-2.ensures.capacity,
  ),
)
