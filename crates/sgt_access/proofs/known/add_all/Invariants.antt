use Rattle.std.proofs.Common.{[], take}
use Rattle.sgt_access.specs.Masks.{Covers}
use Rattle.sgt_access.proofs.known.add_all.Given as goal

-- the masks have the accesses so far
abbrev pub invariant-loop-access : goal.invariant-loop-access
invariant-loop-access l = Covers l.fn.masks [] → Covers l.masks (take l.access-index l.accesses)
