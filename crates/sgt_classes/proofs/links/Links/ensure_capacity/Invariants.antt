use Rattle.std.proofs.Common.{◌≡◌, ◌+◌, ◌-◌, ℕ, length}
use Rattle.sgt_classes.specs.Links.{link_of}
use Rattle.sgt_classes.proofs.links.Links.ensure_capacity.Given as goal

abbrev pub invariant-loop-self : goal.invariant-loop-self
invariant-loop-self l = (i : ℕ) → link_of l.self i ≡ link_of l.fn.self i

abbrev pub decreases-loop-self : goal.decreases-loop-self
decreases-loop-self l = l.place + 1 - length l.self.earlier.items
