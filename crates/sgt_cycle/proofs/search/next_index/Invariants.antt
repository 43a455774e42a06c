use Rattle.std.proofs.Common.{◌≡◌, ℕ, true, take}
use Rattle.sgt_model.specs.Paths.{Member}
use Rattle.sgt_cycle.specs.Links.{is_link}
use Rattle.sgt_cycle.proofs.search.next_index.Given as goal

abbrev pub invariant-loop-link : goal.invariant-loop-link
invariant-loop-link l = (b : ℕ) → Member b l.list → is_link (take l.link-index l.links) l.from b ≡ true → ⊥
