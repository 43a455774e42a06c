use Rattle.std.proofs.Common.{◌≢◌, ◌⊎◌, ◌∷◌, [], ℕ, length}
use Rattle.sgt_appends.specs.declared.sorting.Link.{Link}
use Rattle.sgt_appends.specs.Graphs.{IsAmong, LeadTo, LeadBack, Pass}
use Rattle.sgt_appends.proofs.sorting.round.Given as goal

abbrev pub invariant-loop-at : goal.invariant-loop-at
invariant-loop-at l = record {
  back : (root : ℕ) × LeadBack root l.path.items l.at × Pass root l.path.items l.link.from;
  leads : LeadTo l.link.from l.cycle.items l.at;
  among : (k : Link) → IsAmong l.cycle.items k ⊎ IsAmong l.path.items k → IsAmong (l.link ∷ l.fn.path.items) k;
  some : l.cycle.items ≢ [];
}

abbrev pub decreases-loop-at : goal.decreases-loop-at
decreases-loop-at l = length l.path.items
