use Rattle.std.proofs.Common.{◌≡◌, ◌∷◌, take}
use Rattle.sgt_proc_json.proofs.place.Place.under.Given as goal

-- the position, and those so far
abbrev pub invariant-loop-next : goal.invariant-loop-next
invariant-loop-next l = l.positions ≡ l.position ∷ take l.next-index l.next-items
