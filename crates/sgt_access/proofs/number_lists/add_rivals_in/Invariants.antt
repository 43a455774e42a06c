use Rattle.std.proofs.Common.{take}
use Rattle.sgt_model.specs.Paths.{Rising}
use Rattle.sgt_access.specs.NumberLists.{contents, joined}
use Rattle.sgt_access.proofs.Rivals.{AddRivals}
use Rattle.sgt_access.proofs.number_lists.add_rivals_in.Given as goal

-- the rivals in the lists so far
abbrev pub invariant-loop-list : goal.invariant-loop-list
invariant-loop-list l = record {
  exact : AddRivals l.t l.key l.kind (joined (contents (take l.list-index l.lists))) l.fn.rivals.items l.rivals.items;
  rising : Rising l.rivals.items;
}
