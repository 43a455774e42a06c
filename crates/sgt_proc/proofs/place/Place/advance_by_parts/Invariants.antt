use Rattle.std.proofs.Common.{◌≡◌}
use Rattle.sgt_model.specs.ProcedureTexts.{block_of}
use Rattle.sgt_proc.specs.Paths.{inner}
use Rattle.sgt_proc.specs.Places.{IsIn, reach_from, distance}
use Rattle.sgt_proc.proofs.place.Place.advance_by_parts.Given as goal

abbrev pub invariant-loop-list : goal.invariant-loop-list
invariant-loop-list l = record {
  inside : IsIn (block_of l.body) l.self;
  same : reach_from (block_of l.body) l.self ≡ reach_from (block_of l.body) l.fn.self;
  list : block_of l.list ≡ inner l.self.path.items (block_of l.body);
}

abbrev pub decreases-loop-list : goal.decreases-loop-list
decreases-loop-list l = distance (block_of l.body) l.self
