-- When an access would close a cycle of the serialization graph: the test of basic serialization graph testing
-- (Bernstein, Hadzilacos and Goodman (1987), chapter 4).
use Rattle.std.specs.Prelude.{◌≡◌, ℕ, ◌<◌, true, List, ◌∷◌, length}
use Rattle.sgt_model.specs.declared.entry.Entry.{Entry}
use Rattle.sgt_model.specs.declared.kind.Kind.{Kind}
use Rattle.sgt_model.specs.Contents.{Key}
use Rattle.sgt_model.specs.Paths.{PathOf, last_of, Distinct}
use Rattle.sgt_model.specs.Pairs.{has_conflicting, Pair}

-- the path t, `rest`: an access by t of that kind of the key would close it to a cycle. It has at least two transactions,
-- none twice; an edge leads from each to the next; and the last has an earlier access that conflicts
pub record Closes (past : List Entry) (t : ℕ) (k : Key) (kind : Kind) (rest : List ℕ) : Type 0 where
  pub distinct : Distinct (t ∷ rest)
  pub at_least_two : 0 < length rest
  pub pairs : PathOf (Pair past) t rest
  pub conflict : has_conflicting past (last_of t rest) k kind ≡ true
