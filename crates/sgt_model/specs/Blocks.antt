-- The verdict on an access, from the state alone.
use Rattle.std.specs.Prelude.{◌≡◌, ◌≢◌, ℕ, true, List, ◌∷◌}
use Rattle.sgt_model.specs.declared.kind.Kind.{Kind}
use Rattle.sgt_model.specs.Contents.{Key}
use Rattle.sgt_model.specs.Paths.{PathOf, last_of, Distinct}
use Rattle.sgt_model.specs.AccessList.{lists_conflicting}
use Rattle.sgt_model.specs.State.{State, PairIn}

-- u is a rival: another transaction with a listed access that conflicts
pub record IsRival (c : State) (t : ℕ) (k : Key) (kind : Kind) (u : ℕ) : Type 0 where
  pub apart : u ≢ t
  pub has_conflicting : lists_conflicting c.accesses u k kind ≡ true

-- the access is rejected: a path in the graph leads from t to a rival, with no transaction twice
pub record Blocks (c : State) (t : ℕ) (k : Key) (kind : Kind) (rest : List ℕ) : Type 0 where
  pub distinct : Distinct (t ∷ rest)
  pub pairs : PathOf (PairIn c) t rest
  pub rival : IsRival c t k kind (last_of t rest)
