-- What holds of a state at every moment, whatever the history. The layers' calls require it.
use Rattle.std.specs.Prelude.{◌≡◌, ◌≢◌, ℕ, ◌<◌, ◌≤◌, true, ◌↔◌, length}
use Rattle.sgt_model.specs.declared.kind.Kind.{Kind}
use Rattle.sgt_model.specs.declared.kind.Kind.TheVariants.{Store}
use Rattle.sgt_model.specs.Contents.{Key}
use Rattle.sgt_model.specs.Paths.{Member}
use Rattle.sgt_model.specs.AccessList.{lists_conflicting}
use Rattle.sgt_model.specs.Chains.{writes_in}
use Rattle.sgt_model.specs.ChainOrder.{InOrder}
use Rattle.sgt_model.specs.State.{State, Has, PairIn}

-- nodes were started, are listed, and are not too many; edges, accesses, reads and chains are of nodes; a writer with a
-- value in a chain has a listed write of its key, and chains are in the order of edges
pub record Sound (most : ℕ) (c : State) : Type 0 where
  pub begun : (t : ℕ) → c.nodes t ≡ true → t < c.start_count
  pub listed : (t : ℕ) → (c.nodes t ≡ true) ↔ Member t c.live
  pub few : length c.live ≤ most
  pub pair_nodes : (t u : ℕ) → c.pairs t u ≡ true → (c.nodes t ≡ true) × (c.nodes u ≡ true)
  pub pair_apart : (t u : ℕ) → c.pairs t u ≡ true → t ≢ u
  pub access_nodes : (t : ℕ) (k : Key) (kind : Kind) → lists_conflicting c.accesses t k kind ≡ true → c.nodes t ≡ true
  pub read_nodes : (u t : ℕ) → Has c.read_from u t → (c.nodes u ≡ true) × (c.nodes t ≡ true)
  pub writers : (k : Key) (t : ℕ) → writes_in t (c.chain k) ≡ true → lists_conflicting c.accesses t k Store ≡ true
  pub order : (k : Key) → InOrder (PairIn c) (c.chain k)
