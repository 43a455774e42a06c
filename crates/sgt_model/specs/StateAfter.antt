-- The state after a history: the relation between the two that every call preserves.
use Rattle.std.specs.Prelude.{◌≡◌, ℕ, true, ◌↔◌, List}
use Rattle.sgt_model.specs.declared.entry.Entry.{Entry}
use Rattle.sgt_model.specs.Contents.{Key}
use Rattle.sgt_model.specs.Fates.{start_count, fate_of, live, live_ones}
use Rattle.sgt_model.specs.Values.{settled}
use Rattle.sgt_model.specs.ReadFrom.{ReadFrom}
use Rattle.sgt_model.specs.Pairs.{Pair}
use Rattle.sgt_model.specs.Configurations.{Configuration}
use Rattle.sgt_model.specs.AccessList.{access_list}
use Rattle.sgt_model.specs.Chains.{chain_of}
use Rattle.sgt_model.specs.LiveLeft.{left_of}
use Rattle.sgt_model.specs.State.{State, Has}

-- an edge between two live transactions
pub record LivePair (past : List Entry) (t u : ℕ) : Type 0 where
  pub first_live : live past t ≡ true
  pub second_live : live past u ≡ true
  pub pair : Pair past t u

-- t read from u, and both are live
pub record LiveRead (past : List Entry) (t u : ℕ) : Type 0 where
  pub reader_live : live past t ≡ true
  pub source_live : live past u ≡ true
  pub read : ReadFrom past t u

-- this is the state after the history
pub record IsStateAfter (s : Configuration) (past : List Entry) (c : State) : Type 0 where
  pub lives : c.live ≡ live_ones past
  pub nodes : (t : ℕ) → c.nodes t ≡ live past t
  pub pairs : (t u : ℕ) → (c.pairs t u ≡ true) ↔ LivePair past t u
  pub accesses : c.accesses ≡ access_list (live past) past
  pub chain : (k : Key) → c.chain k ≡ chain_of (live past) k past
  pub settled : (k : Key) → c.settled k ≡ settled s.opening past k
  pub read_from : (u t : ℕ) → Has c.read_from u t ↔ LiveRead past t u
  pub fates : (t : ℕ) → c.fates t ≡ fate_of past t
  pub start_count : c.start_count ≡ start_count past
  pub left : (t : ℕ) → live past t ≡ true → c.left t ≡ left_of s.rules past t
