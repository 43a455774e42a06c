-- A graph as 32 indices: the transactions at the indices that are taken, and rows of indices.
use Rattle.std.specs.Prelude.{◌≡◌, ℕ, ◌<◌, ◌≤◌, Bool, true, false, ◌&&◌, nat_eq, nat_lt, ◌↔◌, List, length, slice_index, map, cond}
use Rattle.std.proofs.Common.{zero, suc}
use Rattle.sgt_cycle.specs.Indices.{is_set, is_bit, indices}
use Rattle.sgt_cycle.specs.Path.{IsPath}
use Rattle.sgt_model.specs.Paths.{Member}
use Rattle.sgt_graph.specs.declared.verdict.Link.{Link}
use Rattle.sgt_graph.specs.declared.verdict.Verdict.{Verdict}
use Rattle.sgt_graph.specs.declared.verdict.Verdict.TheVariants.{Accepted, Closes}
use Rattle.sgt_graph.specs.Closures.{IsClosure}

-- whether the transaction is at the index
abbrev pub is_at : ℕ → List ℕ → ℕ → ℕ → Bool
is_at taken tids t i = is_set taken i && nat_eq (slice_index tids i) t

-- the last index below n that passes the test; 32 if none does
unfoldable pub last_below : ℕ → (ℕ → Bool) → ℕ
last_below zero test = 32
last_below (suc n) test = cond (test n) n (last_below n test)

-- the index of the transaction
abbrev pub index_of : ℕ → List ℕ → ℕ → ℕ
index_of taken tids t = last_below 32 (is_at taken tids t)

-- whether it has an index
abbrev pub is_placed : ℕ → List ℕ → ℕ → Bool
is_placed taken tids t = nat_lt (index_of taken tids t) 32

-- whether an edge leads from one to the other
abbrev pub is_pair : ℕ → List ℕ → List ℕ → ℕ → ℕ → Bool
is_pair taken tids pairs u v = is_bit pairs (index_of taken tids u) (index_of taken tids v)

-- there are 32 indices; no transaction has two of them; edges are between indices that are taken; and the rows reached are
-- those of the edges, without a cycle
pub record IsBitGraph (taken : ℕ) (tids pairs reached : List ℕ) : Type 0 where
  pub size : length tids ≡ 32
  pub apart : (i j t : ℕ) → is_at taken tids t i ≡ true → is_at taken tids t j ≡ true → i ≡ j
  pub low : (i : ℕ) → is_set taken i ≡ true → i < 32
  pub of_taken : (i j : ℕ) → is_bit pairs i j ≡ true → (is_set taken i ≡ true) × (is_set taken j ≡ true)
  pub closure : IsClosure pairs reached
  pub acyclic : (i : ℕ) → is_bit reached i i ≡ false

-- u is the least of the transactions at these indices
pub record IsLeastAt (tids : List ℕ) (set u : ℕ) : Type 0 where
  pub index : ℕ
  pub set_there : is_set set index ≡ true
  pub there : slice_index tids index ≡ u
  pub least : (i : ℕ) → is_set set i ≡ true → u ≤ slice_index tids i

-- what a verdict says of indices: nothing that is reached from the index is a target, or there is a path to one
abbrev pub IsIndexVerdict : List ℕ → List ℕ → List ℕ → ℕ → ℕ → Verdict → Type 0
IsIndexVerdict tids pairs reached index targets Accepted = (j : ℕ) → is_set targets j ≡ true → is_bit reached index j ≡ false
IsIndexVerdict tids pairs reached index targets (Closes cycle) = (path : List ℕ) × IsPath (is_bit pairs) index (indices targets) path × (cycle ≡ map (λ i. slice_index tids i) path)

-- the link leads to the index of the transaction, from the indices of these, and nothing that is reached from there is one of them
pub record IsLinkOf (taken : ℕ) (tids reached : List ℕ) (t : ℕ) (preds : List ℕ) (link : Link) : Type 0 where
  pub low : link.to < 32
  pub here : is_at taken tids t link.to ≡ true
  pub exact : (i : ℕ) → (is_set link.from i ≡ true) ↔ ((is_set taken i ≡ true) × Member (slice_index tids i) preds)
  pub none_back : (j : ℕ) → is_set link.from j ≡ true → is_bit reached link.to j ≡ false
