-- Links between the nodes of a graph, and sorts of the nodes.
use Rattle.std.specs.Prelude.{◌≡◌, ◌≢◌, ◌<◌, ◌≤◌, ◌-◌, ◌+◌, ◌⊎◌, ℕ, List, [], ◌∷◌, Some, Bool, true, false, slice_get, length}
use Rattle.std.proofs.Common.{get_or}
use Rattle.sgt_appends.specs.declared.sorting.Link.{Link}
use Rattle.sgt_appends.specs.Lists.{Has, Rises}

-- l is among the links
abbrev pub IsAmong : List Link → Link → Type 0
IsAmong [] l = ⊥
IsAmong (x ∷ xs) l = (x ≡ l) ⊎ IsAmong xs l

-- the ranks grow along each link
abbrev pub RiseAlong : List Link → (ℕ → ℕ) → Type 0
RiseAlong links rank = (l : Link) → IsAmong links l → rank l.from < rank l.to

-- the links lead from a to b
abbrev pub LeadTo : ℕ → List Link → ℕ → Type 0
LeadTo a [] b = a ≡ b
LeadTo a (l ∷ ls) b = (l.from ≡ a) × LeadTo l.to ls b

-- the links lead from b to a, and are listed last first
abbrev pub LeadBack : ℕ → List Link → ℕ → Type 0
LeadBack a [] b = a ≡ b
LeadBack a (l ∷ ls) b = (l.to ≡ a) × LeadBack l.from ls b

-- the links that lead back from a pass through x
abbrev pub Pass : ℕ → List Link → ℕ → Type 0
Pass a [] x = a ≡ x
Pass a (l ∷ ls) x = (a ≡ x) ⊎ Pass l.from ls x

-- these links are among those
abbrev pub AreAmong : List Link → List Link → Type 0
AreAmong these links = (l : Link) → IsAmong these l → IsAmong links l

-- a cycle: links of the graph that lead from a node back to it
pub record IsRound (links cycle : List Link) : Type 0 where
  pub among : AreAmong cycle links
  pub node : ℕ
  pub leads : LeadTo node cycle node
  pub some : cycle ≢ []

-- the nodes of the links are below the number
abbrev pub AreWithin : List Link → ℕ → Type 0
AreWithin links nodes = (l : Link) → IsAmong links l → (l.from < nodes) × (l.to < nodes)

-- a link's number plus one, or 0: the link leads to the node
abbrev pub IsLinkTo : List Link → ℕ → ℕ → Type 0
IsLinkTo links p v = 0 < p → (l : Link) × (slice_get links (p - 1) ≡ Some l) × (l.to ≡ v)

-- for each node the last of the first i links to it; for each such link the previous one to the same node
pub record AreChained (links : List Link) (i : ℕ) (heads before : List ℕ) : Type 0 where
  pub long : length before ≡ i
  pub later : (d e : ℕ) (k l : Link) → d < e → e < i → slice_get links d ≡ Some k → slice_get links e ≡ Some l → k.to ≡ l.to
      → d < get_or before e 0
  pub earlier : (e : ℕ) (l : Link) → e < i → slice_get links e ≡ Some l → IsLinkTo links (get_or before e 0) l.to × (get_or before e 0 ≤ e)
  pub last : (v : ℕ) → IsLinkTo links (get_or heads v 0) v × (get_or heads v 0 ≤ i)
  pub left : (d : ℕ) (k : Link) → d < i → slice_get links d ≡ Some k → d < get_or heads k.to 0

-- A node with a rank has only predecessors of smaller rank. Links to other nodes from nodes without a rank are still to
-- be visited.
pub record IsSorted (links : List Link) (heads before ranks : List ℕ) : Type 0 where
  pub long : length before ≡ length links
  pub nodes : length heads ≡ length ranks
  pub within : AreWithin links (length ranks)
  pub later : (d e : ℕ) (k l : Link) → d < e → slice_get links d ≡ Some k → slice_get links e ≡ Some l → k.to ≡ l.to
      → d < get_or before e 0
  pub earlier : (e : ℕ) (l : Link) → slice_get links e ≡ Some l → IsLinkTo links (get_or before e 0) l.to × (get_or before e 0 ≤ e)
  pub last : (v : ℕ) → IsLinkTo links (get_or heads v 0) v
  pub left : (e : ℕ) (l : Link) → slice_get links e ≡ Some l → (e < get_or heads l.to 0) ⊎ (0 < get_or ranks l.from 0)
  pub placed : (l : Link) → IsAmong links l → 0 < get_or ranks l.to 0
      → (0 < get_or ranks l.from 0) × (get_or ranks l.from 0 < get_or ranks l.to 0)

-- the order has exactly the nodes with a rank, by rank
pub record AreOrdered (ranks order : List ℕ) : Type 0 where
  pub rises : Rises (λ t. get_or ranks t 0) order
  pub ordered : (v : ℕ) → Has order v → (0 < get_or ranks v 0) × (get_or ranks v 0 ≤ length order)
  pub all : (v : ℕ) → 0 < get_or ranks v 0 → Has order v

-- The path leads back from the root to the node at its end. Each node met has a rank or is on the path.
pub record IsReached (links : List Link) (root : ℕ) (met : List Bool) (ranks : List ℕ) (path : List Link) (at : ℕ) : Type 0 where
  pub within : at < length ranks
  pub marks : length met ≡ length ranks
  pub back : LeadBack root path at
  pub among : AreAmong path links
  pub reached : (v : ℕ) → get_or met v false ≡ true → (0 < get_or ranks v 0) ⊎ Pass root path v
  pub root_met : get_or met root false ≡ true

-- how many are not true
abbrev pub unmet : List Bool → ℕ
unmet [] = 0
unmet (true ∷ bs) = unmet bs
unmet (false ∷ bs) = 1 + unmet bs
