-- How a cycle of links becomes a cycle of edges between transactions.
use Rattle.std.specs.Prelude.{◌≡◌, ◌≢◌, ◌⊎◌, ◌<◌, ◌≤◌, ◌++◌, ℕ, List, [], ◌∷◌, Option, Some, None, length}
use Rattle.std.proofs.Common.{drop}
use Rattle.sgt_appends.specs.declared.sorting.Link.{Link}
use Rattle.sgt_appends.specs.declared.witness.Edge.{Edge}
use Rattle.sgt_appends.specs.declared.witness.Reason.{Reason}
use Rattle.sgt_appends.specs.declared.witness.Reason.TheVariants.{Seen, Missed, InOrder}
use Rattle.sgt_appends.specs.declared.transaction.Transaction.{Transaction}
use Rattle.sgt_appends.specs.Graphs.{IsAmong, LeadTo}
use Rattle.sgt_appends.specs.Witnesses.{EdgeIsShown, AreShown, EdgesLead}

-- the position of the read of a reason
abbrev pub read_in : Reason → ℕ
read_in (Seen append read) = read
read_in (Missed read append) = read
read_in (InOrder first second reader read) = read

-- the position of the later append of a reason
abbrev pub append_in : Reason → ℕ
append_in (Seen append read) = append
append_in (Missed read append) = append
append_in (InOrder first second reader read) = second

-- the edge of a link, after a link that leads to the end of a line, if there is one
abbrev pub edge_after : Option Link → Link → Edge
edge_after None l = record { from = l.from; to = l.to; reason = l.reason }
edge_after (Some f) l = record { from = f.from; to = l.to; reason = Missed (read_in f.reason) (append_in l.reason) }

-- A link between transactions, and two links through the end of a line, make an edge. No link has ends of lines on both
-- sides.
pub record MakeEdges (h : List Transaction) (links : List Link) : Type 0 where
  pub direct : (l : Link) → IsAmong links l → l.from < length h → l.to < length h → EdgeIsShown h (edge_after None l)
  pub turn : (l m : Link) → IsAmong links l → IsAmong links m → l.to ≡ m.from → length h ≤ l.to → EdgeIsShown h (edge_after (Some l) m)
  pub apart : (l : Link) → IsAmong links l → (l.from < length h) ⊎ (l.to < length h)

-- the links lead from a node back to it
pub record IsLoop (links : List Link) : Type 0 where
  pub node : ℕ
  pub leads : LeadTo node links node
  pub some : links ≢ []

-- the same, and the node is below n
pub record IsLoopBelow (n : ℕ) (links : List Link) : Type 0 where
  pub node : ℕ
  pub leads : LeadTo node links node
  pub some : links ≢ []
  pub below : node < n

-- the link leads to the end of a line and waits for the next one, or its edge is added
abbrev pub IsEdgeAdded : ℕ → List Edge → List Edge → Option Link → Link → Option Link → Type 0
IsEdgeAdded n old new before link waits = ((n ≤ link.to) × (waits ≡ Some link) × (new ≡ old))
    ⊎ ((link.to < n) × (waits ≡ None) × (new ≡ old ++ edge_after before link ∷ []))

-- where the next edge begins
abbrev pub origin : Option Link → ℕ → ℕ
origin None at = at
origin (Some l) at = l.from

-- the link that waits is one of these and leads to the end of a line
abbrev pub Waits : ℕ → List Link → Option Link → ℕ → Type 0
Waits n links None at = at < n
Waits n links (Some l) at = IsAmong links l × (l.to ≡ at) × (n ≤ at)

-- the edges of the first i links
pub record AreEdgesSoFar (h : List Transaction) (links : List Link) (i : ℕ) (edges : List Edge) (before : Option Link) : Type 0 where
  pub start : ℕ
  pub below : start < length h
  pub at : ℕ
  pub leads : EdgesLead start edges (origin before at)
  pub rest : LeadTo at (drop i links) start
  pub shown : AreShown h edges
  pub waits : Waits (length h) links before at
  pub some : (i ≡ 0) ⊎ ((edges ≢ []) ⊎ (before ≢ None))
