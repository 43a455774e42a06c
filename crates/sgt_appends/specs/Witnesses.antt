-- The claims of a witness.
use Rattle.std.specs.Prelude.{◌≡◌, ◌≢◌, ℕ, List, [], ◌∷◌, Some, slice_get}
use Rattle.sgt_appends.specs.declared.transaction.Status.TheVariants.{Committed}
use Rattle.sgt_appends.specs.declared.transaction.Transaction.{Transaction}
use Rattle.sgt_appends.specs.declared.witness.Edge.{Edge}
use Rattle.sgt_appends.specs.declared.witness.Reason.{Reason}
use Rattle.sgt_appends.specs.declared.witness.Reason.TheVariants.{Seen, Missed, InOrder}
use Rattle.sgt_appends.specs.Lists.{Has, StandsBefore}
use Rattle.sgt_appends.specs.Runs.{Ended}
use Rattle.sgt_appends.specs.Precedences.{Precedes}
use Rattle.sgt_appends.specs.Indexes.{AppendAt}
use Rattle.sgt_appends.specs.Reads.{IsReadAt}

-- what was observed shows of each edge that its source precedes its target
abbrev pub AllPrecede : List Transaction → List Edge → Type 0
AllPrecede h edges = (i : ℕ) (e : Edge) → slice_get edges i ≡ Some e → Precedes h e.from e.to

-- the committed transaction saw these values at the key, at this position
abbrev pub IsSeenAt : List Transaction → ℕ → ℕ → ℕ → List ℕ → Type 0
IsSeenAt h r p k seen = Ended h r Committed × IsReadAt h r p k seen

-- the operations at the positions of the reason show that one transaction precedes the other
abbrev pub IsShown : List Transaction → ℕ → ℕ → Reason → Type 0
IsShown h from to (Seen append read) = (k : ℕ) × (v : ℕ) × (seen : List ℕ) × AppendAt h from append k v × IsSeenAt h to read k seen × Has seen v
IsShown h from to (Missed read append) = (k : ℕ) × (v : ℕ) × (seen : List ℕ) × AppendAt h to append k v × IsSeenAt h from read k seen
    × (¬ Has seen v)
IsShown h from to (InOrder first second reader read) = (k : ℕ) × (v : ℕ) × (w : ℕ) × (seen : List ℕ) × AppendAt h from first k v
    × AppendAt h to second k w × IsSeenAt h reader read k seen × StandsBefore seen v w

-- the reason of the edge holds, and it has two transactions
abbrev pub EdgeIsShown : List Transaction → Edge → Type 0
EdgeIsShown h e = (e.from ≢ e.to) × IsShown h e.from e.to e.reason

-- the reason of each edge holds
abbrev pub AreShown : List Transaction → List Edge → Type 0
AreShown h [] = Unit {0}
AreShown h (e ∷ es) = EdgeIsShown h e × AreShown h es

-- the edges lead from a to b, each from where the one before it ends
abbrev pub EdgesLead : ℕ → List Edge → ℕ → Type 0
EdgesLead a [] b = a ≡ b
EdgesLead a (e ∷ es) b = (e.from ≡ a) × EdgesLead e.to es b

-- a cycle: the edges lead from a transaction back to it, and the reason of each holds
pub record IsEdgeCycle (h : List Transaction) (edges : List Edge) : Type 0 where
  pub start : ℕ
  pub leads : EdgesLead start edges start
  pub some : edges ≢ []
  pub shown : AreShown h edges
