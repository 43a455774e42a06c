-- A linear number of edges that suffices: ranks that rise along these rise along all precedences.
use Rattle.std.specs.Prelude.{◌≡◌, ◌≢◌, ◌⊎◌, ◌++◌, ◌<◌, ℕ, List, [], ◌∷◌}
use Rattle.sgt_appends.specs.declared.transaction.Status.TheVariants.{Committed}
use Rattle.sgt_appends.specs.declared.transaction.Transaction.{Transaction}
use Rattle.sgt_appends.specs.Lists.{Has, Rises}
use Rattle.sgt_appends.specs.Runs.{Ended, MayRun, IsSerialRun}
use Rattle.sgt_appends.specs.Precedences.{Appends, Reads, AppendsOnce, Precedes}
use Rattle.sgt_appends.specs.Orders.{AllClean, UnknownOnlyAppend}

-- from each value of the list to the next the rank of the appender rises, or both have the same appender
abbrev pub ClimbsFrom : List Transaction → (ℕ → ℕ) → ℕ → ℕ → List ℕ → Type 0
ClimbsFrom h rank k x [] = Unit {0}
ClimbsFrom h rank k x (y ∷ ys) =
    ((t u : ℕ) → Appends h t k x → Appends h u k y → t ≢ u → rank t < rank u) × ClimbsFrom h rank k y ys

-- the same, starting at the first value of a list
abbrev pub Climbs : List Transaction → (ℕ → ℕ) → ℕ → List ℕ → Type 0
Climbs h rank k [] = Unit {0}
Climbs h rank k (x ∷ xs) = ClimbsFrom h rank k x xs

-- the value was seen, or the reader appends it itself
abbrev pub IsKnown : List Transaction → ℕ → ℕ → List ℕ → ℕ → Type 0
IsKnown h r k seen value = Has seen value ⊎ Appends h r k value

-- The reader knows the whole line, and is below its end; or it is below the appender of the first value that it does
-- not know.
abbrev pub IsBelowNext : List Transaction → (ℕ → ℕ) → ℕ → ℕ → ℕ → List ℕ → List ℕ → Type 0
IsBelowNext h rank end r k seen line =
    (((v : ℕ) → Has line v → IsKnown h r k seen v) × (rank r < end))
    ⊎ ((front : List ℕ) × (w : ℕ) × (back : List ℕ) × (line ≡ front ++ w ∷ back)
    × ((v : ℕ) → Has front v → IsKnown h r k seen v) × (¬ IsKnown h r k seen w)
    × ((u : ℕ) → Appends h u k w → rank r < rank u))

-- each value of the key's line is one that a committed reader saw there, or appends itself
pub record IsLine (h : List Transaction) (k : ℕ) (line : List ℕ) : Type 0 where
  pub reader : ℕ
  pub own : List ℕ
  pub seen : List ℕ
  pub committed : Ended h reader Committed
  pub reads : Reads h reader k own seen
  pub known : (v : ℕ) → Has line v → IsKnown h reader k seen v

-- the ranks rise along these edges: one for each value seen, two for each read, one for each unseen append
pub record IsRaised (h : List Transaction) (order : List ℕ) (rank end : ℕ → ℕ) (line : ℕ → List ℕ) : Type 0 where
  pub climbs : (r k : ℕ) (own seen : List ℕ) → Ended h r Committed → Reads h r k own seen → Climbs h rank k seen
  pub last : (r k : ℕ) (own seen front : List ℕ) (x t : ℕ) → Ended h r Committed → Reads h r k own seen
      → seen ≡ (front ++ x ∷ []) ++ own → Appends h t k x → rank t < rank r
  pub lines : (r k : ℕ) (own seen : List ℕ) → Ended h r Committed → Reads h r k own seen → IsLine h k (line k)
  pub line_climbs : (k : ℕ) → Climbs h rank k (line k)
  pub next : (r k : ℕ) (own seen : List ℕ) → Ended h r Committed → Reads h r k own seen → IsBelowNext h rank (end k) r k seen (line k)
  pub unseen : (t k v : ℕ) → Has order t → Appends h t k v → ¬ Has (line k) v → end k < rank t

-- then they rise along all precedences too
abbrev pub FewEdgesAreEnough : Type 0
FewEdgesAreEnough = (h : List Transaction) (order : List ℕ) (rank end : ℕ → ℕ) (line : ℕ → List ℕ) → AppendsOnce h → AllClean h
    → IsRaised h order rank end line → (t u : ℕ) → Has order u → Precedes h t u → rank t < rank u

-- a committed transaction has seen a value that t appends
abbrev pub IsObserved : List Transaction → ℕ → Type 0
IsObserved h t = (r : ℕ) × (k : ℕ) × (v : ℕ) × (own : List ℕ) × (seen : List ℕ) × Ended h r Committed × Reads h r k own seen
    × Has seen v × Appends h t k v

-- an order by such ranks, of the committed transactions and of those with an observed value
pub record IsByRank (h : List Transaction) (order : List ℕ) (rank : ℕ → ℕ) : Type 0 where
  pub rises : Rises rank order
  pub committed : (t : ℕ) → Ended h t Committed → Has order t
  pub observed : (t : ℕ) → MayRun h t → IsObserved h t → Has order t
  pub may_run : (t : ℕ) → Has order t → MayRun h t

-- if no read has a fault, such an order is a serial run: this is what a solver has to find
abbrev pub RaisedAreEnough : Type 0
RaisedAreEnough = (h : List Transaction) (order : List ℕ) (rank end : ℕ → ℕ) (line : ℕ → List ℕ) → AppendsOnce h
    → UnknownOnlyAppend h → AllClean h → IsRaised h order rank end line → IsByRank h order rank → IsSerialRun h order
