-- A linear number of edges that suffices for a snapshot run, but for those between unseen appends.
use Rattle.std.specs.Prelude.{◌≡◌, ◌≢◌, ◌⊎◌, ◌++◌, ◌<◌, ℕ, List, [], ◌∷◌}
use Rattle.sgt_appends.specs.declared.transaction.Status.TheVariants.{Committed}
use Rattle.sgt_appends.specs.declared.transaction.Transaction.{Transaction}
use Rattle.sgt_appends.specs.Lists.{Has}
use Rattle.sgt_appends.specs.Runs.{Ended}
use Rattle.sgt_appends.specs.Precedences.{Appends, Reads, AppendsOnce}
use Rattle.sgt_appends.specs.Orders.{AllClean, UnknownOnlyAppend}
use Rattle.sgt_appends.specs.Linear.{IsKnown, IsLine, IsByRank}
use Rattle.sgt_levels.specs.Snapshots.{IsSnapshotRun}
use Rattle.sgt_levels.specs.Levels.{Depends}

-- from each value of the list to the next, the one appender commits before the other begins, or they are the same
abbrev pub PassesFrom : List Transaction → (ℕ → ℕ) → (ℕ → ℕ) → ℕ → ℕ → List ℕ → Type 0
PassesFrom h begin commit k x [] = Unit {0}
PassesFrom h begin commit k x (y ∷ ys) =
    ((t u : ℕ) → Appends h t k x → Appends h u k y → t ≢ u → commit t < begin u) × PassesFrom h begin commit k y ys

-- the same, starting at the first value of a list
abbrev pub Passes : List Transaction → (ℕ → ℕ) → (ℕ → ℕ) → ℕ → List ℕ → Type 0
Passes h begin commit k [] = Unit {0}
Passes h begin commit k (x ∷ xs) = PassesFrom h begin commit k x xs

-- The reader knows the whole line, and begins before its end; or it begins before the commit of the appender of the
-- first value that it does not know.
abbrev pub BeginsBelow : List Transaction → (ℕ → ℕ) → (ℕ → ℕ) → ℕ → ℕ → ℕ → List ℕ → List ℕ → Type 0
BeginsBelow h begin commit end r k seen line =
    (((v : ℕ) → Has line v → IsKnown h r k seen v) × (begin r < end))
    ⊎ ((front : List ℕ) × (w : ℕ) × (back : List ℕ) × (line ≡ front ++ w ∷ back)
    × ((v : ℕ) → Has front v → IsKnown h r k seen v) × ((u : ℕ) → Appends h u k w → begin r < commit u))

-- The times rise along these edges: one for each value seen, two for each read, two for each append that is not in the
-- line of its key. Of two such appends to one key, one commits before the other begins.
pub record IsSplitRaised (h : List Transaction) (order : List ℕ) (begin commit end : ℕ → ℕ) (line : ℕ → List ℕ) : Type 0 where
  pub begins : (t k v : ℕ) → Appends h t k v → begin t < commit t
  pub begin_each : (t : ℕ) → Has order t → begin t < commit t
  pub passes : (r k : ℕ) (own seen : List ℕ) → Ended h r Committed → Reads h r k own seen → Passes h begin commit k seen
  pub last : (r k : ℕ) (own seen front : List ℕ) (x t : ℕ) → Ended h r Committed → Reads h r k own seen
      → seen ≡ (front ++ x ∷ []) ++ own → Appends h t k x → commit t < begin r
  pub lines : (k v : ℕ) → Has (line k) v → IsLine h k (line k)
  pub line_passes : (k : ℕ) → Passes h begin commit k (line k)
  pub next : (r k : ℕ) (own seen : List ℕ) → Ended h r Committed → Reads h r k own seen
      → BeginsBelow h begin commit (end k) r k seen (line k)
  pub unseen : (t k v : ℕ) → Has order t → Appends h t k v → ¬ Has (line k) v → end k < commit t
  pub tail : (k : ℕ) (front : List ℕ) (x t u v : ℕ) → line k ≡ front ++ x ∷ [] → Appends h t k x → Has order u → Appends h u k v
      → ¬ Has (line k) v → t ≢ u → commit t < begin u
  pub unseen_apart : (t u k v w : ℕ) → t ≢ u → Has order t → Has order u → Appends h t k v → Appends h u k w
      → ¬ Has (line k) v → ¬ Has (line k) w → (commit t < begin u) ⊎ (commit u < begin t)

-- if no read has a fault, such times are a snapshot run: this is what a solver has to find
abbrev pub SplitRaisedAreEnough : Type 0
SplitRaisedAreEnough = (h : List Transaction) (order : List ℕ) (begin commit end : ℕ → ℕ) (line : ℕ → List ℕ) → AppendsOnce h
    → UnknownOnlyAppend h → AllClean h → IsSplitRaised h order begin commit end line → IsByRank h order commit
    → IsSnapshotRun h order begin commit

-- the edge from the appender of a value that a reader knows to the appender of one that it does not know is one of those
-- that each snapshot run obeys
abbrev pub TailsDepend : Type 0
TailsDepend = (h : List Transaction) (t u r k v w : ℕ) (own seen : List ℕ) → AppendsOnce h → t ≢ u → Ended h r Committed
    → Reads h r k own seen → Appends h t k v → Appends h u k w → IsKnown h r k seen v → ¬ IsKnown h r k seen w → Depends h t u
