-- A linear number of edges that suffices for a run of committed reads.
use Rattle.std.specs.Prelude.{◌≡◌, ◌≢◌, ◌⊎◌, ◌++◌, ◌<◌, ℕ, List, [], ◌∷◌}
use Rattle.sgt_appends.specs.declared.transaction.Status.TheVariants.{Committed}
use Rattle.sgt_appends.specs.declared.transaction.Transaction.{Transaction}
use Rattle.sgt_appends.specs.Lists.{Has}
use Rattle.sgt_appends.specs.Runs.{Ended}
use Rattle.sgt_appends.specs.Precedences.{Appends, Reads, AppendsOnce}
use Rattle.sgt_appends.specs.Orders.{AllClean, UnknownOnlyAppend}
use Rattle.sgt_appends.specs.Linear.{Climbs, IsLine, IsByRank}
use Rattle.sgt_levels.specs.Commits.{IsCommittedRun, AllWhole}

-- The whole line was seen, and t is below its end; or t is below the appender of the first value that was not seen.
abbrev pub IsBelowLate : List Transaction → (ℕ → ℕ) → ℕ → ℕ → ℕ → List ℕ → List ℕ → Type 0
IsBelowLate h rank end t k seen line =
    (((v : ℕ) → Has line v → Has seen v) × (rank t < end))
    ⊎ ((front : List ℕ) × (w : ℕ) × (back : List ℕ) × (line ≡ front ++ w ∷ back)
    × ((v : ℕ) → Has front v → Has seen v) × ((u : ℕ) → Appends h u k w → t ≢ u → rank t < rank u))

-- the ranks rise along these edges: one for each value seen, two for each read, one for each append that is not in the
-- line of its key, and one for each line
pub record IsCommitRaised (h : List Transaction) (order : List ℕ) (rank end : ℕ → ℕ) (line : ℕ → List ℕ) : Type 0 where
  pub climbs : (r k : ℕ) (own seen : List ℕ) → Ended h r Committed → Reads h r k own seen → Climbs h rank k seen
  pub last : (r k : ℕ) (own seen front : List ℕ) (x t : ℕ) → Ended h r Committed → Reads h r k own seen
      → seen ≡ (front ++ x ∷ []) ++ own → Appends h t k x → rank t < rank r
  pub lines : (k v : ℕ) → Has (line k) v → IsLine h k (line k)
  pub line_climbs : (k : ℕ) → Climbs h rank k (line k)
  pub line_end : (k : ℕ) (front : List ℕ) (x t : ℕ) → line k ≡ front ++ x ∷ [] → Appends h t k x → rank t < end k
  pub next : (r k : ℕ) (own seen front : List ℕ) (x t : ℕ) → Ended h r Committed → Reads h r k own seen
      → seen ≡ front ++ x ∷ [] → Appends h t k x → IsBelowLate h rank (end k) t k seen (line k)
  pub unseen : (t k v : ℕ) → Has order t → Appends h t k v → ¬ Has (line k) v → end k < rank t

-- if no read has a fault or is partial, an order by such ranks is a run of committed reads
abbrev pub CommitRaisedAreEnough : Type 0
CommitRaisedAreEnough = (h : List Transaction) (order : List ℕ) (rank end : ℕ → ℕ) (line : ℕ → List ℕ) → AppendsOnce h
    → UnknownOnlyAppend h → AllClean h → AllWhole h → IsCommitRaised h order rank end line → IsByRank h order rank
    → IsCommittedRun h order
