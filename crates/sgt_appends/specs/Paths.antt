-- Reads at a position, with what their transaction appended before.
use Rattle.std.specs.Prelude.{ℕ, List}
use Rattle.std.proofs.Common.{take}
use Rattle.sgt_appends.specs.declared.transaction.Status.TheVariants.{Committed}
use Rattle.sgt_appends.specs.Runs.{operations_of, Ended}
use Rattle.sgt_appends.specs.declared.transaction.Transaction.{Transaction}
use Rattle.sgt_appends.specs.Precedences.{appended, Reads}

-- t committed, and at this position has read these values at the key, after what its operations before it append to it
abbrev pub ReadAt : List Transaction → ℕ → ℕ → ℕ → List ℕ → Type 0
ReadAt h t place k seen = Ended h t Committed × Reads h t k (appended k (take place (operations_of h t))) seen
