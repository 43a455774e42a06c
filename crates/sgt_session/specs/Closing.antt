-- What `close` returns if it fails.
use Rattle.std.specs.Prelude.{◌≡◌, ℕ, ◌<◌, List, length}
use Rattle.sgt_session.specs.declared.receipt.Receipt.{Receipt}
use Rattle.sgt_records.specs.declared.records.Records.{Ghosts as RecordsGhosts}
use Rattle.sgt_access.specs.declared.accesses.Accesses.{Ghosts as AccessesGhosts}
use Rattle.sgt_graph.specs.declared.graph.Graph.{Ghosts as GraphGhosts}
use Rattle.sgt_session.specs.declared.named.Named.{Ghosts as NamedGhosts}
use Rattle.sgt_session.specs.declared.close.CloseError.{CloseError}
use Rattle.sgt_session.specs.declared.close.CloseError.TheVariants.{StillHeld, Mismatch}

-- the input is returned: a session is missing, or all are there
abbrev pub Held : {N R A G : Type 0} {n : NamedGhosts N} {r : RecordsGhosts R} {a : AccessesGhosts A} {g : GraphGhosts G}
    → CloseError N R A G n r a g → List (List Receipt) → ℕ → Type 0
Held (StillHeld shared back) sessions all = (back.items ≡ sessions) × (length sessions < all)
Held (Mismatch shared back) sessions all = (back.items ≡ sessions) × (length sessions ≡ all)
