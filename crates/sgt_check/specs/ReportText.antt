-- The lines of a report.
use Rattle.std.specs.Prelude.{ℕ, ◌+◌, ◌-◌, List, [], ◌∷◌, ◌++◌, Option, Some, None, slice_get, map, codes}
use Rattle.std.specs.Option.{option_map_or}
use Rattle.std.specs.List.{flat_map}
use Rattle.std.specs.Fmt.{decimal}
use Rattle.sgt_classes.specs.declared.operation.Violation.{Violation}
use Rattle.sgt_classes.specs.declared.graph.Edge.{Edge}
use Rattle.sgt_classes.specs.declared.serial.Serializability.{Serializability}
use Rattle.sgt_classes.specs.declared.serial.Serializability.TheVariants.{Serial, Cycle}
use Rattle.sgt_format.specs.Templates.{filled}
use Rattle.sgt_notation.specs.declared.history.History.{History}
use Rattle.sgt_notation.specs.Spellings.{spelling}
use Rattle.sgt_notation.specs.Readings.{texts}
use Rattle.sgt_check.specs.declared.report.Counts.{Counts}
use Rattle.sgt_check.specs.declared.report.Report.{Report}

-- the operation at a position, with the position counted from 1
abbrev pub placed : History → ℕ → List ℕ
placed h i = option_map_or (λ op. spelling (texts h) op ++ codes " (" ++ decimal (i + 1) ++ codes ")") (slice_get h.operations.items i) []

-- the transaction of the operation at a position
abbrev pub transaction_at : History → ℕ → List ℕ
transaction_at h i = option_map_or (λ op. decimal op.transaction) (slice_get h.operations.items i) []

-- the same of a position that may be none
abbrev pub transaction_of : History → Option ℕ → List ℕ
transaction_of h place = option_map_or (transaction_at h) place []

-- the number of transactions, and how many committed, aborted or are active
abbrev pub counts_text : Counts → List ℕ
counts_text c =
    filled (codes "transactions #: # committed, # aborted, # active\n")
    (map decimal (c.transactions ∷ c.committed ∷ c.aborted ∷ (c.transactions - c.committed - c.aborted) ∷ []))

-- a transaction of a serial order
abbrev pub next_text : ℕ → List ℕ
next_text t = codes " " ++ decimal t

-- an edge with its two operations
abbrev pub edge_text : History → Edge → List ℕ
edge_text h e = filled (codes " # # by # #") (decimal e.from ∷ decimal e.to ∷ placed h e.earlier ∷ placed h e.later ∷ [])

-- an edge of a cycle after the first, with a comma before it
abbrev pub later_edge_text : History → Edge → List ℕ
later_edge_text h e = codes "," ++ edge_text h e

-- the edges of a cycle, separated by commas
abbrev pub cycle_text : History → List Edge → List ℕ
cycle_text h [] = []
cycle_text h (e ∷ es) = edge_text h e ++ flat_map (later_edge_text h) es

-- a serial order, `none` if no transaction committed
abbrev pub order_text : List ℕ → List ℕ
order_text [] = codes " none"
order_text (t ∷ ts) = flat_map next_text (t ∷ ts)

-- a serial order or a cycle
abbrev pub shown_text : History → Serializability → List ℕ
shown_text h (Serial order) = codes "serializable yes:" ++ order_text order.items
shown_text h (Cycle edges) = codes "serializable no:" ++ cycle_text h edges.items

-- the same as a line
abbrev pub serial_text : History → Serializability → List ℕ
serial_text h shown = shown_text h shown ++ codes "\n"

-- a class: yes, or no and why not
abbrev pub class_text : List ℕ → (Violation → List ℕ) → Option Violation → List ℕ
class_text name why None = name ++ codes " yes\n"
class_text name why (Some v) = name ++ codes " no: " ++ why v

-- a commit too early: the writer aborts, or has not committed
abbrev pub recoverable_why : History → Option ℕ → Option ℕ → Violation → List ℕ
recoverable_why h write None v =
    filled (codes "#, which reads from # by #, and # has not committed\n")
    (placed h v.later ∷ transaction_of h write ∷ placed h v.earlier ∷ transaction_of h write ∷ [])
recoverable_why h write (Some abort) v =
    filled (codes "#, which reads from # by #, and # aborted: #\n")
    (placed h v.later ∷ transaction_of h write ∷ placed h v.earlier ∷ transaction_of h write ∷ placed h abort ∷ [])

-- a read of an uncommitted value
abbrev pub avoiding_why : History → Violation → List ℕ
avoiding_why h v =
    filled (codes "# reads from #, which has not committed\n") (placed h v.later ∷ transaction_at h v.earlier ∷ [])

-- an operation before the end of the earlier one's transaction
abbrev pub follows_why : History → Violation → List ℕ
follows_why h v =
    filled (codes "# follows #, and # has not ended\n") (placed h v.later ∷ placed h v.earlier ∷ transaction_at h v.earlier ∷ [])

-- two operations whose transactions committed in the opposite order
abbrev pub order_why : History → Violation → List ℕ
order_why h v =
    filled (codes "# before # by # #, and # committed first\n")
    (transaction_at h v.earlier ∷ transaction_at h v.later ∷ placed h v.earlier ∷ placed h v.later ∷ transaction_at h v.later ∷ [])

-- the seven lines
abbrev pub report_text : History → Report → List ℕ
report_text h r = counts_text r.counts ++ serial_text h r.serializability
    ++ class_text (codes "recoverable") (recoverable_why h r.dirty_write r.dirty_abort) r.recoverable
    ++ class_text (codes "avoids cascading aborts") (avoiding_why h) r.avoiding
    ++ class_text (codes "strict") (follows_why h) r.strict
    ++ class_text (codes "rigorous") (follows_why h) r.rigorous
    ++ class_text (codes "commit ordered") (order_why h) r.commit_ordered
