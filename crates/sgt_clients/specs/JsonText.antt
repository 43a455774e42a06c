-- The text of a finding as one object of JSON.
use Rattle.std.specs.Prelude.{◌++◌, ◌==◌, ℕ, Bool, if◌then◌else◌, List, [], ◌∷◌, Option, Some, None, codes}
use Rattle.std.specs.List.{flat_map}
use Rattle.std.specs.Fmt.{decimal}
use Rattle.sgt_appends.specs.declared.transaction.Transaction.{Transaction}
use Rattle.sgt_appends.specs.declared.witness.Reason.TheVariants.{Seen, Missed, InOrder}
use Rattle.sgt_levels.specs.declared.tie.Ground.{Ground}
use Rattle.sgt_levels.specs.declared.tie.Ground.TheVariants.{Observed, Late, Wait}
use Rattle.sgt_levels.specs.declared.tie.Passage.{Passage}
use Rattle.sgt_levels.specs.declared.tie.Tie.{Tie}
use Rattle.sgt_format.specs.Templates.{filled}
use Rattle.sgt_clients.specs.declared.clients.Clients.{Clients}
use Rattle.sgt_clients.specs.declared.finding.Finding.{Finding}
use Rattle.sgt_clients.specs.declared.finding.Finding.TheVariants as finding
use Rattle.sgt_clients.specs.Findings.{is_order}
use Rattle.sgt_clients.specs.ReportText.{from_one, entry_of, ground_text, passage_of, fault_text, counts_of}

-- `true` or `false`
abbrev pub truth_text : Bool → List ℕ
truth_text truth = if truth then codes "true" else codes "false"

-- an item after a comma
abbrev pub next_item : {A : Type 0} → (A → List ℕ) → A → List ℕ
next_item text x = codes "," ++ text x

-- items separated by commas
abbrev pub items_text : {A : Type 0} → (A → List ℕ) → List A → List ℕ
items_text text [] = []
items_text text (x ∷ xs) = text x ++ flat_map (next_item text) xs

-- a list, which begins with these words
abbrev pub list_text : {A : Type 0} → List ℕ → (A → List ℕ) → List A → List ℕ
list_text words text xs = words ++ items_text text xs ++ codes "]"

-- the member on the entries that were skipped, if there are any
abbrev pub skipped_member : ℕ → List ℕ
skipped_member n = if n == 0 then [] else filled (codes ",\"skipped\":#") (decimal n ∷ [])

-- a transaction of a serial order
abbrev pub number_text : ℕ → List ℕ
number_text t = decimal (from_one t)

-- the kind of the reason of a step
abbrev pub ground_word : Option Ground → List ℕ
ground_word (Some (Observed (Seen append read))) = codes "seen"
ground_word (Some (Observed (Missed read append))) = codes "missed"
ground_word (Some (Observed (InOrder first second reader read))) = codes "in order"
ground_word (Some (Late first second reader read)) = codes "late"
ground_word (Some (Wait first second read append)) = codes "wait"
ground_word None = codes "real time"

-- a step of a cycle: both transactions, their entries, the kind of the reason, and the reason
abbrev pub step_object : Clients → Passage → List ℕ
step_object c s =
    filled (codes "{\"from\":#,\"to\":#,\"from_entry\":#,\"to_entry\":#,\"because\":\"#\",\"why\":\"#\"}")
    (decimal (from_one s.from) ∷ decimal (from_one s.to) ∷ decimal (entry_of c s.from) ∷ decimal (entry_of c s.to) ∷ ground_word s.why
    ∷ ground_text c s.from s.to s.why ∷ [])

-- a tie
abbrev pub tie_object : Clients → Tie → List ℕ
tie_object c tie = step_object c (passage_of tie)

-- the member that names the anomaly
abbrev pub anomaly_member : List ℕ → List ℕ
anomaly_member name = filled (codes ",\"anomaly\":\"#\"") (name ∷ [])

-- the member with a serial order
abbrev pub order_member : List ℕ → List ℕ
order_member order = list_text (codes ",\"order\":[") number_text order

-- the member with the steps or ties of a cycle
abbrev pub cycle_member : {A : Type 0} → (A → List ℕ) → List A → List ℕ
cycle_member text links = list_text (codes ",\"cycle\":[") text links

-- the members on a read: the reader, its entry, and what is wrong
abbrev pub reader_members : Clients → ℕ → List ℕ → List ℕ
reader_members c reader why =
    filled (codes ",\"reader\":#,\"entry\":#,\"why\":\"#\"") (decimal (from_one reader) ∷ decimal (entry_of c reader) ∷ why ∷ [])

-- the members of a finding: the serial order, or the anomaly with its cycle or its reader
abbrev pub finding_members : Clients → Finding → List ℕ
finding_members c (finding.Serial order) = order_member order.items
finding_members c (finding.Cycle steps name) = anomaly_member name.now ++ cycle_member (step_object c) steps.items
finding_members c (finding.Fault reader read fault name) = anomaly_member name.now ++ reader_members c reader (fault_text c reader read fault)

-- the beginning of the object, with the number of transactions, and how they ended
abbrev pub counts_head : Bool → List Transaction → List ℕ
counts_head strict h =
    filled (codes "{\"model\":\"list-append\",\"strict\":#,\"transactions\":#,\"committed\":#,\"aborted\":#,\"unknown\":#")
    (truth_text strict ∷ counts_of h)

-- the beginning of the object, up to the members of the finding
abbrev pub head_text : Bool → Clients → Finding → List ℕ
head_text strict c f = counts_head strict c.transactions.items ++ skipped_member c.skipped
    ++ filled (codes ",\"serializable\":#") (truth_text (is_order f) ∷ []) ++ finding_members c f
