-- The lines of a report on what clients saw.
use Rattle.std.specs.Prelude.{◌+◌, ◌-◌, ◌^◌, ◌++◌, ◌==◌, ◌||◌, ℕ, Bool, true, false, nat_lt, if◌then◌else◌, min, List, [], ◌∷◌, length, map, take, drop, Option, Some, None, option_and_then, slice_get, codes, count_by}
use Rattle.std.specs.Option.{option_map_or}
use Rattle.std.specs.List.{flat_map}
use Rattle.std.specs.Fmt.{decimal}
use Rattle.sgt_appends.specs.declared.transaction.Operation.{Operation}
use Rattle.sgt_appends.specs.declared.transaction.Operation.TheVariants.{Append, Read}
use Rattle.sgt_appends.specs.declared.transaction.Status.{Status}
use Rattle.sgt_appends.specs.declared.transaction.Status.TheVariants.{Committed, Aborted, Unknown}
use Rattle.sgt_appends.specs.declared.transaction.Transaction.{Transaction}
use Rattle.sgt_appends.specs.declared.fault.Fault.{Fault}
use Rattle.sgt_appends.specs.declared.fault.Fault.TheVariants as fault
use Rattle.sgt_appends.specs.declared.witness.Reason.{Reason}
use Rattle.sgt_appends.specs.declared.witness.Reason.TheVariants.{Seen, Missed, InOrder}
use Rattle.sgt_levels.specs.declared.tie.Ground.{Ground}
use Rattle.sgt_levels.specs.declared.tie.Ground.TheVariants.{Observed, Late, Wait}
use Rattle.sgt_levels.specs.declared.tie.Passage.{Passage}
use Rattle.sgt_levels.specs.declared.tie.Tie.{Tie}
use Rattle.sgt_levels.specs.declared.survey.Partial.{Partial}
use Rattle.sgt_levels.specs.declared.unseen.Unseen.{Unseen}
use Rattle.sgt_format.specs.Templates.{filled}
use Rattle.sgt_clients.specs.declared.clients.Clients.{Clients}
use Rattle.sgt_clients.specs.declared.clients.Span.{Span}
use Rattle.sgt_clients.specs.declared.evidence.Spoken.{Spoken}
use Rattle.sgt_clients.specs.declared.finding.Finding.{Finding}
use Rattle.sgt_clients.specs.declared.finding.Finding.TheVariants as finding
use Rattle.sgt_clients.specs.Evidence.{put_of, seen_of}
use Rattle.sgt_clients.specs.Values.{value_text}

-- an index, counted from 1; at most 2^64 - 1
abbrev pub from_one : ℕ → ℕ
from_one n = min (n + 1) (2 ^ 64 - 1)

-- a transaction: `t3`
abbrev pub transaction_text : ℕ → List ℕ
transaction_text t = codes "t" ++ decimal (from_one t)

-- the entry at which the span ended, or else the one at which it began
abbrev pub entry_of_span : Span → ℕ
entry_of_span s = option_map_or (λ entry. entry) s.ended s.began

-- the entry of transaction t
abbrev pub entry_of : Clients → ℕ → ℕ
entry_of c t = option_map_or entry_of_span (slice_get c.spans.items t) 0

-- a transaction and its entry: `t3 (line 7)`, or `t3 (entry 7)` if entries are not one a line
abbrev pub placed : Clients → ℕ → List ℕ
placed c t = transaction_text t ++ (if c.by_line then codes " (line " else codes " (entry ") ++ decimal (entry_of c t) ++ codes ")"

-- the text of a key
abbrev pub key_text : Clients → ℕ → List ℕ
key_text c k = option_map_or (λ text. text.items) (slice_get c.keys.items k) []

-- a value after a space
abbrev pub next_value : ℕ → List ℕ
next_value v = codes " " ++ value_text v

-- values separated by spaces
abbrev pub spaced : List ℕ → List ℕ
spaced [] = []
spaced (v ∷ vs) = value_text v ++ flat_map next_value vs

-- whether the value is spoken of
abbrev pub is_spoken : Spoken → ℕ → Bool
is_spoken s v = option_map_or (λ w. w == v) s.one false || option_map_or (λ w. w == v) s.other false

-- a value that is left out, unless it is spoken of; then there are two points after it
abbrev pub left_out_text : Spoken → ℕ → List ℕ
left_out_text s v = if is_spoken s v then next_value v ++ codes " .." else []

-- the values that are shown: of more than 16 only the last 16, after two points and those before that are spoken of
abbrev pub shown_text : Spoken → List ℕ → List ℕ
shown_text s vs =
    if nat_lt 16 (length vs)
    then codes ".." ++ flat_map (left_out_text s) (take (length vs - 16) vs) ++ flat_map next_value (drop (length vs - 16) vs)
    else spaced vs

-- the values in brackets
abbrev pub values_text : Spoken → List ℕ → List ℕ
values_text s vs = codes "[" ++ shown_text s vs ++ codes "]"

-- the operation at a position of a transaction, if there is one
abbrev pub operation_at : Clients → ℕ → ℕ → Option Operation
operation_at c t p = option_and_then (λ x. slice_get x.operations.items p) (slice_get c.transactions.items t)

-- the key and the values that a read saw, of which these are spoken of
abbrev pub seen_text : Clients → Spoken → ℕ × List ℕ → List ℕ
seen_text c s it = codes " read key " ++ key_text c it.0 ++ codes " as " ++ values_text s it.1

-- the same, if the operation is a read
abbrev pub read_text : Clients → Spoken → Option Operation → List ℕ
read_text c s o = option_map_or (seen_text c s) (seen_of o) []

-- the value of an append
abbrev pub value_of : Option Operation → Option ℕ
value_of (Some (Append k value)) = Some value
value_of (Some (Read k values)) = None
value_of None = None

-- one value is spoken of, or none
abbrev pub of_one : Option ℕ → Spoken
of_one value = record { one = value; other = None }

-- up to two values are spoken of
abbrev pub of_two : Option ℕ → Option ℕ → Spoken
of_two value next = record { one = value; other = next }

-- the values at the first position at which two lists differ, if there is one
abbrev pub parting : List ℕ → List ℕ → Spoken
parting [] ws = of_one None
parting (v ∷ vs) [] = of_one None
parting (v ∷ vs) (w ∷ ws) = if v == w then parting vs ws else of_two (Some v) (Some w)

-- what a read saw
abbrev pub values_of : Option Operation → List ℕ
values_of (Some (Read k values)) = values.items
values_of (Some (Append k value)) = []
values_of None = []

-- the values at the first position at which the read p of transaction t and the read q of transaction u differ, if there is one
abbrev pub parting_at : Clients → ℕ → ℕ → ℕ → ℕ → Spoken
parting_at c t p u q = parting (values_of (operation_at c t p)) (values_of (operation_at c u q))

-- the value of the append at a position of a transaction, if there is one
abbrev pub value_at : Clients → ℕ → ℕ → List ℕ
value_at c t p = option_map_or value_text (value_of (operation_at c t p)) []

-- the text of the key of the append at a position of a transaction, if there is one
abbrev pub key_at : Clients → ℕ → ℕ → List ℕ
key_at c t p = option_map_or (λ put. key_text c put.key) (put_of (operation_at c t p)) []

-- a transaction, and the read at a position of it
abbrev pub read_at : Clients → ℕ → ℕ → Spoken → List ℕ
read_at c t p s = transaction_text t ++ read_text c s (operation_at c t p)

-- the same with the entry of the transaction
abbrev pub placed_read : Clients → ℕ → ℕ → Spoken → List ℕ
placed_read c t p s = placed c t ++ read_text c s (operation_at c t p)

-- what was observed that puts transaction t before u
abbrev pub reason_text : Clients → ℕ → ℕ → Reason → List ℕ
reason_text c t u (Seen append read) =
    filled (codes "#, with #, which # appended")
    (read_at c u read (of_one (value_of (operation_at c t append))) ∷ value_at c t append ∷ transaction_text t ∷ [])
reason_text c t u (Missed read append) =
    filled (codes "#, without #, which # appended") (read_at c t read (of_one None) ∷ value_at c u append ∷ transaction_text u ∷ [])
reason_text c t u (InOrder first second reader read) =
    filled (codes "#, with # of # before # of #")
    (placed_read c reader read (of_two (value_of (operation_at c t first)) (value_of (operation_at c u second)))
    ∷ value_at c t first ∷ transaction_text t ∷ value_at c u second ∷ transaction_text u ∷ [])

-- why transaction t comes before u: by a ground, or without one by real time
abbrev pub ground_text : Clients → ℕ → ℕ → Option Ground → List ℕ
ground_text c t u (Some (Observed reason)) = reason_text c t u reason
ground_text c t u (Some (Late first second reader read)) =
    filled (codes "#, with # of # and without # of #")
    (placed_read c reader read (of_one (value_of (operation_at c t first))) ∷ value_at c t first ∷ transaction_text t ∷ value_at c u second
    ∷ transaction_text u ∷ [])
ground_text c t u (Some (Wait first second read append)) = reason_text c t u (Missed read append)
    ++ filled (codes ", and both append to key #") (key_at c t first ∷ [])
ground_text c t u None = filled (codes "# ended before # began") (transaction_text t ∷ transaction_text u ∷ [])

-- the line of a step: that one transaction comes before another, and why
abbrev pub step_text : Clients → Passage → List ℕ
step_text c s = filled (codes "  # before #: #\n") (placed c s.from ∷ placed c s.to ∷ ground_text c s.from s.to s.why ∷ [])

-- the step of a tie
abbrev pub passage_of : Tie → Passage
passage_of tie = record { from = tie.from; to = tie.to; why = Some tie.ground }

-- the line of a tie
abbrev pub tie_text : Clients → Tie → List ℕ
tie_text c tie = step_text c (passage_of tie)

-- a partial read: a value that was seen, and one of the same transaction that was not
abbrev pub partial_text : Clients → Partial → List ℕ
partial_text c p =
    filled (codes "#, with # and without #, both of #")
    (placed_read c p.reader p.read (of_one (value_of (operation_at c p.by p.seen))) ∷ value_at c p.by p.seen ∷ value_at c p.by p.missed
    ∷ placed c p.by ∷ [])

-- which read would show the order of two appends
abbrev pub unseen_text : Clients → Unseen → List ℕ
unseen_text c it =
    filled (codes "read key # at the end: it would show the order of # of # and # of #")
    (key_at c it.one it.first ∷ value_at c it.one it.first ∷ placed c it.one ∷ value_at c it.other it.second ∷ placed c it.other ∷ [])

-- the same in place of the mark of a template, if there are two such appends
abbrev pub unseen_in : List ℕ → Clients → Option Unseen → List ℕ
unseen_in template c unseen = option_map_or (λ it. filled template (unseen_text c it ∷ [])) unseen []

-- what is wrong with this read of the reader, of which these values are spoken of
abbrev pub wrong_text : Clients → ℕ → List ℕ → Spoken → Fault → List ℕ
wrong_text c reader seen s (fault.Unwritten value) =
    filled (codes "#, but no transaction that may have committed appends #") (seen ∷ value_text value ∷ [])
wrong_text c reader seen s (fault.Aborted by append) =
    filled (codes "#, with # of #, which aborted") (seen ∷ value_at c by append ∷ placed c by ∷ [])
wrong_text c reader seen s (fault.Twice value) = filled (codes "#, with a value twice: #") (seen ∷ value_text value ∷ [])
wrong_text c reader seen s fault.EndsOtherwise =
    filled (codes "#, which does not end with what # had appended") (seen ∷ transaction_text reader ∷ [])
wrong_text c reader seen s (fault.Ahead append) =
    filled (codes "#, with #, which # appended only later") (seen ∷ value_at c reader append ∷ transaction_text reader ∷ [])
wrong_text c reader seen s (fault.Swapped by first second) =
    filled (codes "#, with # before #, but # appended # first")
    (seen ∷ value_at c by second ∷ value_at c by first ∷ placed c by ∷ value_at c by first ∷ [])
wrong_text c reader seen s (fault.Incompatible other read) = filled (codes "#, but #") (seen ∷ placed_read c other read s ∷ [])

-- the values that a fault speaks of
abbrev pub spoken_of : Clients → ℕ → ℕ → Fault → Spoken
spoken_of c reader position (fault.Unwritten value) = of_one (Some value)
spoken_of c reader position (fault.Aborted by append) = of_one (value_of (operation_at c by append))
spoken_of c reader position (fault.Twice value) = of_one (Some value)
spoken_of c reader position fault.EndsOtherwise = of_one None
spoken_of c reader position (fault.Ahead append) = of_one (value_of (operation_at c reader append))
spoken_of c reader position (fault.Swapped by first second) = of_two (value_of (operation_at c by first)) (value_of (operation_at c by second))
spoken_of c reader position (fault.Incompatible other read) = parting_at c reader position other read

-- a read of which these values are spoken of, and what is wrong with it
abbrev pub faulty_text : Clients → ℕ → ℕ → Spoken → Fault → List ℕ
faulty_text c reader read s fault = wrong_text c reader (placed_read c reader read s) s fault

-- a read, and what is wrong with it
abbrev pub fault_text : Clients → ℕ → ℕ → Fault → List ℕ
fault_text c reader read fault = faulty_text c reader read (spoken_of c reader read fault) fault

-- whether the status is this one
abbrev pub is_status : Status → Status → Bool
is_status Committed Committed = true
is_status Aborted Aborted = true
is_status Unknown Unknown = true
is_status one other = false

-- whether the transaction has the status
abbrev pub has_status : Status → Transaction → Bool
has_status status t = is_status status t.status

-- how many transactions there are, and how many committed, aborted or have an unknown end
abbrev pub counts_of : List Transaction → List (List ℕ)
counts_of h = map decimal (length h ∷ count_by (has_status Committed) h ∷ count_by (has_status Aborted) h ∷ count_by (has_status Unknown) h ∷ [])

-- the same in a line
abbrev pub counts_text : List Transaction → List ℕ
counts_text h = filled (codes "transactions #: # committed, # aborted, # unknown\n") (counts_of h)

-- the line on the entries that were skipped, if there are any
abbrev pub skipped_text : ℕ → List ℕ
skipped_text n =
    if n == 0 then []
    else if n == 1 then codes "1 entry skipped: no transaction\n"
    else filled (codes "# entries skipped: no transactions\n") (decimal n ∷ [])

-- a transaction of an order, after a space
abbrev pub next_text : ℕ → List ℕ
next_text t = codes " " ++ transaction_text t

-- how many transactions an order has, of which the first ones stand before
abbrev pub rest_text : ℕ → List ℕ
rest_text n = filled (codes " .. of # (--json has the order)") (decimal n ∷ [])

-- the transactions of an order; of more than 100 the first 100, and how many there are
abbrev pub shown_order : List ℕ → List ℕ
shown_order order =
    if nat_lt 100 (length order) then flat_map next_text (take 100 order) ++ rest_text (length order)
    else flat_map next_text order

-- a serial order, `none` if it has no transaction
abbrev pub order_text : List ℕ → List ℕ
order_text [] = codes " none"
order_text (t ∷ ts) = shown_order (t ∷ ts)

-- the line of a read, and what is wrong with it
abbrev pub fault_line : Clients → ℕ → ℕ → Fault → List ℕ
fault_line c reader read fault = filled (codes "  #\n") (fault_text c reader read fault ∷ [])

-- the line of a partial read
abbrev pub partial_line : Clients → Partial → List ℕ
partial_line c p = filled (codes "  #\n") (partial_text c p ∷ [])

-- the line that names the anomaly, by a template, and the lines of the cycle or the read; nothing of an order
abbrev pub witness_text : List ℕ → Clients → Finding → List ℕ
witness_text template c (finding.Serial order) = []
witness_text template c (finding.Cycle steps name) = filled template (name.now ∷ []) ++ flat_map (step_text c) steps.items
witness_text template c (finding.Fault reader read fault name) = filled template (name.now ∷ []) ++ fault_line c reader read fault

-- the lines of a finding
abbrev pub finding_text : Clients → Finding → List ℕ
finding_text c (finding.Serial order) = codes "serializable yes:" ++ order_text order.items ++ codes "\n"
finding_text c f = witness_text (codes "serializable no: #\n") c f

-- the lines of the verdict
abbrev pub verdict_text : Bool → Clients → Finding → List ℕ
verdict_text strict c f = counts_text c.transactions.items ++ skipped_text c.skipped ++ (if strict then codes "strictly " else []) ++ finding_text c f
