-- How the entries of processes make transactions.
use Rattle.std.specs.Prelude.{◌≡◌, ◌+◌, ◌-◌, ◌^◌, ◌++◌, min, ℕ, zero, suc, Bool, true, false, cond, List, [], ◌∷◌, length, Option, Some, None}
use Rattle.std.specs.Ordering.{nat_cmp, is_eq}
use Rattle.std.specs.Global.{Vec}
use Rattle.sgt_appends.specs.declared.transaction.Operation.{Operation}
use Rattle.sgt_appends.specs.declared.transaction.Status.{Status}
use Rattle.sgt_appends.specs.declared.transaction.Status.TheVariants.{Committed, Aborted, Unknown}
use Rattle.sgt_appends.specs.declared.transaction.Transaction.{Transaction}
use Rattle.sgt_clients.specs.declared.clients.Event.{Event}
use Rattle.sgt_clients.specs.declared.clients.Event.TheVariants as event
use Rattle.sgt_clients.specs.declared.clients.Span.{Span}
use Rattle.sgt_clients.specs.declared.clients.Invocation.{Invocation}
use Rattle.sgt_clients.specs.declared.entry.Entry.{Entry}
use Rattle.sgt_clients.specs.declared.entry.Kind.{Kind}
use Rattle.sgt_clients.specs.declared.entry.Kind.TheVariants.{Invoked, Ended}

-- What has been read: the transactions in the order in which they began, when each ran, and the beginnings and known ends in
-- their order; the invocation of each process that has not ended its transaction; whether there was an invocation; how many
-- entries there were; and how many of them were skipped, since they are of no transaction.
pub record Past : Type 0 where
  pub transactions : List Transaction
  pub spans : List Span
  pub events : List Event
  pub active : ℕ → Option Invocation
  pub invoked : Bool
  pub entries : ℕ
  pub skipped : ℕ

-- nothing has been read
abbrev pub nothing : Past
nothing = record {
  transactions = [];
  spans = [];
  events = [];
  active = λ process. None;
  invoked = false;
  entries = 0;
  skipped = 0;
}

-- one more entry
abbrev pub counted : Past → Past
counted p = record p { entries = p.entries + 1 }

-- the entry is skipped; at most 2^64 - 1 are counted
abbrev pub with_skipped : Past → Past
with_skipped p = record p { skipped = min (p.skipped + 1) (2 ^ 64 - 1) }

-- the list with the item at an index changed, if there is one
abbrev pub changed : {A : Type 0} → (A → A) → List A → ℕ → List A
changed f [] i = []
changed f (x ∷ xs) zero = f x ∷ xs
changed f (x ∷ xs) (suc i) = x ∷ changed f xs i

-- a transaction begins at this entry, with this status and these operations; its end is not known as yet
abbrev pub begun : Status → Vec Operation → Past → Past
begun status operations p = record p {
  transactions = p.transactions ++ record { status = status; operations = operations } ∷ [];
  spans = p.spans ++ record { began = p.entries; ended = None } ∷ [];
  events = p.events ++ event.Began (length p.transactions) ∷ [];
}

-- the span, with its end at this entry
abbrev pub ends_at : ℕ → Span → Span
ends_at entry s = record { began = s.began; ended = Some entry }

-- transaction t ends at this entry
abbrev pub ended_here : ℕ → Past → Past
ended_here t p = record p { spans = changed (ends_at p.entries) p.spans t; events = p.events ++ event.Ended t ∷ [] }

-- transaction t ends at this entry, unless its end is unknown
abbrev pub ended : Status → ℕ → Past → Past
ended Committed t p = ended_here t p
ended Aborted t p = ended_here t p
ended Unknown t p = p

-- whether it is the same process
abbrev pub is_same : ℕ → ℕ → Bool
is_same process q = is_eq (nat_cmp process q)

-- the process has invoked a transaction
abbrev pub with_active : ℕ → Invocation → Past → Past
with_active process i p = record p { active = λ q. cond (is_same process q) (Some i) (p.active q); invoked = true }

-- the process has no invocation
abbrev pub without_active : ℕ → Past → Past
without_active process p = record p { active = λ q. cond (is_same process q) None (p.active q) }

-- A transaction after its answer. If it committed, its operations are those of its answer, and else those that were invoked.
abbrev pub answered : Status → Entry → Transaction → Transaction
answered Committed e t = record { status = Committed; operations = e.operations }
answered Aborted e t = record { status = Aborted; operations = t.operations }
answered Unknown e t = record { status = Unknown; operations = t.operations }

-- transaction t has its answer
abbrev pub with_answer : Status → Entry → ℕ → Past → Past
with_answer status e t p = record p { transactions = changed (answered status e) p.transactions t }

-- A process invokes a transaction. Its end is unknown, unless a later entry of the process reports it.
abbrev pub invoked : Entry → Past → Past
invoked e p =
    with_active e.process (record { transaction = length p.transactions; accesses = e.accesses }) (begun Unknown e.operations p)

-- a process ends its active transaction; if it has none, a transaction begins and ends at this entry
abbrev pub ended_by : Option Invocation → Status → Entry → Past → Past
ended_by (Some i) status e p = ended status i.transaction (with_answer status e i.transaction (without_active e.process p))
ended_by None status e p = ended status (length p.transactions) (begun status e.operations p)

-- what an entry of the kind does
abbrev pub with_kind : Kind → Entry → Past → Past
with_kind Invoked e p = invoked e p
with_kind (Ended status) e p = ended_by (p.active e.process) status e p

-- what an entry that is counted does; one of no transaction is skipped
abbrev pub with_counted : Past → Option Entry → Past
with_counted p None = with_skipped p
with_counted p (Some e) = with_kind e.kind e p

-- one more entry has been read
abbrev pub with_entry : Past → Option Entry → Past
with_entry p e = with_counted (counted p) e

-- these entries have been read
abbrev pub with_entries : Past → List (Option Entry) → Past
with_entries p [] = p
with_entries p (e ∷ es) = with_entries (with_entry p e) es

-- the end of a transaction, if it lists accesses, lists those of its invocation
abbrev pub Answers : Entry → Invocation → Type 0
Answers e i = e.listed ≡ true → e.accesses.items ≡ i.accesses.items

-- who invokes a transaction has none active, and who ends one that was invoked answers its invocation
abbrev pub IsInTurnAs : Kind → Option Invocation → Entry → Type 0
IsInTurnAs Invoked active e = active ≡ None
IsInTurnAs (Ended status) None e = Unit {0}
IsInTurnAs (Ended status) (Some i) e = Answers e i

-- the same of an entry, or of none
abbrev pub IsInTurn : Past → Option Entry → Type 0
IsInTurn p None = Unit {0}
IsInTurn p (Some e) = IsInTurnAs e.kind (p.active e.process) e

-- the same of all these entries
abbrev pub AreInTurn : Past → List (Option Entry) → Type 0
AreInTurn p [] = Unit {0}
AreInTurn p (e ∷ es) = IsInTurn p e × AreInTurn (with_entry p e) es
