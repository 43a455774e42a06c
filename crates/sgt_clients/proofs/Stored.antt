-- What the reader stores, after each step.
use Rattle.std.proofs.Common.{◌≡◌, ◌<◌, ◌≤◌, ◌∙◌, ℕ, zero, suc, List, [], ◌∷◌, length, get_or, Option, Some, None, refl, sym, ap, subst, inl, inr, arith}
use Rattle.std.specs.Prelude.{◌⊎◌, slice_set, Result, Ok, Err, OnOk}
use Rattle.std.specs.BTreeMap.{get}
use Rattle.std.specs.Ordering.{nat_cmp}
use Rattle.sgt_appends.specs.declared.transaction.Status.{Status}
use Rattle.sgt_appends.specs.declared.transaction.Status.TheVariants.{Committed, Aborted, Unknown}
use Rattle.sgt_appends.specs.declared.transaction.Transaction.{Transaction}
use Rattle.sgt_clients.specs.declared.clients.ClientsReader.{ClientsReader}
use Rattle.sgt_clients.specs.declared.clients.Invocation.{Invocation}
use Rattle.sgt_clients.specs.declared.entry.Entry.{Entry}
use Rattle.sgt_clients.specs.Histories.{Past, counted, changed, begun, ended, without_active, answered, with_answer, ended_by, IsInTurn}
use Rattle.sgt_clients.specs.Reading.{Stores}

-- an item changed by a write
pub changed_set : {A : Type 0} (f : A → A) (xs : List A) (i : ℕ) (d : A) → i < length xs → slice_set xs i (f (get_or xs i d)) ≡ changed f xs i
changed_set f [] i d within = absurd (omega (arith, within))
changed_set f (x ∷ xs) zero d within = refl
changed_set f (x ∷ xs) (suc i) d within = ap (λ l. x ∷ l) (changed_set f xs i d (omega (arith, within)))

pub changed_past : {A : Type 0} (f : A → A) (xs : List A) (i : ℕ) → length xs ≤ i → xs ≡ changed f xs i
changed_past f [] i past = refl
changed_past f (x ∷ xs) zero past = absurd (omega (arith, past))
changed_past f (x ∷ xs) (suc i) past = ap (λ l. x ∷ l) (changed_past f xs i (omega (arith, past)))

-- the answer of a transaction that committed
pub answer_committed : (xs : List Transaction) (i : ℕ) (status : Status) (e : Entry) (d : Transaction) → i < length xs → status ≡ Committed
    → slice_set xs i (record { status = status; operations = e.operations }) ≡ changed (answered status e) xs i
answer_committed xs i status e d within is =
    subst (λ s. slice_set xs i (record { status = s; operations = e.operations }) ≡ changed (answered s e) xs i) (sym is)
    (changed_set (answered Committed e) xs i d within)

-- the answer of one that did not
pub answer_other : (xs : List Transaction) (i : ℕ) (status : Status) (e : Entry) (d : Transaction) → i < length xs
    → (status ≡ Aborted) ⊎ (status ≡ Unknown)
    → slice_set xs i (record { status = status; operations = (get_or xs i d).operations }) ≡ changed (answered status e) xs i
answer_other xs i status e d within is = elim is [
  | inl aborted ↦ subst (λ s. slice_set xs i (record { status = s; operations = (get_or xs i d).operations }) ≡ changed (answered s e) xs i)
      (sym aborted) (changed_set (answered Aborted e) xs i d within)
  | inr unknown ↦ subst (λ s. slice_set xs i (record { status = s; operations = (get_or xs i d).operations }) ≡ changed (answered s e) xs i)
      (sym unknown) (changed_set (answered Unknown e) xs i d within)
]

-- what is in turn after one more entry was counted was so before
pub uncounted : (p : Past) (e : Option Entry) → IsInTurn (counted p) e → IsInTurn p e
uncounted p None it = it
uncounted p (Some e) it = it

-- a process with an active transaction ended it
pub stores_some : (old new : ClientsReader) (status : Status) (e : Entry) (i : Invocation) (p : Past) → Stores old p
    → get nat_cmp old.active e.process ≡ Some i
    → Stores new (ended status i.transaction (with_answer status e i.transaction (without_active e.process p)))
    → Stores new (ended_by (p.active e.process) status e p)
stores_some old new status e i p was is it =
    subst (λ o. Stores new (ended_by o status e p)) (sym is ∙ was.active e.process) it

-- a process without one began and ended a transaction
pub stores_none : (old new : ClientsReader) (status : Status) (e : Entry) (p : Past) → Stores old p
    → get nat_cmp old.active e.process ≡ None → Stores new (ended status (length p.transactions) (begun status e.operations p))
    → Stores new (ended_by (p.active e.process) status e p)
stores_none old new status e p was is it =
    subst (λ o. Stores new (ended_by o status e p)) (sym is ∙ was.active e.process) it

-- what follows from a good end
pub on_ok : {T E : Type 0} (r : Result T E) (P Q : Type 0) → (P → Q) → OnOk r P → OnOk r Q
on_ok (Ok x) P Q f p = f p
on_ok (Err e) P Q f p = tt
