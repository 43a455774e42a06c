-- The operation at a place, and what one more place adds.
use Rattle.std.proofs.Common.{◌≡◌, ◌<◌, ◌+◌, ◌⊎◌, ℕ, List, Some, ap, ◌∙◌, subst, inl, inr, arith}
use Rattle.std.specs.Prelude.{slice_get, slice_index_or, length}
use Rattle.std.proofs.lemmas.Option.{slice_get-get_or, slice_get_within}
use Rattle.std.proofs.lemmas.Bool.{cases_lt}
use Rattle.std.proofs.lemmas.Grind.{common_steps}
use Rattle.sgt_classes.specs.declared.operation.Operation.{Operation}
use Rattle.sgt_classes.specs.declared.operation.Action.{Action}
use Rattle.sgt_classes.specs.declared.operation.Action.TheVariants.{Read, Write, Commit, Abort}
use Rattle.sgt_classes.specs.Histories.{Does, Uses, Ends, EndedBefore, item_of}
use Rattle.sgt_classes.specs.Seen.{NoneBreaksBefore}

-- the operation at a place is one
pub does_same : (h : List Operation) (i : ℕ) (op : Operation) (t : ℕ) (a : Action) → slice_get h i ≡ Some op → Does h i t a
    → op ≡ record { transaction = t; action = a }
does_same h i op t a at does = grind (arith, common_steps, at, does)

-- what uses an item is of an action on it
pub uses_item : (h : List Operation) (i : ℕ) (op : Operation) (t x : ℕ) → slice_get h i ≡ Some op → Uses h i t x
    → (op.transaction ≡ t) × (item_of op.action ≡ Some x)
uses_item h i op t x at (inl does) =
    let same = does_same h i op t (Read x) at does in
    (ap (λ (o : Operation). o.transaction) same, ap (λ (o : Operation). item_of o.action) same)
uses_item h i op t x at (inr does) =
    let same = does_same h i op t (Write x) at does in
    (ap (λ (o : Operation). o.transaction) same, ap (λ (o : Operation). item_of o.action) same)

-- an action on an item uses it
pub item_uses : (h : List Operation) (i t x : ℕ) (a : Action) → item_of a ≡ Some x → Does h i t a → Uses h i t x
item_uses h i t x (Read y) same does = inl (grind (arith, common_steps, same, does))
item_uses h i t x (Write y) same does = inr (grind (arith, common_steps, same, does))
item_uses h i t x Commit same does = absurd (grind (arith, common_steps, same))
item_uses h i t x Abort same does = absurd (grind (arith, common_steps, same))

-- one place more is before, or here
pub before_next : (j p : ℕ) → j < p + 1 → (j < p) ⊎ (j ≡ p)
before_next j p h = elim (cases_lt j p) [
  | inl less ↦ inl less
  | inr least ↦ inr (omega (arith, h, least))
]

-- who has ended before a place has ended before the next
pub ended_later : (h : List Operation) (t i j : ℕ) → i < j → EndedBefore h t i → EndedBefore h t j
ended_later h t i j less ended = (ended.0, omega (arith, less, ended.1), ended.2)

-- an operation ends one transaction
pub one_ender : (h : List Operation) (i t u : ℕ) → Ends h i u → Ends h i t → t ≡ u
one_ender h i t u (inl a) (inl b) = grind (arith, common_steps, does_same h i _ t Commit a b)
one_ender h i t u (inl a) (inr b) = grind (arith, common_steps, does_same h i _ t Abort a b)
one_ender h i t u (inr a) (inl b) = grind (arith, common_steps, does_same h i _ t Commit a b)
one_ender h i t u (inr a) (inr b) = grind (arith, common_steps, does_same h i _ t Abort a b)

-- the operation at a place, as it is read, and who does it
abbrev pub operation_at : List Operation → ℕ → Operation
operation_at h i = slice_index_or h i (record { transaction = 0; action = Read 0 })

abbrev pub doer_at : List Operation → ℕ → ℕ
doer_at h i = (operation_at h i).transaction

-- it stands there within the history
pub there : (h : List Operation) (i : ℕ) → i < length h → slice_get h i ≡ Some (operation_at h i)
there h i within = slice_get-get_or h i _ within

-- what it does
pub does_at : (h : List Operation) (i : ℕ) (op : Operation) (a : Action) → slice_get h i ≡ Some op → op.action ≡ a
    → Does h i op.transaction a
does_at h i op a at same = at ∙ ap (λ (b : Action). Some (record { transaction = op.transaction; action = b })) same

-- what is done at a place within the history, and by no other transaction
pub done_at : (h : List Operation) (i : ℕ) (a : Action) → i < length h → (operation_at h i).action ≡ a → Does h i (doer_at h i) a
done_at h i a within same = does_at h i (operation_at h i) a (there h i within) same

pub done_by : (h : List Operation) (i t : ℕ) (a : Action) → i < length h → Does h i t a → doer_at h i ≡ t
done_by h i t a within does = ap (λ (o : Operation). o.transaction) (does_same h i (operation_at h i) t a (there h i within) does)

-- who uses an item does it within the history
pub uses_within : (h : List Operation) (i t x : ℕ) → Uses h i t x → i < length h
uses_within h i t x (inl does) = slice_get_within h i _ does
uses_within h i t x (inr does) = slice_get_within h i _ does

-- no violation before a position and at it
pub none_next : (Breaks : ℕ → ℕ → Type 0) (p : ℕ) → NoneBreaksBefore Breaks p → ((i : ℕ) → ¬ Breaks i p) → NoneBreaksBefore Breaks (p + 1)
none_next Breaks p before here i j less broken = elim (before_next j p less) [
  | inl earlier ↦ before i j earlier broken
  | inr same ↦ here i (subst (λ k. Breaks i k) same broken)
]

-- what ends its transaction
pub ends_at : (h : List Operation) (i : ℕ) (op : Operation) → slice_get h i ≡ Some op → (op.action ≡ Commit) ⊎ (op.action ≡ Abort)
    → Ends h i op.transaction
ends_at h i op at (inl same) = inl (does_at h i op Commit at same)
ends_at h i op at (inr same) = inr (does_at h i op Abort at same)
