-- Strictness, one operation further.
use Rattle.std.proofs.Common.{◌≡◌, ◌≢◌, ◌+◌, ◌⊎◌, ℕ, List, Option, Some, None, IsSome, refl, sym, ap, ◌∙◌, subst, inl, inr, arith}
use Rattle.std.specs.Prelude.{slice_get}
use Rattle.std.proofs.lemmas.Bool.{cases_eq, cases_lt}
use Rattle.std.proofs.lemmas.Grind.{common_steps}
use Rattle.sgt_classes.specs.declared.operation.Operation.{Operation}
use Rattle.sgt_classes.specs.declared.operation.Action.{Action}
use Rattle.sgt_classes.specs.declared.operation.Action.TheVariants.{Write, Commit, Abort}
use Rattle.sgt_classes.specs.Histories.{Does, Uses, Ends, EndedBefore, item_of}
use Rattle.sgt_classes.specs.Classes.{BreaksStrictness}
use Rattle.sgt_classes.specs.Seen.{IsLastWrite, AreLastWrites, AreEnded, NoneBreaksBefore}
use Rattle.sgt_classes.proofs.Places.{does_same, uses_item, item_uses, before_next, ended_later, one_ender}

-- an operation that uses no item
pub strict_no_item : (h : List Operation) (p : ℕ) (op : Operation) → slice_get h p ≡ Some op → item_of op.action ≡ None
    → (i : ℕ) → ¬ BreaksStrictness h i p
strict_no_item h p op at none i broken =
    let used = uses_item h p op broken.user broken.item at broken.used in grind (arith, common_steps, none, used.1)

-- an operation on an item that no transaction has written
pub strict_no_write : (h : List Operation) (p : ℕ) (op : Operation) (x : ℕ) → slice_get h p ≡ Some op → item_of op.action ≡ Some x
    → IsLastWrite h p x None → (i : ℕ) → ¬ BreaksStrictness h i p
strict_no_write h p op x at item last i broken =
    let used = uses_item h p op broken.user broken.item at broken.used in
    let same : broken.item ≡ x = grind (arith, common_steps, item, used.1) in
    last i broken.writer broken.earlier (subst (λ y. Does h i broken.writer (Write y)) same broken.written)

-- an operation on an item whose last writer is the same transaction, or has ended
pub strict_ended : (h : List Operation) (p i : ℕ) (op w : Operation) (x : ℕ) → slice_get h p ≡ Some op → item_of op.action ≡ Some x
    → slice_get h i ≡ Some w → IsLastWrite h p x (Some i) → (w.transaction ≡ op.transaction) ⊎ EndedBefore h w.transaction p
    → NoneBreaksBefore (BreaksStrictness h) p → (k : ℕ) → ¬ BreaksStrictness h k p
strict_ended h p i op w x at item at_i last fine before = go
  where
    allowed : (u : ℕ) → u ≢ op.transaction → ¬ EndedBefore h u p → w.transaction ≢ u
    allowed u differ active same = elim fine [
      | inl mine ↦ differ (sym same ∙ mine)
      | inr ended ↦ active (subst (λ t. EndedBefore h t p) same ended)
    ]

    writes : (t : ℕ) → Does h i t (Write x) → (w.transaction ≡ t) × (item_of w.action ≡ Some x)
    writes t does = uses_item h i w t x at_i (inr does)

    go : (k : ℕ) → ¬ BreaksStrictness h k p
    go k broken =
        let used = uses_item h p op broken.user broken.item at broken.used in
        let same : broken.item ≡ x = grind (arith, common_steps, item, used.1) in
        let written : Does h k broken.writer (Write x) = subst (λ y. Does h k broken.writer (Write y)) same broken.written in
        let differ : broken.writer ≢ op.transaction = (λ e. broken.differ (e ∙ used.0)) in
        let other : w.transaction ≢ broken.writer = allowed broken.writer differ broken.active in
        elim (cases_lt i k) [
          | inl after ↦ last.2 k broken.writer after broken.earlier written
          | inr most ↦ elim (cases_eq k i) [
            | inl here ↦ other (writes broken.writer (subst (λ n. Does h n broken.writer (Write x)) here written)).0
            | inr apart ↦ before k i last.0 record {
              item = x;
              writer = broken.writer;
              user = w.transaction;
              differ = λ e. other (sym e);
              earlier = omega (arith, most, apart);
              written = written;
              used = subst (λ t. Uses h i t x) (sym (writes last.1.0 last.1.1).0) (inr last.1.1);
              active = λ ended. broken.active (ended_later h broken.writer i p last.0 ended);
            }
          ]
        ]

-- an operation on an item whose last writer is another transaction that has not ended
pub strict_broken : (h : List Operation) (p i : ℕ) (op w : Operation) (x : ℕ) → slice_get h p ≡ Some op → item_of op.action ≡ Some x
    → slice_get h i ≡ Some w → IsLastWrite h p x (Some i) → w.transaction ≢ op.transaction → ¬ EndedBefore h w.transaction p
    → BreaksStrictness h i p
strict_broken h p i op w x at item at_i last differ active = record {
  item = x;
  writer = w.transaction;
  user = op.transaction;
  differ = differ;
  earlier = last.0;
  written = subst (λ t. Does h i t (Write x)) (sym (uses_item h i w last.1.0 x at_i (inr last.1.1)).0) last.1.1;
  used = item_uses h p op.transaction x op.action item at;
  active = active;
}

-- the last write stays where the operation writes something else
last_kept : (h : List Operation) (p x : ℕ) (o : Option ℕ) → ((t : ℕ) → ¬ Does h p t (Write x)) → IsLastWrite h p x o
    → IsLastWrite h (p + 1) x o
last_kept h p x None not_here none = λ k u before at. elim (before_next k p before) [
  | inl earlier ↦ none k u earlier at
  | inr e ↦ not_here u (subst (λ n. Does h n u (Write x)) e at)
]
last_kept h p x (Some i) not_here is = (
  omega (arith, is.0),
  is.1,
  λ k u after before at. elim (before_next k p before) [
    | inl earlier ↦ is.2 k u after earlier at
    | inr e ↦ not_here u (subst (λ n. Does h n u (Write x)) e at)
  ],
)

-- what is noted of a write
pub write_noted : (h : List Operation) (p t x : ℕ) (f g : ℕ → Option ℕ) → Does h p t (Write x) → AreLastWrites h p f
    → g x ≡ Some p → ((y : ℕ) → y ≢ x → g y ≡ f y) → AreLastWrites h (p + 1) g
write_noted h p t x f g does last here others y = elim (cases_eq y x) [
  | inl same ↦ subst (λ z. IsLastWrite h (p + 1) z (g z)) (sym same)
      (subst (λ o. IsLastWrite h (p + 1) x o) (sym here) (omega arith, (t, does), λ k u after before at. omega (arith, after, before)))
  | inr differ ↦ subst (λ o. IsLastWrite h (p + 1) y o) (sym (others y differ))
      (last_kept h p y (f y) (λ u written. differ (grind (arith, common_steps, does_same h p _ u (Write y) does written))) (last y))
]

-- the last writes stay where the operation is no write
pub no_write_noted : (h : List Operation) (p t : ℕ) (a : Action) (f : ℕ → Option ℕ) → Does h p t a → ((x : ℕ) → a ≢ Write x)
    → AreLastWrites h p f → AreLastWrites h (p + 1) f
no_write_noted h p t a f does other last y =
    last_kept h p y (f y) (λ u written. other y (ap (λ (o : Operation). o.action) (does_same h p _ u (Write y) does written))) (last y)

-- what is noted of an end
pub end_noted : (h : List Operation) (p t : ℕ) (f g : ℕ → Option ℕ) → Ends h p t → AreEnded h p f
    → g t ≡ Some p → ((u : ℕ) → u ≢ t → g u ≡ f u) → AreEnded h (p + 1) g
end_noted h p t f g ends before here others u = elim (cases_eq u t) [
  | inl same ↦ (
    λ is. (p, omega arith, subst (λ v. Ends h p v) (sym same) ends),
    λ ended. subst (λ v. IsSome (g v)) (sym same) (subst (λ o. IsSome o) (sym here) refl),
  )
  | inr differ ↦ (
    λ is. ended_later h u p (p + 1) (omega arith) ((before u).0 (subst (λ o. IsSome o) (others u differ) is)),
    λ ended. subst (λ o. IsSome o) (sym (others u differ)) ((before u).1 (earlier u differ ended)),
  )
]
  where
    at_one : (u : ℕ) → Ends h p u → u ≡ t
    at_one u = one_ender h p u t ends

    earlier : (u : ℕ) → u ≢ t → EndedBefore h u (p + 1) → EndedBefore h u p
    earlier u differ ended = elim (before_next ended.0 p ended.1) [
      | inl less ↦ (ended.0, less, ended.2)
      | inr e ↦ absurd (differ (at_one u (subst (λ n. Ends h n u) e ended.2)))
    ]

-- who has ended stays where the operation ends nothing
pub no_end_noted : (h : List Operation) (p t : ℕ) (a : Action) (f : ℕ → Option ℕ) → Does h p t a → a ≢ Commit → a ≢ Abort
    → AreEnded h p f → AreEnded h (p + 1) f
no_end_noted h p t a f does going standing before u = (
  λ is. ended_later h u p (p + 1) (omega arith) ((before u).0 is),
  λ ended. (before u).1 (elim (before_next ended.0 p ended.1) [
    | inl less ↦ (ended.0, less, ended.2)
    | inr e ↦ absurd (not_here (subst (λ n. Ends h n u) e ended.2))
  ]),
)
  where
    not_here : Ends h p u → ⊥
    not_here (inl commits) = going (ap (λ (o : Operation). o.action) (does_same h p _ u Commit does commits))
    not_here (inr aborts) = standing (ap (λ (o : Operation). o.action) (does_same h p _ u Abort does aborts))

-- the last writes stay where a transaction ends
pub end_writes_noted : (h : List Operation) (p t : ℕ) (f : ℕ → Option ℕ) → Ends h p t → AreLastWrites h p f → AreLastWrites h (p + 1) f
end_writes_noted h p t f (inl does) = no_write_noted h p t Commit f does (λ x e. grind (arith, common_steps, e))
end_writes_noted h p t f (inr does) = no_write_noted h p t Abort f does (λ x e. grind (arith, common_steps, e))
