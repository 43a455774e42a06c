-- A read that sees what a list of other transactions has left has no fault.
use Rattle.std.proofs.Common.{◌≡◌, ℕ, List, ◌++◌, sym, ◌∙◌, subst, inl, inr}
use Rattle.sgt_appends.specs.declared.transaction.Transaction.{Transaction}
use Rattle.sgt_appends.specs.declared.transaction.Status.TheVariants.{Committed}
use Rattle.sgt_appends.specs.Lists.{Has, IsOnce, StandsBefore}
use Rattle.sgt_appends.specs.Runs.{operations_of, Ended, MayRun}
use Rattle.sgt_appends.specs.Precedences.{appended, Appends, AppendsOnce}
use Rattle.sgt_appends.specs.Guides.{appended_by}
use Rattle.sgt_appends.specs.Faults.{IsIncompatible, IsFault}
use Rattle.sgt_appends.proofs.Words.{Has-append_cases, stands_after, StandsBefore-back, StandsBefore-has, IsOnce-append, not_both}
use Rattle.sgt_appends.proofs.Running.{has_appended}
use Rattle.sgt_appends.proofs.Faulty.{appended_once, in_its_order}
use Rattle.sgt_levels.proofs.Times.{split_stands}
use Rattle.sgt_levels.proofs.Split.{IsSnapshotRead}

pub read_once : (h : List Transaction) (before : List ℕ) (t k : ℕ) (own seen : List ℕ) → AppendsOnce h → IsOnce before → ¬ Has before t
    → IsSnapshotRead h before t k own seen → IsOnce seen
read_once h before t k own seen once named not_t it =
    subst (λ xs. IsOnce xs) (sym it.are) (IsOnce-append (appended_by h k before) own (appended_once h k before once named) it.own_once
    (λ value there mine.
    let who = has_appended h k before value there in
    not_t (subst (λ u. Has before u) (once.by_one who.0 t k value who.2 (it.own_are value mine)) who.1)))

pub no_fault_over : (h : List Transaction) (before : List ℕ) (t k : ℕ) (own seen : List ℕ) → AppendsOnce h → Ended h t Committed
    → IsOnce before → ¬ Has before t → ((u : ℕ) → Has before u → MayRun h u) → IsSnapshotRead h before t k own seen
    → ¬ IsIncompatible h k seen → ¬ IsFault h t k own seen
no_fault_over h before t k own seen once committed named not_t may it compatible fault = elim fault [
  | inl w ↦ elim (Has-append_cases (appended_by h k before) own w.0 (subst (λ xs. Has xs w.0) it.are w.1)) [
    | inl v ↦
        let who = has_appended h k before w.0 v in
        w.2 who.0 who.2 (may who.0 who.1)
    | inr v ↦ w.2 t (it.own_are w.0 v) (inl committed)
  ]
  | inr others ↦ elim others [
    | inl w ↦ not_both seen w.0 w.0 seen_once w.1 w.1
    | inr more ↦ elim more [
      | inl w ↦ swapped w.0 w.1 w.2 w.3 w.4
      | inr last ↦ elim last [
        | inl w ↦ w (appended_by h k before) it.are
        | inr rest ↦ elim rest [
          | inl w ↦ elim (Has-append_cases (appended_by h k before) own w.0 (subst (λ xs. Has xs w.0) it.are w.1)) [
            | inl v ↦ not_mine w.0 v w.2
            | inr v ↦ w.3 v
          ]
          | inr w ↦ compatible w
        ]
      ]
    ]
  ]
]
  where
    seen_once : IsOnce seen
    seen_once = read_once h before t k own seen once named not_t it

    not_mine : (value : ℕ) → Has (appended_by h k before) value → ¬ Appends h t k value
    not_mine value there mine =
        let who = has_appended h k before value there in
        not_t (subst (λ u. Has before u) (once.by_one who.0 t k value who.2 mine) who.1)

    swapped : (u first second : ℕ) → StandsBefore (appended k (operations_of h u)) first second → ¬ StandsBefore seen second first
    swapped u first second mine stand =
        let both = StandsBefore-has (appended k (operations_of h u)) first second mine in
        elim (split_stands (appended_by h k before) own second first (subst (λ xs. StandsBefore xs second first) it.are stand)) [
          | inl w ↦
              let who = has_appended h k before second w in
              let there : Has before u = subst (λ v. Has before v) (once.by_one who.0 u k second who.2 both.1) who.1 in
              not_both seen second first seen_once stand (subst (λ xs. StandsBefore xs first second) (sym it.are)
              (StandsBefore-back (appended_by h k before) own first second (in_its_order h k before u first second there mine)))
          | inr w ↦
              let same : u ≡ t = once.by_one u t k first both.0 (it.own_are first w) in
              let not_there : ¬ Has (appended_by h k before) second = λ x.
              not_mine second x (subst (λ v. Appends h v k second) same both.1) in
              let rest = stands_after (appended_by h k before) own stand.0 stand.1 second (sym it.are ∙ stand.2) not_there in
              let turned : StandsBefore (own ++ it.more) second first =
              StandsBefore-back own it.more second first (rest.0, stand.1, rest.1, stand.3) in
              not_both (appended k (operations_of h t)) first second (once.once t k)
              (subst (λ v. StandsBefore (appended k (operations_of h v)) first second) same mine)
              (subst (λ xs. StandsBefore xs second first) (sym it.whole_is) turned)
        ]
