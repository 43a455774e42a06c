-- Why a fault of a read leaves no serial run.
use Rattle.std.proofs.Common.{◌<◌, ℕ, List, [], ◌∷◌, sym, ap, subst, inl, inr, arith}
use Rattle.sgt_appends.specs.declared.transaction.Transaction.{Transaction}
use Rattle.sgt_appends.specs.declared.transaction.Status.TheVariants.{Committed}
use Rattle.sgt_appends.specs.Lists.{Has, IsOnce, StandsBefore}
use Rattle.sgt_appends.specs.Runs.{nothing, operations_of, Ended, IsSerialRun, IsSerializable}
use Rattle.sgt_appends.specs.Precedences.{appended, Reads, AppendsOnce}
use Rattle.sgt_appends.specs.Guides.{appended_by}
use Rattle.sgt_appends.specs.Faults.{IsFault}
use Rattle.sgt_appends.proofs.Words.{Has-append_left, Has-append_cases, StandsBefore-back, StandsBefore-front, IsOnce-append, IsOnce-front, not_both, StandsBefore-has}
use Rattle.sgt_appends.proofs.Running.{has_appended}
use Rattle.sgt_appends.proofs.Prefixes.{comparable}
use Rattle.sgt_appends.proofs.Orders.{IsReadIn, read_in, place_of}

-- transactions that are named once each append no value twice
pub appended_once : (h : List Transaction) (k : ℕ) (ts : List ℕ) → AppendsOnce h → IsOnce ts → IsOnce (appended_by h k ts)
appended_once h k [] once named = tt
appended_once h k (t ∷ ts) once named =
    IsOnce-append (appended k (operations_of h t)) (appended_by h k ts) (once.once t k) (appended_once h k ts once named.1)
    (λ value mine there.
    let who = has_appended h k ts value there in
    named.0 (subst (λ u. Has ts u) (once.by_one who.0 t k value who.2 mine) who.1))

-- the values of one of the transactions are in its order
pub in_its_order : (h : List Transaction) (k : ℕ) (ts : List ℕ) (u first second : ℕ) → Has ts u
    → StandsBefore (appended k (operations_of h u)) first second → StandsBefore (appended_by h k ts) first second
in_its_order h k [] u first second has stand = absurd has
in_its_order h k (t ∷ ts) u first second (inl same) stand =
    StandsBefore-back (appended k (operations_of h t)) (appended_by h k ts) first second
    (subst (λ v. StandsBefore (appended k (operations_of h v)) first second) (sym same) stand)
in_its_order h k (t ∷ ts) u first second (inr later) stand =
    StandsBefore-front (appended k (operations_of h t)) (appended_by h k ts) first second
    (in_its_order h k ts u first second later stand)

no_fault : (h : List Transaction) (order : List ℕ) (t k : ℕ) (own seen : List ℕ) → AppendsOnce h → IsSerialRun h order
    → Ended h t Committed → IsReadIn h order [] t k own seen → ¬ IsFault h t k own seen
no_fault h order t k own seen once serial committed it fault = elim fault [
  | inl w ↦ elim (Has-append_cases (appended_by h k it.before) own w.0 (subst (λ xs. Has xs w.0) it.are w.1)) [
    | inl v ↦
        let who = has_appended h k it.before w.0 v in
        w.2 who.0 who.2 (serial.may_run who.0 (it.within who.0 who.1))
    | inr v ↦ w.2 t (it.own_are w.0 v) (inl committed)
  ]
  | inr others ↦ elim others [
    | inl w ↦ not_both seen w.0 w.0 seen_once w.1 w.1
    | inr more ↦ elim more [
      | inl w ↦
          let whole_once : IsOnce (appended_by h k order) = appended_once h k order once serial.once in
          let stand : StandsBefore (appended_by h k order) w.2 w.1 =
          subst (λ xs. StandsBefore xs w.2 w.1) (sym it.whole) (StandsBefore-back seen it.more w.2 w.1 w.4) in
          not_both (appended_by h k order) w.1 w.2 whole_once (in_its_order h k order w.0 w.1 w.2 (in_order w.0 w.1 w.2 w.3 w.4) w.3) stand
      | inr last ↦ elim last [
        | inl w ↦ w (appended_by h k it.before) it.are
        | inr rest ↦ elim rest [
          | inl w ↦ elim (Has-append_cases (appended_by h k it.before) own w.0 (subst (λ xs. Has xs w.0) it.are w.1)) [
            | inl v ↦
                let who = has_appended h k it.before w.0 v in
                let less : place_of order who.0 < place_of order t = it.earlier who.0 who.1 in
                omega (arith, less, ap (place_of order) (once.by_one who.0 t k w.0 who.2 w.2))
            | inr v ↦ w.3 v
          ]
          | inr w ↦
              let there = read_in h nothing order w.0 k w.2.1.0 w.1 serial.run (serial.committed w.0 w.2.0) w.2.1.1 in
              elim (comparable (appended_by h k order) seen it.more w.1 there.more it.whole there.whole) [
                | inl v ↦ w.3 v
                | inr v ↦ w.4 v
              ]
        ]
      ]
    ]
  ]
]
  where
    seen_once : IsOnce seen
    seen_once = IsOnce-front seen it.more (subst (λ xs. IsOnce xs) it.whole (appended_once h k order once serial.once))

    in_order : (u first second : ℕ) → StandsBefore (appended k (operations_of h u)) first second → StandsBefore seen second first
        → Has order u
    in_order u first second mine stand =
        let there : Has (appended_by h k order) second =
        subst (λ xs. Has xs second) (sym it.whole) (Has-append_left seen it.more second (StandsBefore-has seen second first stand).0) in
        let who = has_appended h k order second there in
        subst (λ v. Has order v)
        (once.by_one who.0 u k second who.2 (StandsBefore-has (appended k (operations_of h u)) first second mine).1) who.1

pub fault_enough : (h : List Transaction) (t k : ℕ) (own seen : List ℕ) → AppendsOnce h → Ended h t Committed
    → Reads h t k own seen → IsFault h t k own seen → ¬ IsSerializable h
fault_enough h t k own seen once committed reads fault run =
    no_fault h run.0 t k own seen once run.1 committed
    (read_in h nothing run.0 t k own seen run.1.run (run.1.committed t committed) reads) fault
