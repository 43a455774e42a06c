-- An order by ranks that rise along few edges is a serial run.
use Rattle.std.proofs.Common.{◌<◌, ℕ, List, [], ◌∷◌, subst, inl, inr, arith}
use Rattle.sgt_appends.specs.declared.transaction.Transaction.{Transaction}
use Rattle.sgt_appends.specs.Lists.{Has, StandsBefore, Rises}
use Rattle.sgt_appends.specs.Runs.{MayRun, IsSerialRun}
use Rattle.sgt_appends.specs.Precedences.{AppendsOnce, WasSeen, WereSeen, Precedes}
use Rattle.sgt_appends.specs.Orders.{UnknownOnlyAppend, AllClean}
use Rattle.sgt_appends.specs.Linear.{IsObserved, IsRaised, IsByRank}
use Rattle.sgt_appends.proofs.Words.{StandsBefore-cases, StandsBefore-has, stand_somehow}
use Rattle.sgt_appends.proofs.Guided.{rises_once}
use Rattle.sgt_appends.proofs.Along.{along_enough}
use Rattle.sgt_appends.proofs.Raised.{few_enough}

rises_stand : (rank : ℕ → ℕ) (xs : List ℕ) (x y : ℕ) → Rises rank xs → StandsBefore xs x y → rank x < rank y
rises_stand rank [] x y rises stand = absurd (StandsBefore-has [] x y stand).0
rises_stand rank (z ∷ xs) x y rises stand = elim (StandsBefore-cases z xs x y stand) [
  | inl w ↦ subst (λ v. rank v < rank y) w.0 (rises.0 y w.1)
  | inr w ↦ rises_stand rank xs x y rises.1 w
]

-- one whose value a committed transaction saw
pub seen_observed : (h : List Transaction) (t u : ℕ) → WasSeen h t u → IsObserved h t
seen_observed h t u w = (u, w.key, w.value, w.has_seen.1.0, w.seen, w.has_seen.0, w.has_seen.1.1, w.has, w.appends)

pub both_observed : (h : List Transaction) (t u : ℕ) → WereSeen h t u → IsObserved h t
both_observed h t u w =
    (w.reader, w.key, w.first, w.has_seen.1.0, w.seen, w.has_seen.0, w.has_seen.1.1, (StandsBefore-has w.seen w.first w.second w.before).0, w.appends_first)

pub raised_enough : (h : List Transaction) (order : List ℕ) (rank end : ℕ → ℕ) (line : ℕ → List ℕ) → AppendsOnce h
    → UnknownOnlyAppend h → AllClean h → IsRaised h order rank end line → IsByRank h order rank → IsSerialRun h order
raised_enough h order rank end line once unknown clean raised is = along_enough h order once unknown clean (record {
  once = rises_once rank order is.rises;
  committed = is.committed;
  may_run = is.may_run;
  along = along;
})
  where
    within : (t u : ℕ) → MayRun h t → Precedes h t u → Has order t
    within t u may precedes = elim precedes.1 [
      | inl w ↦ is.observed t may (seen_observed h t u w)
      | inr v ↦ elim v [
        | inl w ↦ is.committed t w.has_seen.0
        | inr w ↦ is.observed t may (both_observed h t u w)
      ]
    ]

    along : (t u : ℕ) → MayRun h t → Has order u → Precedes h t u → StandsBefore order t u
    along t u may has precedes =
        let less : rank t < rank u = few_enough h order rank end line once clean raised t u has precedes in
        elim (stand_somehow order t u (within t u may precedes) has precedes.0) [
          | inl w ↦ w
          | inr w ↦ absurd (omega (arith, less, rises_stand rank order u t is.rises w))
        ]
