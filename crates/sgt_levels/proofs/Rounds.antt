-- Cycles of edges with their reasons leave no run of the level.
use Rattle.std.proofs.Common.{◌≡◌, ◌≢◌, ◌<◌, ◌≤◌, ◌+◌, ℕ, suc, Bool, true, false, cond, List, [], ◌∷◌, refl, sym, ap, ◌∙◌, subst, inl, inr, arith}
use Rattle.std.proofs.lemmas.Bool.{true≢false, false≢true}
use Rattle.sgt_appends.specs.declared.witness.Edge.{Edge}
use Rattle.sgt_appends.specs.declared.witness.Reason.{Reason}
use Rattle.sgt_appends.specs.declared.witness.Reason.TheVariants.{Seen, Missed, InOrder}
use Rattle.sgt_appends.specs.declared.transaction.Transaction.{Transaction}
use Rattle.sgt_appends.specs.Lists.{Has}
use Rattle.sgt_appends.specs.Precedences.{AppendsOnce}
use Rattle.sgt_appends.specs.Witnesses.{IsShown, EdgeIsShown, AreShown, EdgesLead, IsEdgeCycle}
use Rattle.sgt_appends.proofs.Loops.{shown_seen, shown_missed, shown_in_order}
use Rattle.sgt_appends.proofs.Orders.{place_of}
use Rattle.sgt_levels.specs.Snapshots.{IsSnapshotRun, IsSnapshotIsolated}
use Rattle.sgt_levels.specs.Levels.{Follows, Misses}
use Rattle.sgt_levels.specs.Commits.{IsCommittedRun, IsReadCommitted}
use Rattle.sgt_levels.specs.Rounds.{is_miss, AreSpaced, ends_with_miss, IsSpacedCycle, HasNoMiss}
use Rattle.sgt_levels.proofs.Split.{follows_first, misses_first, follows_in}
use Rattle.sgt_levels.proofs.Commits.{committed_follows, place_less, follows_in as committed_in}

-- what an edge shows
edge_follows : (h : List Transaction) (from to : ℕ) (reason : Reason) → from ≢ to → IsShown h from to reason → is_miss reason ≡ false
    → Follows h from to
edge_follows h from to (Seen append read) differ shown no_miss = (differ, inl (shown_seen h from to append read shown))
edge_follows h from to (Missed read append) differ shown no_miss = absurd (true≢false no_miss)
edge_follows h from to (InOrder first second reader read) differ shown no_miss =
    (differ, inr (inl (shown_in_order h from to first second reader read shown)))

edge_misses : (h : List Transaction) (from to : ℕ) (reason : Reason) → from ≢ to → IsShown h from to reason → is_miss reason ≡ true
    → Misses h from to
edge_misses h from to (Seen append read) differ shown miss = absurd (false≢true miss)
edge_misses h from to (Missed read append) differ shown miss = (differ, shown_missed h from to read append shown)
edge_misses h from to (InOrder first second reader read) differ shown miss = absurd (false≢true miss)

-- the time at which an edge arrives: after a miss that of the commit, else that of the begin
abbrev time_of : (ℕ → ℕ) → (ℕ → ℕ) → Bool → ℕ → ℕ
time_of begin commit b t = cond b (suc (commit t + commit t)) (begin t + begin t)

module _ (h : List Transaction) (order : List ℕ) (begin commit : ℕ → ℕ) (once : AppendsOnce h) (run : IsSnapshotRun h order begin commit) where
  edge_in : (e : Edge) → EdgeIsShown h e → Has order e.from
  edge_in e shown = go (is_miss e.reason) refl
    where
      go : (b : Bool) → is_miss e.reason ≡ b → Has order e.from
      go true is = run.committed e.from (edge_misses h e.from e.to e.reason shown.0 shown.1 is).1.has_seen.0
      go false is = follows_in h order begin commit e.from e.to once run (edge_follows h e.from e.to e.reason shown.0 shown.1 is)

  start_in : (a : ℕ) (es : List Edge) (z : ℕ) → EdgesLead a es z → AreShown h es → Has order z → Has order a
  start_in a [] z lead shown has = subst (λ x. Has order x) (sym lead) has
  start_in a (e ∷ es) z lead shown has = subst (λ x. Has order x) lead.0 (edge_in e shown.0)

  edge_time : (b : Bool) (e : Edge) → EdgeIsShown h e → Has order e.to → (b ≡ true → is_miss e.reason ≡ false)
      → time_of begin commit b e.from < time_of begin commit (is_miss e.reason) e.to
  edge_time b e shown has spaced = go (is_miss e.reason) refl b spaced
    where
      go : (m : Bool) → is_miss e.reason ≡ m → (b : Bool) → (b ≡ true → is_miss e.reason ≡ false)
          → time_of begin commit b e.from < time_of begin commit m e.to
      go true is true spaced = absurd (false≢true (sym (spaced refl) ∙ is))
      go true is false spaced =
          omega (arith, misses_first h order begin commit e.from e.to once run has (edge_misses h e.from e.to e.reason shown.0 shown.1 is))
      go false is true spaced =
          omega (arith, follows_first h order begin commit e.from e.to once run has (edge_follows h e.from e.to e.reason shown.0 shown.1 is))
      go false is false spaced =
          omega (
            arith,
            run.begins e.from (edge_in e shown),
            follows_first h order begin commit e.from e.to once run has (edge_follows h e.from e.to e.reason shown.0 shown.1 is),
          )

  path : (b : Bool) (a : ℕ) (es : List Edge) (z : ℕ) → EdgesLead a es z → AreShown h es → AreSpaced b es → Has order z
      → time_of begin commit b a ≤ time_of begin commit (ends_with_miss b es) z
  path b a [] z lead shown spaced has = omega (arith, ap (time_of begin commit b) lead)
  path b a (e ∷ es) z lead shown spaced has =
      omega (
        arith,
        ap (time_of begin commit b) lead.0,
        edge_time b e shown.0 (start_in e.to es z lead.1 shown.1 has) spaced.0,
        path (is_miss e.reason) e.to es z lead.1 shown.1 spaced.1 has,
      )

  no_round : (edges : List Edge) → IsEdgeCycle h edges → ¬ IsSpacedCycle edges
  no_round edges cycle spaced = go edges cycle.some cycle.leads cycle.shown spaced
    where
      go : (es : List Edge) → es ≢ [] → EdgesLead cycle.start es cycle.start → AreShown h es → ¬ IsSpacedCycle es
      go [] some lead shown spaced = some refl
      go (e ∷ es) some lead shown spaced =
          let has : Has order cycle.start = start_in cycle.start (e ∷ es) cycle.start lead shown
          (subst (λ x. Has order x) lead.0 (edge_in e shown.0)) in
          omega (
            arith,
            ap (time_of begin commit (ends_with_miss (is_miss e.reason) es)) lead.0,
            edge_time (ends_with_miss (is_miss e.reason) es) e shown.0 (start_in e.to es cycle.start lead.1 shown.1 has) spaced.0,
            path (is_miss e.reason) e.to es cycle.start lead.1 shown.1 spaced.1 has,
          )

pub spaced_cycle : (h : List Transaction) (edges : List Edge) → AppendsOnce h → IsEdgeCycle h edges → IsSpacedCycle edges
    → ¬ IsSnapshotIsolated h
spaced_cycle h edges once cycle spaced it = no_round h it.0 it.1 it.2 once it.3 edges cycle spaced

module _ (h : List Transaction) (order : List ℕ) (once : AppendsOnce h) (run : IsCommittedRun h order) where
  from_in : (a : ℕ) (es : List Edge) (z : ℕ) → EdgesLead a es z → AreShown h es → HasNoMiss es → Has order z → Has order a
  from_in a [] z lead shown no_miss has = subst (λ x. Has order x) (sym lead) has
  from_in a (e ∷ es) z lead shown no_miss has = subst (λ x. Has order x) lead.0
      (committed_in h order e.from e.to once run (edge_follows h e.from e.to e.reason shown.0.0 shown.0.1 no_miss.0))

  edge_place : (e : Edge) → EdgeIsShown h e → is_miss e.reason ≡ false → Has order e.to → place_of order e.from < place_of order e.to
  edge_place e shown no_miss has = place_less order e.from e.to run.once
      (committed_follows h order e.from e.to once run has (edge_follows h e.from e.to e.reason shown.0 shown.1 no_miss))

  path_on : (a : ℕ) (es : List Edge) (z : ℕ) → EdgesLead a es z → AreShown h es → HasNoMiss es → Has order z → place_of order a ≤ place_of order z
  path_on a [] z lead shown no_miss has = omega (arith, ap (place_of order) lead)
  path_on a (e ∷ es) z lead shown no_miss has =
      omega (
        arith,
        ap (place_of order) lead.0,
        edge_place e shown.0 no_miss.0 (from_in e.to es z lead.1 shown.1 no_miss.1 has),
        path_on e.to es z lead.1 shown.1 no_miss.1 has,
      )

  no_cycle : (edges : List Edge) → IsEdgeCycle h edges → ¬ HasNoMiss edges
  no_cycle edges cycle no_miss = go edges cycle.some cycle.leads cycle.shown no_miss
    where
      go : (es : List Edge) → es ≢ [] → EdgesLead cycle.start es cycle.start → AreShown h es → ¬ HasNoMiss es
      go [] some lead shown no_miss = some refl
      go (e ∷ es) some lead shown no_miss =
          let has : Has order cycle.start = subst (λ x. Has order x) lead.0
          (committed_in h order e.from e.to once run (edge_follows h e.from e.to e.reason shown.0.0 shown.0.1 no_miss.0)) in
          omega (
            arith,
            ap (place_of order) lead.0,
            edge_place e shown.0 no_miss.0 (from_in e.to es cycle.start lead.1 shown.1 no_miss.1 has),
            path_on e.to es cycle.start lead.1 shown.1 no_miss.1 has,
          )

pub no_miss_cycle : (h : List Transaction) (edges : List Edge) → AppendsOnce h → IsEdgeCycle h edges → HasNoMiss edges → ¬ IsReadCommitted h
no_miss_cycle h edges once cycle no_miss it = no_cycle h it.0 once it.1 edges cycle no_miss
