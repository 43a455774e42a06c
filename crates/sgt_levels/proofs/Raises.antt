-- Why few edges are enough for a snapshot run.
use Rattle.std.proofs.Common.{◌≡◌, ◌≢◌, ◌<◌, ◌≤◌, ◌⊎◌, ◌++◌, ℕ, List, [], ◌∷◌, refl, sym, ap, ◌∙◌, subst, inl, inr, arith}
use Rattle.std.proofs.lemmas.Bool.{cases_eq}
use Rattle.sgt_appends.specs.declared.transaction.Transaction.{Transaction}
use Rattle.sgt_appends.specs.declared.transaction.Status.TheVariants.{Committed}
use Rattle.sgt_appends.specs.Lists.{Has, StandsBefore}
use Rattle.sgt_appends.specs.Runs.{Ended, MayRun}
use Rattle.sgt_appends.specs.Precedences.{Appends, Reads, AppendsOnce}
use Rattle.sgt_appends.specs.Orders.{AllClean, UnknownOnlyAppend}
use Rattle.sgt_appends.specs.Linear.{IsKnown, IsByRank}
use Rattle.sgt_appends.proofs.Words.{Has-append_right, Has-append_cases, StandsBefore-has, stand_somehow}
use Rattle.sgt_appends.proofs.Along.{has_or_not, missed_value}
use Rattle.sgt_appends.proofs.Raised.{AreWritten, last_of, last_seen, line_written as written_line}
use Rattle.sgt_appends.proofs.ByRank.{seen_observed, both_observed}
use Rattle.sgt_levels.specs.Snapshots.{IsSnapshotRun}
use Rattle.sgt_levels.specs.Levels.{Depends, Comes, IsSplitAlong}
use Rattle.sgt_levels.specs.Raises.{PassesFrom, Passes, IsSplitRaised}
use Rattle.sgt_levels.proofs.Chosen.{saw_first, split_enough}

module _ (h : List Transaction) (order : List ℕ) (begin commit end : ℕ → ℕ) (line : ℕ → List ℕ) (once : AppendsOnce h)
    (clean : AllClean h) (is : IsSplitRaised h order begin commit end line) where
  pass_on : (k x : ℕ) (ys : List ℕ) (w t u : ℕ) → PassesFrom h begin commit k x ys
      → AreWritten h k ys → Has ys w → Appends h t k x → Appends h u k w → (t ≡ u) ⊎ (commit t < begin u)
  pass_on k x [] w t u passes written has one other = absurd has
  pass_on k x (y ∷ ys) w t u passes written has one other =
      last has (λ s appends later. pass_on k y ys w s u passes.1 (λ v there. written v (inr there)) later appends other)
    where
      a : (s : ℕ) × Appends h s k y
      a = written y (inl refl)

      step : (s : ℕ) → Appends h s k y → (t ≡ s) ⊎ (commit t < begin s)
      step s appends = elim (cases_eq t s) [
        | inl same ↦ inl same
        | inr differ ↦ inr (passes.0 t s one appends differ)
      ]

      join : (s : ℕ) → begin s < commit s → (t ≡ s) ⊎ (commit t < begin s) → (s ≡ u) ⊎ (commit s < begin u) → (t ≡ u) ⊎ (commit t < begin u)
      join s less (inl p) (inl q) = inl (p ∙ q)
      join s less (inl p) (inr q) = inr (omega (arith, ap commit p, q))
      join s less (inr p) (inl q) = inr (omega (arith, p, ap begin q))
      join s less (inr p) (inr q) = inr (omega (arith, p, q, less))

      last : Has (y ∷ ys) w → ((s : ℕ) → Appends h s k y → Has ys w → (s ≡ u) ⊎ (commit s < begin u)) → (t ≡ u) ⊎ (commit t < begin u)
      last (inl same) rest = step u (subst (λ v. Appends h u k v) (sym same) other)
      last (inr later) rest = join a.0 (is.begins a.0 k y a.1) (step a.0 a.1) (rest a.0 a.1 later)

  passes_after : (k : ℕ) (xs : List ℕ) (y : ℕ) (ys : List ℕ) → Passes h begin commit k (xs ++ y ∷ ys) → PassesFrom h begin commit k y ys
  passes_after k [] y ys passes = passes
  passes_after k (x ∷ []) y ys passes = passes.1
  passes_after k (x ∷ z ∷ zs) y ys passes = passes_after k (z ∷ zs) y ys passes.1

  stand_pass : (k : ℕ) (xs : List ℕ) (v w t u : ℕ) → Passes h begin commit k xs → AreWritten h k xs → StandsBefore xs v w
      → Appends h t k v → Appends h u k w → (t ≡ u) ⊎ (commit t < begin u)
  stand_pass k xs v w t u passes written stand one other =
      pass_on k v stand.1 w t u (passes_after k stand.0 v stand.1 (subst (λ zs. Passes h begin commit k zs) stand.2 passes))
      (λ z has. written z (subst (λ zs. Has zs z) (sym stand.2) (Has-append_right stand.0 (v ∷ stand.1) z (inr has)))) stand.3 one other

  read_written : (r k : ℕ) (own seen : List ℕ) → Ended h r Committed → Reads h r k own seen → AreWritten h k seen
  read_written r k own seen committed reads v has = let who = (clean r k own seen committed reads).written v has in (who.0, who.1)

  seen_below : (t r k v : ℕ) (own seen : List ℕ) → Ended h r Committed → Reads h r k own seen → Has seen v
      → Appends h t k v → t ≢ r → commit t < begin r
  seen_below t r k v own seen committed reads has appends differ =
      let it = last_seen h r k own seen t v once (clean r k own seen committed reads) reads has appends differ in
      let below : commit it.2 < begin r = is.last r k own seen it.0 it.1 it.2 committed reads it.3 it.4 in
      elim it.5 [
        | inl e ↦ omega (arith, below, ap commit (once.by_one t it.2 k it.1 (subst (λ y. Appends h t k y) e appends) it.4))
        | inr stand ↦ elim (stand_pass k seen v it.1 t it.2 (is.passes r k own seen committed reads)
            (read_written r k own seen committed reads) stand appends it.4) [
              | inl e ↦ omega (arith, below, ap commit e)
              | inr less ↦ omega (arith, below, less, is.begins it.2 k it.1 it.4)
            ]
      ]

  line_written : (k : ℕ) → AreWritten h k (line k)
  line_written k v has = written_line h k (line k) clean (is.lines k v has) v has

  -- of an append in the line and one that is not in it
  line_tail : (t u k v w : ℕ) → t ≢ u → Has order u → Appends h t k v → Appends h u k w → Has (line k) v → ¬ Has (line k) w → commit t < begin u
  line_tail t u k v w differ has_u one other there not_there = by_last (last_of (line k) v there)
    where
      by_last : ((front : List ℕ) × (x : ℕ) × (line k ≡ front ++ x ∷ []) × ((v ≡ x) ⊎ StandsBefore (line k) v x)) → commit t < begin u
      by_last (front, x, same, inl e) = is.tail k front x t u w same (subst (λ y. Appends h t k y) e one) has_u other not_there differ
      by_last (front, x, same, inr stand) =
          let who = line_written k x (StandsBefore-has (line k) v x stand).1 in
          elim (stand_pass k (line k) v x t who.0 (is.line_passes k) (line_written k) stand one who.1) [
            | inl e ↦ is.tail k front x t u w same (subst (λ y. Appends h y k x) (sym e) who.1) has_u other not_there differ
            | inr less ↦ elim (cases_eq who.0 u) [
              | inl e ↦ omega (arith, less, ap begin e)
              | inr apart ↦ omega (arith, less, is.begins who.0 k x who.1, is.tail k front x who.0 u w same who.1 has_u other not_there apart)
            ]
          ]

  missed_above : (t u k v : ℕ) (own seen : List ℕ) → Has order u → Ended h t Committed → Reads h t k own seen
      → ¬ Has seen v → Appends h u k v → t ≢ u → begin t ≤ commit u
  missed_above t u k v own seen has committed reads missed appends differ =
      elim (is.next t k own seen committed reads) [
        | inl all ↦ elim (has_or_not (line k) v) [
          | inl there ↦ absurd (unknown (all.0 v there))
          | inr not_there ↦ omega (arith, all.1, is.unseen u k v has appends not_there)
        ]
        | inr some ↦ first some.0 some.1 some.2 some.3 some.4 some.5
      ]
    where
      unknown : ¬ IsKnown h t k seen v
      unknown (inl there) = missed there
      unknown (inr mine) = differ (once.by_one t u k v mine appends)

      first : (front : List ℕ) (w : ℕ) (back : List ℕ) → line k ≡ front ++ w ∷ back → ((x : ℕ) → Has front x → IsKnown h t k seen x)
          → ((a : ℕ) → Appends h a k w → begin t < commit a) → begin t ≤ commit u
      first front w back same known below =
          let in_line : Has (line k) w = subst (λ xs. Has xs w) (sym same) (Has-append_right front (w ∷ back) w (inl refl)) in
          let who = line_written k w in_line in
          let less : begin t < commit who.0 = below who.0 who.1 in
          let mine : begin u < commit u = is.begins u k v appends in
          elim (has_or_not (line k) v) [
            | inr not_there ↦ elim (cases_eq who.0 u) [
              | inl e ↦ omega (arith, less, ap commit e)
              | inr apart ↦ omega (arith, less, mine, line_tail who.0 u k w v apart has who.1 appends in_line not_there)
            ]
            | inl there ↦ elim (Has-append_cases front (w ∷ back) v (subst (λ xs. Has xs v) same there)) [
              | inl before ↦ absurd (unknown (known v before))
              | inr after ↦ elim after [
                | inl e ↦ omega (arith, less, ap commit (once.by_one who.0 u k v (subst (λ x. Appends h who.0 k x) e who.1) appends))
                | inr following ↦ elim (stand_pass k (line k) w v who.0 u (is.line_passes k) (line_written k) (front, back, same, following) who.1 appends) [
                  | inl e ↦ omega (arith, less, ap commit e)
                  | inr more ↦ omega (arith, less, more, mine)
                ]
              ]
            ]
          ]

  apart_by : (t u k v w : ℕ) → t ≢ u → Has order t → Has order u → Appends h t k v → Appends h u k w → (commit t < begin u) ⊎ (commit u < begin t)
  apart_by t u k v w differ has_t has_u one other = elim (has_or_not (line k) v) [
    | inl has_v ↦ elim (has_or_not (line k) w) [
      | inl has_w ↦ elim (stand_somehow (line k) v w has_v has_w (λ e. differ (once.by_one t u k w (subst (λ x. Appends h t k x) e one) other))) [
        | inl x ↦ elim (stand_pass k (line k) v w t u (is.line_passes k) (line_written k) x one other) [
          | inl e ↦ absurd (differ e)
          | inr less ↦ inl less
        ]
        | inr x ↦ elim (stand_pass k (line k) w v u t (is.line_passes k) (line_written k) x other one) [
          | inl e ↦ absurd (differ (sym e))
          | inr less ↦ inr less
        ]
      ]
      | inr not_w ↦ inl (line_tail t u k v w differ has_u one other has_v not_w)
    ]
    | inr not_v ↦ elim (has_or_not (line k) w) [
      | inl has_w ↦ inr (line_tail u t k w v (λ e. differ (sym e)) has_t other one has_w not_v)
      | inr not_w ↦ is.unseen_apart t u k v w differ has_t has_u one other not_v not_w
    ]
  ]

  comes_first : (t u : ℕ) → Has order u → Comes h t u → commit t < begin u
  comes_first t u has comes = elim comes.1 [
    | inl w ↦ seen_below t u w.key w.value w.has_seen.1.0 w.seen w.has_seen.0 w.has_seen.1.1 w.has w.appends comes.0
    | inr w ↦ elim (stand_pass w.key w.seen w.first w.second t u (is.passes w.reader w.key w.has_seen.1.0 w.seen w.has_seen.0 w.has_seen.1.1)
        (read_written w.reader w.key w.has_seen.1.0 w.seen w.has_seen.0 w.has_seen.1.1) w.before w.appends_first w.appends_second) [
          | inl e ↦ absurd (comes.0 e)
          | inr less ↦ less
        ]
  ]

  within : IsByRank h order commit → (t u : ℕ) → MayRun h t → Comes h t u → Has order t
  within ranked t u may comes = elim comes.1 [
    | inl w ↦ ranked.observed t may (seen_observed h t u w)
    | inr w ↦ ranked.observed t may (both_observed h t u w)
  ]

  along : IsByRank h order commit → IsSplitAlong h order begin commit
  along ranked = record {
    rises = ranked.rises;
    committed = ranked.committed;
    may_run = ranked.may_run;
    begins = is.begin_each;
    comes = λ t u may has it. (within ranked t u may it, comes_first t u has it);
    misses = λ t u has_t has_u it. missed_above t u it.1.key it.1.value it.1.has_seen.1.0 it.1.seen has_u it.1.has_seen.0
        it.1.has_seen.1.1 it.1.has_not it.1.appends it.0;
    apart = apart_by;
  }

pub split_raised : (h : List Transaction) (order : List ℕ) (begin commit end : ℕ → ℕ) (line : ℕ → List ℕ) → AppendsOnce h
    → UnknownOnlyAppend h → AllClean h → IsSplitRaised h order begin commit end line → IsByRank h order commit
    → IsSnapshotRun h order begin commit
split_raised h order begin commit end line once unknown clean is ranked =
    split_enough h order begin commit once unknown clean (along h order begin commit end line once clean is ranked)

pub tail_depends : (h : List Transaction) (t u r k v w : ℕ) (own seen : List ℕ) → AppendsOnce h → t ≢ u → Ended h r Committed
    → Reads h r k own seen → Appends h t k v → Appends h u k w → IsKnown h r k seen v → ¬ IsKnown h r k seen w → Depends h t u
tail_depends h t u r k v w own seen once differ committed reads one other (inl has) unknown =
    inl (differ, inr (inr (saw_first h r k t u v w seen (committed, (own, reads)) one other has (λ there. unknown (inl there)))))
tail_depends h t u r k v w own seen once differ committed reads one other (inr mine) unknown =
    let same : r ≡ t = once.by_one r t k v mine one in
    inr (
      differ,
      record {
        key = k;
        first = v;
        second = w;
        appends_first = one;
        appends_second = other;
        missed = missed_value h t k u w seen (subst (λ x. Ended h x Committed) same committed, (own, subst (λ x. Reads h x k own seen) same reads))
            other (λ there. unknown (inl there));
      },
    )
