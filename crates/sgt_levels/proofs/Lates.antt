-- Why few edges are enough for a run of committed reads.
use Rattle.std.proofs.Common.{◌≡◌, ◌≢◌, ◌<◌, ◌⊎◌, ◌++◌, ℕ, List, [], ◌∷◌, refl, sym, ap, ◌∙◌, subst, inl, inr, arith}
use Rattle.std.proofs.lemmas.Bool.{cases_eq}
use Rattle.sgt_appends.specs.declared.transaction.Transaction.{Transaction}
use Rattle.sgt_appends.specs.declared.transaction.Status.TheVariants.{Committed}
use Rattle.sgt_appends.specs.Lists.{Has, StandsBefore}
use Rattle.sgt_appends.specs.Runs.{Ended, MayRun}
use Rattle.sgt_appends.specs.Precedences.{Appends, Reads, AppendsOnce}
use Rattle.sgt_appends.specs.Orders.{AllClean, UnknownOnlyAppend}
use Rattle.sgt_appends.specs.Linear.{IsByRank}
use Rattle.sgt_appends.proofs.Words.{Has-append_right, Has-append_cases}
use Rattle.sgt_appends.proofs.Along.{has_or_not}
use Rattle.sgt_appends.proofs.Guided.{rises_once}
use Rattle.sgt_appends.proofs.Raised.{AreWritten, last_of, stand_climb, seen_under, line_written as written_line}
use Rattle.sgt_appends.proofs.ByRank.{seen_observed, both_observed}
use Rattle.sgt_levels.specs.Levels.{Follows}
use Rattle.sgt_levels.specs.Commits.{IsCommittedRun, AllWhole, IsAlongCommits}
use Rattle.sgt_levels.specs.Lates.{IsCommitRaised}
use Rattle.sgt_levels.proofs.Times.{stands_by}
use Rattle.sgt_levels.proofs.Reading.{commit_orders}

module _ (h : List Transaction) (order : List ℕ) (rank end : ℕ → ℕ) (line : ℕ → List ℕ) (once : AppendsOnce h)
    (clean : AllClean h) (is : IsCommitRaised h order rank end line) where
  join : (t s u : ℕ) → (t ≡ s) ⊎ (rank t < rank s) → (s ≡ u) ⊎ (rank s < rank u) → (t ≡ u) ⊎ (rank t < rank u)
  join t s u (inl p) (inl q) = inl (p ∙ q)
  join t s u (inl p) (inr q) = inr (omega (arith, ap rank p, q))
  join t s u (inr p) (inl q) = inr (omega (arith, p, ap rank q))
  join t s u (inr p) (inr q) = inr (omega (arith, p, q))

  below_by : (t s n : ℕ) → (t ≡ s) ⊎ (rank t < rank s) → rank s < n → rank t < n
  below_by t s n (inl p) less = omega (arith, ap rank p, less)
  below_by t s n (inr p) less = omega (arith, p, less)

  read_written : (r k : ℕ) (own seen : List ℕ) → Ended h r Committed → Reads h r k own seen → AreWritten h k seen
  read_written r k own seen committed reads v has = let who = (clean r k own seen committed reads).written v has in (who.0, who.1)

  line_written : (k : ℕ) → AreWritten h k (line k)
  line_written k v has = written_line h k (line k) clean (is.lines k v has) v has

  -- the appender of a value, and that of the last value of its list
  to_last : (k : ℕ) (xs : List ℕ) (v x t s : ℕ) → ((v ≡ x) ⊎ StandsBefore xs v x)
      → (StandsBefore xs v x → (t ≡ s) ⊎ (rank t < rank s)) → Appends h t k v → Appends h s k x → (t ≡ s) ⊎ (rank t < rank s)
  to_last k xs v x t s (inl e) climb one other = inl (once.by_one t s k x (subst (λ y. Appends h t k y) e one) other)
  to_last k xs v x t s (inr stand) climb one other = climb stand

  seen_below : (t r k v : ℕ) (own seen : List ℕ) → Ended h r Committed → Reads h r k own seen → Has seen v
      → Appends h t k v → t ≢ r → rank t < rank r
  seen_below = seen_under h rank once clean is.climbs is.last

  -- the appender of a value in the line is below the end of the line
  line_below : (k w a : ℕ) → Has (line k) w → Appends h a k w → rank a < end k
  line_below k w a has appends = by_last (last_of (line k) w has)
    where
      by_last : ((front : List ℕ) × (x : ℕ) × (line k ≡ front ++ x ∷ []) × ((w ≡ x) ⊎ StandsBefore (line k) w x)) → rank a < end k
      by_last (front, x, same, either) =
          let who = line_written k x (subst (λ xs. Has xs x) (sym same) (Has-append_right front (x ∷ []) x (inl refl))) in
          below_by a who.0 (end k)
          (to_last k (line k) w x a who.0 either
          (λ stand. stand_climb h rank k (line k) w x a who.0 once (is.line_climbs k) (line_written k) stand appends who.1) appends who.1)
          (is.line_end k front x who.0 same who.1)

  late_above : (t u r k v w : ℕ) (own seen : List ℕ) → Has order u → Ended h r Committed → Reads h r k own seen
      → Has seen v → ¬ Has seen w → Appends h t k v → Appends h u k w → t ≢ u → rank t < rank u
  late_above t u r k v w own seen has committed reads saw missed one other differ = by_last (last_of seen v saw)
    where
      by_last : ((front : List ℕ) × (x : ℕ) × (seen ≡ front ++ x ∷ []) × ((v ≡ x) ⊎ StandsBefore seen v x)) → rank t < rank u
      by_last (front, x, same, either) =
          let who = read_written r k own seen committed reads x
          (subst (λ xs. Has xs x) (sym same) (Has-append_right front (x ∷ []) x (inl refl))) in
          let up : (t ≡ who.0) ⊎ (rank t < rank who.0) = to_last k seen v x t who.0 either
          (λ stand. stand_climb h rank k seen v x t who.0 once (is.climbs r k own seen committed reads)
          (read_written r k own seen committed reads) stand one who.1) one who.1 in
          elim (is.next r k own seen front x who.0 committed reads same who.1) [
            | inl all ↦ elim (has_or_not (line k) w) [
              | inl there ↦ absurd (missed (all.0 w there))
              | inr not_there ↦ omega (arith, below_by t who.0 (end k) up all.1, is.unseen u k w has other not_there)
            ]
            | inr some ↦ first who.0 up some.0 some.1 some.2 some.3 some.4 some.5
          ]
        where
          strictly : (t ≡ u) ⊎ (rank t < rank u) → rank t < rank u
          strictly (inl e) = absurd (differ e)
          strictly (inr less) = less

          first : (s : ℕ) → (t ≡ s) ⊎ (rank t < rank s) → (front' : List ℕ) (y : ℕ) (back : List ℕ) → line k ≡ front' ++ y ∷ back
              → ((z : ℕ) → Has front' z → Has seen z) → ((a : ℕ) → Appends h a k y → s ≢ a → rank s < rank a) → rank t < rank u
          first s up front' y back splits known above =
              let in_line : Has (line k) y = subst (λ xs. Has xs y) (sym splits) (Has-append_right front' (y ∷ back) y (inl refl)) in
              let a = line_written k y in_line in
              let over : (t ≡ a.0) ⊎ (rank t < rank a.0) = join t s a.0 up (elim (cases_eq s a.0) [
                | inl e ↦ inl e
                | inr apart ↦ inr (above a.0 a.1 apart)
              ]) in
              elim (has_or_not (line k) w) [
                | inr not_there ↦ omega (arith, below_by t a.0 (end k) over (line_below k y a.0 in_line a.1), is.unseen u k w has other not_there)
                | inl there ↦ elim (Has-append_cases front' (y ∷ back) w (subst (λ xs. Has xs w) splits there)) [
                  | inl before ↦ absurd (missed (known w before))
                  | inr after ↦ elim after [
                    | inl e ↦ strictly (join t a.0 u over (inl (once.by_one a.0 u k w (subst (λ z. Appends h a.0 k z) e a.1) other)))
                    | inr following ↦ strictly (join t a.0 u over
                        (stand_climb h rank k (line k) y w a.0 u once (is.line_climbs k) (line_written k) (front', back, splits, following) a.1 other))
                  ]
                ]
              ]

  follows_first : (t u : ℕ) → Has order u → Follows h t u → rank t < rank u
  follows_first t u has follows = elim follows.1 [
    | inl w ↦ seen_below t u w.key w.value w.has_seen.1.0 w.seen w.has_seen.0 w.has_seen.1.1 w.has w.appends follows.0
    | inr v ↦ elim v [
      | inl w ↦ elim (stand_climb h rank w.key w.seen w.first w.second t u once
          (is.climbs w.reader w.key w.has_seen.1.0 w.seen w.has_seen.0 w.has_seen.1.1)
          (read_written w.reader w.key w.has_seen.1.0 w.seen w.has_seen.0 w.has_seen.1.1) w.before w.appends_first w.appends_second) [
            | inl e ↦ absurd (follows.0 e)
            | inr less ↦ less
          ]
      | inr w ↦ late_above t u w.reader w.key w.first w.second w.has_seen.1.0 w.seen has w.has_seen.0 w.has_seen.1.1 w.has w.has_not
          w.appends_first w.appends_second follows.0
    ]
  ]

  within : IsByRank h order rank → (t u : ℕ) → MayRun h t → Follows h t u → Has order t
  within ranked t u may follows = elim follows.1 [
    | inl w ↦ ranked.observed t may (seen_observed h t u w)
    | inr v ↦ elim v [
      | inl w ↦ ranked.observed t may (both_observed h t u w)
      | inr w ↦ ranked.observed t may (w.reader, w.key, w.first, w.has_seen.1.0, w.seen, w.has_seen.0, w.has_seen.1.1, w.has, w.appends_first)
    ]
  ]

  along : IsByRank h order rank → IsAlongCommits h order
  along ranked = record {
    once = rises_once rank order ranked.rises;
    committed = ranked.committed;
    may_run = ranked.may_run;
    along = λ t u may has it. stands_by rank order t u ranked.rises (within ranked t u may it) has (follows_first t u has it);
  }

pub commit_raised : (h : List Transaction) (order : List ℕ) (rank end : ℕ → ℕ) (line : ℕ → List ℕ) → AppendsOnce h
    → UnknownOnlyAppend h → AllClean h → AllWhole h → IsCommitRaised h order rank end line → IsByRank h order rank
    → IsCommittedRun h order
commit_raised h order rank end line once unknown clean whole is ranked =
    commit_orders h order once unknown clean whole (along h order rank end line once clean is ranked)
