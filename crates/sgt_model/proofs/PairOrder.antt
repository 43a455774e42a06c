-- No edge leads from a live to a committed transaction, and edges of committed ones agree with the order of commits.
use Rattle.std.proofs.Common.{◌≡◌, ◌≢◌, ℕ, true, List, [], ◌∷◌, Some, sym, subst, inl, inr, ◌∙◌}
use Rattle.sgt_model.specs.declared.reply.Fate.TheVariants as fate
use Rattle.sgt_model.specs.declared.entry.Entry.{Entry}
use Rattle.sgt_model.specs.Accesses.{access_of}
use Rattle.sgt_model.specs.Fates.{ending_in, committed, live}
use Rattle.sgt_model.specs.Pairs.{FollowsIn, Precedes, Pair}
use Rattle.sgt_model.specs.Configurations.{Configuration}
use Rattle.sgt_model.specs.Legality.{Legal}
use Rattle.sgt_model.specs.CommitOrder.{CommitsBefore}
use Rattle.sgt_model.proofs.Facts.{live-no_fate, access-live, end-live, commit-none_live, commit-no_end, live-before, committed-fate, live-stands, commit-case, access-same_fate, follows-access, precedes-started}

-- what an access follows is not of a committed transaction
follows-not_committed : (s : Configuration) (e : Entry) (past : List Entry) → Legal s (e ∷ past) → (t u : ℕ)
    → FollowsIn past (access_of e) t u → committed (e ∷ past) u ≡ true → ⊥
follows-not_committed s e past h t u now c =
    let f = follows-access past (access_of e) t u now in
    let alive = subst (λ v. live past v ≡ true) f.by (access-live s past e.event e.reply h.1 f.access f.is) in
    cc (sym (committed-fate (e ∷ past) u c) ∙ (access-same_fate s e past h f.access f.is u ∙ live-no_fate past u alive))

-- at the entry in which u commits, no live transaction has an edge into it
at_commit : (s : Configuration) (e : Entry) (past : List Entry) → Legal s (e ∷ past) → (t u : ℕ) → t ≢ u → live past t ≡ true
    → Precedes past t u → ending_in e.event e.reply u ≡ Some fate.Committed → ⊥
at_commit s e past h t u apart alive p now =
    let u_alive = end-live s past e.event e.reply h.1 u fate.Committed now in
    commit-none_live s past e.event e.reply h.1 u now t
    (record {
      is_live = alive;
      pair = record {
        apart = apart;
        first_stands = live-stands past t alive;
        second_stands = live-stands past u u_alive;
        precedes = p;
      };
    })

live_precedes : (s : Configuration) (past : List Entry) → Legal s past → (t u : ℕ) → t ≢ u → live past t ≡ true → committed past u ≡ true
    → Precedes past t u → ⊥
live_precedes s [] h t u apart alive c p = p
live_precedes s (e ∷ past) h t u apart alive c (inl now) = follows-not_committed s e past h t u now c
live_precedes s (e ∷ past) h t u apart alive c (inr p) =
    let alive_before = live-before e past t alive (precedes-started s past h.0 t u p).0 in
    elim (commit-case e past u c) [
      | inl now ↦ at_commit s e past h t u apart alive_before p now
      | inr before ↦ live_precedes s past h.0 t u apart alive_before before.1 p
    ]

-- no edge leads from a live to a committed transaction
pub no_pair_from_live : (s : Configuration) (past : List Entry) → Legal s past → (t u : ℕ) → live past t ≡ true → committed past u ≡ true
    → Pair past t u → ⊥
no_pair_from_live s past h t u alive c p = live_precedes s past h t u p.apart alive c p.precedes

committed_precedes : (s : Configuration) (past : List Entry) → Legal s past → (t u : ℕ) → t ≢ u → committed past t ≡ true
    → committed past u ≡ true → Precedes past t u → CommitsBefore past t u
committed_precedes s [] h t u apart ct cu p = p
committed_precedes s (e ∷ past) h t u apart ct cu (inl now) = absurd (follows-not_committed s e past h t u now cu)
committed_precedes s (e ∷ past) h t u apart ct cu (inr p) =
    elim (commit-case e past u cu) [
      | inl u_now ↦ elim (commit-case e past t ct) [
        | inl t_now ↦ absurd
            (cc (sym (commit-no_end s past e.event e.reply h.1 u u_now t (λ q. apart (sym q))) ∙ t_now))
        | inr t_before ↦ inl (u_now, t_before.1)
      ]
      | inr u_before ↦ elim (commit-case e past t ct) [
        | inl t_now ↦ absurd
            (live_precedes s past h.0 t u apart (end-live s past e.event e.reply h.1 t fate.Committed t_now) u_before.1 p)
        | inr t_before ↦ inr (committed_precedes s past h.0 t u apart t_before.1 u_before.1 p)
      ]
    ]

-- of two committed transactions with an edge the first committed first
pub pair_commits_before : (s : Configuration) (past : List Entry) → Legal s past → (t u : ℕ) → committed past t ≡ true
    → committed past u ≡ true → Pair past t u → CommitsBefore past t u
pair_commits_before s past h t u ct cu p = committed_precedes s past h t u p.apart ct cu p.precedes
