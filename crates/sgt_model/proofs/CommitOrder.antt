-- The order of commits is a strict total order on the committed transactions.
use Rattle.std.proofs.Common.{◌≡◌, ◌≢◌, ℕ, true, ◌⊎◌, List, [], ◌∷◌, Some, None, sym, ap, inl, inr, ◌∙◌}
use Rattle.std.specs.Option.{option_or}
use Rattle.sgt_model.specs.declared.reply.Fate.TheVariants as fate
use Rattle.sgt_model.specs.declared.entry.Entry.{Entry}
use Rattle.sgt_model.specs.Fates.{ending_in, fate_of, has_committed, committed}
use Rattle.sgt_model.specs.Configurations.{Configuration}
use Rattle.sgt_model.specs.Legality.{Legal}
use Rattle.sgt_model.specs.CommitOrder.{CommitsBefore, CommitOrderIsTotal}
use Rattle.sgt_model.proofs.Facts.{end-live, commit-no_end, committed-stays, live-not_committed, commit-case}

-- what commits at an entry had not committed before
commit_once : (s : Configuration) (e : Entry) (past : List Entry) → Legal s (e ∷ past) → (t : ℕ)
    → ending_in e.event e.reply t ≡ Some fate.Committed → committed past t ≡ true → ⊥
commit_once s e past h t now c = live-not_committed past t (end-live s past e.event e.reply h.1 t fate.Committed now) c

before-committed : (s : Configuration) (past : List Entry) → Legal s past → (t u : ℕ) → CommitsBefore past t u
    → (committed past t ≡ true) × (committed past u ≡ true)
before-committed s [] h t u b = absurd b
before-committed s (e ∷ past) h t u (inl b) = (committed-stays s e past h t b.1, ap (λ o. has_committed (option_or o (fate_of past u))) b.0)
before-committed s (e ∷ past) h t u (inr b) = let c = before-committed s past h.0 t u b in
    (committed-stays s e past h t c.0, committed-stays s e past h u c.1)

before-irrefl : (s : Configuration) (past : List Entry) → Legal s past → (t : ℕ) → CommitsBefore past t t → ⊥
before-irrefl s [] h t b = b
before-irrefl s (e ∷ past) h t (inl b) = commit_once s e past h t b.0 b.1
before-irrefl s (e ∷ past) h t (inr b) = before-irrefl s past h.0 t b

before_trans : (s : Configuration) (past : List Entry) → Legal s past → (t u v : ℕ) → CommitsBefore past t u → CommitsBefore past u v
    → CommitsBefore past t v
before_trans s [] h t u v b c = b
before_trans s (e ∷ past) h t u v (inl b) (inl c) = absurd (commit_once s e past h u b.0 c.1)
before_trans s (e ∷ past) h t u v (inl b) (inr c) = absurd (commit_once s e past h u b.0 (before-committed s past h.0 u v c).0)
before_trans s (e ∷ past) h t u v (inr b) (inl c) = inl (c.0, (before-committed s past h.0 t u b).0)
before_trans s (e ∷ past) h t u v (inr b) (inr c) = inr (before_trans s past h.0 t u v b c)

abbrev CommitCase : Entry → List Entry → ℕ → Type 0
CommitCase e past t =
    (ending_in e.event e.reply t ≡ Some fate.Committed) ⊎ ((ending_in e.event e.reply t ≡ None) × (committed past t ≡ true))

before-total : (s : Configuration) (past : List Entry) → Legal s past → (t u : ℕ) → t ≢ u → committed past t ≡ true
    → committed past u ≡ true → CommitsBefore past t u ⊎ CommitsBefore past u t
before-total s [] h t u apart ct cu = absurd (cc)
before-total s (e ∷ past) h t u apart ct cu = go (before-total s past h.0 t u apart) (commit-case e past t ct) (commit-case e past u cu)
  where
    go : (committed past t ≡ true → committed past u ≡ true → CommitsBefore past t u ⊎ CommitsBefore past u t) → CommitCase e past t
        → CommitCase e past u → CommitsBefore (e ∷ past) t u ⊎ CommitsBefore (e ∷ past) u t
    go rest (inl t_now) (inl u_now) = absurd (cc (sym (commit-no_end s past e.event e.reply h.1 t t_now u apart) ∙ u_now))
    go rest (inl t_now) (inr u_before) = inr (inl (t_now, u_before.1))
    go rest (inr t_before) (inl u_now) = inl (inl (u_now, t_before.1))
    go rest (inr t_before) (inr u_before) = elim (rest t_before.1 u_before.1) [ inl b ↦ inl (inr b) | inr b ↦ inr (inr b) ]

pub commit_order_is_total : (s : Configuration) (past : List Entry) → Legal s past → CommitOrderIsTotal past
commit_order_is_total s past h = record {
  of_committed = before-committed s past h;
  irreflexive = before-irrefl s past h;
  transitive = before_trans s past h;
  total = before-total s past h;
}
