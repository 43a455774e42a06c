-- The limits are kept.
use Rattle.std.specs.Prelude.{◌≡◌, ◌≢◌, ℕ, ◌<◌, ◌≤◌, ◌+◌, Bool, true, false, cond, ◌⊎◌, nat_eq, List, [], ◌∷◌, ◌++◌, length}
use Rattle.std.specs.List.{filter}
use Rattle.std.proofs.Common.{refl, sym, ap, ◌∙◌, subst, inl, inr, arith, length-append}
use Rattle.std.proofs.lemmas.Bool.{true≢false, eq-eqb}
use Rattle.std.proofs.lemmas.List.Elements.{filter-append}
use Rattle.sgt_model.specs.declared.event.Event.{Event}
use Rattle.sgt_model.specs.declared.reply.Reply.{Reply}
use Rattle.sgt_model.specs.declared.entry.Entry.{Entry}
use Rattle.sgt_model.specs.Paths.{Member}
use Rattle.sgt_model.specs.Fates.{is_start, start_count, live, started_ones, live_ones}
use Rattle.sgt_model.specs.Configurations.{Configuration}
use Rattle.sgt_model.specs.Legality.{Legal}
use Rattle.sgt_model.proofs.Effects.{Begins, Effect, idle, begins, accesses, commits, undoes, refuses, effect}
use Rattle.sgt_model.proofs.Facts.{live-before}

-- a test that holds less often keeps fewer
filter_fewer : (p q : ℕ → Bool) (l : List ℕ) → ((t : ℕ) → Member t l → p t ≡ true → q t ≡ true) → length (filter p l) ≤ length (filter q l)
filter_fewer p q [] h = omega arith
filter_fewer p q (t ∷ l) h = go (p t) (q t) refl refl (filter_fewer p q l (λ u m. h u (inr m)))
  where
    go : (b c : Bool) → p t ≡ b → q t ≡ c → length (filter p l) ≤ length (filter q l)
        → length (cond b (t ∷ filter p l) (filter p l)) ≤ length (cond c (t ∷ filter q l) (filter q l))
    go true true x y less = omega arith
    go true false x y less = absurd (true≢false (sym (h t (inl refl) x) ∙ y))
    go false true x y less = omega arith
    go false false x y less = less

filter_one : (p : ℕ → Bool) (t : ℕ) → length (filter p (t ∷ [])) ≤ 1
filter_one p t = go (p t)
  where
    go : (b : Bool) → length (cond b (t ∷ []) []) ≤ 1
    go true = omega arith
    go false = omega arith

pub member_append : (t : ℕ) (l : List ℕ) (u : ℕ) → Member t (l ++ u ∷ []) → Member t l ⊎ (t ≡ u)
member_append t [] u (inl e) = inr e
member_append t [] u (inr m) = absurd m
member_append t (v ∷ l) u (inl e) = inl (inl e)
member_append t (v ∷ l) u (inr m) = elim (member_append t l u m) [ inl k ↦ inl (inr k) | inr e ↦ inr e ]

pub begun_below : (past : List Entry) (t : ℕ) → Member t (started_ones past) → t < start_count past
begun_below [] t m = absurd m
begun_below (e ∷ past) t m = go (begun_below past t) (is_start e.reply) m
  where
    go : (Member t (started_ones past) → t < start_count past) → (b : Bool)
        → Member t (cond b (started_ones past ++ start_count past ∷ []) (started_ones past))
        → t < cond b (start_count past + 1) (start_count past)
    go rest true m = elim (member_append t (started_ones past) (start_count past) m) [
      | inl k ↦ let before : t < start_count past = rest k in
          omega arith
      | inr e ↦ omega arith
    ]
    go rest false m = rest m

pub starts_or_not : {s : Configuration} {past : List Entry} {event : Event} {r : Reply} → Effect s past event r
    → Begins s past event r ⊎ (is_start r ≡ false)
starts_or_not (idle i) = inr i.no_start
starts_or_not (begins b) = inl b
starts_or_not (accesses x) = inr x.no_start
starts_or_not (commits c) = inr (ap is_start c.reply_is)
starts_or_not (undoes x) = inr (ap is_start x.reply_is)
starts_or_not (refuses x) = inr (ap is_start x.reply_is)

-- of those that were started before an entry, no more are live after it
live_fewer : (e : Entry) (past : List Entry) → length (filter (live (e ∷ past)) (started_ones past)) ≤ length (live_ones past)
live_fewer e past = filter_fewer (live (e ∷ past)) (live past) (started_ones past)
    (λ t m alive. live-before e past t alive (begun_below past t m))

not_equal : (a b : ℕ) → nat_eq a b ≡ false → a ≢ b
not_equal a b h e = true≢false (sym (eq-eqb a b e) ∙ h)

pub limits_are_kept : (s : Configuration) (past : List Entry) → Legal s past
    → (start_count past ≤ s.rules.limits.begins) × (length (live_ones past) ≤ s.rules.limits.live)
limits_are_kept s [] h = (omega arith, omega arith)
limits_are_kept s (e ∷ past) h = now (limits_are_kept s past h.0) (live_fewer e past) (starts_or_not (effect s past e.event e.reply h.1))
  where
    now : (start_count past ≤ s.rules.limits.begins) × (length (live_ones past) ≤ s.rules.limits.live)
        → length (filter (live (e ∷ past)) (started_ones past)) ≤ length (live_ones past)
        → Begins s past e.event e.reply ⊎ (is_start e.reply ≡ false)
        → (cond (is_start e.reply) (start_count past + 1) (start_count past) ≤ s.rules.limits.begins) × (length
        (filter (live (e ∷ past)) (cond (is_start e.reply) (started_ones past ++ start_count past ∷ []) (started_ones past)))
        ≤ s.rules.limits.live)
    now (few, kept) fewer (inr none) =
        subst (λ b. (cond b (start_count past + 1) (start_count past) ≤ s.rules.limits.begins) × (length
        (filter (live (e ∷ past)) (cond b (started_ones past ++ start_count past ∷ []) (started_ones past)))
        ≤ s.rules.limits.live)) (sym none)
        (few, omega arith)
    now (few, kept) fewer (inl b) =
        let spent = not_equal (start_count past) s.rules.limits.begins b.not_spent in
        let full = not_equal (length (live_ones past)) s.rules.limits.live b.not_full in
        let one : length (filter (live (e ∷ past)) (start_count past ∷ [])) ≤ 1 = filter_one (live (e ∷ past)) (start_count past) in
        let sum : length (filter (live (e ∷ past)) (started_ones past ++ start_count past ∷ [])) ≡ length
        (filter (live (e ∷ past)) (started_ones past)) + length (filter (live (e ∷ past)) (start_count past ∷ [])) =
        ap length (filter-append (live (e ∷ past)) (started_ones past) (start_count past ∷ []))
        ∙ length-append (filter (live (e ∷ past)) (started_ones past)) (filter (live (e ∷ past)) (start_count past ∷ [])) in
        let started : is_start e.reply ≡ true = ap is_start b.reply_is in
        subst (λ c. (cond c (start_count past + 1) (start_count past) ≤ s.rules.limits.begins) × (length
        (filter (live (e ∷ past)) (cond c (started_ones past ++ start_count past ∷ []) (started_ones past)))
        ≤ s.rules.limits.live)) (sym started)
        (omega arith, omega arith)
