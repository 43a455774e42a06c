-- What an end does to the state: a transaction leaves each layer, with a fate.
use Rattle.std.proofs.Common.{◌≡◌, ℕ, ℤ, ◌<◌, ◌≤◌, Bool, true, false, not, ◌&&◌, cond, nat_eq, inl, inr, List, [], ◌∷◌, length, Option, Some, None, refl, sym, ap, ◌∙◌, subst, slice_set}
use Rattle.std.proofs.lemmas.List.{length-set}
use Rattle.std.proofs.lemmas.Bool.{and_parts, and_from, true≢false}
use Rattle.sgt_model.specs.declared.reply.Fate.{Fate}
use Rattle.sgt_model.specs.Contents.{Key}
use Rattle.sgt_model.specs.Chains as chains
use Rattle.sgt_model.specs.AccessList.{ListedAccess, forgotten}
use Rattle.sgt_sched.specs.LiveProgress.{Progress, left_kept}
use Rattle.sgt_model.specs.Paths.{Rising}
use Rattle.sgt_model.specs.State.{Has}
use Rattle.sgt_model.specs.Changes.{Removes}
use Rattle.sgt_model.proofs.Counted.{filter-same}
use Rattle.sgt_model.proofs.SoundCalls.{sound_removes}
use Rattle.sgt_sched.specs.LiveList.{numbers, others_live}
use Rattle.sgt_sched.specs.SchedulerView.{SchedulerView, fate_at, state_of, IsAlong, IsKept}
use Rattle.sgt_sched.specs.Steps.{unread}
use Rattle.sgt_sched.proofs.Lists.{nat_eq-swap, numbers-without, progress_at-without, fate_at-set, rising-filter}

not-true : (b : Bool) → not b ≡ true → b ≡ false
not-true false h = refl
not-true true h = absurd (true≢false (sym h))

-- the reads that are left are those between others
pub unread-left : (t : ℕ) (reads : List (ℕ × ℕ)) (u v : ℕ) → Has (unread t reads) u v
    → Has reads u v × (nat_eq t u ≡ false) × (nat_eq t v ≡ false)
unread-left t [] u v h = absurd h
unread-left t (p ∷ rest) u v h = both (not (nat_eq p.0 t) && not (nat_eq p.1 t)) refl h (unread-left t rest u v) where
  apart : (a b : ℕ) → a ≡ b → not (nat_eq a t) ≡ true → nat_eq t b ≡ false
  apart a b e g = nat_eq-swap t b ∙ (ap (λ x. nat_eq x t) (sym e) ∙ not-true (nat_eq a t) g)

  both : (b : Bool) → (not (nat_eq p.0 t) && not (nat_eq p.1 t)) ≡ b → Has (cond b (p ∷ unread t rest) (unread t rest)) u v
      → (Has (unread t rest) u v → Has rest u v × (nat_eq t u ≡ false) × (nat_eq t v ≡ false))
      → Has (p ∷ rest) u v × (nat_eq t u ≡ false) × (nat_eq t v ≡ false)
  both true e (inl here) rec = let n = and_parts (not (nat_eq p.0 t)) (not (nat_eq p.1 t)) e in
      (inl here, apart p.0 u here.0 n.0, apart p.1 v here.1 n.1)
  both true e (inr there) rec = let r = rec there in (inr r.0, r.1, r.2)
  both false e there rec = let r = rec there in (inr r.0, r.1, r.2)

-- and all of those are left
pub unread-kept : (t : ℕ) (reads : List (ℕ × ℕ)) (u v : ℕ) → Has reads u v → nat_eq t u ≡ false → nat_eq t v ≡ false
    → Has (unread t reads) u v
unread-kept t [] u v h f g = absurd h
unread-kept t (p ∷ rest) u v h f g = both (not (nat_eq p.0 t) && not (nat_eq p.1 t)) refl h (unread-kept t rest u v) where
  apart : (a b : ℕ) → a ≡ b → nat_eq t b ≡ false → not (nat_eq a t) ≡ true
  apart a b e i = ap not (ap (λ x. nat_eq x t) e ∙ (nat_eq-swap b t ∙ i))

  both : (b : Bool) → (not (nat_eq p.0 t) && not (nat_eq p.1 t)) ≡ b → Has (p ∷ rest) u v
      → (Has rest u v → nat_eq t u ≡ false → nat_eq t v ≡ false → Has (unread t rest) u v)
      → Has (cond b (p ∷ unread t rest) (unread t rest)) u v
  both true e (inl here) rec = inl here
  both true e (inr there) rec = inr (rec there f g)
  both false e (inl here) rec = absurd (true≢false (sym
      (and_from (not (nat_eq p.0 t)) (not (nat_eq p.1 t)) (apart p.0 u here.0 f) (apart p.1 v here.1 g)) ∙ e))
  both false e (inr there) rec = rec there f g

module _ {R A G : Type 0} {chain : R → Key → List (ℕ × Option ℤ)} {settled : R → Key → Option ℤ} {list : A → List ListedAccess}
    {nodes : G → ℕ → Bool} {pairs : G → ℕ → ℕ → Bool} {before : SchedulerView R A G} (kept : IsKept chain settled list nodes pairs before)
    (t : ℕ) (live_t : nodes before.graph t ≡ true) (f : Fate) (records : R) (accesses : A) (graph : G)
    (chain_is : (k : Key) → chain records k ≡ chains.chain_without t (chain before.records k))
    (list_is : list accesses ≡ forgotten t (list before.accesses))
    (nodes_are : (u : ℕ) → nodes graph u ≡ (nodes before.graph u && not (nat_eq t u)))
    (pairs_are : (u v : ℕ) → pairs graph u v ≡ (pairs before.graph u v && (not (nat_eq t u) && not (nat_eq t v)))) where
  -- the parts afterwards
  abbrev pub after_end : SchedulerView R A G
  after_end = record before {
    records = records;
    accesses = accesses;
    graph = graph;
    live = others_live t before.live;
    read_from = unread t before.read_from;
    fates = slice_set before.fates t (Some f);
  }

  -- t was started
  begun : t < length before.fates
  begun = ((kept.unended t).0 live_t).0

  -- t has its fate, the others keep theirs
  pub fates_end : (u : ℕ) → fate_at after_end.fates u ≡ cond (nat_eq t u) (Some f) (fate_at before.fates u)
  fates_end u = fate_at-set before.fates t u f begun

  -- the state loses t
  pub removes : Removes (λ u. nat_eq t u) (state_of chain settled list nodes pairs before)
      (state_of chain settled list nodes pairs after_end)
  removes = record {
    live = numbers-without t before.live;
    nodes = nodes_are;
    pairs = pairs_are;
    accesses = list_is ∙ filter-same _ _ (list before.accesses) (λ (a : ListedAccess). ap not (nat_eq-swap a.by t));
    chain = λ k. chain_is k ∙ filter-same _ _ (chain before.records k) (λ (w : ℕ × Option ℤ). ap not (nat_eq-swap w.0 t));
    read_from = λ u v. (unread-left t before.read_from u v, λ h. unread-kept t before.read_from u v h.0 h.1 h.2);
    start_count = length-set before.fates t (Some f);
    left = λ u g. ap left_kept (progress_at-without t u before.live g);
  }

  -- what holds at every moment holds afterwards
  pub kept_end : IsKept chain settled list nodes pairs after_end
  kept_end = record {
    in_range = kept.in_range;
    begun = subst (λ n. n ≤ before.limits.begins) (sym (length-set before.fates t (Some f))) kept.begun;
    sound = sound_removes before.limits.live _ _ kept.sound (λ u. nat_eq t u) removes;
    rising = subst Rising (sym removes.live) (rising-filter (λ u. not (nat_eq t u)) (numbers before.live) kept.rising);
    unended = λ u. ((λ h. still u (parts u h)), (λ h. nodes_are u ∙ back u h.0 h.1));
    along = λ u h. subst (IsAlong before.procedures) (sym (progress_at-without t u before.live (not-true (nat_eq t u) (parts u h).1)))
        (kept.along u (parts u h).0);
  } where
    parts : (u : ℕ) → nodes graph u ≡ true → (nodes before.graph u ≡ true) × (not (nat_eq t u) ≡ true)
    parts u h = and_parts (nodes before.graph u) (not (nat_eq t u)) (sym (nodes_are u) ∙ h)

    still : (u : ℕ) → (nodes before.graph u ≡ true) × (not (nat_eq t u) ≡ true)
        → (u < length (slice_set before.fates t (Some f))) × (fate_at (slice_set before.fates t (Some f)) u ≡ None)
    still u h =
        let o = (kept.unended u).0 h.0 in (
          subst (λ n. u < n) (sym (length-set before.fates t (Some f))) o.0,
          fates_end u
              ∙ (ap (λ b. cond b (Some f) (fate_at before.fates u)) (not-true (nat_eq t u) h.1) ∙ o.1),
        )

    back : (u : ℕ) → u < length (slice_set before.fates t (Some f)) → fate_at (slice_set before.fates t (Some f)) u ≡ None
        → (nodes before.graph u && not (nat_eq t u)) ≡ true
    back u h none = both (nat_eq t u) refl where
      both : (b : Bool) → nat_eq t u ≡ b → (nodes before.graph u && not (nat_eq t u)) ≡ true
      both true e = let g : Some f ≡ None = sym (ap (λ b. cond b (Some f) (fate_at before.fates u)) e)
          ∙ (sym (fates_end u) ∙ none) in absurd (cc)
      both false e = and_from (nodes before.graph u) (not (nat_eq t u))
          ((kept.unended u).1 (
            subst (λ n. u < n) (length-set before.fates t (Some f)) h,
            sym
                (ap (λ b. cond b (Some f) (fate_at before.fates u)) e) ∙ (sym (fates_end u) ∙ none),
          )) (ap not e)

  -- the same, of the parts as they were computed
  module _ (live : List (ℕ × Progress)) (read_from : List (ℕ × ℕ)) (fates : List (Option Fate)) (live_is : live ≡ others_live t before.live)
      (reads_are : read_from ≡ unread t before.read_from) (fates_are : fates ≡ slice_set before.fates t (Some f)) where
    -- the parts after the end, as they were computed
    abbrev pub after_parts : SchedulerView R A G
    after_parts = record before {
      records = records;
      accesses = accesses;
      graph = graph;
      live = live;
      read_from = read_from;
      fates = fates;
    }

    is_after : after_end ≡ after_parts
    is_after = λ i. record before {
      records = records;
      accesses = accesses;
      graph = graph;
      live = sym live_is i;
      read_from = sym reads_are i;
      fates = sym fates_are i;
    }

    -- what holds at every moment holds of them
    pub kept_after : IsKept chain settled list nodes pairs after_parts
    kept_after = subst (IsKept chain settled list nodes pairs) is_after kept_end

    -- the state loses t
    pub removes_after : Removes (λ u. nat_eq t u) (state_of chain settled list nodes pairs before)
        (state_of chain settled list nodes pairs after_parts)
    removes_after = subst (λ (p : SchedulerView R A G). Removes (λ u. nat_eq t u) (state_of chain settled list nodes pairs before)
        (state_of chain settled list nodes pairs p)) is_after removes

    -- t has its fate
    pub fates_after : (u : ℕ) → fate_at fates u ≡ cond (nat_eq t u) (Some f) (fate_at before.fates u)
    fates_after u = ap (λ l. fate_at l u) fates_are ∙ fates_end u
