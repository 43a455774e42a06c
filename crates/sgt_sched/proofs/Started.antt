-- What a start does to the state.
use Rattle.std.proofs.Common.{◌≡◌, ℕ, ℤ, ◌<◌, arith, Bool, true, false, ◌||◌, inl, inr, nat_eq, List, [], ◌∷◌, ◌++◌, length, Option, Some, None, refl, sym, ap, ◌∙◌, subst}
use Rattle.std.specs.Prelude.{IsSome}
use Rattle.std.specs.Option.{option_map}
use Rattle.std.proofs.lemmas.List.{length-append, length-map}
use Rattle.std.proofs.lemmas.Bool.{false_from_ne_true, or_cases, or_left, or_right, eqb-true, eqb-false}
use Rattle.sgt_model.specs.declared.reply.Fate.{Fate}
use Rattle.sgt_model.specs.Contents.{Key}
use Rattle.sgt_model.specs.Paths.{Member, AtMost, Rising}
use Rattle.sgt_model.specs.AccessList.{ListedAccess}
use Rattle.sgt_sched.specs.LiveProgress.{Progress, left_kept}
use Rattle.sgt_model.specs.declared.limits.Limits.{Limits}
use Rattle.sgt_model.specs.Syntax.{ProcedureText}
use Rattle.sgt_model.specs.Configurations.{procedure_at}
use Rattle.sgt_model.specs.LiveLeft.{left_if}
use Rattle.sgt_model.specs.declared.reply.Reply.TheVariants as reply
use Rattle.sgt_model.specs.StartReply.{taken_reply}
use Rattle.sgt_model.specs.CallEffects.{start_answer}
use Rattle.sgt_model.specs.State.{State}
use Rattle.sgt_model.specs.Changes.{Starts}
use Rattle.sgt_model.proofs.Conditions.{next_no_node}
use Rattle.sgt_model.proofs.SoundCalls.{sound_starts}
use Rattle.sgt_sched.specs.LiveList.{numbers, progress_at, started}
use Rattle.sgt_sched.specs.SchedulerView.{SchedulerView, fate_at, rules_of, state_of, IsAlong, IsKept}
use Rattle.sgt_sched.proofs.Lists.{numbers-added, progress_at-added, progress_at-new, fate_at-added, fate_at-past, rising-added}

-- a start that is let in names a procedure
named : (program : Option ProcedureText) (limits : Limits) (begun living t : ℕ) (args : List ℤ)
    → reply.Started t ≡ taken_reply limits begun living (option_map (λ (q : ProcedureText). q.args) program) args → IsSome program
named None limits begun living t args e = absurd (cc)
named (Some p) limits begun living t args e = refl

-- the same, by the parts and their state
pub is_named : {R A G : Type 0} (p : SchedulerView R A G) (c : State) (procedure t : ℕ) (args : List ℤ)
    → reply.Started t ≡ start_answer (rules_of p) c procedure args → IsSome (procedure_at p.procedures procedure)
is_named p c procedure t args is = named (procedure_at p.procedures procedure) p.limits c.start_count (length c.live) t args is

module _ {R A G : Type 0} {chain : R → Key → List (ℕ × Option ℤ)} {settled : R → Key → Option ℤ} {list : A → List ListedAccess}
    {nodes : G → ℕ → Bool} {pairs : G → ℕ → ℕ → Bool} {before : SchedulerView R A G} (kept : IsKept chain settled list nodes pairs before)
    (procedure : ℕ) (program : ProcedureText) (args : List ℤ) (named : procedure_at before.procedures procedure ≡ Some program) (graph : G)
    (nodes_are : (u : ℕ) → nodes graph u ≡ (nodes before.graph u || nat_eq u (length before.fates)))
    (pairs_are : (u v : ℕ) → pairs graph u v ≡ pairs before.graph u v) where
  -- the parts afterwards
  abbrev pub after_start : SchedulerView R A G
  after_start = record before {
    graph = graph;
    live = before.live ++ (length before.fates, started procedure program args) ∷ [];
    fates = before.fates ++ None ∷ [];
  }

  -- the next number is no live one's
  not_live : Member (length before.fates) (numbers before.live) → ⊥
  not_live m = next_no_node before.limits.live (state_of chain settled list nodes pairs before) kept.sound
      ((kept.sound.listed (length before.fates)).1 m)

  -- the state starts it
  pub start_count : Starts (left_if (procedure_at before.procedures procedure) args) (state_of chain settled list nodes pairs before)
      (state_of chain settled list nodes pairs after_start)
  start_count = record {
    live = numbers-added before.live (length before.fates) (started procedure program args);
    nodes = nodes_are;
    pairs = pairs_are;
    accesses = refl;
    chain = λ k. refl;
    settled = λ k. refl;
    read_from = λ u v. ((λ h. h), (λ h. h));
    fates = fate_at-added before.fates;
    start_count = length-append before.fates (None ∷ []);
    left = λ u h. ap left_kept (progress_at-added before.live (length before.fates) u (started procedure program args) h);
    own_left = ap left_kept (progress_at-new before.live (length before.fates) (started procedure program args) not_live)
        ∙ sym (ap (λ p. left_if p args) named);
  }

  -- what holds at every moment holds afterwards
  pub kept_start : length before.live < before.limits.live → length before.fates < before.limits.begins
      → IsKept chain settled list nodes pairs after_start
  kept_start capacity more = record {
    in_range = kept.in_range;
    begun = omega (arith, length-append before.fates (None ∷ []));
    sound = sound_starts before.limits.live _ _ kept.sound (left_if (procedure_at before.procedures procedure) args)
        (few before.live capacity) start_count;
    rising = subst Rising (sym start_count.live) (rising-added (length before.fates) (numbers before.live) kept.rising
        (λ u m. kept.sound.begun u ((kept.sound.listed u).1 m)));
    unended = λ u. (
      (λ h. elim (or_cases (nodes before.graph u) (nat_eq u (length before.fates)) (sym (nodes_are u) ∙ h))
          [ inl old ↦ was u old | inr new ↦ is_new u (eqb-true u (length before.fates) new) ]),
      (λ h. nodes_are u ∙ back u h.0 h.1),
    );
    along = λ u h. elim (or_cases (nodes before.graph u) (nat_eq u (length before.fates)) (sym (nodes_are u) ∙ h))
        [ inl old ↦ used_before u old | inr new ↦ used_now u (eqb-true u (length before.fates) new) ];
  } where
    Open : ℕ → Type 0
    Open u = (u < length (before.fates ++ None ∷ [])) × (fate_at (before.fates ++ None ∷ []) u ≡ None)

    few : (l : List (ℕ × Progress)) → length l < before.limits.live → length (numbers l) < before.limits.live
    few l h = subst (λ n. n < before.limits.live) (sym (length-map l _)) h

    was : (u : ℕ) → nodes before.graph u ≡ true → Open u
    was u h = let o = (kept.unended u).0 h in (
      omega (arith, o.0, length-append before.fates (None ∷ [])),
      fate_at-added before.fates u
          ∙ o.1,
    )

    is_new : (u : ℕ) → u ≡ length before.fates → Open u
    is_new u e = (
      omega (arith, e, length-append before.fates (None ∷ [])),
      fate_at-added before.fates u
          ∙ fate_at-past before.fates u (omega (arith, e)),
    )

    back : (u : ℕ) → u < length (before.fates ++ None ∷ []) → fate_at (before.fates ++ None ∷ []) u ≡ None
        → (nodes before.graph u || nat_eq u (length before.fates)) ≡ true
    back u h f = both (nat_eq u (length before.fates)) refl where
      both : (b : Bool) → nat_eq u (length before.fates) ≡ b → (nodes before.graph u || nat_eq u (length before.fates)) ≡ true
      both true e = or_right (nodes before.graph u) _ e
      both false e = or_left _ (nat_eq u (length before.fates))
          ((kept.unended u).1 (
            omega (arith, h, length-append before.fates (None ∷ []), eqb-false u (length before.fates) e),
            sym
                (fate_at-added before.fates u) ∙ f,
          ))

    used_before : (u : ℕ) → nodes before.graph u ≡ true
        → IsAlong before.procedures (progress_at (before.live ++ (length before.fates, started procedure program args) ∷ []) u)
    used_before u h = subst (IsAlong before.procedures)
        (sym (progress_at-added before.live (length before.fates) u (started procedure program args)
        (λ e. next_no_node before.limits.live (state_of chain settled list nodes pairs before) kept.sound
        (subst (λ x. nodes before.graph x ≡ true) e h)))) (kept.along u h)

    used_now : (u : ℕ) → u ≡ length before.fates → IsAlong before.procedures
        (progress_at (before.live ++ (length before.fates, started procedure program args) ∷ []) u)
    used_now u e = subst (IsAlong before.procedures) (sym
        (ap (progress_at after_start.live) e ∙ progress_at-new before.live (length before.fates)
        (started procedure program args) not_live)) named

module _ {R A G : Type 0} {chain : R → Key → List (ℕ × Option ℤ)} {settled : R → Key → Option ℤ} {list : A → List ListedAccess}
    {nodes : G → ℕ → Bool} {pairs : G → ℕ → ℕ → Bool} {before : SchedulerView R A G} (kept : IsKept chain settled list nodes pairs before)
    (procedure : ℕ) (program : ProcedureText) (args : List ℤ) (t : ℕ) (next : t ≡ length before.fates) where
  -- the next number is no node
  pub start_new : nodes before.graph t ≡ false
  start_new = false_from_ne_true (nodes before.graph t)
      (λ h. next_no_node before.limits.live (state_of chain settled list nodes pairs before) kept.sound
      (subst (λ n. nodes before.graph n ≡ true) next h))

  -- there is capacity for one more node
  pub start_capacity : length (numbers before.live) < before.limits.live → AtMost 31 (nodes before.graph)
  start_capacity capacity = record {
    among = numbers before.live;
    few = omega (arith, capacity, kept.in_range.few_live);
    all = λ u h. (kept.sound.listed u).0 h;
  }

  -- the parts after a start, with its effect
  pub start_done : (graph : G) (live : List (ℕ × Progress)) (fates : List (Option Fate))
      → ((u : ℕ) → nodes graph u ≡ (nodes before.graph u || nat_eq u t)) → ((u v : ℕ) → pairs graph u v ≡ pairs before.graph u v)
      → live ≡ before.live ++ (t, started procedure program args) ∷ [] → fates ≡ before.fates ++ None ∷ []
      → procedure_at before.procedures procedure ≡ Some program → length (numbers before.live) < before.limits.live
      → length before.fates < before.limits.begins → IsKept chain settled list nodes pairs
      (record before { graph = graph; live = live; fates = fates }) × Starts
      (left_if (procedure_at before.procedures procedure) args) (state_of chain settled list nodes pairs before)
      (state_of chain settled list nodes pairs (record before { graph = graph; live = live; fates = fates }))
  start_done graph live fates nodes_are pairs_are live_is fates_is named capacity more =
      subst (λ (p : SchedulerView R A G). IsKept chain settled list nodes pairs p × Starts
      (left_if (procedure_at before.procedures procedure) args) (state_of chain settled list nodes pairs before)
      (state_of chain settled list nodes pairs p)) same (
        kept_start kept procedure program args named graph nodes_now pairs_are
            (subst (λ n. n < before.limits.live) (length-map before.live _) capacity) more,
        start_count kept procedure program args named graph
            nodes_now pairs_are,
      ) where
        nodes_now : (u : ℕ) → nodes graph u ≡ (nodes before.graph u || nat_eq u (length before.fates))
        nodes_now u = nodes_are u ∙ ap (λ n. nodes before.graph u || nat_eq u n) next

        live_now : before.live ++ (length before.fates, started procedure program args) ∷ [] ≡ live
        live_now = sym (live_is ∙ ap (λ n. before.live ++ (n, started procedure program args) ∷ []) next)

        fates_now : before.fates ++ None ∷ [] ≡ fates
        fates_now = sym fates_is

        same : after_start kept procedure program args named graph nodes_now pairs_are ≡ record before {
          graph = graph;
          live = live;
          fates = fates;
        }
        same = λ i. record before { graph = graph; live = live_now i; fates = fates_now i }
