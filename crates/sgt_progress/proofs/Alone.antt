-- No other transaction hinders the only live one.
use Rattle.std.specs.Prelude.{◌≡◌, ℕ, ◌<◌, ◌≤◌, ◌+◌, ℤ, Bool, true, false, cond, ◌⊎◌, nat_eq, List, [], ◌∷◌, ◌++◌, length, Some, None}
use Rattle.std.proofs.Common.{refl, sym, ap, ap₂, ◌∙◌, subst, inl, inr, arith}
use Rattle.std.proofs.lemmas.Bool.{both_ways, cases_lt, eq-eqb}
use Rattle.std.specs.Option.{option_or}
use Rattle.std.specs.List.{list_any}
use Rattle.sgt_model.specs.declared.event.Event.{Event}
use Rattle.sgt_model.specs.declared.event.Event.TheVariants.{Start}
use Rattle.sgt_model.specs.declared.event.Request.{Request}
use Rattle.sgt_model.specs.declared.reply.Reply.{Reply}
use Rattle.sgt_model.specs.declared.reply.Cause.{Cause}
use Rattle.sgt_model.specs.declared.reply.Cause.TheVariants as cause
use Rattle.sgt_model.specs.declared.reply.Fate.{Fate}
use Rattle.sgt_model.specs.declared.reply.Fate.TheVariants as fate
use Rattle.sgt_model.specs.declared.entry.Entry.{Entry}
use Rattle.sgt_model.specs.declared.kind.Kind.{Kind}
use Rattle.sgt_model.specs.Contents.{Key}
use Rattle.sgt_model.specs.declared.limits.Asks.{Asks}
use Rattle.sgt_model.specs.declared.limits.Asks.TheVariants.{AtStep, AtCommit}
use Rattle.sgt_model.specs.declared.kind.Kind.TheVariants.{Look, Store}
use Rattle.sgt_model.specs.Traces.{Next, Looks, Puts, Ends, Raises}
use Rattle.sgt_model.specs.Progress.{requested, is_fit, next_of}
use Rattle.sgt_progress.proofs.Moves.{of_live}
use Rattle.sgt_model.specs.Paths.{PathOf}
use Rattle.sgt_model.specs.Fates.{is_start, concerns, subject, start_count, fate_of, live, ending_in}
use Rattle.sgt_model.specs.Pairs.{Pair}
use Rattle.sgt_model.specs.Closes.{Closes}
use Rattle.sgt_model.specs.Configurations.{Configuration}
use Rattle.sgt_model.specs.Aborts.{CauseHolds}
use Rattle.sgt_model.specs.Legality.{CycleAbortReply, Makes, StepReply, OfFit, RequestReply, CommitReply, RaisedStep, RaisedCommit, LegalReply, Legal, HasNoLivePredecessor}
use Rattle.sgt_model.proofs.Effects.{Effect, idle, begins, accesses, commits, undoes, refuses, effect, ends_none-no_end}
use Rattle.sgt_model.proofs.Facts.{live-no_fate, live-started, live-before, live_from, fate-final, option_or-at_none, started-stays, precedes-started, committed_else}
use Rattle.sgt_model.proofs.PairOrder.{no_pair_from_live}
use Rattle.sgt_model.proofs.Questions.{started_are_live}
use Rattle.sgt_progress.specs.Alone.{IsAlone, IsNoQuitOf, AreNoQuitsOf, is_hindered, AloneIsNotAborted, IsByItself, AloneEndsByItself, StartedAlone}

-- no edge leads from it
pub no_pair_out : (s : Configuration) (past : List Entry) → Legal s past → (t : ℕ) → IsAlone past t → (u : ℕ) → Pair past t u → ⊥
no_pair_out s past legal t alone u p = no_pair_from_live s past legal t u alone.is_live
    (committed_else past u (precedes-started s past legal t u p.precedes).1 (λ alive. p.apart (sym (alone.only u alive))) p.second_stands) p

-- so no access of it closes a cycle
pub closes_none : (s : Configuration) (past : List Entry) → Legal s past → (t : ℕ) → IsAlone past t
    → (k : Key) (kind : Kind) (rest : List ℕ)
    → Closes past t k kind rest → ⊥
closes_none s past legal t alone k kind rest c = go rest c.at_least_two c.pairs
  where
    go : (rest : List ℕ) → 0 < length rest → PathOf (Pair past) t rest → ⊥
    go [] some p = omega arith
    go (u ∷ rest) some p = no_pair_out s past legal t alone u p.0

-- and it waits for none
pub waits_for_none : (past : List Entry) (t : ℕ) → IsAlone past t → HasNoLivePredecessor past t
waits_for_none past t alone v p = p.pair.apart (alone.only v p.is_live)

-- an event of it

pub undoes_own : (s : Configuration) (past : List Entry) → Legal s past → (t : ℕ) → IsAlone past t → (event : Event) → IsNoQuitOf event t
    → (why : Cause) → CauseHolds s past event why → (code : ℕ) × (why ≡ cause.Asked code)
undoes_own s past legal t alone event (inl (inl e)) (cause.Cycle cycle) h =
    let c = subst (λ v. CauseHolds s past v (cause.Cycle cycle)) e h in absurd
    (closes_none s past legal t alone c.key c.kind c.rest c.closes)
undoes_own s past legal t alone event (inl (inr e)) (cause.Cycle cycle) h = absurd
    (subst (λ v. CauseHolds s past v (cause.Cycle cycle)) e h)
undoes_own s past legal t alone event (inr (d, e)) (cause.Cycle cycle) h =
    let c = subst (λ v. CauseHolds s past v (cause.Cycle cycle)) e h in absurd
    (closes_none s past legal t alone c.key c.kind c.rest c.closes)
undoes_own s past legal t alone event a (cause.Asked code) h = (code, refl)
undoes_own s past legal t alone event (inl (inl e)) cause.Quit h = absurd (subst (λ v. CauseHolds s past v cause.Quit) e h)
undoes_own s past legal t alone event (inl (inr e)) cause.Quit h = absurd (subst (λ v. CauseHolds s past v cause.Quit) e h)
undoes_own s past legal t alone event (inr (d, e)) cause.Quit h = absurd (subst (λ v. CauseHolds s past v cause.Quit) e h)

pub started_alone : StartedAlone
started_alone s past e legal none t is = record {
  is_live = alive;
  only = λ u h. elim (cases_lt u (start_count past)) [
    | inl before ↦ absurd (both_ways _ (none u) (live-before e past u h before))
    | inr new ↦ elim (cases_lt t (start_count past)) [
      | inl before ↦ absurd (both_ways _ (none t) (live-before e past t alive before))
      | inr newest ↦ let a = live-started (e ∷ past) u h in let b = live-started (e ∷ past) t alive in
          let c = grows_one (is_start e.reply) (start_count past) in omega arith
    ]
  ];
}
  where
    alive : live (e ∷ past) t ≡ true
    alive = started_are_live s past e legal t is

    grows_one : (b : Bool) (n : ℕ) → cond b (n + 1) n ≤ n + 1
    grows_one true n = omega arith
    grows_one false n = omega arith

-- it stays the only one, or ends by itself

abbrev pub Goes : List Entry → ℕ → Type 0
Goes past t = IsAlone past t ⊎ ((f : Fate) × (fate_of past t ≡ Some f) × IsByItself (Some f))

pub asks-no_start : (event : Event) (t : ℕ) → IsNoQuitOf event t → (p : ℕ) (args : List ℤ) → event ≡ Start p args → ⊥
asks-no_start event t (inl (inl a)) p args e = cc
asks-no_start event t (inl (inr a)) p args e = cc
asks-no_start event t (inr (d, a)) p args e = cc

-- it stays alone, where an entry ends none and starts none
pub stays_alone : (past : List Entry) (e : Entry) (t : ℕ) → IsAlone past t → is_start e.reply ≡ false
    → ending_in e.event e.reply t ≡ None → IsAlone (e ∷ past) t
stays_alone past e t alone no_start no_end = record {
  is_live = live_from (e ∷ past) t (started-stays e past t (live-started past t alone.is_live))
      (option_or-at_none _ _ no_end ∙ live-no_fate past t alone.is_live);
  only = λ u h. alone.only u (live-before e past u h (subst (λ b. u < cond b (start_count past + 1) (start_count past)) no_start
      (live-started (e ∷ past) u h)));
}

concerns_t : (event : Event) (t : ℕ) → IsNoQuitOf event t → concerns event t ≡ true
concerns_t event t (inl (inl e)) = ap (λ v. concerns v t) e ∙ eq-eqb t t refl
concerns_t event t (inl (inr e)) = ap (λ v. concerns v t) e ∙ eq-eqb t t refl
concerns_t event t (inr (d, e)) = ap (λ v. concerns v t) e ∙ eq-eqb t t refl

ends_own : (past : List Entry) (e : Entry) (t : ℕ) (f : Fate) → ending_in e.event e.reply t ≡ Some f → fate_of (e ∷ past) t ≡ Some f
ends_own past e t f is = ap (λ o. option_or o (fate_of past t)) is

pub goes_on : (s : Configuration) (past : List Entry) (e : Entry) (t : ℕ) → Legal s (e ∷ past) → IsNoQuitOf e.event t
    → IsAlone past t → Goes (e ∷ past) t
goes_on s past e t legal asks alone = by_effect (effect s past e.event e.reply legal.1)
  where
    own : concerns e.event t ≡ true
    own = concerns_t e.event t asks

    by_effect : Effect s past e.event e.reply → Goes (e ∷ past) t
    by_effect (idle i) = inl (stays_alone past e t alone i.no_start (ends_none-no_end e.event e.reply i.ends_none t))
    by_effect (begins b) = absurd (asks-no_start e.event t asks b.procedure b.args b.event_is)
    by_effect (accesses x) = inl (stays_alone past e t alone x.no_start (ends_none-no_end e.event e.reply x.ends_none t))
    by_effect (commits c) = inr (
      fate.Committed,
      ends_own past e t fate.Committed
          (ap (λ r. ending_in e.event r t) c.reply_is ∙ ap (λ b. cond b (Some fate.Committed) None) own),
      tt,
    )
    by_effect (undoes x) = let w = undoes_own s past legal.0 t alone e.event asks x.undoing.why x.has_cause in
        inr (
          fate.Aborted (cause.Asked w.0),
          ends_own past e t _ (ap (λ r. ending_in e.event r t) x.reply_is
              ∙ ap₂ (λ why b. cond b (Some (fate.Aborted why))
              (cond (list_any (λ v. nat_eq v t) x.undoing.fell) (Some (fate.Fell (subject e.event))) None)) w.1 own),
          tt,
        )
    by_effect (refuses x) = inr (
      fate.Aborted (cause.Asked x.code),
      ends_own past e t _ (ap (λ r. ending_in e.event r t) x.reply_is
          ∙ ap (λ b. cond b (Some (fate.Aborted (cause.Asked x.code)))
          (cond (list_any (λ v. nat_eq v t) x.undoing.fell) (Some (fate.Fell (subject e.event))) None)) own),
      tt,
    )

pub goes : (s : Configuration) (past : List Entry) (t : ℕ) → IsAlone past t → (later : List Entry) → AreNoQuitsOf t later
    → Legal s (later ++ past) → Goes (later ++ past) t
goes s past t alone [] asked legal = inl alone
goes s past t alone (e ∷ later) asked legal = elim (goes s past t alone later asked.1 legal.0) [
  | inl a ↦ goes_on s (later ++ past) e t legal asked.0 a
  | inr (f, is, own) ↦ inr (f, fate-final s e (later ++ past) legal t f is, own)
]

pub alone_ends_by_itself : AloneEndsByItself
alone_ends_by_itself s past legal t alone later asked all = elim (goes s past t alone later asked all) [
  | inl a ↦ subst IsByItself (sym (live-no_fate (later ++ past) t a.is_live)) tt
  | inr (f, is, own) ↦ subst IsByItself (sym is) own
]

module _ (s : Configuration) (past : List Entry) (legal : Legal s past) (t : ℕ) (alone : IsAlone past t) (r : Reply) where
  access_free : (k : Key) (kind : Kind) (given : Reply) → is_hindered given ≡ false
      → CycleAbortReply past t k kind r ⊎ Makes past t k kind given r → is_hindered r ≡ false
  access_free k kind given free (inl c) = absurd (closes_none s past legal t alone k kind c.rest c.closes)
  access_free k kind given free (inr m) = ap is_hindered m.is ∙ free

  step_free : (n : Next) → StepReply s past t n r → is_hindered r ≡ false
  step_free (Looks k) h = access_free k Look _ refl h
  step_free (Puts k v) h = access_free k Store _ refl h
  step_free (Ends answers) h = ap is_hindered h
  step_free (Raises code) h = go s.rules.limits.asks h
    where
      go : (asks : Asks) → RaisedStep asks past t code r → is_hindered r ≡ false
      go AtStep h = ap is_hindered h.is
      go AtCommit h = ap is_hindered h

  commit_free : (n : Next) → CommitReply s past t n r → is_hindered r ≡ false
  commit_free (Looks k) h = ap is_hindered h
  commit_free (Puts k v) h = ap is_hindered h
  commit_free (Ends answers) (inl w) = absurd (waits_for_none past t alone w.predecessor w.least.pair)
  commit_free (Ends answers) (inr m) = ap is_hindered m.is
  commit_free (Raises code) h = go s.rules.limits.asks h
    where
      go : (asks : Asks) → RaisedCommit asks past t code r → is_hindered r ≡ false
      go AtStep h = ap is_hindered h
      go AtCommit (inl w) = absurd (waits_for_none past t alone w.predecessor w.least.pair)
      go AtCommit (inr m) = ap is_hindered m.is

  request_free : (d : Request) (n : Next) → RequestReply s past t d n r → is_hindered r ≡ false
  request_free d (Looks k) h = ap is_hindered h
  request_free d (Puts k v) h = ap is_hindered h
  request_free d (Raises code) h = ap is_hindered h
  request_free d (Ends answers) h = by_fit (is_fit d) h
    where
      by_fit : (fit : Bool) → OfFit fit r (StepReply s past t (requested d) r) → is_hindered r ≡ false
      by_fit true h = step_free (requested d) h
      by_fit false h = ap is_hindered h

pub alone_is_not_aborted : AloneIsNotAborted
alone_is_not_aborted s past legal t alone event (inl (inl e)) r h = step_free s past legal t alone r (next_of s past t)
    (of_live past t r _ alone.is_live (subst (λ v. LegalReply s past v r) e h))
alone_is_not_aborted s past legal t alone event (inr (d, e)) r h = request_free s past legal t alone r d (next_of s past t)
    (of_live past t r _ alone.is_live (subst (λ v. LegalReply s past v r) e h))
alone_is_not_aborted s past legal t alone event (inl (inr e)) r h = commit_free s past legal t alone r (next_of s past t)
    (of_live past t r _ alone.is_live (subst (λ v. LegalReply s past v r) e h))
