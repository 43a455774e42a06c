-- The history keeps capacity for one end of each live transaction; and which legal replies end one.
use Rattle.std.proofs.Common.{◌≡◌, ℕ, ◌+◌, ◌≤◌, arith, Bool, true, false, ◌&&◌, cond, nat_eq, ℤ, inl, inr, List, length, nat_lt, Option, Some, None, refl, sym, ap, ap₂, ◌∙◌, subst}
use Rattle.std.proofs.lemmas.Bool.{true≢false, and_parts}
use Rattle.std.specs.Option.{is_none}
use Rattle.sgt_model.specs.declared.limits.Asks.TheVariants.{AtStep, AtCommit}
use Rattle.sgt_model.specs.declared.limits.Asks.{Asks}
use Rattle.sgt_model.specs.declared.entry.Entry.{Entry}
use Rattle.sgt_model.specs.declared.event.Event.{Event}
use Rattle.sgt_model.specs.declared.event.Event.TheVariants.{Start, Step, Access, Commit, Quit}
use Rattle.sgt_model.specs.declared.event.Request.{Request}
use Rattle.sgt_model.specs.declared.kind.Kind.TheVariants.{Look, Store}
use Rattle.sgt_model.specs.declared.limits.Limits.{Limits}
use Rattle.sgt_model.specs.declared.reply.Fate.{Fate}
use Rattle.sgt_model.specs.declared.reply.Reply.{Reply}
use Rattle.sgt_model.specs.declared.reply.Reply.TheVariants as reply
use Rattle.sgt_model.specs.Traces.{Next, Looks, Puts, Ends, Raises}
use Rattle.sgt_model.specs.Fates.{start_count, fate_of, live, live_ones}
use Rattle.sgt_model.specs.Configurations.{Configuration, takes}
use Rattle.sgt_model.specs.Progress.{next_of, requested, is_fit}
use Rattle.sgt_model.specs.Left.{next_left}
use Rattle.sgt_model.specs.Legality.{Legal, LegalReply, StepReply, OfFit, RequestReply, CommitReply, OfStarted, RaisedStep, RaisedCommit, HasNoLivePredecessor}
use Rattle.sgt_model.specs.StartReply.{args_fit, capacity_reply, taken_reply}
use Rattle.sgt_model.specs.State.{State}
use Rattle.sgt_model.specs.StateAfter.{IsStateAfter}
use Rattle.sgt_model.specs.CallEffects.{CallEffect}
use Rattle.sgt_model.specs.Refinement.{NextsAgree, StatesAreSound, VerdictsAgree}
use Rattle.sgt_model.specs.Paths.{Member}
use Rattle.sgt_sched.specs.Steps.{IsUnended}
use Rattle.sgt_model.specs.Questions.{is_ending}
use Rattle.sgt_sched.specs.Endings.{StepEnds, RequestEnds, CommitEnds, EndsOne, RepliesEndWhere, CallsCount, AtItsStep, AtItsCommit, IsFirst}
use Rattle.sgt_engine.specs.EngineView.{EngineView, configuration_of}

-- what is true of a state that belongs to a legal history, and of calls on it
pub record StateLaws : Type 0 where
  pub sound : StatesAreSound
  pub verdicts : VerdictsAgree
  pub nexts : NextsAgree
  pub replies : RepliesEndWhere
  pub counts : CallsCount

-- which transactions are live
live_from : (past : List Entry) (t : ℕ) → nat_lt t (start_count past) ≡ true → fate_of past t ≡ None → live past t ≡ true
live_from past t started unended = ap₂ (λ a b. a && is_none b) started unended

live-started : (past : List Entry) (t : ℕ) → live past t ≡ true → nat_lt t (start_count past) ≡ true
live-started past t alive = (and_parts (nat_lt t (start_count past)) (is_none (fate_of past t)) alive).0

no_fate : (fate : Option Fate) → is_none fate ≡ true → fate ≡ None
no_fate None none = refl
no_fate (Some fate) none = absurd (cc)

live-no_fate : (past : List Entry) (t : ℕ) → live past t ≡ true → fate_of past t ≡ None
live-no_fate past t alive = no_fate (fate_of past t) (and_parts (nat_lt t (start_count past)) (is_none (fate_of past t)) alive).1

-- a start ends nothing
start_quiet : (limits : Limits) (begun living : ℕ) (taken : Option ℕ) (args : List ℤ)
    → is_ending (taken_reply limits begun living taken args) ≡ false
start_quiet limits begun living None args = refl
start_quiet limits begun living (Some count) args = fits (args_fit count args) where
  full : (b : Bool) → is_ending (cond b reply.Full (reply.Started begun)) ≡ false
  full true = refl
  full false = refl

  spent : (b : Bool) → is_ending (cond b reply.Spent (cond (nat_eq living limits.live) reply.Full (reply.Started begun))) ≡ false
  spent true = refl
  spent false = full (nat_eq living limits.live)

  fits : (b : Bool) → is_ending (cond b (capacity_reply limits begun living) reply.BadArgs) ≡ false
  fits true = spent (nat_eq begun limits.begins)
  fits false = refl

module _ (laws : StateLaws) (s : Configuration) (past : List Entry) (legal : Legal s past) (c : State) (i : IsStateAfter s past c) where
  -- a transaction that was started and has not ended is listed as live
  pub unended_listed : (t : ℕ) → IsUnended c t → Member t c.live
  unended_listed t u = ((laws.sound s past legal c i).listed t).0
      (i.nodes t ∙ live_from past t (ap (nat_lt t) (sym i.start_count) ∙ u.begun) (sym (i.fates t) ∙ u.unended))

  -- a live transaction was started, and has not ended
  pub live_unended : (t : ℕ) → live past t ≡ true → IsUnended c t
  live_unended t alive = record {
    begun = ap (nat_lt t) i.start_count ∙ live-started past t alive;
    unended = i.fates t
        ∙ live-no_fate past t alive;
  }

  -- an event for which capacity was provided leaves capacity for one end of each that is live then
  pub spare_left : (event : Event) (after : State) (r : Reply) (spare : ℕ) → CallEffect s.rules event c r after → length c.live ≤ spare
      → ((EndsOne s.rules.limits.asks event c → ⊥) → length c.live + 2 ≤ spare) → length after.live + 1 ≤ spare
  spare_left event after r spare done kept more = both (is_ending r) refl where
    both : (b : Bool) → is_ending r ≡ b → length after.live + 1 ≤ spare
    both true e = omega (arith, kept, (laws.counts s.rules event c r after unended_listed done).fewer e)
    both false e = omega (
      arith,
      more (λ ends. true≢false (sym ((laws.replies s.rules event c r after done).0 ends) ∙ e)),
      (laws.counts s.rules event c r after unended_listed done).most,
    )

  -- a legal reply that ends a transaction is one to an event that ends it
  quiet : (r answer : Reply) → r ≡ answer → is_ending answer ≡ false → is_ending r ≡ true → ⊥
  quiet r answer is isnt e = true≢false (sym e ∙ (ap is_ending is ∙ isnt))

  opened : (r : Reply) (X : Type 0) (b : Bool) (o : Option Fate) → OfStarted b o r X → is_ending r ≡ true → (b ≡ true) × (o ≡ None) × X
  opened r X false o x e = absurd (quiet r _ x refl e)
  opened r X true (Some f) x e = absurd (quiet r _ x refl e)
  opened r X true None x e = (refl, refl, x)

  raised_step_ends : (asks : Asks) (t code : ℕ) (r : Reply) → RaisedStep asks past t code r → is_ending r ≡ true → AtItsStep asks
  raised_step_ends AtStep t code r x e = tt
  raised_step_ends AtCommit t code r x e = absurd (quiet r _ x refl e)

  step_ends : (t : ℕ) (n : Next) (r : Reply) → live past t ≡ true → StepReply s past t n r → is_ending r ≡ true
      → StepEnds s.rules.limits.asks t n c
  step_ends t (Looks k) r l (inl x) e = (x.rest, (laws.verdicts s past legal c i t k Look x.rest l).1 x.closes)
  step_ends t (Looks k) r l (inr x) e = absurd (quiet r _ x.is refl e)
  step_ends t (Puts k v) r l (inl x) e = (x.rest, (laws.verdicts s past legal c i t k Store x.rest l).1 x.closes)
  step_ends t (Puts k v) r l (inr x) e = absurd (quiet r _ x.is refl e)
  step_ends t (Ends answers) r l x e = absurd (quiet r _ x refl e)
  step_ends t (Raises code) r l x e = raised_step_ends s.rules.limits.asks t code r x e

  fit_ends : (t : ℕ) (d : Request) (fit : Bool) (r : Reply) → is_fit d ≡ fit → live past t ≡ true
      → OfFit fit r (StepReply s past t (requested d) r) → is_ending r ≡ true
      → (is_fit d ≡ true) × StepEnds s.rules.limits.asks t (requested d) c
  fit_ends t d true r is l x e = (is, step_ends t (requested d) r l x e)
  fit_ends t d false r is l x e = absurd (quiet r _ x refl e)

  request_ends : (t : ℕ) (d : Request) (n : Next) (r : Reply) → live past t ≡ true → RequestReply s past t d n r → is_ending r ≡ true
      → RequestEnds s.rules.limits.asks t d n c
  request_ends t d (Ends answers) r l x e = fit_ends t d (is_fit d) r refl l x e
  request_ends t d (Looks k) r l x e = absurd (quiet r _ x refl e)
  request_ends t d (Puts k v) r l x e = absurd (quiet r _ x refl e)
  request_ends t d (Raises code) r l x e = absurd (quiet r _ x refl e)

  -- a transaction without a live predecessor has none in the graph
  first_in : (t : ℕ) → HasNoLivePredecessor past t → IsFirst t c
  first_in t none u p = let pair = (i.pairs u t).0 p in none u (record { is_live = pair.first_live; pair = pair.pair })

  raised_commit_ends : (asks : Asks) (t code : ℕ) (r : Reply) → RaisedCommit asks past t code r → is_ending r ≡ true
      → AtItsCommit asks × IsFirst t c
  raised_commit_ends AtStep t code r x e = absurd (quiet r _ x refl e)
  raised_commit_ends AtCommit t code r (inl x) e = absurd (quiet r _ x.is refl e)
  raised_commit_ends AtCommit t code r (inr x) e = (tt, first_in t x.none_live)

  commit_ends : (t : ℕ) (n : Next) (r : Reply) → CommitReply s past t n r → is_ending r ≡ true → CommitEnds s.rules.limits.asks t n c
  commit_ends t (Ends answers) r (inl x) e = absurd (quiet r _ x.is refl e)
  commit_ends t (Ends answers) r (inr x) e = first_in t x.none_live
  commit_ends t (Looks k) r x e = absurd (quiet r _ x refl e)
  commit_ends t (Puts k v) r x e = absurd (quiet r _ x refl e)
  commit_ends t (Raises code) r x e = raised_commit_ends s.rules.limits.asks t code r x e

  next_same : (t : ℕ) → live past t ≡ true → next_of s past t ≡ next_left (c.left t)
  next_same t l = sym (laws.nexts s past legal c i t l)

  pub legal_ends : (event : Event) (r : Reply) → LegalReply s past event r → is_ending r ≡ true
      → EndsOne s.rules.limits.asks event c
  legal_ends (Start p args) r x e =
      absurd (quiet r _ x (start_quiet s.rules.limits (start_count past) (length (live_ones past)) (takes s.rules p) args) e)
  legal_ends (Step t) r x e =
      let o = opened r _ (nat_lt t (start_count past)) (fate_of past t) x e in
      let l = live_from past t o.0 o.1 in
      (live_unended t l, subst (λ n. StepEnds s.rules.limits.asks t n c) (next_same t l) (step_ends t (next_of s past t) r l o.2 e))
  legal_ends (Access t d) r x e =
      let o = opened r _ (nat_lt t (start_count past)) (fate_of past t) x e in
      let l = live_from past t o.0 o.1 in (
        live_unended t l,
        subst (λ n. RequestEnds s.rules.limits.asks t d n c) (next_same t l)
            (request_ends t d (next_of s past t) r l o.2 e),
      )
  legal_ends (Commit t) r x e =
      let o = opened r _ (nat_lt t (start_count past)) (fate_of past t) x e in
      let l = live_from past t o.0 o.1 in
      (live_unended t l, subst (λ n. CommitEnds s.rules.limits.asks t n c) (next_same t l) (commit_ends t (next_of s past t) r o.2 e))
  legal_ends (Quit t) r x e =
      let o = opened r _ (nat_lt t (start_count past)) (fate_of past t) x e in
      live_unended t (live_from past t o.0 o.1)

-- the same, as callers see an engine
pub ends_seen : StateLaws → (before now : EngineView) → before ≡ now → (c : State) → Legal (configuration_of before) before.past
    → IsStateAfter (configuration_of before) before.past c → (event : Event) (r : Reply) → LegalReply (configuration_of now) now.past event r
    → is_ending r ≡ true → EndsOne before.limits.asks event c
ends_seen laws before now seen c legal i event r l e = legal_ends laws (configuration_of before) before.past legal c i event r
    (subst (λ (v : EngineView). LegalReply (configuration_of v) v.past event r) (sym seen) l) e
