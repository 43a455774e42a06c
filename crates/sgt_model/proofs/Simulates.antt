-- A call that changes the state as its contract says answers legally, and leaves the state after the longer history.
use Rattle.std.proofs.Common.{◌≡◌, ℕ, ℤ, Bool, true, false, cond, ◌⊎◌, List, ◌∷◌, Option, Some, None, nat_eq, nat_lt, refl, sym, ap, ap₂, subst, inl, inr, ◌∙◌}
use Rattle.std.specs.Prelude.{length}
use Rattle.std.proofs.lemmas.Bool.{or_cases, eqb-true, ltb-true}
use Rattle.std.specs.List.{list_any}
use Rattle.sgt_model.specs.declared.event.Event.{Event}
use Rattle.sgt_model.specs.declared.event.Event.TheVariants.{Start, Step, Access, Commit, Quit}
use Rattle.sgt_model.specs.declared.event.Request.{Request}
use Rattle.sgt_model.specs.declared.event.Request.TheVariants.{Read, Write}
use Rattle.sgt_model.specs.declared.reply.Reply.{Reply}
use Rattle.sgt_model.specs.declared.reply.Reply.TheVariants as reply
use Rattle.sgt_model.specs.declared.reply.Cause.{Cause}
use Rattle.sgt_model.specs.declared.reply.Cause.TheVariants as cause
use Rattle.sgt_model.specs.declared.reply.Fate.{Fate}
use Rattle.sgt_model.specs.declared.entry.Entry.{Entry}
use Rattle.sgt_model.specs.declared.kind.Kind.{Kind}
use Rattle.sgt_model.specs.declared.kind.Kind.TheVariants.{Look, Store}
use Rattle.sgt_model.specs.declared.limits.Asks.{Asks}
use Rattle.sgt_model.specs.declared.limits.Asks.TheVariants.{AtStep, AtCommit}
use Rattle.sgt_model.specs.Contents.{Key}
use Rattle.sgt_model.specs.Traces.{Raises, Ends, Looks, Next, Puts}
use Rattle.sgt_model.specs.Fates.{fate_of, live, live_ones, start_count}
use Rattle.sgt_model.specs.Closes.{Closes}
use Rattle.sgt_model.specs.Configurations.{Configuration, takes}
use Rattle.sgt_model.specs.Progress.{next_of, requested, is_fit}
use Rattle.sgt_model.specs.Legality.{AbortReply, RaisedCommit, RaisedStep, CommitReply, MayRefuse, MustWait, Legal, LegalReply, OfStarted, CycleAbortReply, StepReply, OfFit, RequestReply}
use Rattle.sgt_model.specs.Left.{next_left}
use Rattle.sgt_model.specs.State.{State}
use Rattle.sgt_model.specs.StateAfter.{IsStateAfter}
use Rattle.sgt_model.specs.Blocks.{Blocks}
use Rattle.sgt_model.specs.StartReply.{args_fit, taken_reply}
use Rattle.sgt_model.specs.CallEffects.{Undo, AbortEffect, RaisedCommitOn, RaisedStepOn, CommitEffect, CommitOn, IfOpen, QuitEffect, CycleAbortEffect, RefusesIn, StartEffect, StartOn, Stays, StepEffect, StepOn, IfFit, RequestOn, RequestEffect, WaitsOn}
use Rattle.sgt_model.proofs.Effects.{Idle, ends_none-no_end, no_start-no_call}
use Rattle.sgt_model.proofs.Facts.{live_from, member_from}
use Rattle.sgt_model.proofs.Verdict.{blocks_from_closes, closes_from_blocks, falls_from, found-visible, least_from, none_from}
use Rattle.sgt_model.proofs.LiveLeft.{next_is_left, left_looked, left_stored, request_looked, request_stored}
use Rattle.sgt_model.proofs.AfterAccess.{after_look, after_store, look_requested, store_requested}
use Rattle.sgt_model.proofs.AfterEnd.{Of, aborted_so, refused_so, after_undo, after_commit, after_nothing, gone_with, no_one, of_quit, of_step, of_request}
use Rattle.sgt_model.proofs.AfterStart.{after_start}

-- the reply leaves all as it was
abbrev pub quiet : Reply → Bool
quiet (reply.Started t) = false
quiet (reply.Looked k v) = false
quiet (reply.Wrote k v) = false
quiet (reply.Committed answers) = false
quiet (reply.Aborted why fell) = false
quiet (reply.Refused code fell) = false
quiet _ = true

quiet_idle : (event : Event) (r : Reply) → quiet r ≡ true → Idle event r
quiet_idle event (reply.Started t) q = absurd (cc)
quiet_idle event (reply.Looked k v) q = absurd (cc)
quiet_idle event (reply.Wrote k v) q = absurd (cc)
quiet_idle event (reply.Committed answers) q = absurd (cc)
quiet_idle event (reply.Aborted why fell) q = absurd (cc)
quiet_idle event (reply.Refused code fell) q = absurd (cc)
quiet_idle event _ q = record { no_start = refl; no_access = refl; ends_none = tt }

-- an event with its reply
abbrev pub entry : Event → Reply → Entry
entry event r = record { event = event; reply = r }

pub after_quiet : (s : Configuration) (past : List Entry) (event : Event) (r : Reply) (c : State) → quiet r ≡ true → IsStateAfter s past c
    → IsStateAfter s (entry event r ∷ past) c
after_quiet s past event r c q i =
    let idle = quiet_idle event r q in
    after_nothing s past (entry event r) c (record {
      no_start = idle.no_start;
      no_access = idle.no_access;
      no_call = no_start-no_call event r idle.no_start;
      stays = λ u g. ends_none-no_end event r idle.ends_none u;
      ends = λ u g. absurd (never u g);
    }) i
  where
    never : (u : ℕ) → no_one u ≡ true → ⊥
    never u g = cc

pub stayed : (s : Configuration) (past : List Entry) (event : Event) (answer r : Reply) (before after : State) → quiet answer ≡ true
    → IsStateAfter s past before → Stays answer before r after → (r ≡ answer) × IsStateAfter s (entry event r ∷ past) after
stayed s past event answer r before after q i x =
    (x.reply, after_quiet s past event r after (ap quiet x.reply ∙ q) (subst (λ c. IsStateAfter s past c) (sym x.same) i))

module _ (s : Configuration) (past : List Entry) (h : Legal s past) (before after : State) (i : IsStateAfter s past before) (t : ℕ) where
  lived : (why : Cause) (fell : List ℕ) → live past t ≡ true → Undo t why fell before after → (u : ℕ) → gone_with t fell u ≡ true
      → live past u ≡ true
  lived why fell alive x u g = elim (or_cases (nat_eq t u) (list_any (λ v. nat_eq v u) fell) g) [
    | inl e ↦ subst (λ v. live past v ≡ true)
        (eqb-true t u e) alive
    | inr m ↦ sym (i.nodes u) ∙ (x.falls.each u (member_from u fell m)).0
  ]

  pub aborted_in : (event : Event) (why : Cause) (r : Reply) → Of event t → live past t ≡ true → AbortEffect t why before r after
      → AbortReply past t why r × IsStateAfter s (entry event r ∷ past) after
  aborted_in event why r o alive x = (
    record { fell = x.fell; falls = falls_from s past h before i t x.fell alive x.undo.falls; is = x.reply },
    subst (λ z. IsStateAfter s (entry event z ∷ past) after) (sym x.reply)
        (after_undo s past event t why x.fell (reply.Aborted why x.fell) (aborted_so event t why x.fell o) before after
        (lived why x.fell alive x.undo) i x.undo.drops),
  )

  refused_at_commit : (code : ℕ) (r : Reply) → live past t ≡ true → RefusesIn t code before r after
      → MayRefuse past t code r × IsStateAfter s (entry (Commit t) r ∷ past) after
  refused_at_commit code r alive x = (
    record {
      none_live = none_from s past h before i t alive x.first;
      fell = x.fell;
      falls = falls_from s past h before i t x.fell alive x.undo.falls;
      is = x.reply;
    },
    subst (λ z. IsStateAfter s (entry (Commit t) z ∷ past) after) (sym x.reply)
        (after_undo s past (Commit t) t (cause.Asked code) x.fell (reply.Refused code x.fell) (refused_so t code x.fell) before after
        (lived (cause.Asked code) x.fell alive x.undo) i x.undo.drops),
  )

  refused_in : (event : Event) → Of event t → (k : Key) (kind : Kind) (r : Reply) → live past t ≡ true
      → CycleAbortEffect t k kind before r after → CycleAbortReply past t k kind r × IsStateAfter s (entry event r ∷ past) after
  refused_in event of k kind r alive x = let a = aborted_in event (cause.Cycle (t ∷ x.rest)) r of alive x.aborts in
      (record { rest = x.rest; closes = closes_from_blocks s past h before i t k kind x.rest x.blocks; aborts = a.0 }, a.1)

  free_of : (k : Key) (kind : Kind) → live past t ≡ true → ((rest : List ℕ) → Blocks before t k kind rest → ⊥) → (rest : List ℕ)
      → Closes past t k kind rest → ⊥
  free_of k kind alive free rest c = free rest (blocks_from_closes s past h before i t k kind rest alive c)

  raised_step_on : (asks : Asks) (code : ℕ) (r : Reply) → live past t ≡ true → RaisedStepOn asks t code before r after
      → RaisedStep asks past t code r × IsStateAfter s (entry (Step t) r ∷ past) after
  raised_step_on AtStep code r alive x = aborted_in (Step t) (cause.Asked code) r (of_step t) alive x
  raised_step_on AtCommit code r alive x = stayed s past (Step t) reply.Ended r before after refl i x

  step_on : (n : Next) (r : Reply) → next_of s past t ≡ n → live past t ≡ true → StepOn s.rules.limits.asks t n before r after
      → StepReply s past t n r × IsStateAfter s (entry (Step t) r ∷ past) after
  step_on (Looks k) r next alive (inl x) = let y = refused_in (Step t) (of_step t) k Look r alive x in (inl y.0, y.1)
  step_on (Looks k) r next alive (inr x) = (
    inr (record { free = free_of k Look alive x.free; is = x.reply ∙ ap (reply.Looked k) (found-visible s past h before i k) }),
    subst (λ z. IsStateAfter s (entry (Step t) z ∷ past) after) (sym x.reply)
        (after_look s past h before after i t k alive (λ v. left_looked s past h t k v next) x.looks),
  )
  step_on (Puts k v) r next alive (inl x) = let y = refused_in (Step t) (of_step t) k Store r alive x in (inl y.0, y.1)
  step_on (Puts k v) r next alive (inr x) = (
    inr (record { free = free_of k Store alive x.free; is = x.reply }),
    subst (λ z. IsStateAfter s (entry (Step t) z ∷ past) after) (sym x.reply)
        (after_store s past h before after i t k alive v (left_stored s past h t k v next) x.stores),
  )
  step_on (Ends answers) r next alive x = stayed s past (Step t) reply.Ended r before after refl i x
  step_on (Raises code) r next alive x = raised_step_on s.rules.limits.asks code r alive x

  requested_on : (d : Request) (r : Reply) (answers : List ℤ) → next_of s past t ≡ Ends answers → live past t ≡ true
      → StepOn s.rules.limits.asks t (requested d) before r after
      → StepReply s past t (requested d) r × IsStateAfter s (entry (Access t d) r ∷ past) after
  requested_on (Read k) r answers next alive (inl x) =
      let y = refused_in (Access t (Read k)) (of_request t (Read k)) k Look r alive x in (inl y.0, y.1)
  requested_on (Read k) r answers next alive (inr x) = (
    inr (record { free = free_of k Look alive x.free; is = x.reply ∙ ap (reply.Looked k) (found-visible s past h before i k) }),
    subst (λ z. IsStateAfter s (entry (Access t (Read k)) z ∷ past) after) (sym x.reply)
        (look_requested s past t (Read k) k _ after
        (after_look s past h before after i t k alive (λ v. request_looked s past h t answers k v next) x.looks)),
  )
  requested_on (Write k v) r answers next alive (inl x) =
      let y = refused_in (Access t (Write k v)) (of_request t (Write k v)) k Store r alive x in (inl y.0, y.1)
  requested_on (Write k v) r answers next alive (inr x) = (
    inr (record { free = free_of k Store alive x.free; is = x.reply }),
    subst (λ z. IsStateAfter s (entry (Access t (Write k v)) z ∷ past) after) (sym x.reply)
        (store_requested s past t (Write k v) k v after
        (after_store s past h before after i t k alive v (request_stored s past h t answers k v next) x.stores)),
  )

  fit_on : (d : Request) (r : Reply) (answers : List ℤ) → next_of s past t ≡ Ends answers → live past t ≡ true → (fit : Bool)
      → IfFit fit before r after (StepOn s.rules.limits.asks t (requested d) before r after)
      → OfFit fit r (StepReply s past t (requested d) r) × IsStateAfter s (entry (Access t d) r ∷ past) after
  fit_on d r answers next alive true x = requested_on d r answers next alive x
  fit_on d r answers next alive false x = stayed s past (Access t d) reply.BadArgs r before after refl i x

  request_on : (d : Request) (n : Next) (r : Reply) → next_of s past t ≡ n → live past t ≡ true
      → RequestOn s.rules.limits.asks t d n before r after
      → RequestReply s past t d n r × IsStateAfter s (entry (Access t d) r ∷ past) after
  request_on d (Ends answers) r next alive x = fit_on d r answers next alive (is_fit d) x
  request_on d (Looks k) r next alive x = stayed s past (Access t d) reply.NotEnded r before after refl i x
  request_on d (Puts k v) r next alive x = stayed s past (Access t d) reply.NotEnded r before after refl i x
  request_on d (Raises code) r next alive x = stayed s past (Access t d) reply.NotEnded r before after refl i x

  waits_on : (r : Reply) → WaitsOn t before r after → MustWait past t r × IsStateAfter s (entry (Commit t) r ∷ past) after
  waits_on r x = let y = stayed s past (Commit t) (reply.Waits x.on) r before after refl i x.stays in
      (record { predecessor = x.on; least = least_from s past h before i t x.on x.least; is = y.0 }, y.1)

  raised_commit_on : (asks : Asks) (code : ℕ) (r : Reply) → live past t ≡ true → RaisedCommitOn asks t code before r after
      → RaisedCommit asks past t code r × IsStateAfter s (entry (Commit t) r ∷ past) after
  raised_commit_on AtStep code r alive x = stayed s past (Commit t) reply.NotEnded r before after refl i x
  raised_commit_on AtCommit code r alive (inl x) = let y = waits_on r x in (inl y.0, y.1)
  raised_commit_on AtCommit code r alive (inr x) = let y = refused_at_commit code r alive x in (inr y.0, y.1)

  commit_on : (n : Next) (r : Reply) → live past t ≡ true → CommitOn s.rules.limits.asks t n before r after
      → CommitReply s past t n r × IsStateAfter s (entry (Commit t) r ∷ past) after
  commit_on (Ends answers) r alive (inl x) = let y = waits_on r x in (inl y.0, y.1)
  commit_on (Ends answers) r alive (inr x) = (
    inr (record { none_live = none_from s past h before i t alive x.first; is = x.reply }),
    subst (λ z. IsStateAfter s (entry (Commit t) z ∷ past) after) (sym x.reply)
        (after_commit s past h t answers before after alive i x.settles),
  )
  commit_on (Looks k) r alive x = stayed s past (Commit t) reply.NotEnded r before after refl i x
  commit_on (Puts k v) r alive x = stayed s past (Commit t) reply.NotEnded r before after refl i x
  commit_on (Raises code) r alive x = raised_commit_on s.rules.limits.asks code r alive x

  -- what every call on a transaction shares
  if_open : (event : Event) (r : Reply) (OnContents OnPast : Type 0)
      → (live past t ≡ true → OnContents → OnPast × IsStateAfter s (entry event r ∷ past) after) → (b : Bool) (o : Option Fate)
      → nat_lt t (start_count past) ≡ b → fate_of past t ≡ o → IfOpen b o before r after OnContents
      → OfStarted b o r OnPast × IsStateAfter s (entry event r ∷ past) after
  if_open event r A B go false o e f x = stayed s past event reply.Unknown r before after refl i x
  if_open event r A B go true (Some fate) e f x = stayed s past event (reply.Over fate) r before after refl i x
  if_open event r A B go true None e f x = go (live_from past t (ltb-true t (start_count past) e) f) x

  opened : (event : Event) (r : Reply) (OnContents OnPast : Type 0)
      → (live past t ≡ true → OnContents → OnPast × IsStateAfter s (entry event r ∷ past) after) → IfOpen (nat_lt t before.start_count)
      (before.fates t) before r after OnContents → OfStarted (nat_lt t (start_count past)) (fate_of past t) r OnPast × IsStateAfter s
      (entry event r ∷ past) after
  opened event r A B go x = if_open event r A B go (nat_lt t (start_count past)) (fate_of past t) refl refl
      (subst (λ n. IfOpen (nat_lt t n) (fate_of past t) before r after A) i.start_count
      (subst (λ o. IfOpen (nat_lt t before.start_count) o before r after A) (i.fates t) x))

  next_same : live past t ≡ true → next_left (before.left t) ≡ next_of s past t
  next_same alive = ap next_left (i.left t alive) ∙ next_is_left s past h t

  pub step_simulates : (r : Reply) → StepEffect s.rules.limits.asks t before r after → LegalReply s past (Step t) r × IsStateAfter s
      (entry (Step t) r ∷ past) after
  step_simulates r x = opened (Step t) r (StepOn s.rules.limits.asks t (next_left (before.left t)) before r after)
      (StepReply s past t (next_of s past t) r) (λ alive y. step_on (next_of s past t) r refl alive
      (subst (λ n. StepOn s.rules.limits.asks t n before r after) (next_same alive) y)) x

  pub request_simulates : (d : Request) (r : Reply) → RequestEffect s.rules.limits.asks t d before r after
      → LegalReply s past (Access t d) r × IsStateAfter s (entry (Access t d) r ∷ past) after
  request_simulates d r x = opened (Access t d) r (RequestOn s.rules.limits.asks t d (next_left (before.left t)) before r after)
      (RequestReply s past t d (next_of s past t) r) (λ alive y. request_on d (next_of s past t) r refl alive
      (subst (λ n. RequestOn s.rules.limits.asks t d n before r after) (next_same alive) y)) x

  pub commit_simulates : (r : Reply) → CommitEffect s.rules.limits.asks t before r after → LegalReply s past (Commit t) r × IsStateAfter s
      (entry (Commit t) r ∷ past) after
  commit_simulates r x = opened (Commit t) r (CommitOn s.rules.limits.asks t (next_left (before.left t)) before r after)
      (CommitReply s past t (next_of s past t) r) (λ alive y. commit_on (next_of s past t) r alive
      (subst (λ n. CommitOn s.rules.limits.asks t n before r after) (next_same alive) y)) x

  pub quit_simulates : (r : Reply) → QuitEffect t before r after → LegalReply s past (Quit t) r × IsStateAfter s
      (entry (Quit t) r ∷ past) after
  quit_simulates r x = opened (Quit t) r (AbortEffect t cause.Quit before r after) (AbortReply past t cause.Quit r)
      (λ alive y. aborted_in (Quit t) cause.Quit r (of_quit t) alive y) x

-- a start

module _ (s : Configuration) (past : List Entry) (h : Legal s past) (before after : State) (i : IsStateAfter s past before) (p : ℕ)
    (args : List ℤ) where
  start_cases : (begun living : ℕ) (o : Option ℕ) → (taken_reply s.rules.limits begun living o args ≡ reply.Started begun) ⊎ (quiet
      (taken_reply s.rules.limits begun living o args) ≡ true)
  start_cases begun living None = inr refl
  start_cases begun living (Some count) = tests (args_fit count args) (nat_eq begun s.rules.limits.begins)
      (nat_eq living s.rules.limits.live)
    where
      tests : (a b d : Bool) → let r : Reply =
          cond a (cond b reply.Spent (cond d reply.Full (reply.Started begun))) reply.BadArgs in
          (r ≡ reply.Started begun) ⊎ (quiet r ≡ true)
      tests false b d = inr refl
      tests true true d = inr refl
      tests true false true = inr refl
      tests true false false = inl refl

  pub start_simulates : (r : Reply) → StartEffect s.rules p args before r after
      → LegalReply s past (Start p args) r × IsStateAfter s (entry (Start p args) r ∷ past) after
  start_simulates r x = (
    answer,
    elim (start_cases (start_count past) (length (live_ones past)) (takes s.rules p)) [
      | inl e ↦ begins (answer ∙ e)
      | inr q ↦ idle r (ap quiet answer ∙ q) x.does
    ],
  )
    where
      answer : r ≡ taken_reply s.rules.limits (start_count past) (length (live_ones past)) (takes s.rules p) args
      answer = x.reply ∙ ap₂ (λ n l. taken_reply s.rules.limits n (length l) (takes s.rules p) args) i.start_count i.lives

      begins : r ≡ reply.Started (start_count past) → IsStateAfter s (entry (Start p args) r ∷ past) after
      begins e = subst (λ z. IsStateAfter s (entry (Start p args) z ∷ past) after) (sym e)
          (after_start s past h p args before after i (subst (λ z. StartOn (s.rules.procedures p) args before z after) e x.does))

      idle : (z : Reply) → quiet z ≡ true → StartOn (s.rules.procedures p) args before z after
          → IsStateAfter s (entry (Start p args) z ∷ past) after
      idle (reply.Started t) q d = absurd (cc)
      idle z q d = after_quiet s past (Start p args) z after q (subst (λ c. IsStateAfter s past c) (sym d) i)
