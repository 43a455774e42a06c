-- A run that need not wait ends: by what the clauses of its turns say alone.
use Rattle.std.proofs.Common.{◌≡◌, ◌≢◌, ◌⊎◌, ℕ, ◌≤◌, ◌<◌, ℤ, Bool, true, false, cond, not, ◌&&◌, ◌||◌, nat_eq, nat_lt, List, [], ◌∷◌, ◌++◌, length, Option, Some, None, Result, Ok, Err, refl, sym, ap, subst, append_assoc, ◌∙◌, inl, inr, arith}
use Rattle.std.specs.List.{filter, list_any}
use Rattle.std.specs.Option.{option_or}
use Rattle.std.proofs.lemmas.Bool.{eq-eqb, ltb-true, ltb-false, lt-ltb}
use Rattle.sgt_model.specs.declared.entry.Entry.{Entry}
use Rattle.sgt_model.specs.declared.errors.NoMemory.{NoMemory}
use Rattle.sgt_model.specs.declared.event.Event.{Event}
use Rattle.sgt_model.specs.declared.event.Event.TheVariants.{Start, Step}
use Rattle.sgt_model.specs.declared.limits.Asks.{Asks}
use Rattle.sgt_model.specs.declared.limits.Asks.TheVariants.{AtStep, AtCommit}
use Rattle.sgt_model.specs.declared.limits.Limits.{Limits}
use Rattle.sgt_model.specs.declared.reply.Cause.{Cause}
use Rattle.sgt_model.specs.declared.reply.Cause.TheVariants as cause
use Rattle.sgt_model.specs.declared.reply.Fate.{Fate}
use Rattle.sgt_model.specs.declared.reply.Fate.TheVariants as fate
use Rattle.sgt_model.specs.declared.reply.Reply.{Reply}
use Rattle.sgt_model.specs.declared.reply.Reply.TheVariants as reply
use Rattle.sgt_model.specs.declared.short_reply.ShortCause.TheVariants as why
use Rattle.sgt_model.specs.declared.short_reply.ShortReply.{ShortReply}
use Rattle.sgt_model.specs.declared.short_reply.ShortReply.TheVariants as bare
use Rattle.sgt_model.specs.Configurations.{Configuration, takes}
use Rattle.sgt_model.specs.Fates.{concerns, fate_of, is_start, live, live_ones, start_count, started_ones, subject}
use Rattle.sgt_model.specs.Legality.{CommitReply, Legal, LegalReply, OfLive, OfStarted, RaisedCommit, RaisedStep, StepReply}
use Rattle.sgt_model.specs.Progress.{next_of}
use Rattle.sgt_model.specs.Questions.{is_ending}
use Rattle.sgt_model.specs.ShortReplies.{short_reply}
use Rattle.sgt_model.specs.StartReply.{args_fit, capacity_reply, taken_reply}
use Rattle.sgt_model.specs.Traces.{Next, Looks, Puts, Ends, Raises}
use Rattle.sgt_model.proofs.Facts.{legal_older, live-before, live-started, live_from, starts-grow}
use Rattle.sgt_model.proofs.Questions.{others_end_none}
use Rattle.sgt_progress.specs.Alone.{AreNoQuitsOf, IsAlone, IsByItself, IsNoQuitOf, IsStepOrCommitOf}
use Rattle.sgt_progress.specs.Waits.{was_told_to_wait, told_in}
use Rattle.sgt_progress.proofs.Alone.{alone_ends_by_itself, started_alone}
use Rattle.sgt_desk.specs.declared.ask.Turn.{Turn as TurnKind}
use Rattle.sgt_desk.specs.declared.ask.Turn.TheVariants.{Done, Rest, Late, Again, Stale}
use Rattle.sgt_desk.specs.declared.reason.Reason.{Reason}
use Rattle.sgt_desk.specs.declared.reason.Reason.TheVariants.{Turn, Full, End, Busy, Cut}
use Rattle.sgt_desk.specs.declared.running.Run.{Run}
use Rattle.sgt_desk.specs.Asks.{IsNotFull, is_held}
use Rattle.sgt_desk.specs.Attempts.{IsNotOver}
use Rattle.sgt_desk.specs.Desks.{DeskState}
use Rattle.sgt_desk.specs.Endings.{FreeRunsEnd, FreeTurn, IsEnd, IsFree, OtherRunsEndThen, RunsGoOn}
use Rattle.sgt_desk.specs.Runs as runs
use Rattle.sgt_desk.specs.Runs.{AreOf, GoesOn, Grows, GrowsBy, IsOf, IsOutcome, OverMeanwhile, RestsFor, gives_up, is_conflict, named}

-- ---- who is live

-- who is live after some entries, and was started before them, was live before them
started_long : (later past : List Entry) (t : ℕ) → t < start_count past → t < start_count (later ++ past)
started_long [] past t started = started
started_long (e ∷ later) past t started = let l = started_long later past t started in let g = starts-grow e (later ++ past) in omega (arith, l, g)

live_long : (later past : List Entry) (t : ℕ) → live (later ++ past) t ≡ true → t < start_count past → live past t ≡ true
live_long [] past t alive started = alive
live_long (e ∷ later) past t alive started =
    live_long later past t (live-before e (later ++ past) t alive (started_long later past t started)) started

filter_none : (p : ℕ → Bool) (l : List ℕ) → ((t : ℕ) → p t ≡ true → ⊥) → length (filter p l) ≡ 0
filter_none p [] none = refl
filter_none p (t ∷ l) none = by_case (p t) refl (filter_none p l none)
  where
    by_case : (b : Bool) → p t ≡ b → length (filter p l) ≡ 0 → length (cond (p t) (t ∷ filter p l) (filter p l)) ≡ 0
    by_case true is rest = absurd (none t is)
    by_case false is rest = ap (λ b. length (cond b (t ∷ filter p l) (filter p l))) is ∙ rest

none_live : (past : List Entry) → ((t : ℕ) → live past t ≡ true → ⊥) → length (live_ones past) ≡ 0
none_live past none = filter_none (λ t. live past t) (started_ones past) none

both : (a b : Bool) → (a && b) ≡ true → (a ≡ true) × (b ≡ true)
both true true h = (refl, refl)
both true false h = absurd (cc h)
both false b h = absurd (cc h)

not_less : (a b : ℕ) → nat_lt a b ≡ false → b ≤ a
not_less a b is = let l = ltb-false a b is in omega (arith, l)

some_same : (t u : ℕ) → Some t ≡ Some u → t ≡ u
some_same t u e = cc e

module _ (p : ℕ) (args : List ℤ) (now : ℕ) (before : DeskState) (run : Run) (after : DeskState) (next : Run) (turn : Result TurnKind NoMemory)
    (it : FreeTurn p args now before run after next turn) where
  -- ---- what was added

  added : GrowsBy (gives_up turn) p args run.attempt (named next.ticket) before.past after.past → (later : List Entry) × (after.past ≡ later ++ before.past)
  added (runs.nothing is) = ([], is)
  added (runs.goes_on t attempt g) = (g.later, g.is)
  added (runs.refused r nothing is) = (_ ∷ [], is)
  added (runs.begins none t ticket g) = (g.later ++ (_ ∷ []), g.is ∙ sym (append_assoc g.later (_ ∷ []) before.past))

  all_added : (later : List Entry) × (after.past ≡ later ++ before.past)
  all_added = added (it.turns.grows it.on)

  -- whoever is live after the turn is the attempt that it has left
  only_next : (t : ℕ) → live after.past t ≡ true → next.attempt ≡ Some t
  only_next t alive = by_number (nat_lt t (start_count before.past)) refl
    where
      by_number : (b : Bool) → nat_lt t (start_count before.past) ≡ b → next.attempt ≡ Some t
      by_number true old = it.turns.left t (inl (it.free.alone t (live_long all_added.0 before.past t
          (subst (λ l. live l t ≡ true) all_added.1 alive) (ltb-true t (start_count before.past) old)))) alive
      by_number false new = it.turns.left t (inr (not_less t (start_count before.past) new)) alive

  free_after : IsFree after next
  free_after = record { alone = only_next; no_cut = it.turns.cutters ∙ it.free.no_cut }

  -- ---- it does not rest

  limits_after : after.configuration.rules.limits.live ≡ before.configuration.rules.limits.live
  limits_after = ap (λ s. s.rules.limits.live) it.turns.configuration

  no_rest : (attempt : Option ℕ) (reason : Option Reason) → next.attempt ≡ attempt → RestsFor after attempt reason → is_held reason after ≡ true → ⊥
  no_rest (Some t) (Some (Turn u v)) is rests held =
      let w = both (live after.past u) (live after.past v) held in
      rests.1 (sym (some_same t v (sym is ∙ only_next v w.1)))
  no_rest (Some t) (Some (Full n)) is rests held = rests
  no_rest (Some t) (Some (End n)) is rests held = rests
  no_rest (Some t) (Some (Busy n)) is rests held = rests
  no_rest (Some t) (Some Cut) is rests held = rests
  no_rest (Some t) None is rests held = rests
  no_rest None (Some (Turn u v)) is rests held = rests
  no_rest None (Some (Full n)) is rests held =
      let none = none_live after.past (λ t alive. cc (sym is ∙ only_next t alive)) in
      cc (sym held ∙ ap not (lt-ltb (length (live_ones after.past)) n (omega (arith, none, rests, limits_after, it.limit))))
  no_rest None (Some (End n)) is rests held =
      let none = none_live after.past (λ t alive. cc (sym is ∙ only_next t alive)) in
      let w = both (nat_eq after.ended n) (nat_lt 0 (length (live_ones after.past))) held in
      cc (sym w.1 ∙ ap (λ k. nat_lt 0 k) none)
  no_rest None (Some (Busy n)) is rests held = rests
  no_rest None (Some Cut) is rests held = cc (sym held ∙ ap (λ k. nat_lt 0 k) free_after.no_cut)
  no_rest None None is rests held = cc held

  -- so it is done, or tries again
  ends_or_again : (turn ≡ Ok Done) ⊎ (turn ≡ Ok Again)
  ends_or_again = by_turn turn refl
    where
      by_turn : (r : Result TurnKind NoMemory) → turn ≡ r → (turn ≡ Ok Done) ⊎ (turn ≡ Ok Again)
      by_turn (Ok Done) is = inl is
      by_turn (Ok Again) is = inr is
      by_turn (Ok Rest) is = absurd (no_rest next.attempt next.ask.reason refl (it.turns.goes_on it.on).rests (it.turns.rests is).held)
      by_turn (Ok Late) is = absurd (cc (sym (it.turns.late is) ∙ it.in_time))
      by_turn (Ok Stale) is = absurd (it.turns.stale is)
      by_turn (Err e) is = absurd (it.memory e is)

  not_resting : turn ≢ Ok Rest
  not_resting is = no_rest next.attempt next.ask.reason refl (it.turns.goes_on it.on).rests (it.turns.rests is).held

  keeps : gives_up turn ≡ false
  keeps = by_end ends_or_again
    where
      by_end : (turn ≡ Ok Done) ⊎ (turn ≡ Ok Again) → gives_up turn ≡ false
      by_end (inl is) = ap gives_up is
      by_end (inr is) = ap gives_up is

  pub then_ends : ((turn ≡ Ok Done) ⊎ (turn ≡ Ok Again)) × (next.attempt ≡ None) × GoesOn after next × IsFree after next
  then_ends = (ends_or_again, it.turns.only not_resting, it.turns.goes_on it.on, free_after)

-- ---- replies that end a run

no_conflict : (r : ShortReply) → IsEnd r → is_conflict r ≡ true → ⊥
no_conflict bare.Committed h is = cc is
no_conflict (bare.Refused code) h is = cc is
no_conflict (bare.Aborted (why.Asked code)) h is = cc is
no_conflict (bare.Aborted why.Cycle) h is = h
no_conflict (bare.Aborted why.Quit) h is = h
no_conflict bare.NoProcedure h is = cc is
no_conflict bare.BadArgs h is = cc is
no_conflict bare.Spent h is = cc is
no_conflict (bare.Started t) h is = h
no_conflict bare.Full h is = h
no_conflict bare.Unknown h is = h
no_conflict (bare.Over f) h is = h
no_conflict (bare.Looked k v) h is = h
no_conflict (bare.Wrote k v) h is = h
no_conflict bare.Ended h is = h
no_conflict bare.NotEnded h is = h
no_conflict (bare.Waits t) h is = h

-- a start that starts nothing is refused for good, or since as many are live as the limits allow
abbrev StartEnds : Reply → Type 0
StartEnds r = IsEnd (short_reply r) ⊎ ((short_reply r ≡ bare.Full) ⊎ (is_start r ≡ true))

module _ (limits : Limits) (begun living : ℕ) where
  capacity_ends : (spent full : Bool) → StartEnds (cond spent reply.Spent (cond full reply.Full (reply.Started begun)))
  capacity_ends true full = inl tt
  capacity_ends false true = inr (inl refl)
  capacity_ends false false = inr (inr refl)

  fit_ends : (fits : Bool) → StartEnds (cond fits (capacity_reply limits begun living) reply.BadArgs)
  fit_ends true = capacity_ends (nat_eq begun limits.begins) (nat_eq living limits.live)
  fit_ends false = inl tt

  taken_ends : (taken : Option ℕ) (args : List ℤ) → StartEnds (taken_reply limits begun living taken args)
  taken_ends None args = inl tt
  taken_ends (Some count) args = fit_ends (args_fit count args)

aborted_fate : (event : Event) (t : ℕ) (why : Cause) (fell : List ℕ) (past : List Entry) → concerns event t ≡ true
    → fate_of (record { event = event; reply = reply.Aborted why fell } ∷ past) t ≡ Some (fate.Aborted why)
aborted_fate event t why fell past own =
    ap (λ b. option_or (cond b (Some (fate.Aborted why)) (cond (list_any (λ u. nat_eq u t) fell) (Some (fate.Fell (subject event))) None)) (fate_of past t))
    own

no_quits : (t : ℕ) (later : List Entry) → AreOf false t later → AreNoQuitsOf t later
no_quits t [] own = tt
no_quits t (e ∷ later) own = (one own.0, no_quits t later own.1)
  where
    one : IsOf false t e.event → IsNoQuitOf e.event t
    one (inl is) = inl is
    one (inr is) = absurd (cc is.0)

-- ---- the last entry of the only live transaction, which is not live after it

module _ (s : Configuration) (past : List Entry) (t : ℕ) (v : Event) (r : Reply) (short : ShortReply) (is_short : short_reply r ≡ short)
    (not_over : IsNotOver short) (started : t < start_count past)
    (by_itself : IsByItself (fate_of (record { event = v; reply = r } ∷ past) t))
    (dead : live (record { event = v; reply = r } ∷ past) t ≡ true → ⊥) where
  ends_by : (q : Reply) → r ≡ q → IsEnd (short_reply q) → IsEnd short
  ends_by q is h = subst IsEnd (ap short_reply (sym is) ∙ is_short) h

  -- a reply that ends none would leave it live
  ends_none : live past t ≡ true → is_ending r ≡ false → ⊥
  ends_none alive none = dead (others_end_none past (record { event = v; reply = r }) none t alive)

  no_cycle : concerns v t ≡ true → (cycle fell : List ℕ) → r ≡ reply.Aborted (cause.Cycle cycle) fell → ⊥
  no_cycle own cycle fell is = subst IsByItself (ap (λ q. fate_of (record { event = v; reply = q } ∷ past) t) is
      ∙ aborted_fate v t (cause.Cycle cycle) fell past own) by_itself

  step_end : v ≡ Step t → live past t ≡ true → (n : Next) → StepReply s past t n r → IsEnd short
  step_end own alive (Looks k) (inl h) = absurd (no_cycle (ap (λ x. concerns x t) own ∙ eq-eqb t t refl) _ _ h.aborts.is)
  step_end own alive (Looks k) (inr h) = absurd (ends_none alive (ap is_ending h.is))
  step_end own alive (Puts k w) (inl h) = absurd (no_cycle (ap (λ x. concerns x t) own ∙ eq-eqb t t refl) _ _ h.aborts.is)
  step_end own alive (Puts k w) (inr h) = absurd (ends_none alive (ap is_ending h.is))
  step_end own alive (Ends answers) h = absurd (ends_none alive (ap is_ending h))
  step_end own alive (Raises code) h = raised s.rules.limits.asks h
    where
      raised : (asks : Asks) → RaisedStep asks past t code r → IsEnd short
      raised AtStep h = ends_by _ h.is tt
      raised AtCommit h = absurd (ends_none alive (ap is_ending h))

  commit_end : live past t ≡ true → (n : Next) → CommitReply s past t n r → IsEnd short
  commit_end alive (Looks k) h = absurd (ends_none alive (ap is_ending h))
  commit_end alive (Puts k w) h = absurd (ends_none alive (ap is_ending h))
  commit_end alive (Ends answers) (inl h) = absurd (ends_none alive (ap is_ending h.is))
  commit_end alive (Ends answers) (inr h) = ends_by _ h.is tt
  commit_end alive (Raises code) h = raised s.rules.limits.asks h
    where
      raised : (asks : Asks) → RaisedCommit asks past t code r → IsEnd short
      raised AtStep h = absurd (ends_none alive (ap is_ending h))
      raised AtCommit (inl h) = absurd (ends_none alive (ap is_ending h.is))
      raised AtCommit (inr h) = ends_by _ h.is tt

  -- it was live before it
  was_live : (P : Type 0) → (live past t ≡ true → P → IsEnd short) → OfLive past t r P → IsEnd short
  was_live P go h = by_fate (nat_lt t (start_count past)) (fate_of past t) refl refl h
    where
      by_fate : (b : Bool) (o : Option Fate) → nat_lt t (start_count past) ≡ b → fate_of past t ≡ o → OfStarted b o r P → IsEnd short
      by_fate true None begun ended h = go (live_from past t started ended) h
      by_fate true (Some f) begun ended h = absurd (subst IsNotOver (sym is_short ∙ ap short_reply h) not_over)
      by_fate false o begun ended h = absurd (cc (sym (lt-ltb t (start_count past) started) ∙ begun))

  last_end : LegalReply s past v r → IsStepOrCommitOf v t → IsEnd short
  last_end legal (inl is) = was_live (StepReply s past t (next_of s past t) r) (λ alive h. step_end is alive (next_of s past t) h)
      (subst (λ x. LegalReply s past x r) is legal)
  last_end legal (inr is) = was_live (CommitReply s past t (next_of s past t) r) (λ alive h. commit_end alive (next_of s past t) h)
      (subst (λ x. LegalReply s past x r) is legal)

-- ---- the law

module _ (p : ℕ) (args : List ℤ) (now : ℕ) (before : DeskState) (run : Run) (after : DeskState) (next : Run) (turn : Result TurnKind NoMemory)
    (it : FreeTurn p args now before run after next turn) (alive : (t : ℕ) → run.attempt ≡ Some t → live before.past t ≡ true) where
  abbrev then : ((turn ≡ Ok Done) ⊎ (turn ≡ Ok Again)) × (next.attempt ≡ None) × GoesOn after next × IsFree after next
  then = then_ends p args now before run after next turn it

  gone : (t : ℕ) → live after.past t ≡ true → ⊥
  gone t lives = cc (sym then.1 ∙ then.3.alone t lives)

  legal : Legal before.configuration after.past
  legal = subst (λ s. Legal s after.past) it.turns.configuration then.2.legal

  rests_not : turn ≢ Ok Rest
  rests_not = not_resting p args now before run after next turn it

  gives_not : gives_up turn ≡ false
  gives_not = keeps p args now before run after next turn it

  outcome : IsOutcome next.ask.reply (named next.ticket) after.past
  outcome = by_end then.0
    where
      by_end : (turn ≡ Ok Done) ⊎ (turn ≡ Ok Again) → IsOutcome next.ask.reply (named next.ticket) after.past
      by_end (inl is) = it.turns.outcome is
      by_end (inr is) = it.turns.retried is

  not_over : (r : ShortReply) → OverMeanwhile run.attempt before.past r → IsNotOver r
  not_over (bare.Over f) h = absurd (cc (sym (alive h.0 h.1) ∙ h.2))
  not_over _ h = tt

  -- of its transaction, which is the only live one
  own : (t : ℕ) (base : List Entry) → IsAlone base t → (later : List Entry) → AreOf false t later → after.past ≡ later ++ base → IsEnd next.ask.reply
  own t base alone [] are is = absurd (gone t (subst (λ l. live l t ≡ true) (sym is) alone.is_live))
  own t base alone (e ∷ later) are is =
      let all : Legal before.configuration (e ∷ (later ++ base)) = subst (Legal before.configuration) is legal in
      last_end before.configuration (later ++ base) t e.event e.reply next.ask.reply
      (subst (IsOutcome next.ask.reply (named next.ticket)) is outcome).0
      (not_over next.ask.reply (it.turns.meanwhile gives_not rests_not))
      (started_long later base t (live-started base t alone.is_live))
      (alone_ends_by_itself before.configuration base (legal_older before.configuration (e ∷ later) base all) t alone (e ∷ later)
      (no_quits t (e ∷ later) are) all)
      (λ lives. gone t (subst (λ l. live l t ≡ true) (sym is) lives))
      all.1 (step_or_commit are.0)
    where
      step_or_commit : IsOf false t e.event → IsStepOrCommitOf e.event t
      step_or_commit (inl same) = same
      step_or_commit (inr quits) = absurd (cc quits.0)

  alone_at_rest : (t : ℕ) → run.attempt ≡ Some t → IsAlone before.past t
  alone_at_rest t attempt = record {
    is_live = alive t attempt;
    only = λ u lives. some_same u t (sym (it.free.alone u lives) ∙ attempt);
  }

  refused_end : (r : Reply) → is_start r ≡ false → after.past ≡ record { event = Start p args; reply = r } ∷ before.past
      → IsEnd next.ask.reply ⊎ (next.ask.reply ≡ bare.Full)
  refused_end r nothing is = by_start (subst StartEnds (sym (subst (Legal before.configuration) is legal).1)
      (taken_ends before.configuration.rules.limits (start_count before.past) (length (live_ones before.past)) (takes before.configuration.rules p) args))
    where
      short : short_reply r ≡ next.ask.reply
      short = (subst (IsOutcome next.ask.reply (named next.ticket)) is outcome).0

      by_start : StartEnds r → IsEnd next.ask.reply ⊎ (next.ask.reply ≡ bare.Full)
      by_start (inl h) = inl (subst IsEnd short h)
      by_start (inr (inl h)) = inr (sym short ∙ h)
      by_start (inr (inr h)) = absurd (cc (sym h ∙ nothing))

  begun_alone : run.attempt ≡ None → (t : ℕ) → Legal before.configuration (record { event = Start p args; reply = reply.Started t } ∷ before.past)
      → IsAlone (record { event = Start p args; reply = reply.Started t } ∷ before.past) t
  begun_alone none t begun = started_alone before.configuration before.past (record { event = Start p args; reply = reply.Started t }) begun
      (λ u. not_live u (live before.past u) refl) t refl
    where
      not_live : (u : ℕ) (b : Bool) → live before.past u ≡ b → live before.past u ≡ false
      not_live u true is = absurd (cc (sym none ∙ it.free.alone u is))
      not_live u false is = is

  by_growth : GrowsBy (gives_up turn) p args run.attempt (named next.ticket) before.past after.past → IsEnd next.ask.reply ⊎ (next.ask.reply ≡ bare.Full)
  by_growth (runs.nothing is) = let same = ap length is in let more = it.turns.grown gives_not rests_not in absurd (omega (arith, same, more))
  by_growth (runs.goes_on t attempt g) = inl (own t before.past (alone_at_rest t attempt) g.later (subst (λ q. AreOf q t g.later) gives_not g.own) g.is)
  by_growth (runs.refused r nothing is) = refused_end r nothing is
  by_growth (runs.begins none t ticket g) =
      let base : List Entry = record { event = Start p args; reply = reply.Started t } ∷ before.past in
      inl (own t base (begun_alone none t (legal_older before.configuration g.later base (subst (Legal before.configuration) g.is legal)))
      g.later (subst (λ q. AreOf q t g.later) gives_not g.own) g.is)

  end_of_run : (turn ≡ Ok Done) × IsEnd next.ask.reply
  end_of_run = by_end then.0 (by_growth (it.turns.grows it.on))
    where
      by_end : (turn ≡ Ok Done) ⊎ (turn ≡ Ok Again) → IsEnd next.ask.reply ⊎ (next.ask.reply ≡ bare.Full) → (turn ≡ Ok Done) × IsEnd next.ask.reply
      by_end (inl is) (inl h) = (is, h)
      by_end (inl is) (inr full) = absurd (subst IsNotFull full (it.turns.not_full is))
      by_end (inr is) (inl h) = absurd (no_conflict next.ask.reply h (it.turns.again is).0)
      by_end (inr is) (inr full) = absurd (cc (sym (ap is_conflict full) ∙ (it.turns.again is).0))

pub free_runs_end : FreeRunsEnd
free_runs_end p args now before run after next turn it alive = end_of_run p args now before run after next turn it alive

pub others_end_then : OtherRunsEndThen
others_end_then p args now before run after next turn it = then_ends p args now before run after next turn it

-- ---- other calls

told_long : (later past : List Entry) (t : ℕ) → was_told_to_wait past t ≡ true → was_told_to_wait (later ++ past) t ≡ true
told_long [] past t told = told
told_long (e ∷ later) past t told = or_right (told_in e.event e.reply t) (was_told_to_wait (later ++ past) t) (told_long later past t told)
  where
    or_right : (a b : Bool) → b ≡ true → (a || b) ≡ true
    or_right true b h = refl
    or_right false b h = h

pub runs_go_on : RunsGoOn
runs_go_on d e run on legal same how = record { legal = legal; rests = rests run.attempt run.ask.reason how on.rests }
  where
    rests : (attempt : Option ℕ) (reason : Option Reason) → ((later : List Entry) × (e.past ≡ later ++ d.past)) ⊎ (attempt ≡ None)
        → RestsFor d attempt reason → RestsFor e attempt reason
    rests (Some t) (Some (Turn u v)) (inl h) r = (r.0, r.1, subst (λ l. was_told_to_wait l t ≡ true) (sym h.1) (told_long h.0 d.past t r.2))
    rests (Some t) (Some (Turn u v)) (inr h) r = absurd (cc h)
    rests (Some t) (Some (Full n)) h r = r
    rests (Some t) (Some (End n)) h r = r
    rests (Some t) (Some (Busy n)) h r = r
    rests (Some t) (Some Cut) h r = r
    rests (Some t) None h r = r
    rests None (Some (Turn u v)) h r = r
    rests None (Some (Full n)) h r = r ∙ ap (λ s. s.limits.live) (sym same)
    rests None (Some (End n)) h r = r
    rests None (Some (Busy n)) h r = r
    rests None (Some Cut) h r = r
    rests None None h r = r
