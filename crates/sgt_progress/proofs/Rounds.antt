-- A transaction that can move can move until something else moves. So each round moves something.
use Rattle.std.specs.Prelude.{◌≡◌, ℕ, zero, suc, ◌+◌, ◌≤◌, true, ◌⊎◌, List, [], ◌∷◌}
use Rattle.std.proofs.Common.{refl, sym, ap, ◌∙◌, subst, inl, inr, arith, le_refl}
use Rattle.std.proofs.lemmas.Bool.{both_ways, false_from_ne_true}
use Rattle.sgt_model.specs.declared.event.Event.{Event}
use Rattle.sgt_model.specs.declared.event.Event.TheVariants.{Start, Step, Access, Commit, Quit}
use Rattle.sgt_model.specs.declared.reply.Reply.{Reply}
use Rattle.sgt_model.specs.declared.reply.Reply.TheVariants as reply
use Rattle.sgt_model.specs.declared.entry.Entry.{Entry}
use Rattle.sgt_model.specs.declared.limits.Asks.{Asks}
use Rattle.sgt_model.specs.declared.limits.Asks.TheVariants.{AtStep, AtCommit}
use Rattle.sgt_model.specs.Paths.{Member}
use Rattle.sgt_model.specs.Traces.{Next, Looks, Puts, Ends, Raises}
use Rattle.sgt_model.specs.Fates.{live}
use Rattle.sgt_model.specs.Pairs.{Pair}
use Rattle.sgt_model.specs.Configurations.{Configuration}
use Rattle.sgt_model.specs.Progress.{next_of}
use Rattle.sgt_model.specs.Legality.{LegalReply, Legal, RaisedStep, RaisedCommit, HasNoLivePredecessor, MustWait}
use Rattle.sgt_model.proofs.SomeReply.{some_reply_is_legal}
use Rattle.sgt_progress.specs.Moves.{next_event, event_for, event_of_code, has_moved, CanMove}
use Rattle.sgt_progress.specs.Alone.{NoneLive}
use Rattle.sgt_progress.specs.Drains.{events_left}
use Rattle.sgt_progress.specs.Rounds.{Turns, Rounds, RoundsMove, RoundsDrain}
use Rattle.sgt_progress.proofs.Moves.{ReplyTo, reply_to, next_moves_or_waits, no_deadlock}
use Rattle.sgt_progress.proofs.Drains.{next_is_own, no_request, asked-no_start, someone, some_left, left_fewer, left_less}

abbrev IsStep : Event → Type 0
IsStep (Start p args) = ⊥
IsStep (Step t) = Unit {0}
IsStep (Access t d) = ⊥
IsStep (Commit t) = ⊥
IsStep (Quit t) = ⊥

-- its next event is a step, or it waits for none
abbrev Ready : Configuration → List Entry → ℕ → Type 0
Ready s past u = IsStep (next_event s past u) ⊎ HasNoLivePredecessor past u

not_moved : (event : Event) (v : ℕ) → has_moved event (reply.Waits v) ≡ true → ⊥
not_moved event v m = cc

-- one that can move is ready
ready_by : (s : Configuration) (past : List Entry) (u : ℕ) (n : Next) (r : Reply) → ReplyTo s past (event_for s.rules.limits.asks u n) u n r
    → has_moved (event_for s.rules.limits.asks u n) r ≡ true → IsStep (event_for s.rules.limits.asks u n) ⊎ HasNoLivePredecessor past u
ready_by s past u (Looks k) r h m = inl tt
ready_by s past u (Puts k v) r h m = inl tt
ready_by s past u (Ends answers) r (inl w) m = absurd (not_moved (Commit u) w.predecessor (sym (ap (has_moved (Commit u)) w.is) ∙ m))
ready_by s past u (Ends answers) r (inr c) m = inr c.none_live
ready_by s past u (Raises code) r h m = go s.rules.limits.asks refl h m
  where
    go : (asks : Asks) → s.rules.limits.asks ≡ asks → ReplyTo s past (event_of_code asks u) u (Raises code) r
        → has_moved (event_of_code asks u) r ≡ true → IsStep (event_of_code asks u) ⊎ HasNoLivePredecessor past u
    go AtStep e h m = inl tt
    go AtCommit e h m = elim (subst (λ x. RaisedCommit x past u code r) e h) [
      | inl w ↦ absurd (not_moved (Commit u) w.predecessor (sym (ap (has_moved (Commit u)) w.is) ∙ m))
      | inr c ↦ inr c.none_live
    ]

ready : (s : Configuration) (past : List Entry) (u : ℕ) → live past u ≡ true → CanMove s past u → Ready s past u
ready s past u alive moves = let some = some_reply_is_legal s past (next_event s past u) in
    ready_by s past u (next_of s past u) some.0 (reply_to s past u alive some.0 some.1) (moves some.0 some.1)

-- the commit of one that is ready is not answered `Waits`
step_moves : (s : Configuration) (past : List Entry) (u : ℕ) (n : Next) (r : Reply)
    → ReplyTo s past (event_for s.rules.limits.asks u n) u n r
    → IsStep (event_for s.rules.limits.asks u n) → MustWait past u r → ⊥
step_moves s past u (Looks k) r (inl h) i w = cc (sym h.aborts.is ∙ w.is)
step_moves s past u (Looks k) r (inr h) i w = cc (sym h.is ∙ w.is)
step_moves s past u (Puts k v) r (inl h) i w = cc (sym h.aborts.is ∙ w.is)
step_moves s past u (Puts k v) r (inr h) i w = cc (sym h.is ∙ w.is)
step_moves s past u (Ends answers) r h i w = absurd i
step_moves s past u (Raises code) r h i w = go s.rules.limits.asks refl h i
  where
    go : (asks : Asks) → s.rules.limits.asks ≡ asks → ReplyTo s past (event_of_code asks u) u (Raises code) r
        → IsStep (event_of_code asks u) → ⊥
    go AtStep e h i = let a = subst (λ x. RaisedStep x past u code r) e h in cc (sym a.is ∙ w.is)
    go AtCommit e h i = i

ready_no_wait : (s : Configuration) (past : List Entry) (u : ℕ) → live past u ≡ true → Ready s past u → (r : Reply)
    → LegalReply s past (next_event s past u) r
    → MustWait past u r → ⊥
ready_no_wait s past u alive (inl i) r h w = step_moves s past u (next_of s past u) r (reply_to s past u alive r h) i w
ready_no_wait s past u alive (inr none) r h w = none w.predecessor w.least.pair

-- a wait changes nothing
abbrev waited : Event → ℕ → Entry
waited event v = record { event = event; reply = reply.Waits v }

pair_before : (event : Event) (v : ℕ) (past : List Entry) (a b : ℕ) → Pair (waited event v ∷ past) a b → Pair past a b
pair_before event v past a b p = record {
  apart = p.apart;
  first_stands = p.first_stands;
  second_stands = p.second_stands;
  precedes = elim p.precedes [ inl new ↦ absurd new | inr old ↦ old ];
}

ready_stays : (s : Configuration) (event : Event) (v : ℕ) (past : List Entry) (u : ℕ) → Ready s past u → Ready s (waited event v ∷ past) u
ready_stays s event v past u (inl i) = inl i
ready_stays s event v past u (inr none) = inr (λ w p. none w (record { is_live = p.is_live; pair = pair_before event v past w u p.pair }))

-- turns

-- what was ready has moved, or something before it
abbrev Moves : Configuration → List Entry → List Entry → Type 0
Moves s past after = Legal s after × (events_left s after ≤ events_left s past)

turns_move : (s : Configuration) (past : List Entry) → Legal s past → (order : List ℕ) (after : List Entry)
    → Turns s past order after → Moves s past after
turns_move s past legal [] after same = subst (Moves s past) (sym same) (legal, le_refl (events_left s past))
turns_move s past legal (t ∷ order) after (inl (over, rest)) = turns_move s past legal order after rest
turns_move s past legal (t ∷ order) after (inr (alive, (r, h, rest))) =
    let e : Entry = record { event = next_event s past t; reply = r } in
    let m = turns_move s (e ∷ past) (legal, h) order after rest in
    let fewer = left_fewer s past e (legal, h) (asked-no_start s past (next_event s past t) t (inl (next_is_own s past t)) r h) in
    let few = m.1 in (m.0, omega arith)

turns_less : (s : Configuration) (past : List Entry) → Legal s past → (u : ℕ) → live past u ≡ true → Ready s past u
    → (order : List ℕ) → Member u order
    → (after : List Entry) → Turns s past order after → events_left s after + 1 ≤ events_left s past
turns_less s past legal u alive is_ready [] m after same = absurd m
turns_less s past legal u alive is_ready (t ∷ order) (inl own) after (inl (over, rest)) = absurd
    (both_ways _ over (subst (λ x. live past x ≡ true) own alive))
turns_less s past legal u alive is_ready (t ∷ order) (inr m) after (inl (over, rest)) = turns_less s past legal u alive is_ready
    order m after rest
turns_less s past legal u alive is_ready (t ∷ order) m after (inr (t_alive, (r, h, rest))) =
    let e : Entry = record { event = next_event s past t; reply = r } in
    let none = asked-no_start s past (next_event s past t) t (inl (next_is_own s past t)) r h in
    let fewer = left_fewer s past e (legal, h) none in
    elim (next_moves_or_waits s past legal t t_alive r h) [
      | inl moved ↦
          let less = left_less s past e (legal, h) none (no_request (next_event s past t) t (next_is_own s past t) r) moved in
          let few = (turns_move s (e ∷ past) (legal, h) order after rest).1 in omega arith
      | inr w ↦ elim m [
        | inl own ↦ absurd (ready_no_wait s past t t_alive (subst (Ready s past) own is_ready) r h w)
        | inr m ↦
            let same : e ≡ waited (next_event s past t) w.predecessor = ap (λ q. record { event = next_event s past t; reply = q }) w.is in
            let less = turns_less s (e ∷ past) (legal, h) u (subst (λ x. live (x ∷ past) u ≡ true) (sym same) alive)
            (subst (λ x. Ready s (x ∷ past) u) (sym same) (ready_stays s (next_event s past t) w.predecessor past u is_ready)) order
            m after rest in
            omega arith
      ]
    ]

pub rounds_move : RoundsMove
rounds_move s past legal after round = elim (someone past) [
  | inl none ↦ inl none
  | inr (t, alive) ↦ let w = no_deadlock s past legal t alive in
      inr (turns_less s past legal w.0 w.1 (ready s past w.0 w.1 w.3) round.order (round.has_all w.0 w.1) after round.turns)
]

-- where nothing is live, nothing happens
none_turns : (s : Configuration) (past : List Entry) → NoneLive past → (order : List ℕ) (after : List Entry)
    → Turns s past order after → after ≡ past
none_turns s past none [] after same = same
none_turns s past none (t ∷ order) after (inl (over, rest)) = none_turns s past none order after rest
none_turns s past none (t ∷ order) after (inr (alive, rest)) = absurd (both_ways _ (none t) alive)

none_rounds : (n : ℕ) (s : Configuration) (past : List Entry) → NoneLive past → (after : List Entry) → Rounds n s past after
    → NoneLive after
none_rounds zero s past none after same = subst NoneLive (sym same) none
none_rounds (suc n) s past none after (between, round, rest) =
    none_rounds n s between (subst NoneLive (sym (none_turns s past none round.order between round.turns)) none) after rest

pub rounds_drain : RoundsDrain
rounds_drain s past legal zero few after same = λ u. false_from_ne_true (live after u) (λ alive.
    let some = some_left s past u (subst (λ l. live l u ≡ true) same alive) in omega arith)
rounds_drain s past legal (suc n) few after (between, round, rest) = elim (rounds_move s past legal between round) [
  | inl none ↦ none_rounds n s between (subst NoneLive (sym (none_turns s past none round.order between round.turns)) none) after rest
  | inr less ↦ rounds_drain s between (turns_move s past legal round.order between round.turns).0 n (omega arith) after rest
]
