-- The next event of a live transaction moves it on or waits, and not all wait.
use Rattle.std.specs.Prelude.{◌≡◌, ◌≢◌, ℕ, zero, suc, ◌+◌, ◌<◌, ◌≤◌, ℤ, Bool, true, false, cond, ◌⊎◌, nat_eq, List, [], ◌∷◌, length, Option}
use Rattle.std.proofs.Common.{refl, sym, ap, ◌∙◌, subst, subst₂, inl, inr, arith}
use Rattle.std.proofs.lemmas.Bool.{and_parts, eqb-true, eq-eqb, both_ways}
use Rattle.sgt_model.specs.declared.event.Event.{Event}
use Rattle.sgt_model.specs.declared.event.Event.TheVariants.{Start, Step, Access, Commit, Quit}
use Rattle.sgt_model.specs.declared.event.Request.{Request}
use Rattle.sgt_model.specs.declared.event.Request.TheVariants.{Read, Write}
use Rattle.sgt_model.specs.declared.reply.Reply.{Reply}
use Rattle.sgt_model.specs.declared.reply.Reply.TheVariants as reply
use Rattle.sgt_model.specs.declared.reply.Fate.{Fate}
use Rattle.sgt_model.specs.declared.entry.Entry.{Entry}
use Rattle.sgt_model.specs.declared.limits.Asks.{Asks}
use Rattle.sgt_model.specs.declared.limits.Asks.TheVariants.{AtStep, AtCommit}
use Rattle.sgt_model.specs.Paths.{PathOf, last_of, Member, Reaches}
use Rattle.sgt_model.specs.Traces.{Next, Looks, Puts, Ends, Raises}
use Rattle.sgt_model.specs.Fates.{live, live_ones, started_ones}
use Rattle.sgt_model.specs.Pairs.{Pair}
use Rattle.sgt_model.specs.Configurations.{Configuration}
use Rattle.sgt_model.specs.Progress.{requested, is_fit, next_of}
use Rattle.sgt_model.specs.Legality.{OfStarted, OfLive, OfFit, RequestReply, StepReply, CommitReply, RaisedStep, RaisedCommit, LegalReply, Legal, LivePredecessor, MustWait}
use Rattle.sgt_model.specs.OneReply.{SameButCycle}
use Rattle.sgt_model.proofs.Facts.{live-no_fate, live-started}
use Rattle.sgt_model.proofs.Paths.{reaches_self, reaches_trans, no_way_back}
use Rattle.sgt_model.proofs.NoCycle.{no_cycle}
use Rattle.sgt_model.proofs.SomeReply.{some_reply_is_legal, begun_has}
use Rattle.sgt_model.proofs.OneReply.{replies_are_unique}
use Rattle.sgt_model.proofs.Listed.{kept_member}
use Rattle.sgt_progress.specs.Moves.{event_of_code, event_for, next_event, has_moved, CanMove, NextMovesOrWaits, RequestedMoves, NoDeadlock, WaitsFor, NoWaitCycle}

-- of a live transaction the reply is by what it does next
pub of_live : (past : List Entry) (t : ℕ) (r : Reply) (P : Type 0) → live past t ≡ true → OfLive past t r P → P
of_live past t r P alive h = subst₂ (λ (b : Bool) (o : Option Fate). OfStarted b o r P) (and_parts _ _ alive).0
    (live-no_fate past t alive) h

pub to_live : (past : List Entry) (t : ℕ) (r : Reply) (P : Type 0) → live past t ≡ true → P → OfLive past t r P
to_live past t r P alive h = subst₂ (λ (b : Bool) (o : Option Fate). OfStarted b o r P) (sym (and_parts _ _ alive).0)
    (sym (live-no_fate past t alive)) h

-- the reply to a step or a commit of a live transaction that does this next
abbrev pub ReplyTo : Configuration → List Entry → Event → ℕ → Next → Reply → Type 0
ReplyTo s past (Start p args) t n r = ⊥
ReplyTo s past (Step u) t n r = StepReply s past t n r
ReplyTo s past (Access u d) t n r = ⊥
ReplyTo s past (Commit u) t n r = CommitReply s past t n r
ReplyTo s past (Quit u) t n r = ⊥

pub reply_to : (s : Configuration) (past : List Entry) (t : ℕ) → live past t ≡ true → (r : Reply)
    → LegalReply s past (next_event s past t) r
    → ReplyTo s past (next_event s past t) t (next_of s past t) r
reply_to s past t alive r h = by_next s.rules.limits.asks (next_of s past t) h
  where
    by_asks : (asks : Asks) → LegalReply s past (event_of_code asks t) r → ReplyTo s past (event_of_code asks t) t (next_of s past t) r
    by_asks AtStep h = of_live past t r _ alive h
    by_asks AtCommit h = of_live past t r _ alive h

    by_next : (asks : Asks) (n : Next) → LegalReply s past (event_for asks t n) r
        → ReplyTo s past (event_for asks t n) t (next_of s past t) r
    by_next asks (Looks k) h = of_live past t r _ alive h
    by_next asks (Puts k v) h = of_live past t r _ alive h
    by_next asks (Ends answers) h = of_live past t r _ alive h
    by_next asks (Raises code) h = by_asks asks h

moves_or_waits : (s : Configuration) (past : List Entry) (t : ℕ) (n : Next) (r : Reply)
    → ReplyTo s past (event_for s.rules.limits.asks t n) t n r
    → (has_moved (event_for s.rules.limits.asks t n) r ≡ true) ⊎ MustWait past t r
moves_or_waits s past t (Looks k) r (inl h) = inl (ap (has_moved (Step t)) h.aborts.is)
moves_or_waits s past t (Looks k) r (inr h) = inl (ap (has_moved (Step t)) h.is)
moves_or_waits s past t (Puts k v) r (inl h) = inl (ap (has_moved (Step t)) h.aborts.is)
moves_or_waits s past t (Puts k v) r (inr h) = inl (ap (has_moved (Step t)) h.is)
moves_or_waits s past t (Ends answers) r (inl h) = inr h
moves_or_waits s past t (Ends answers) r (inr h) = inl (ap (has_moved (Commit t)) h.is)
moves_or_waits s past t (Raises code) r h = go s.rules.limits.asks refl h
  where
    go : (asks : Asks) → s.rules.limits.asks ≡ asks → ReplyTo s past (event_of_code asks t) t (Raises code) r
        → (has_moved (event_of_code asks t) r ≡ true) ⊎ MustWait past t r
    go AtStep e h = let a = subst (λ x. RaisedStep x past t code r) e h in inl (ap (has_moved (Step t)) a.is)
    go AtCommit e h = elim (subst (λ x. RaisedCommit x past t code r) e h) [ inl w ↦ inr w | inr m ↦ inl (ap (has_moved (Commit t)) m.is) ]

pub next_moves_or_waits : NextMovesOrWaits
next_moves_or_waits s past legal t alive r h = moves_or_waits s past t (next_of s past t) r (reply_to s past t alive r h)

-- the reply to an access on which the caller of a live transaction decided, at its procedure's end
pub request_reply : (s : Configuration) (past : List Entry) (t : ℕ) (d : Request) (answers : List ℤ) (r : Reply) → live past t ≡ true
    → next_of s past t ≡ Ends answers → is_fit d ≡ true → LegalReply s past (Access t d) r → StepReply s past t (requested d) r
request_reply s past t d answers r alive end fit h = subst (λ b. OfFit b r (StepReply s past t (requested d) r)) fit
    (subst (λ n. RequestReply s past t d n r) end (of_live past t r _ alive h))

requested_moves : (s : Configuration) (past : List Entry) (t : ℕ) (d : Request) (r : Reply) → StepReply s past t (requested d) r
    → has_moved (Access t d) r ≡ true
requested_moves s past t (Read k) r (inl h) = ap (has_moved (Access t (Read k))) h.aborts.is
requested_moves s past t (Read k) r (inr h) = ap (has_moved (Access t (Read k))) h.is
requested_moves s past t (Write k v) r (inl h) = ap (has_moved (Access t (Write k v))) h.aborts.is
requested_moves s past t (Write k v) r (inr h) = ap (has_moved (Access t (Write k v))) h.is

pub requests_move : RequestedMoves
requests_move s past legal t alive answers end d fit r h =
    requested_moves s past t d r (request_reply s past t d answers r alive end fit h)

same_moves : (event : Event) (r q : Reply) → SameButCycle r q → has_moved event r ≡ true → has_moved event q ≡ true
same_moves event r q (inl e) m = sym (ap (has_moved event) e) ∙ m
same_moves event r q (inr d) m = ap (has_moved event) d.other

-- a live transaction can move, or a live one has an edge to it
pub moves_or_follows : (s : Configuration) (past : List Entry) → Legal s past → (t : ℕ) → live past t ≡ true
    → CanMove s past t ⊎ ((u : ℕ) × LivePredecessor past u t)
moves_or_follows s past legal t alive =
    let some = some_reply_is_legal s past (next_event s past t) in
    elim (next_moves_or_waits s past legal t alive some.0 some.1) [
      | inl m ↦ inl (λ r h. same_moves (next_event s past t) some.0 r (replies_are_unique s past (next_event s past t) some.0 r some.1 h) m)
      | inr w ↦ inr (w.predecessor, w.least.pair)
    ]

-- a list without one occurrence of a number
abbrev without : ℕ → List ℕ → List ℕ
without t [] = []
without t (u ∷ l) = cond (nat_eq u t) l (u ∷ without t l)

without_fewer : (t : ℕ) (l : List ℕ) → Member t l → length (without t l) + 1 ≤ length l
without_fewer t [] m = absurd m
without_fewer t (u ∷ l) m = go (without_fewer t l) (nat_eq u t) refl m
  where
    go : (Member t l → length (without t l) + 1 ≤ length l) → (b : Bool) → nat_eq u t ≡ b → (t ≡ u) ⊎ Member t l
        → length (cond b l (u ∷ without t l)) + 1 ≤ length (u ∷ l)
    go rest true e m = omega arith
    go rest false e (inl same) = absurd (both_ways _ e (eq-eqb u t (sym same)))
    go rest false e (inr m) = let less : length (without t l) + 1 ≤ length l = rest m in omega arith

without_has : (t : ℕ) (l : List ℕ) (u : ℕ) → u ≢ t → Member u l → Member u (without t l)
without_has t [] u n m = m
without_has t (v ∷ l) u n m = go (without_has t l u n) (nat_eq v t) refl m
  where
    go : (Member u l → Member u (without t l)) → (b : Bool) → nat_eq v t ≡ b → (u ≡ v) ⊎ Member u l → Member u (cond b l (v ∷ without t l))
    go rest true e (inl same) = absurd (n (same ∙ eqb-true v t e))
    go rest true e (inr m) = m
    go rest false e (inl same) = inl same
    go rest false e (inr m) = inr (rest m)

module _ (s : Configuration) (past : List Entry) (legal : Legal s past) where
  -- a live transaction that can move, and leads to t
  abbrev Source : ℕ → Type 0
  Source t = (u : ℕ) × (live past u ≡ true) × Reaches (Pair past) u t × CanMove s past u

  -- each live transaction that leads to t by an edge or more is listed
  abbrev Covers : List ℕ → ℕ → Type 0
  Covers l t = (w : ℕ) → live past w ≡ true → (v : ℕ) → Pair past w v → Reaches (Pair past) v t → Member w l

  covers_less : (l : List ℕ) (t u : ℕ) → Pair past u t → Covers l t → Covers (without u l) u
  covers_less l t u p covers w alive v q r = without_has u l w
      (λ e. no_way_back (no_cycle s past legal) w v q (subst (λ x. Reaches (Pair past) v x) (sym e) r))
      (covers w alive v q (reaches_trans (Pair past) v u t r (t ∷ [], (p, tt), refl)))

  following : (u t : ℕ) → Pair past u t → Source u → Source t
  following u t p (w, alive, r, moves) = (w, alive, reaches_trans (Pair past) w u t r (t ∷ [], (p, tt), refl), moves)

  -- edges are followed backwards, and each transaction is met once
  source : (n : ℕ) (l : List ℕ) → length l ≤ n → (t : ℕ) → live past t ≡ true → Covers l t → Source t
  source zero l few t alive covers = elim (moves_or_follows s past legal t alive) [
    | inl moves ↦ (t, alive, reaches_self (Pair past) t, moves)
    | inr (u, p) ↦ let less = without_fewer u l (covers u p.is_live t p.pair (reaches_self (Pair past) t)) in absurd (omega arith)
  ]
  source (suc n) l few t alive covers = elim (moves_or_follows s past legal t alive) [
    | inl moves ↦ (t, alive, reaches_self (Pair past) t, moves)
    | inr (u, p) ↦ let less = without_fewer u l (covers u p.is_live t p.pair (reaches_self (Pair past) t)) in
        following u t p.pair (source n (without u l) (omega arith) u p.is_live (covers_less l t u p.pair covers))
  ]

pub no_deadlock : NoDeadlock
no_deadlock s past legal t alive = source s past legal (length (live_ones past)) (live_ones past) (omega arith) t alive
    (λ w is_live v p r. kept_member (live past) w (started_ones past) is_live (begun_has past w (live-started past w is_live)))

-- the graph of waits

waits_for : (s : Configuration) (past : List Entry) → Legal s past → (t u : ℕ) → WaitsFor s past t u → LivePredecessor past u t
waits_for s past legal t u w = elim (next_moves_or_waits s past legal t w.is_live (reply.Waits u) w.reported) [
  | inl m ↦ absurd (moved_not (next_event s past t) u m)
  | inr m ↦ let same : m.predecessor ≡ u = waits_same m.predecessor u (sym m.is) in subst (λ v. LivePredecessor past v t) same m.least.pair
]
  where
    moved_not : (event : Event) (v : ℕ) → has_moved event (reply.Waits v) ≡ true → ⊥
    moved_not event v m = cc

    waits_same : (v w : ℕ) → reply.Waits v ≡ reply.Waits w → v ≡ w
    waits_same v w e = cc

-- a path of waits is a path of edges backwards
waits_back : (s : Configuration) (past : List Entry) → Legal s past → (t : ℕ) (path : List ℕ) → PathOf (WaitsFor s past) t path
    → Reaches (Pair past) (last_of t path) t
waits_back s past legal t [] p = reaches_self (Pair past) t
waits_back s past legal t (u ∷ path) p = reaches_trans (Pair past) (last_of u path) u t (waits_back s past legal u path p.1)
    (t ∷ [], ((waits_for s past legal t u p.0).pair, tt), refl)

no_waits_back : (s : Configuration) (past : List Entry) → Legal s past → (t : ℕ) (path : List ℕ) → 0 < length path
    → PathOf (WaitsFor s past) t path
    → last_of t path ≡ t → ⊥
no_waits_back s past legal t [] some p e = omega arith
no_waits_back s past legal t (u ∷ path) some p e = no_way_back (no_cycle s past legal) u t (waits_for s past legal t u p.0).pair
    (subst (λ x. Reaches (Pair past) x u) e (waits_back s past legal u path p.1))

pub no_wait_cycle : NoWaitCycle
no_wait_cycle s past legal = record {
  for_live = λ t u w. let p = waits_for s past legal t u w in (p.is_live, p.pair);
  no_cycle = no_waits_back s past legal;
}
