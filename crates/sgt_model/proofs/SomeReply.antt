-- Some reply to each event is legal. Whether an access closes a cycle, which transactions are aborted in cascade and which must
-- be waited for are found among the finitely many transactions of the entries.
use Rattle.std.specs.Prelude.{◌≡◌, ◌≢◌, ℕ, ℤ, ◌<◌, ◌≤◌, ◌+◌, Bool, true, false, cond, not, ◌&&◌, ◌⊎◌, nat_eq, nat_lt, List, [], ◌∷◌, ◌++◌, length, Option, Some, None}
use Rattle.std.specs.List.{filter}
use Rattle.std.proofs.Common.{refl, sym, ◌∙◌, subst, inl, inr, arith}
use Rattle.std.proofs.lemmas.Bool.{and_parts, and_from, cases_Bool, cases_lt, both_ways, eq-eqb, ltb-true, ne_eqb, not-true, not_from_false}
use Rattle.sgt_model.specs.declared.event.Event.TheVariants.{Start, Step, Access, Commit, Quit}
use Rattle.sgt_model.specs.declared.event.Request.{Request}
use Rattle.sgt_model.specs.declared.reply.Reply.{Reply}
use Rattle.sgt_model.specs.declared.reply.Reply.TheVariants as reply
use Rattle.sgt_model.specs.declared.reply.Cause.{Cause}
use Rattle.sgt_model.specs.declared.reply.Cause.TheVariants as cause
use Rattle.sgt_model.specs.declared.reply.Fate.{Fate}
use Rattle.sgt_model.specs.declared.entry.Entry.{Entry}
use Rattle.sgt_model.specs.declared.kind.Kind.{Kind}
use Rattle.sgt_model.specs.declared.kind.Kind.TheVariants.{Look, Store}
use Rattle.sgt_model.specs.declared.limits.Asks.{Asks}
use Rattle.sgt_model.specs.declared.limits.Asks.TheVariants.{AtStep, AtCommit}
use Rattle.sgt_model.specs.Contents.{Key}
use Rattle.sgt_model.specs.Paths.{last_of, Member, Reaches}
use Rattle.sgt_model.specs.Traces.{Next, Looks, Puts, Ends, Raises}
use Rattle.sgt_model.specs.Fates.{is_start, start_count, fate_of, started_ones, live, live_ones}
use Rattle.sgt_model.specs.Values.{visible}
use Rattle.sgt_model.specs.Falls.{Feeds, Falls}
use Rattle.sgt_model.specs.Pairs.{has_conflicting, Pair}
use Rattle.sgt_model.specs.Closes.{Closes}
use Rattle.sgt_model.specs.Configurations.{Configuration}
use Rattle.sgt_model.specs.Progress.{next_of, requested, is_fit}
use Rattle.sgt_model.specs.StartReply.{start_reply}
use Rattle.sgt_model.specs.Legality.{RaisedStep, RaisedCommit, HasNoLivePredecessor, AbortReply, CycleAbortReply, Makes, StepReply, OfFit, RequestReply, MustWait, MayCommit, CommitReply, OfStarted}
use Rattle.sgt_model.specs.OneReply.{SomeReplyIsLegal}
use Rattle.sgt_model.proofs.Paths.{last_is_member, Simple, simple, simple_some}
use Rattle.sgt_model.proofs.Listed.{member_added, kept_member, member_kept}
use Rattle.sgt_model.proofs.Rises.{begun-rise}
use Rattle.sgt_model.proofs.Computed.{actors, has_conflicting-actor, precedes-actors, pair, pair-so, so-pair, feeds, read_from-so, so-read_from, read_from-actor}
use Rattle.sgt_model.proofs.Leads.{leads, leads-reaches, reaches-leads}

-- the least member of a list that passes a test
record Least (test : ℕ → Bool) (l : List ℕ) : Type 0 where
  at : ℕ
  member : Member at l
  passes : test at ≡ true
  least : (u : ℕ) → Member u l → test u ≡ true → at ≤ u

-- no member passes it
abbrev NonePasses : (ℕ → Bool) → List ℕ → Type 0
NonePasses test l = (u : ℕ) → Member u l → test u ≡ true → ⊥

-- one more member is the least that passes
least_first : (test : ℕ → Bool) (t : ℕ) (l : List ℕ) → test t ≡ true → ((u : ℕ) → Member u l → test u ≡ true → t ≤ u) → Least test (t ∷ l)
least_first test t l h below = record {
  at = t;
  member = inl refl;
  passes = h;
  least = λ u m q. elim m [
    | inl e ↦ omega arith
    | inr k ↦ below u k q
  ];
}

-- or is not
least_later : (test : ℕ → Bool) (t : ℕ) (l : List ℕ) (w : Least test l) → (test t ≡ true → w.at ≤ t) → Least test (t ∷ l)
least_later test t l w above = record {
  at = w.at;
  member = inr w.member;
  passes = w.passes;
  least = λ u m q. elim m [ inl e ↦ subst (λ x. w.at ≤ x) (sym e) (above (subst (λ x. test x ≡ true) e q)) | inr k ↦ w.least u k q ];
}

least_or_none : (test : ℕ → Bool) (l : List ℕ) → Least test l ⊎ NonePasses test l
least_or_none test [] = inr (λ u m q. m)
least_or_none test (t ∷ l) = elim (cases_Bool (test t)) [
  | inl h ↦ elim (least_or_none test l) [
    | inl w ↦ elim (cases_lt t w.at) [
      | inl less ↦ inl (least_first test t l h (λ u m q. let x = w.least u m q in omega arith))
      | inr ge ↦ inl (least_later test t l w (λ q. ge))
    ]
    | inr none ↦ inl (least_first test t l h (λ u m q. absurd (none u m q)))
  ]
  | inr n ↦ elim (least_or_none test l) [
    | inl w ↦ inl (least_later test t l w (λ q. absurd (both_ways (test t) n q)))
    | inr none ↦ inr (λ u m q. elim m [ inl e ↦ both_ways (test t) n (subst (λ x. test x ≡ true) e q) | inr k ↦ none u k q ])
  ]
]

-- a started transaction is listed
pub begun_has : (past : List Entry) (t : ℕ) → t < start_count past → Member t (started_ones past)
begun_has [] t less = absurd (omega arith)
begun_has (e ∷ past) t less = go (begun_has past t) (is_start e.reply) less
  where
    go : (t < start_count past → Member t (started_ones past)) → (b : Bool) → t < cond b (start_count past + 1) (start_count past)
        → Member t (cond b (started_ones past ++ start_count past ∷ []) (started_ones past))
    go before true less = member_added t (started_ones past) (start_count past)
        (elim (cases_lt t (start_count past)) [ inl early ↦ inl (before early) | inr last ↦ inr (omega arith) ])
    go before false less = before less

module _ (past : List Entry) (t : ℕ) where
  -- which transactions are aborted in cascade

  abbrev falls : ℕ → Bool
  falls u = live past u && (not (nat_eq u t) && leads (feeds past) (actors past) t u)

  falls-each : (u : ℕ) → Member u (filter falls (started_ones past)) → (live past u ≡ true) × (u ≢ t) × Reaches (Feeds past) t u
  falls-each u m =
      let p = and_parts _ _ (member_kept falls u (started_ones past) m).0 in
      let q = and_parts _ _ p.1 in (
        p.0,
        (λ e. both_ways _ (not-true _ q.0) (eq-eqb u t e)),
        leads-reaches (feeds past) (Feeds past)
            (λ a b h. read_from-so past b a h) (actors past) t u q.1,
      )

  falls-all : (u : ℕ) → live past u ≡ true → u ≢ t → Reaches (Feeds past) t u → Member u (filter falls (started_ones past))
  falls-all u alive apart r =
      let led : leads (feeds past) (actors past) t u ≡ true =
      reaches-leads (feeds past) (Feeds past) (λ a b h. so-read_from past b a h) (actors past)
      (λ a b h. read_from-actor past b a h) t u r in
      kept_member falls u (started_ones past) (and_from _ _ alive (and_from _ _ (not_from_false _ (ne_eqb u t apart)) led))
      (begun_has past u (ltb-true u (start_count past) (and_parts _ _ alive).0))

  some_fall : (fell : List ℕ) × Falls past t fell
  some_fall = (filter falls (started_ones past), record { rising = begun-rise falls past; each = falls-each; all = falls-all })

  some_abort : (why : Cause) → (r : Reply) × AbortReply past t why r
  some_abort why = (reply.Aborted why some_fall.0, record { fell = some_fall.0; falls = some_fall.1; is = refl })

  -- whether an access closes a cycle

  module _ (k : Key) (kind : Kind) where
    -- another with a conflicting access, to which edges lead from t
    abbrev closing : ℕ → Bool
    closing u = not (nat_eq t u) && (has_conflicting past u k kind && leads (pair past) (actors past) t u)

    path_to : (u : ℕ) → closing u ≡ true → (rest : List ℕ) × Closes past t k kind rest
    path_to u h = let p = and_parts _ _ h in let q = and_parts _ _ p.1 in
        go p.0 q.0 (leads-reaches (pair past) (Pair past) (pair-so past) (actors past) t u q.1)
      where
        go : not (nat_eq t u) ≡ true → has_conflicting past u k kind ≡ true → Reaches (Pair past) t u
            → (rest : List ℕ) × Closes past t k kind rest
        go other touched (path, goes, e) = let w : Simple (Pair past) t path = simple (Pair past) t path goes in (
          w.rest,
          record {
            distinct = w.distinct;
            at_least_two = simple_some (Pair past) t path w (λ same. both_ways _ (not-true _ other) (eq-eqb t u (same ∙ e)));
            pairs = w.goes;
            conflict = subst (λ x. has_conflicting past x k kind ≡ true) (sym (w.ends ∙ e)) touched;
          },
        )

    apart_from_last : (rest : List ℕ) → Closes past t k kind rest → t ≢ last_of t rest
    apart_from_last [] c e = omega (arith, c.at_least_two)
    apart_from_last (u ∷ rest) c e = c.distinct.0 (subst (λ x. Member x (u ∷ rest)) (sym e) (last_is_member t u rest))

    closing_last : (rest : List ℕ) → Closes past t k kind rest → closing (last_of t rest) ≡ true
    closing_last rest c =
        let led : leads (pair past) (actors past) t (last_of t rest) ≡ true = reaches-leads (pair past) (Pair past) (so-pair past)
        (actors past) (λ a b p. (precedes-actors past a b p.precedes).1) t (last_of t rest) (rest, c.pairs, refl) in
        and_from _ _ (not_from_false _ (ne_eqb t (last_of t rest) (apart_from_last rest c))) (and_from _ _ c.conflict led)

    some_access : (given : Reply) → (r : Reply) × (CycleAbortReply past t k kind r ⊎ Makes past t k kind given r)
    some_access given = elim (least_or_none closing (actors past)) [
      | inl w ↦
          let cycle = path_to w.at w.passes in
          let abort = some_abort (cause.Cycle (t ∷ cycle.0)) in
          (abort.0, inl (record { rest = cycle.0; closes = cycle.1; aborts = abort.1 }))
      | inr none ↦ (
        given,
        inr (record {
          free = λ rest c. none (last_of t rest) (has_conflicting-actor past (last_of t rest) k kind c.conflict)
              (closing_last rest c);
          is = refl;
        }),
      )
    ]

  -- which transaction must be waited for

  abbrev before : ℕ → Bool
  before u = live past u && pair past u t

  before-actor : (u : ℕ) → Pair past u t → Member u (actors past)
  before-actor u p = (precedes-actors past u t p.precedes).0

  some_wait : ((r : Reply) × MustWait past t r) ⊎ HasNoLivePredecessor past t
  some_wait = elim (least_or_none before (actors past)) [
    | inl w ↦ let p = and_parts _ _ w.passes in inl (
      reply.Waits w.at,
      record {
        predecessor = w.at;
        least = record {
          pair = record { is_live = p.0; pair = pair-so past w.at t p.1 };
          least = λ u q. w.least u (before-actor u q.pair) (and_from _ _ q.is_live (so-pair past u t q.pair));
        };
        is = refl;
      },
    )
    | inr none ↦ inr (λ u q. none u (before-actor u q.pair) (and_from _ _ q.is_live (so-pair past u t q.pair)))
  ]

  some_end : (answers : List ℤ) → (r : Reply) × (MustWait past t r ⊎ MayCommit past t answers r)
  some_end answers = elim some_wait [
    | inl w ↦ (w.0, inl w.1)
    | inr none ↦ (reply.Committed answers, inr (record { none_live = none; is = refl }))
  ]

  some_raised_step : (asks : Asks) (code : ℕ) → (r : Reply) × RaisedStep asks past t code r
  some_raised_step AtStep code = some_abort (cause.Asked code)
  some_raised_step AtCommit code = (reply.Ended, refl)

  some_raised_commit : (asks : Asks) (code : ℕ) → (r : Reply) × RaisedCommit asks past t code r
  some_raised_commit AtStep code = (reply.NotEnded, refl)
  some_raised_commit AtCommit code = elim some_wait [
    | inl w ↦ (w.0, inl w.1)
    | inr none ↦ (
      reply.Refused code some_fall.0,
      inr (record { none_live = none; fell = some_fall.0; falls = some_fall.1; is = refl }),
    )
  ]

  -- to each kind of event

  some_step : (s : Configuration) (next : Next) → (r : Reply) × StepReply s past t next r
  some_step s (Looks k) = some_access k Look (reply.Looked k (visible s.opening past k))
  some_step s (Puts k v) = some_access k Store (reply.Wrote k v)
  some_step s (Ends answers) = (reply.Ended, refl)
  some_step s (Raises code) = some_raised_step s.rules.limits.asks code

  some_fit : (s : Configuration) (n : Next) (fit : Bool) → (r : Reply) × OfFit fit r (StepReply s past t n r)
  some_fit s n true = some_step s n
  some_fit s n false = (reply.BadArgs, refl)

  some_request : (s : Configuration) (d : Request) (next : Next) → (r : Reply) × RequestReply s past t d next r
  some_request s d (Ends answers) = some_fit s (requested d) (is_fit d)
  some_request s d (Looks k) = (reply.NotEnded, refl)
  some_request s d (Puts k v) = (reply.NotEnded, refl)
  some_request s d (Raises code) = (reply.NotEnded, refl)

  some_commit : (s : Configuration) (next : Next) → (r : Reply) × CommitReply s past t next r
  some_commit s (Ends answers) = some_end answers
  some_commit s (Looks k) = (reply.NotEnded, refl)
  some_commit s (Puts k v) = (reply.NotEnded, refl)
  some_commit s (Raises code) = some_raised_commit s.rules.limits.asks code

some_of_started : (P : Reply → Type 0) → (r : Reply) × P r → (started : Bool) (ended : Option Fate)
    → (r : Reply) × OfStarted started ended r (P r)
some_of_started P if_live true None = if_live
some_of_started P if_live true (Some fate) = (reply.Over fate, refl)
some_of_started P if_live false ended = (reply.Unknown, refl)

pub some_reply_is_legal : SomeReplyIsLegal
some_reply_is_legal s past (Start p args) = (start_reply s.rules (start_count past) (length (live_ones past)) p args, refl)
some_reply_is_legal s past (Step t) = some_of_started (λ r. StepReply s past t (next_of s past t) r)
    (some_step past t s (next_of s past t)) (nat_lt t (start_count past)) (fate_of past t)
some_reply_is_legal s past (Access t d) = some_of_started (λ r. RequestReply s past t d (next_of s past t) r)
    (some_request past t s d (next_of s past t)) (nat_lt t (start_count past)) (fate_of past t)
some_reply_is_legal s past (Commit t) = some_of_started (λ r. CommitReply s past t (next_of s past t) r)
    (some_commit past t s (next_of s past t)) (nat_lt t (start_count past)) (fate_of past t)
some_reply_is_legal s past (Quit t) = some_of_started (λ r. AbortReply past t cause.Quit r) (some_abort past t cause.Quit)
    (nat_lt t (start_count past)) (fate_of past t)
