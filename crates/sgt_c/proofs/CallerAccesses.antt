-- The accesses on which a caller decided: where in a legal history they may be.
use Rattle.std.proofs.Common.{◌≡◌, ◌≢◌, ℕ, ◌+◌, ◌≤◌, Bool, true, false, cond, nat_eq, List, [], ◌∷◌, ◌++◌, length, take, drop, reverse, Option, Some, None, refl, sym, ap, ap₂, subst, ◌∙◌, inl, inr, arith}
use Rattle.std.specs.Option.{option_or}
use Rattle.std.specs.Prelude.{IfSome}
use Rattle.std.proofs.lemmas.Bool.{cond-true, eq-eqb, eqb-true}
use Rattle.std.proofs.lemmas.List.{reverse-append, take-append-drop}
use Rattle.sgt_model.specs.declared.entry.Entry.{Entry}
use Rattle.sgt_model.specs.declared.event.Event.{Event}
use Rattle.sgt_model.specs.declared.event.Event.TheVariants.{Start}
use Rattle.sgt_model.specs.declared.reply.Reply.{Reply}
use Rattle.sgt_model.specs.declared.reply.Reply.TheVariants as reply
use Rattle.sgt_model.specs.declared.reply.Cause.TheVariants as cause
use Rattle.sgt_model.specs.declared.reply.Fate.{Fate}
use Rattle.sgt_model.specs.declared.reply.Fate.TheVariants as fate
use Rattle.sgt_model.specs.Accesses.{Access, access_in}
use Rattle.sgt_model.specs.Fates.{ending_in, fate_of, live, start_count}
use Rattle.sgt_model.specs.Legality.{Legal, LegalReply}
use Rattle.sgt_model.specs.Progress.{Call, call_at, call_in, caller_access_in, caller_accesses, with_caller_accesses}
use Rattle.sgt_model.specs.Questions.{started_in}
use Rattle.sgt_model.specs.Replay.{reported, reported_call_in, reported_calls, reported_in}
use Rattle.sgt_model.specs.Configurations.{Configuration}
use Rattle.sgt_model.proofs.Effects.{effect}
use Rattle.sgt_model.proofs.Facts.{access-live, commits_or_not, fate-final, legal_older, live-no_fate, live-started, starts-grow}
use Rattle.sgt_model.proofs.Plays.{caller_access_if, caller_access_if-none, caller_access_if-other, caller_access_in-is}
use Rattle.sgt_c.specs.declared.call_struct.SgtCall.{SgtCall}
use Rattle.sgt_c.specs.AccessStructs.{listed}
use Rattle.sgt_c.specs.ReplayedCalls.{CountsAccesses, IsReportedAt, bare_call, call_in as called_in, ends_by, ends_in, past_at, result_in, reported_ends}
use Rattle.sgt_c.proofs.Runs.{start_number}

-- ---- positions of a history

-- the entries up to a position are a legal history too
pub legal_to : (s : Configuration) (entries : List Entry) (place : ℕ) → Legal s (reverse entries) → Legal s (past_at entries place)
legal_to s entries place legal = legal_older s (reverse (drop place entries)) (past_at entries place) (subst (Legal s) parts legal)
  where
    parts : reverse entries ≡ reverse (drop place entries) ++ past_at entries place
    parts = ap reverse (sym (take-append-drop place entries)) ∙ reverse-append (take place entries) (drop place entries)

-- one entry more
pub past_next : (entries : List Entry) (place : ℕ) (e : Entry) → take (place + 1) entries ≡ take place entries ++ e ∷ []
    → past_at entries (place + 1) ≡ e ∷ past_at entries place
past_next entries place e next = ap reverse next ∙ reverse-append (take place entries) (e ∷ [])

-- ---- only what is live makes accesses

none_unless_live : (s : Configuration) (past : List Entry) (event : Event) (r : Reply) → LegalReply s past event r → (t : ℕ)
    → (live past t ≡ true → ⊥) → caller_access_in event r t ≡ []
none_unless_live s past event r legal t dead = caller_access_in-is event r t ∙ by_access (access_in event r) refl
  where
    apart : (a : Access) → access_in event r ≡ Some a → a.by ≢ t
    apart a is z = dead (subst (λ u. live past u ≡ true) z (access-live s past event r legal a is))

    by_access : (x : Option Access) → access_in event r ≡ x → caller_access_if event (access_in event r) t ≡ []
    by_access None is = ap (λ y. caller_access_if event y t) is ∙ caller_access_if-none event t
    by_access (Some a) is = ap (λ y. caller_access_if event y t) is ∙ caller_access_if-other event a t (apart a is)

-- a transaction that was not started has made none
none_unstarted : (s : Configuration) (past : List Entry) (t : ℕ) → Legal s past → start_count past ≤ t → caller_accesses past t ≡ []
none_unstarted s [] t h unstarted = refl
none_unstarted s (e ∷ past) t h unstarted =
    let grow = starts-grow e past in
    let before : start_count past ≤ t = omega arith in
    ap (λ x. x ++ caller_accesses past t)
    (none_unless_live s past e.event e.reply h.1 t (λ alive. let started = live-started past t alive in absurd (omega arith)))
    ∙ none_unstarted s past t h.0 before

-- so there is none before its start
pub none_before_start : (s : Configuration) (entries : List Entry) (place t : ℕ) (e : Entry) → Legal s (reverse entries)
    → take (place + 1) entries ≡ take place entries ++ e ∷ [] → started_in e.event e.reply ≡ Some t → caller_accesses (past_at entries place) t ≡ []
none_before_start s entries place t e legal next starts =
    let both = subst (Legal s) (past_next entries place e next) (legal_to s entries (place + 1) legal) in
    let number = start_number s (past_at entries place) e.event e.reply t both.1 starts in
    none_unstarted s (past_at entries place) t both.0 (omega (arith, number))

-- an entry that starts a call is a start, and makes no access
call_starts : (event : Event) (r : Reply) (t : ℕ) (c : Call) → call_in event r t ≡ Some c
    → (started_in event r ≡ Some t) × (caller_access_in event r t ≡ [])
call_starts (Start p args) (reply.Started u) t c is = (number (nat_eq u t) refl is, refl)
  where
    number : (b : Bool) → nat_eq u t ≡ b → cond b (call_at (Start p args)) None ≡ Some c → Some u ≡ Some t
    number true e is = ap Some (eqb-true u t e)
    number false e is = absurd cc
call_starts event (reply.Started u) t c is = absurd (none (nat_eq u t) is)
  where
    none : (b : Bool) → cond b (call_at event) None ≡ Some c → ⊥
    none true is = cc is
    none false is = cc is
call_starts event _ t c is = absurd cc

pub none_to_start : (s : Configuration) (entries : List Entry) (place t : ℕ) (e : Entry) (c : Call) → Legal s (reverse entries)
    → take (place + 1) entries ≡ take place entries ++ e ∷ [] → call_in e.event e.reply t ≡ Some c → caller_accesses (past_at entries (place + 1)) t ≡ []
none_to_start s entries place t e c legal next starts =
    let both = call_starts e.event e.reply t c starts in
    ap (λ l. caller_accesses l t) (past_next entries place e next)
    ∙ ap (λ x. x ++ caller_accesses (past_at entries place) t) both.1
    ∙ none_before_start s entries place t e legal next both.0

-- ---- none follows the end

kept_after : (s : Configuration) (newer older : List Entry) (t : ℕ) (f : Fate) → Legal s (newer ++ older) → fate_of older t ≡ Some f
    → (caller_accesses (newer ++ older) t ≡ caller_accesses older t) × (fate_of (newer ++ older) t ≡ Some f)
kept_after s [] older t f legal ended = (refl, ended)
kept_after s (e ∷ newer) older t f legal ended =
    let before = kept_after s newer older t f legal.0 ended in (
      ap (λ x. x ++ caller_accesses (newer ++ older) t)
          (none_unless_live s (newer ++ older) e.event e.reply legal.1 t (λ alive. cc (sym before.1 ∙ live-no_fate (newer ++ older) t alive)))
          ∙ before.0,
      fate-final s e (newer ++ older) legal t f before.1,
    )

abbrev first_of : List (ℕ × ℕ) → ℕ
first_of [] = 0
first_of (p ∷ l) = p.0

first : (t k u n : ℕ) → ◌≡◌ {A = List (ℕ × ℕ)} ((u, n) ∷ []) ((t, k) ∷ []) → u ≡ t
first t k u n e = ap first_of e

-- an entry that commits or refuses a transaction ends it, and makes no access
ended_at : (s : Configuration) (past : List Entry) (event : Event) (r : Reply) (t k : ℕ) → LegalReply s past event r → ends_by event r ≡ (t, k) ∷ []
    → (f : Fate) × (ending_in event r t ≡ Some f)
ended_at s past event r t k legal is = elim (commits_or_not (effect s past event r legal)) [
  | inl c ↦ let who = first t k c.t 13 (sym (ap₂ ends_by c.event_is c.reply_is) ∙ is) in (
    fate.Committed,
    ap₂ (λ e x. ending_in e x t) c.event_is c.reply_is ∙ cond-true (nat_eq c.t t) (Some fate.Committed) None (eq-eqb c.t t who),
  )
  | inr (inl x) ↦ let who = first t k x.undoing.t 15 (sym (ap₂ ends_by x.event_is x.reply_is) ∙ is) in (
    fate.Aborted (cause.Asked x.code),
    ap₂ (λ e y. ending_in e y t) x.event_is x.reply_is
        ∙ cond-true (nat_eq x.undoing.t t) (Some (fate.Aborted (cause.Asked x.code))) _ (eq-eqb x.undoing.t t who),
  )
  | inr (inr u) ↦ absurd (neither r is u.reports_none)
]
  where
    neither : (r : Reply) → ends_by event r ≡ (t, k) ∷ [] → reported_in r ≡ [] → ⊥
    neither (reply.Committed answers) a b = cc b
    neither (reply.Refused code fell) a b = cc b
    neither _ a b = cc a

-- so the accesses of a transaction that an entry commits or refuses are those before this entry
pub kept_from_end : (s : Configuration) (entries : List Entry) (place t k : ℕ) (e : Entry) → Legal s (reverse entries)
    → take (place + 1) entries ≡ take place entries ++ e ∷ [] → ends_by e.event e.reply ≡ (t, k) ∷ []
    → caller_accesses (past_at entries place) t ≡ caller_accesses (reverse entries) t
kept_from_end s entries place t k e legal next ends = sym (ap (λ l. caller_accesses l t) parts ∙ kept)
  where
    newer : List Entry
    newer = reverse (drop (place + 1) entries)

    older : List Entry
    older = past_at entries place

    parts : reverse entries ≡ newer ++ e ∷ older
    parts = ap reverse (sym (take-append-drop (place + 1) entries)) ∙ reverse-append (take (place + 1) entries) (drop (place + 1) entries)
        ∙ ap (λ l. newer ++ l) (past_next entries place e next)

    all_legal : Legal s (newer ++ e ∷ older)
    all_legal = subst (Legal s) parts legal

    here : Legal s (e ∷ older)
    here = legal_older s newer (e ∷ older) all_legal

    ending : (f : Fate) × (ending_in e.event e.reply t ≡ Some f)
    ending = ended_at s older e.event e.reply t k here.1 ends

    fate_here : fate_of (e ∷ older) t ≡ Some ending.0
    fate_here = ap (λ o. option_or o (fate_of older t)) ending.1

    all : (caller_accesses (newer ++ e ∷ older) t ≡ caller_accesses (e ∷ older) t) × (fate_of (newer ++ e ∷ older) t ≡ Some ending.0)
    all = kept_after s newer (e ∷ older) t ending.0 all_legal fate_here

    no_access : (event : Event) (r : Reply) → ends_by event r ≡ (t, k) ∷ [] → caller_access_in event r t ≡ []
    no_access event (reply.Committed answers) a = caller_access_in-is event (reply.Committed answers) t ∙ caller_access_if-none event t
    no_access event (reply.Refused code fell) a = caller_access_in-is event (reply.Refused code fell) t ∙ caller_access_if-none event t
    no_access event _ a = absurd cc

    kept : caller_accesses (newer ++ e ∷ older) t ≡ caller_accesses older t
    kept = all.0 ∙ ap (λ x. x ++ caller_accesses older t) (no_access e.event e.reply ends)

-- ---- the struct of a call

module _ (s : Configuration) (entries : List Entry) (place : ℕ) (e : Entry) (legal : Legal s (reverse entries))
    (next : take (place + 1) entries ≡ take place entries ++ e ∷ []) where
  same_call : (call : Option SgtCall) → ends_by e.event e.reply ≡ listed ends_in call
      → listed (called_in (past_at entries place)) call ≡ listed (called_in (reverse entries)) call
  same_call None ends = refl
  same_call (Some c) ends =
      ap (λ xs. with_caller_accesses xs (bare_call c) ∷ []) (kept_from_end s entries place c.tid c.kind e legal next ends)

  -- of the entries before its end, and so of all
  pub reported_by_all : (call : Option SgtCall) → reported_call_in (past_at entries place) e.event e.reply ≡ listed (called_in (past_at entries place)) call
      → reported_in e.reply ≡ listed result_in call → ends_by e.event e.reply ≡ listed ends_in call → IsReportedAt entries place call
  reported_by_all call calls results ends = record {
    calls = ap reported_calls (past_next entries place e next) ∙ ap (λ l. l ++ reported_calls (past_at entries place)) (calls ∙ same_call call ends);
    results = ap reported (past_next entries place e next) ∙ ap (λ l. l ++ reported (past_at entries place)) results;
    ends = ap reported_ends (past_next entries place e next) ∙ ap (λ l. l ++ reported_ends (past_at entries place)) ends;
  }

  pub counts_by_all : (call : Option SgtCall) → ends_by e.event e.reply ≡ listed ends_in call → IfSome call (CountsAccesses (past_at entries place))
      → IfSome call (CountsAccesses (reverse entries))
  counts_by_all None ends counts = counts
  counts_by_all (Some c) ends counts = counts ∙ ap (λ xs. length (reverse xs)) (kept_from_end s entries place c.tid c.kind e legal next ends)
