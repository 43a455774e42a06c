-- Each started transaction was admitted: its procedure exists, takes as many arguments, and each of them is a value.
use Rattle.std.specs.Prelude.{◌≡◌, ℕ, ◌+◌, ◌<◌, ◌≤◌, ℤ, true, false, cond, ◌⊎◌, nat_eq, List, [], ◌∷◌, ◌++◌, length, Some, None, All}
use Rattle.std.specs.List.{list_all}
use Rattle.std.specs.Option.{unwrap_or}
use Rattle.std.proofs.Common.{refl, sym, ap, ◌∙◌, subst, inl, inr, arith}
use Rattle.std.proofs.lemmas.Bool.{and_parts, eqb-true, eq-eqb, cases_lt}
use Rattle.std.proofs.lemmas.List.Elements.{All-nil, All-cons}
use Rattle.sgt_model.specs.declared.event.Event.{Event}
use Rattle.sgt_model.specs.declared.reply.Reply.{Reply}
use Rattle.sgt_model.specs.declared.entry.Entry.{Entry}
use Rattle.sgt_model.specs.Numbers.{IsValue, is_value}
use Rattle.sgt_model.specs.Fates.{is_start, start_count, subject}
use Rattle.sgt_model.specs.Configurations.{Configuration}
use Rattle.sgt_model.specs.Progress.{Call, call_at, call_in, call_of, caller_accesses, with_caller_accesses}
use Rattle.sgt_model.specs.Runs.{CallerAccess}
use Rattle.sgt_model.specs.Legality.{Legal}
use Rattle.sgt_model.specs.Replay.{reported_call_in, reported_calls}
use Rattle.sgt_model.specs.Admissions.{IsAdmitted, AreAdmitted}
use Rattle.sgt_model.proofs.Effects.{Begins, effect, Commits, Refusal}
use Rattle.sgt_model.proofs.Facts.{call-kept, commits_or_not, Uncommitted, live-started}
use Rattle.sgt_model.proofs.Capacity.{starts_or_not}
use Rattle.sgt_model.proofs.StoredValues.{is_value-fact}

values_fit : (args : List ℤ) → list_all is_value args ≡ true → All IsValue args
values_fit [] e = All-nil IsValue
values_fit (a ∷ args) e = let parts = and_parts (is_value a) (list_all is_value args) e in
    All-cons IsValue a args (is_value-fact a parts.0) (values_fit args parts.1)

at_start : (s : Configuration) (past : List Entry) (event : Event) (r : Reply) → Begins s past event r → (before : Call)
    → IsAdmitted s (unwrap_or (call_in event r (start_count past)) before)
at_start s past event r b before =
    let parts = and_parts (nat_eq (length b.args) b.count) (list_all is_value b.args) b.fit in
    let call : Call = record { procedure = b.procedure; args = b.args; caller_accesses = [] } in
    let is : call_in event r (start_count past) ≡ Some call = ap (λ x. call_in event x (start_count past)) b.reply_is
    ∙ ap (λ x. cond x (call_at event) None) (eq-eqb (start_count past) (start_count past) refl) ∙ ap call_at b.event_is in
    subst (λ o. IsAdmitted s (unwrap_or o before)) (sym is)
    (record { known = b.known ∙ ap Some (sym (eqb-true (length b.args) b.count parts.0)); values = values_fit b.args parts.1 })

started_admitted : (s : Configuration) (past : List Entry) (t : ℕ) → Legal s past → t < start_count past → IsAdmitted s (call_of past t)
started_admitted s [] t h started = absurd (omega arith)
started_admitted s (e ∷ past) t h started = by_age (started_admitted s past t h.0) (cases_lt t (start_count past))
  where
    by_start : start_count past ≤ t → Begins s past e.event e.reply ⊎ (is_start e.reply ≡ false) → IsAdmitted s (call_of (e ∷ past) t)
    by_start new (inl b) =
        let count : start_count (e ∷ past)
        ≡ start_count past + 1 = ap (λ r. cond (is_start r) (start_count past + 1) (start_count past)) b.reply_is in
        let is : start_count past ≡ t = omega arith in
        subst (λ u. IsAdmitted s (unwrap_or (call_in e.event e.reply u) (call_of past u))) is
        (at_start s past e.event e.reply b (call_of past (start_count past)))
    by_start new (inr none) =
        let count : start_count (e ∷ past) ≡ start_count past = ap (λ b. cond b (start_count past + 1) (start_count past)) none in
        absurd (omega arith)

    by_age : (t < start_count past → IsAdmitted s (call_of past t)) → (t < start_count past) ⊎ (start_count past ≤ t)
        → IsAdmitted s (call_of (e ∷ past) t)
    by_age before (inl earlier) = subst (IsAdmitted s) (sym (call-kept s past e t h.1 earlier)) (before earlier)
    by_age before (inr new) = by_start new (starts_or_not (effect s past e.event e.reply h.1))

-- whatever its caller requested after its end
requested_too : {s : Configuration} {c : Call} {xs : List CallerAccess} → IsAdmitted s c → IsAdmitted s (with_caller_accesses xs c)
requested_too a = record { known = a.known; values = a.values }

-- so was each that committed or was refused
pub committed_admitted : (s : Configuration) (past : List Entry) → Legal s past → AreAdmitted s (reported_calls past)
committed_admitted s [] h = tt
committed_admitted s (e ∷ past) h = by_end (committed_admitted s past h.0) (commits_or_not (effect s past e.event e.reply h.1))
  where
    by_end : AreAdmitted s (reported_calls past)
        → Commits s past e.event e.reply ⊎ (Refusal s past e.event e.reply ⊎ Uncommitted s past e.event e.reply)
        → AreAdmitted s (reported_call_in past e.event e.reply ++ reported_calls past)
    by_end before (inl c) =
        let who : subject e.event ≡ c.t = ap subject c.event_is in
        let admitted = started_admitted s past c.t h.0 (live-started past c.t c.is_live) in
        subst (λ r. AreAdmitted s (reported_call_in past e.event r ++ reported_calls past)) (sym c.reply_is) (
          before,
          subst (λ u. IsAdmitted s (with_caller_accesses (caller_accesses past u) (call_of past u))) (sym who)
              (requested_too admitted),
        )
    by_end before (inr (inl x)) =
        let who : subject e.event ≡ x.undoing.t = ap subject x.event_is in
        let admitted = started_admitted s past x.undoing.t h.0 (live-started past x.undoing.t x.undoing.is_live) in
        subst (λ r. AreAdmitted s (reported_call_in past e.event r ++ reported_calls past)) (sym x.reply_is) (
          before,
          subst (λ u. IsAdmitted s (with_caller_accesses (caller_accesses past u) (call_of past u))) (sym who)
              (requested_too admitted),
        )
    by_end before (inr (inr quiet)) = subst (λ l. AreAdmitted s (l ++ reported_calls past)) (sym quiet.no_call) before
