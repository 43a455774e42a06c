-- The table of transactions after one entry more.
use Rattle.std.proofs.Common.{◌≡◌, ◌≢◌, ℕ, zero, suc, ◌+◌, ◌<◌, ◌≤◌, ℤ, Bool, true, false, cond, ◌||◌, ◌⊎◌, nat_eq, get_or, take, List, [], ◌∷◌, ◌++◌, length, length-append, Option, Some, None, refl, reverse, sym, ap, ap₂, subst, inl, inr, ◌∙◌, arith, slice_get}
use Rattle.std.proofs.lemmas.Bool.{true≢false, eq-eqb, ne_eqb}
use Rattle.std.proofs.lemmas.Option.{none-some, same_Some, slice_get_cases, slice_get_past}
use Rattle.std.proofs.lemmas.List.{reverse-append, length-reverse}
use Rattle.std.proofs.lemmas.List.Folds.{list_any_more}
use Rattle.std.specs.List.{list_any}
use Rattle.std.specs.Option.{is_some, option_map, option_or, unwrap_or}
use Rattle.sgt_model.specs.declared.event.Event.TheVariants.{Start}
use Rattle.sgt_model.specs.declared.reply.Reply.{Reply}
use Rattle.sgt_model.specs.declared.reply.Reply.TheVariants as reply
use Rattle.sgt_model.specs.declared.reply.Fate.{Fate}
use Rattle.sgt_model.specs.declared.entry.Entry.{Entry}
use Rattle.sgt_model.specs.Fates.{is_start, start_count, ending_in, fate_of}
use Rattle.sgt_model.specs.Progress.{Call, call_at, call_in, call_of}
use Rattle.sgt_model.specs.Configurations.{Configuration}
use Rattle.sgt_model.specs.Legality.{Legal, LegalReply}
use Rattle.sgt_model.proofs.Effects.{no_start-no_call, effect}
use Rattle.sgt_model.proofs.Facts.{end-live, live-started, unstarted-no_fate}
use Rattle.sgt_model.proofs.Capacity.{starts_or_not}
use Rattle.sgt_audit.specs.declared.lives.Life.{Life}
use Rattle.sgt_audit.specs.Spans.{starts_as, started_at, ended_at}
use Rattle.sgt_audit.specs.Outcomes.{has_failed}
use Rattle.sgt_audit.specs.Lives.{call_started, IsLife, AreLives, started_life, ended_life, life_after}

starts_not : (r : Reply) (t : ℕ) → is_start r ≡ false → starts_as r t ≡ false
starts_not (reply.Started u) t e = absurd (true≢false e)
starts_not _ t e = refl

-- the old row of a row in the longer table
was_row : (f : Life → Life) (o : Option Life) (life : Life) → option_map f o ≡ Some life → (old : Life) × (o ≡ Some old) × (life ≡ f old)
was_row f None life e = absurd (none-some life e)
was_row f (Some old) life e = (old, refl, sym (same_Some (f old) life e))

no_row : (f : Life → Life) (o : Option Life) → option_map f o ≡ None → o ≡ None
no_row f None e = refl
no_row f (Some old) e = absurd (none-some (f old) (sym e))

-- the call of an entry, which stays when one more comes

call_more : (h : List Entry) (e : Entry) (n : ℕ) (call : Call) → call_started h n ≡ Some call → call_started (h ++ e ∷ []) n ≡ Some call
call_more [] e n call is = absurd (none-some call is)
call_more (x ∷ h) e zero call is = is
call_more (x ∷ h) e (suc n) call is = call_more h e n call is

call_kept : (past : List Entry) (e : Entry) (n : ℕ) (call : Call) → call_started (reverse past) n ≡ Some call
    → call_started (reverse (e ∷ past)) n ≡ Some call
call_kept past e n call is = ap (λ h. call_started h n) (reverse-append (e ∷ []) past) ∙ call_more (reverse past) e n call is

call_last : (h : List Entry) (e : Entry) → call_started (h ++ e ∷ []) (length h) ≡ call_at e.event
call_last [] e = refl
call_last (x ∷ h) e = call_last h e

call_newest : (past : List Entry) (e : Entry) → call_started (reverse (e ∷ past)) (length past) ≡ call_at e.event
call_newest past e =
    ap (λ h. call_started h (length past)) (reverse-append (e ∷ []) past)
    ∙ ap (call_started (reverse past ++ e ∷ [])) (sym (length-reverse past))
    ∙ call_last (reverse past) e

-- an entry that starts none, and ends some or none
pub lives_ended : (s : Configuration) (past : List Entry) (e : Entry) (lives after : List Life) → LegalReply s past e.event e.reply
    → is_start e.reply ≡ false → AreLives past lives
    → ((t : ℕ) → slice_get after t ≡ option_map (life_after (length past) (ending_in e.event e.reply t)) (slice_get lives t))
    → length after ≡ length lives → AreLives (e ∷ past) after
lives_ended s past e lives after legal none are rows count = record {
  counted = count ∙ (are.counted ∙ sym (ap (λ b. cond b (start_count past + 1) (start_count past)) none));
  each = λ t life at.
      let was = was_row (life_after (length past) (ending_in e.event e.reply t)) (slice_get lives t) life (sym (rows t) ∙ at) in
      subst (IsLife (e ∷ past) t) (sym was.2) (row t was.0 (are.each t was.0 was.1));
  none = λ t at.
      let out : slice_get lives t ≡ None = no_row (life_after (length past) (ending_in e.event e.reply t)) (slice_get lives t)
      (sym (rows t) ∙ at) in
      let old = are.none t out in
      record { started = not_started t ∙ old.started; ended = not_ended t out (ending_in e.event e.reply t) refl ∙ old.ended };
}
  where
    not_started : (t : ℕ) → started_at (e ∷ past) t ≡ started_at past t
    not_started t = ap (λ b. cond b (Some (length past)) (started_at past t)) (starts_not e.reply t none)

    same_call : (t : ℕ) (old : Life) → call_started (reverse past) old.started ≡ Some (call_of past t)
        → call_started (reverse (e ∷ past)) old.started ≡ Some (call_of (e ∷ past) t)
    same_call t old is = call_kept past e old.started (call_of past t) is
        ∙ ap Some (sym (ap (λ o. unwrap_or o (call_of past t)) (no_start-no_call e.event e.reply none t)))

    not_ended : (t : ℕ) → slice_get lives t ≡ None → (o : Option Fate) → ending_in e.event e.reply t ≡ o
        → cond (is_some (ending_in e.event e.reply t)) (Some (length past)) (ended_at past t) ≡ ended_at past t
    not_ended t out None is = ap (λ o. cond (is_some o) (Some (length past)) (ended_at past t)) is
    not_ended t out (Some f) is = absurd (within t out (live-started past t (end-live s past e.event e.reply legal t f is)))
      where
        within : (t : ℕ) → slice_get lives t ≡ None → t < start_count past → ⊥
        within t out less = elim (slice_get_cases lives t).1 [
          | inl w ↦ none-some w.0 (sym out ∙ w.2)
          | inr w ↦ let n = are.counted in let m = w.0 in absurd (omega arith)
        ]

    row : (t : ℕ) (old : Life) → IsLife past t old → IsLife (e ∷ past) t (life_after (length past) (ending_in e.event e.reply t) old)
    row t old is = go (ending_in e.event e.reply t) refl
      where
        go : (o : Option Fate) → ending_in e.event e.reply t ≡ o → IsLife (e ∷ past) t (life_after (length past) o old)
        go None q = record {
          call = same_call t old is.call;
          started = not_started t ∙ is.started;
          ended = ap (λ o. cond (is_some o) (Some (length past)) (ended_at past t)) q ∙ is.ended;
          failed = ap (λ o. has_failed (option_or o (fate_of past t))) q ∙ is.failed;
        }
        go (Some f) q = record {
          call = same_call t old is.call;
          started = not_started t ∙ is.started;
          ended = ap (λ o. cond (is_some o) (Some (length past)) (ended_at past t)) q;
          failed = ap (λ o. has_failed (option_or o (fate_of past t))) q;
        }

-- the item at an index of a list with one more at the end
pushed : (lives : List Life) (new : Life) (t : ℕ) (life : Life) → slice_get (lives ++ new ∷ []) t ≡ Some life
    → ((t < length lives) × (slice_get lives t ≡ Some life)) ⊎ ((t ≡ length lives) × (life ≡ new))
pushed [] new zero life at = inr (refl, sym (same_Some new life at))
pushed [] new (suc t) life at = absurd (none-some life at)
pushed (x ∷ lives) new zero life at = inl (omega arith, at)
pushed (x ∷ lives) new (suc t) life at = elim (pushed lives new t life at) [
  | inl w ↦ inl (let less = w.0 in omega arith, w.1)
  | inr w ↦ inr (let same = w.0 in omega arith, w.1)
]

-- an entry that starts one
pub lives_started : (s : Configuration) (past : List Entry) (e : Entry) (lives : List Life) → Legal s past → (p : ℕ) (args : List ℤ)
    → e.event ≡ Start p args → e.reply ≡ reply.Started (start_count past) → AreLives past lives → AreLives (e ∷ past)
    (lives ++ started_life (length past) ∷ [])
lives_started s past e lives legal p args event_is reply_is are = record {
  counted = length-append lives (new ∷ []) ∙ (ap (λ n. n + 1) are.counted ∙ sym more);
  each = λ t life at. elim (pushed lives new t life at) [
    | inl w ↦ earlier t life (are.each t life w.1) (let less = w.0 in let n = are.counted in omega arith)
    | inr w ↦ subst (IsLife (e ∷ past) t) (sym w.1) (subst (λ u. IsLife (e ∷ past) u new) (sym (w.0 ∙ are.counted)) own)
  ];
  none = λ t at.
      let out : length lives + 1 ≤ t = beyond t at in
      let old = are.none t (slice_get_past lives t (omega arith)) in
      record { started = not_started t (let n = are.counted in omega arith) ∙ old.started; ended = not_ended t ∙ old.ended };
}
  where
    new : Life
    new = started_life (length past)

    more : start_count (e ∷ past) ≡ start_count past + 1
    more = ap (λ b. cond b (start_count past + 1) (start_count past)) (ap is_start reply_is)

    beyond : (t : ℕ) → slice_get (lives ++ new ∷ []) t ≡ None → length lives + 1 ≤ t
    beyond t at = elim (slice_get_cases (lives ++ new ∷ []) t).1 [
      | inl w ↦ absurd (none-some w.0 (sym at ∙ w.2))
      | inr w ↦ let n = length-append lives (new ∷ []) in let m = w.0 in omega arith
    ]

    no_end : (t : ℕ) → ending_in e.event e.reply t ≡ None
    no_end t = ap (λ r. ending_in e.event r t) reply_is

    not_ended : (t : ℕ) → ended_at (e ∷ past) t ≡ ended_at past t
    not_ended t = ap (λ o. cond (is_some o) (Some (length past)) (ended_at past t)) (no_end t)

    same_fate : (t : ℕ) → fate_of (e ∷ past) t ≡ fate_of past t
    same_fate t = ap (λ o. option_or o (fate_of past t)) (no_end t)

    not_started : (t : ℕ) → start_count past ≢ t → started_at (e ∷ past) t ≡ started_at past t
    not_started t other = ap (λ r. cond (starts_as r t) (Some (length past)) (started_at past t)) reply_is
        ∙ ap (λ b. cond b (Some (length past)) (started_at past t)) (ne_eqb (start_count past) t other)

    call_is : (t : ℕ) → call_of (e ∷ past) t ≡ unwrap_or
        (cond (nat_eq (start_count past) t) (Some (record { procedure = p; args = args; caller_accesses = [] })) None) (call_of past t)
    call_is t = ap₂ (λ v r. unwrap_or (call_in v r t) (call_of past t)) event_is reply_is

    earlier : (t : ℕ) (life : Life) → IsLife past t life → t < start_count past → IsLife (e ∷ past) t life
    earlier t life is less = record {
      call = call_kept past e life.started (call_of past t) is.call
          ∙ ap Some (sym (call_is t ∙ ap (λ b. unwrap_or (cond b (Some (record { procedure = p; args = args; caller_accesses = [] })) None)
          (call_of past t)) (ne_eqb (start_count past) t (λ same. absurd (omega arith)))));
      started = not_started t (λ same. absurd (omega arith)) ∙ is.started;
      ended = not_ended t ∙ is.ended;
      failed = ap has_failed (same_fate t) ∙ is.failed;
    }

    own : IsLife (e ∷ past) (start_count past) new
    own = record {
      call = call_newest past e ∙ ap call_at event_is
          ∙ ap Some (sym (call_is (start_count past) ∙ ap (λ b. unwrap_or
          (cond b (Some (record { procedure = p; args = args; caller_accesses = [] })) None)
          (call_of past (start_count past))) (eq-eqb (start_count past) (start_count past) refl)));
      started = ap (λ r. cond (starts_as r (start_count past)) (Some (length past)) (started_at past (start_count past))) reply_is
          ∙ ap (λ b. cond b (Some (length past)) (started_at past (start_count past))) (eq-eqb (start_count past) (start_count past) refl);
      ended = not_ended (start_count past)
          ∙ (are.none (start_count past) (slice_get_past lives (start_count past) (let n = are.counted in omega arith))).ended;
      failed = ap has_failed (same_fate (start_count past) ∙ unstarted-no_fate s past legal (start_count past) (omega arith));
    }

-- an entry with the reply Started
pub lives_started_by : (s : Configuration) (past : List Entry) (e : Entry) (lives : List Life) (t : ℕ) → Legal s past
    → LegalReply s past e.event e.reply → e.reply ≡ reply.Started t → AreLives past lives → AreLives (e ∷ past)
    (lives ++ started_life (length past) ∷ [])
lives_started_by s past e lives t legal reply_legal is are = elim (starts_or_not (effect s past e.event e.reply reply_legal)) [
  | inl b ↦ lives_started s past e lives legal b.procedure b.args b.event_is b.reply_is are
  | inr not_one ↦ absurd (true≢false (sym (ap is_start is) ∙ not_one))
]

ended_twice : (number : ℕ) (a b : Bool) (old : Option Life)
    → option_map (λ life. cond b (ended_life number true life) life) (option_map (λ life. cond a (ended_life number true life) life) old)
    ≡ option_map (λ life. cond (a || b) (ended_life number true life) life) old
ended_twice number a b None = refl
ended_twice number true true (Some life) = refl
ended_twice number true false (Some life) = refl
ended_twice number false true (Some life) = refl
ended_twice number false false (Some life) = refl

-- the row of t after the first ones aborted in cascade are ended, and after the next one, x, is ended too
pub fallen_more : (number : ℕ) (fell : List ℕ) (i x t : ℕ) (old mid new : Option Life) → i < length fell → x ≡ get_or fell i x
    → mid ≡ option_map (λ life. cond (list_any (λ u. nat_eq u t) (take i fell)) (ended_life number true life) life) old
    → new ≡ option_map (λ life. cond (nat_eq x t) (ended_life number true life) life) mid
    → new ≡ option_map (λ life. cond (list_any (λ u. nat_eq u t) (take (i + 1) fell)) (ended_life number true life) life) old
fallen_more number fell i x t old mid new within is before after =
    let fallen = list_any (λ u. nat_eq u t) (take i fell) in
    let more : list_any (λ u. nat_eq u t) (take (i + 1) fell) ≡ (fallen || nat_eq x t) = list_any_more (λ u. nat_eq u t) fell i x within
    ∙ ap (λ y. fallen || nat_eq y t) (sym is) in
    after ∙ (ap (option_map (λ life. cond (nat_eq x t) (ended_life number true life) life)) before
    ∙ (ended_twice number fallen (nat_eq x t) old
    ∙ ap (λ b. option_map (λ life. cond b (ended_life number true life) life) old) (sym more)))
