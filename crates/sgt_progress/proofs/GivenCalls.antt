-- Calls that are given one after another.
use Rattle.std.specs.Prelude.{◌≡◌, ℕ, ◌+◌, ◌<◌, ◌≤◌, ℤ, Bool, true, false, ◌&&◌, cond, ◌⊎◌, nat_eq, nat_lt, List, [], ◌∷◌, ◌++◌, length, map, Option, Some, None}
use Rattle.std.specs.Option.{is_none, unwrap_or}
use Rattle.std.proofs.Common.{refl, sym, ap, ap₂, ◌∙◌, subst, subst₂, inl, inr, arith}
use Rattle.std.proofs.lemmas.Bool.{both_ways, cond-true, eq-eqb}
use Rattle.sgt_model.specs.declared.event.Event.{Event}
use Rattle.sgt_model.specs.declared.event.Event.TheVariants.{Start, Step, Access, Commit, Quit}
use Rattle.sgt_model.specs.declared.event.Request.{Request}
use Rattle.sgt_model.specs.declared.event.Request.TheVariants.{Read, Write}
use Rattle.sgt_model.specs.declared.reply.Reply.{Reply}
use Rattle.sgt_model.specs.declared.reply.Reply.TheVariants as reply
use Rattle.sgt_model.specs.declared.reply.Fate.{Fate}
use Rattle.sgt_model.specs.declared.entry.Entry.{Entry}
use Rattle.sgt_model.specs.declared.kind.Kind.TheVariants.{Look, Store}
use Rattle.sgt_model.specs.Paths.{Member}
use Rattle.sgt_model.specs.Admissions.{AreAdmitted}
use Rattle.sgt_model.specs.Contents.{Contents}
use Rattle.sgt_model.specs.Runs.{CallerAccess, reported, wrote, with_accesses, serial}
use Rattle.sgt_model.specs.Traces.{Next, Looks, Puts, Ends, Raises}
use Rattle.sgt_model.specs.Accesses.{access_of}
use Rattle.sgt_model.specs.Accesses as accesses
use Rattle.sgt_model.specs.Fates.{is_start, start_count, fate_of, live, live_ones, started_ones}
use Rattle.sgt_model.specs.Questions.{started_in}
use Rattle.sgt_model.specs.Configurations.{Configuration}
use Rattle.sgt_model.specs.Progress.{Call, call_in, call_of, caller_access_in, caller_accesses, with_caller_accesses, requested, is_fit, run_of, next_of}
use Rattle.sgt_model.specs.Replay.{run_in_turn, reported_call_in, reported_calls}
use Rattle.sgt_model.specs.StartReply.{start_reply}
use Rattle.sgt_model.specs.Legality.{OfStarted, OfFit, RequestReply, StepReply, LegalReply, Legal}
use Rattle.sgt_model.proofs.Admissions.{committed_admitted}
use Rattle.sgt_model.proofs.Effects.{EndsNone, ends_none-no_call, Effect, idle, begins, accesses, commits, undoes, refuses, effect}
use Rattle.sgt_model.proofs.Facts.{live-started}
use Rattle.sgt_model.proofs.Listed.{kept_member}
use Rattle.sgt_model.proofs.Capacity.{limits_are_kept}
use Rattle.sgt_model.proofs.SomeReply.{begun_has}
use Rattle.sgt_progress.specs.Alone.{NoneLive, IsAlone, IsStepOrCommitOf, IsNoQuitOf}
use Rattle.sgt_progress.specs.Reruns.{IsOneByOne}
use Rattle.sgt_progress.specs.GivenCalls.{GivenCall, request_of, given_of, turns_away, with_request, given_with, given_calls, GivenCallsAreReported}
use Rattle.sgt_progress.proofs.Alone.{closes_none, started_alone}
use Rattle.sgt_progress.proofs.InTurn.{IsDone, done_before, GoesThrough, AllGoThrough, raises_none, all_go_through}
use Rattle.sgt_progress.proofs.Moves.{of_live}
use Rattle.sgt_progress.proofs.RunAlone.{none_at_first, none_stays}
use Rattle.sgt_progress.proofs.Reruns.{Ran, Going, after_one, requested_on, end_stays, made_same, calls_decide, none_listed, none_made, starts, reported_few}

-- the limits allow a live transaction, if some call was reported
some_fits : (l : List ℕ) (t n : ℕ) → Member t l → length l ≤ n → 1 ≤ n
some_fits [] t n m few = absurd m
some_fits (u ∷ l) t n m few = omega arith

some_live : (s : Configuration) (past : List Entry) → Legal s past → 0 < length (reported_calls past) → 1 ≤ s.rules.limits.live
some_live s [] legal some = omega arith
some_live s (e ∷ past) legal some = by_effect (some_live s past legal.0) (effect s past e.event e.reply legal.1)
  where
    same : reported_call_in past e.event e.reply ≡ [] → (0 < length (reported_calls past) → 1 ≤ s.rules.limits.live)
        → 1 ≤ s.rules.limits.live
    same none h = h (subst (λ l. 0 < length (l ++ reported_calls past)) none some)

    lives : (t : ℕ) → live past t ≡ true → 1 ≤ s.rules.limits.live
    lives t alive = some_fits (live_ones past) t s.rules.limits.live
        (kept_member (live past) t (started_ones past) alive (begun_has past t (live-started past t alive)))
        (limits_are_kept s past legal.0).1

    by_effect : (0 < length (reported_calls past) → 1 ≤ s.rules.limits.live) → Effect s past e.event e.reply → 1 ≤ s.rules.limits.live
    by_effect h (idle i) = same (ends_none-no_call past e.event e.reply i.ends_none) h
    by_effect h (begins b) = same (ap (λ r. reported_call_in past e.event r) b.reply_is) h
    by_effect h (accesses x) = lives x.access.by x.is_live
    by_effect h (commits c) = lives c.t c.is_live
    by_effect h (undoes x) = lives x.undoing.t x.undoing.is_live
    by_effect h (refuses x) = lives x.undoing.t x.undoing.is_live

-- ---- what was given

-- the parts of a given call
given_parts : (g h : GivenCall) → g ≡ h → (g.procedure ≡ h.procedure) × (g.args ≡ h.args) × (g.requests ≡ h.requests)
given_parts g h e = (ap (λ (x : GivenCall). x.procedure) e, ap (λ (x : GivenCall). x.args) e, ap (λ (x : GivenCall). x.requests) e)

given_first : (g h : GivenCall) (gs hs : List GivenCall) → g ∷ gs ≡ h ∷ hs → (g ≡ h) × (gs ≡ hs)
given_first g h gs hs e = (cc, cc)

none_requested : (xs : List CallerAccess) → [] ≡ map request_of xs → xs ≡ []
none_requested [] e = refl
none_requested (x ∷ xs) e = absurd cc

request_first : (d : Request) (ds : List Request) (x : CallerAccess) (xs : List CallerAccess) → d ∷ ds ≡ map request_of (x ∷ xs)
    → (d ≡ request_of x) × (ds ≡ map request_of xs)
request_first d ds x xs e = (cc, cc)

-- the calls before the last access was requested: of the last call, that access is missing
record BeforeRequest (d : Request) (given : List GivenCall) (all : List Call) : Type 0 where
  call : Call
  access : CallerAccess
  earlier : List CallerAccess
  before : List Call
  all_are : all ≡ call ∷ before
  accesses_are : call.caller_accesses ≡ access ∷ earlier
  asks : d ≡ request_of access
  given_are : given ≡ map given_of (with_caller_accesses earlier call ∷ before)

before_request : (d : Request) (given : List GivenCall) (all : List Call) → with_request d given ≡ map given_of all
    → ((given ≡ []) × (all ≡ [])) ⊎ BeforeRequest d given all
before_request d [] [] e = inl (refl, refl)
before_request d [] (c ∷ before) e = absurd cc
before_request d (g ∷ given) [] e = absurd cc
before_request d (g ∷ given) (c ∷ before) e =
    let first = given_first (record { procedure = g.procedure; args = g.args; requests = d ∷ g.requests }) (given_of c) given
    (map given_of before) e in
    inr (by_accesses first.1 (given_parts _ _ first.0) c.caller_accesses refl)
  where
    by_accesses : given ≡ map given_of before
        → (g.procedure ≡ c.procedure) × (g.args ≡ c.args) × (d ∷ g.requests ≡ map request_of c.caller_accesses)
        → (xs : List CallerAccess) → c.caller_accesses ≡ xs → BeforeRequest d (g ∷ given) (c ∷ before)
    by_accesses others (p, args, requests) [] is = absurd (no_request (requests ∙ ap (map request_of) is))
      where
        no_request : d ∷ g.requests ≡ [] → ⊥
        no_request q = cc
    by_accesses others (p, args, requests) (x ∷ xs) is =
        let parts = request_first d g.requests x xs (requests ∙ ap (map request_of) is) in record {
          call = c;
          access = x;
          earlier = xs;
          before = before;
          all_are = refl;
          accesses_are = is;
          asks = parts.0;
          given_are = ap₂ (λ (h : GivenCall) (l : List GivenCall). h ∷ l)
              (ap₂ (λ (q : ℕ × List ℤ) (l : List Request). record { procedure = q.0; args = q.1; requests = l })
              (ap₂ (λ q l. (q, l)) p args) parts.1)
              others;
        }

-- ---- calls that can be reported

-- each call was reported, or the last one is still running
record Runs (s : Configuration) (past : List Entry) (all : List Call) : Type 0 where
  call : Call
  before : List Call
  t : ℕ
  all_are : all ≡ call ∷ before
  going : Going s past t call before (length all)

abbrev Stands : Configuration → List Entry → List Call → Type 0
Stands s past all = (Ran s past all (length all) × NoneLive past) ⊎ Runs s past all

-- these calls can be reported one after another
record CanBeReported (s : Configuration) (all : List Call) : Type 0 where
  admitted : AreAdmitted s all
  few : length all ≤ s.rules.limits.begins
  some_live : 0 < length all → 1 ≤ s.rules.limits.live
  through : AllGoThrough s all

less : (s : Configuration) (c : Call) (before : List Call) → CanBeReported s (c ∷ before) → CanBeReported s before
less s c before can = record {
  admitted = can.admitted.0;
  few = omega (arith, can.few);
  some_live = λ some. can.some_live (omega arith);
  through = can.through.0;
}

-- what goes through with an access is done with it, and before it
goes_before : (s : Configuration) (c : Call) (x : CallerAccess) (xs : List CallerAccess) (m : Contents) → c.caller_accesses ≡ x ∷ xs
    → GoesThrough s c m
    → IsDone (with_accesses (x ∷ xs) (serial (run_of s.rules c) m))
goes_before s c x xs m is (inl done) = subst (λ l. IsDone (with_accesses l (serial (run_of s.rules c) m))) is done
goes_before s c x xs m is (inr (at, none, rest)) = absurd (cc (sym is ∙ none))

one_less : (s : Configuration) (c : Call) (x : CallerAccess) (xs : List CallerAccess) (before : List Call) → c.caller_accesses ≡ x ∷ xs
    → CanBeReported s (c ∷ before) → CanBeReported s (with_caller_accesses xs c ∷ before)
one_less s c x xs before is can =
    let m : Contents = (run_in_turn s before).last in record {
      admitted = (can.admitted.0, record { known = can.admitted.1.known; values = can.admitted.1.values });
      few = can.few;
      some_live = can.some_live;
      through = (
        can.through.0,
        inl (done_before x (with_accesses xs (serial (run_of s.rules c) m)) (goes_before s c x xs m is can.through.1)),
      );
    }

-- where nothing is live, an access is turned away
turned_away : (past : List Entry) → NoneLive past → (t : ℕ) (d : Request) (s : Configuration) (r : Reply) → LegalReply s past (Access t d) r
    → turns_away r ≡ true
turned_away past none t d s r h = by_fate (nat_lt t (start_count past)) (fate_of past t) (none t) h
  where
    by_fate : (b : Bool) (f : Option Fate) → (b && is_none f) ≡ false
        → OfStarted b f r (RequestReply s past t d (next_of s past t) r) → turns_away r ≡ true
    by_fate true None over h = absurd (both_ways _ over refl)
    by_fate true (Some f) over h = ap turns_away h
    by_fate false f over h = ap turns_away h

-- ---- one more entry

module _ (s : Configuration) (past : List Entry) (e : Entry) (legal : Legal s (e ∷ past)) (by : IsOneByOne (e ∷ past))
    (so_far : (all : List Call) → given_calls past ≡ map given_of all → CanBeReported s all → Stands s past all) where
  -- a start
  started : (p : ℕ) (args : List ℤ) → e.event ≡ Start p args → NoneLive past → (c : Call) (before : List Call)
      → p ≡ c.procedure → args ≡ c.args → c.caller_accesses ≡ [] → CanBeReported s (c ∷ before) → Stands s past before
      → Stands s (e ∷ past) (c ∷ before)
  started p args event none c before same_procedure same_args no_accesses can (inr x) = absurd
      (both_ways _ (none x.t) x.going.alone.is_live)
  started p args event none c before same_procedure same_args no_accesses can (inl (ran, still_none)) = inr (record {
    call = c;
    before = before;
    t = n;
    all_are = refl;
    going = record {
      ran = record {
        legal = legal;
        one_by_one = by;
        same_calls = ap (λ r. reported_call_in past e.event r ++ reported_calls past) reply_is ∙ ran.same_calls;
        count_is = ap (λ r. cond (is_start r) (n + 1) n) reply_is ∙ ap (λ m. m + 1) ran.count_is ∙ omega arith;
      };
      alone = started_alone s past e legal none n (ap₂ started_in event reply_is);
      called = ap₂ with_caller_accesses no_access own_call ∙ ap (λ xs. with_caller_accesses xs c) (sym no_accesses);
    };
  })
    where
      n : ℕ
      n = start_count past

      no_live : length (live_ones past) ≡ 0
      no_live = ap length (none_listed past none)

      one : 1 ≤ s.rules.limits.live
      one = can.some_live (omega arith)

      reply_is : e.reply ≡ reply.Started n
      reply_is = let few = can.few in let count = ran.count_is in
          subst (λ v. LegalReply s past v e.reply) event legal.1
          ∙ ap₂ (start_reply s.rules n (length (live_ones past))) same_procedure same_args
          ∙ starts s c n (length (live_ones past)) can.admitted.1 (omega (arith, few, count)) (omega (arith, no_live, one))

      no_access : caller_accesses (e ∷ past) n ≡ []
      no_access = ap (λ v. caller_access_in v e.reply n ++ caller_accesses past n) event ∙ none_made s past legal.0 n (omega arith)

      own_call : call_of (e ∷ past) n ≡ with_caller_accesses [] c
      own_call = ap₂ (λ v r. unwrap_or (call_in v r n) (call_of past n)) event reply_is
          ∙ ap (λ b. unwrap_or (cond b (Some (record { procedure = p; args = args; caller_accesses = [] })) None)
          (call_of past n)) (eq-eqb n n refl)
          ∙ ap₂ (λ q l. record { procedure = q; args = l; caller_accesses = [] }) same_procedure same_args

  -- no start, where nothing is live
  idles : ((p : ℕ) (args : List ℤ) → e.event ≡ Start p args → ⊥) → NoneLive past → (all : List Call) → Stands s past all
      → Stands s (e ∷ past) all
  idles no_start none all (inr x) = absurd (both_ways _ (none x.t) x.going.alone.is_live)
  idles no_start none all (inl (ran, still_none)) = by_effect (effect s past e.event e.reply legal.1)
    where
      no_live : (t : ℕ) → live past t ≡ true → Stands s (e ∷ past) all
      no_live t alive = absurd (both_ways _ (none t) alive)

      by_effect : Effect s past e.event e.reply → Stands s (e ∷ past) all
      by_effect (idle i) = inl (
        record {
          legal = legal;
          one_by_one = by;
          same_calls = ap (λ l. l ++ reported_calls past) (ends_none-no_call past e.event e.reply i.ends_none) ∙ ran.same_calls;
          count_is = ap (λ b. cond b (start_count past + 1) (start_count past)) i.no_start ∙ ran.count_is;
        },
        none_stays past e i.no_start none,
      )
      by_effect (begins b) = absurd (no_start b.procedure b.args b.event_is)
      by_effect (accesses x) = no_live x.access.by x.is_live
      by_effect (commits c) = no_live c.t c.is_live
      by_effect (undoes x) = no_live x.undoing.t x.undoing.is_live
      by_effect (refuses x) = no_live x.undoing.t x.undoing.is_live

  -- a step or a commit of the only live one
  goes_on : (t : ℕ) → IsAlone past t → IsStepOrCommitOf e.event t → (all : List Call) → CanBeReported s all → Stands s past all
      → Stands s (e ∷ past) all
  goes_on t alone asks all can (inl (ran, none)) = absurd (both_ways _ (none t) alone.is_live)
  goes_on t alone asks all can (inr x) =
      let same : t ≡ x.t = x.going.alone.only t alone.is_live in
      let reported = subst (CanBeReported s) x.all_are can in
      elim (after_one s past x.t x.call x.before (length all) x.going
      (raises_none s x.call (run_in_turn s x.before).last reported.through.1) e.event
      (subst (IsStepOrCommitOf e.event) same asks) e.reply legal.1) [
        | inl going ↦ inr (record { call = x.call; before = x.before; t = x.t; all_are = x.all_are; going = going })
        | inr (ran, none) ↦ inl (subst (λ l. Ran s (e ∷ past) l (length all)) (sym x.all_are) ran, none)
      ]

  -- an access of its caller, that is turned away
  passed_over : (t : ℕ) (d : Request) → IsAlone past t → e.event ≡ Access t d → is_start e.reply ≡ false → EndsNone e.reply
      → caller_access_in (Access t d) e.reply t ≡ [] → (all : List Call) → Stands s past all → Stands s (e ∷ past) all
  passed_over t d alone event no_start ends_none none_made all (inl (ran, none)) = absurd (both_ways _ (none t) alone.is_live)
  passed_over t d alone event no_start ends_none none_made all (inr x) =
      let same : t ≡ x.t = x.going.alone.only t alone.is_live in
      let h : LegalReply s past (Access x.t d) e.reply = subst₂ (λ v u. LegalReply s past v e.reply)
      (event ∙ ap (λ u. Access u d) same) same legal.1 in
      let going = requested_on s past x.t x.call x.before (length all) x.going d e.reply h no_start ends_none []
      (subst (λ u. caller_access_in (Access u d) e.reply u ≡ []) same none_made) in
      inr (record {
        call = x.call;
        before = x.before;
        t = x.t;
        all_are = x.all_are;
        going = subst (λ v. Going s (record { event = v; reply = e.reply } ∷ past) x.t x.call x.before (length all))
            (sym (event ∙ ap (λ u. Access u d) same)) going;
      })

  -- an access of its caller, that is made
  made_one : (t : ℕ) (d : Request) (a : accesses.Access) (y : CallerAccess) (answers : List ℤ) → IsAlone past t → e.event ≡ Access t d
      → next_of s past t ≡ Ends answers → is_start e.reply ≡ false → EndsNone e.reply
      → access_of (record { event = Access t d; reply = e.reply }) ≡ Some a
      → a.by ≡ t → caller_access_in (Access t d) e.reply t ≡ y ∷ [] → request_of y ≡ d
      → (c : Call) (x : CallerAccess) (xs : List CallerAccess) (before : List Call)
      → c.caller_accesses ≡ x ∷ xs → d ≡ request_of x → CanBeReported s (c ∷ before)
      → Stands s past (with_caller_accesses xs c ∷ before) → Stands s (e ∷ past) (c ∷ before)
  made_one t d a y answers alone event end no_start ends_none is own made asks c x xs before accesses_are asked can (inl (ran, none)) =
      absurd (both_ways _ (none t) alone.is_live)
  made_one t d a y answers alone event end no_start ends_none is own made asks c x xs before accesses_are asked can (inr w) =
      let m : Contents = (run_in_turn s before).last in
      let all_are = first_call (with_caller_accesses xs c) w.call before w.before w.all_are in
      let same : t ≡ w.t = w.going.alone.only t alone.is_live in
      let going : Going s past t (with_caller_accesses xs c) before (length (c ∷ before)) =
      subst₂ (λ q l. Going s past t q l (length (c ∷ before))) (sym all_are.0) (sym all_are.1)
      (subst (λ u. Going s past u w.call w.before (length (c ∷ before))) (sym same) w.going) in
      let h : LegalReply s past (Access t d) e.reply = subst (λ v. LegalReply s past v e.reply) event legal.1 in
      let now : Entry = record { event = Access t d; reply = e.reply } in
      let again : Going s (now ∷ past) t (with_caller_accesses (y ∷ xs) c) before (length (c ∷ before)) =
      requested_on s past t (with_caller_accesses xs c) before (length (c ∷ before)) going d e.reply h no_start ends_none (y ∷ []) made in
      let still = end_stays s past t (with_caller_accesses xs c) before (length (c ∷ before)) going d e.reply h answers end a is own in
      let reported : y ≡ x = made_same s (now ∷ past) t (with_caller_accesses xs c) before (length (c ∷ before)) answers y x again still
      (asks ∙ asked) (goes_before s c x xs m accesses_are can.through.1) in
      inr (record {
        call = c;
        before = before;
        t = t;
        all_are = refl;
        going = subst (λ v. Going s (record { event = v; reply = e.reply } ∷ past) t c before (length (c ∷ before))) (sym event)
            (subst (λ q. Going s (now ∷ past) t q before (length (c ∷ before)))
            (ap (λ z. with_caller_accesses (z ∷ xs) c) reported ∙ ap (λ l. with_caller_accesses l c) (sym accesses_are)) again);
      })
    where
      first_call : (q z : Call) (l k : List Call) → q ∷ l ≡ z ∷ k → (q ≡ z) × (l ≡ k)
      first_call q z l k q_is = (cc, cc)

  others : (all : List Call) → given_with e.event e.reply (given_calls past) ≡ map given_of all → (v : Event) → e.event ≡ v
      → given_with v e.reply (given_calls past) ≡ map given_of all
  others all is v event = sym (ap (λ x. given_with x e.reply (given_calls past)) event) ∙ is

  -- an access of its caller
  requests : (t : ℕ) (d : Request) → IsAlone past t → e.event ≡ Access t d → (all : List Call)
      → cond (turns_away e.reply) (given_calls past) (with_request d (given_calls past)) ≡ map given_of all → CanBeReported s all
      → Stands s (e ∷ past) all
  requests t d alone event all is can =
      by_next (next_of s past t) refl (of_live past t e.reply _ alone.is_live (subst (λ v. LegalReply s past v e.reply) event legal.1))
    where
      away : (r : Reply) → e.reply ≡ r → turns_away r ≡ true → is_start r ≡ false → EndsNone r → caller_access_in (Access t d) r t ≡ []
          → Stands s (e ∷ past) all
      away r reply_is turned no_start ends_none none =
          passed_over t d alone event (ap is_start reply_is ∙ no_start) (subst EndsNone (sym reply_is) ends_none)
          (ap (λ q. caller_access_in (Access t d) q t) reply_is ∙ none) all
          (so_far all (sym (ap (λ b. cond b (given_calls past) (with_request d (given_calls past)))
          (ap turns_away reply_is ∙ turned)) ∙ is) can)

      made : (r : Reply) (a : accesses.Access) (y : CallerAccess) (answers : List ℤ) → e.reply ≡ r → turns_away r ≡ false
          → next_of s past t ≡ Ends answers
          → is_start r ≡ false → EndsNone r → access_of (record { event = Access t d; reply = r }) ≡ Some a → a.by ≡ t
          → caller_access_in (Access t d) r t ≡ y ∷ [] → request_of y ≡ d → Stands s (e ∷ past) all
      made r a y answers reply_is not_turned end no_start ends_none access own made_is asks =
          elim (before_request d (given_calls past) all
          (sym (ap (λ b. cond b (given_calls past) (with_request d (given_calls past))) (ap turns_away reply_is ∙ not_turned)) ∙ is)) [
            | inl (none, no_calls) ↦ absurd (nothing_runs no_calls (so_far all (none ∙ ap (map given_of) (sym no_calls)) can))
            | inr b ↦
                let reported = subst (CanBeReported s) b.all_are can in
                subst (Stands s (e ∷ past)) (sym b.all_are) (made_one t d a y answers alone event end (ap is_start reply_is ∙ no_start)
                (subst EndsNone (sym reply_is) ends_none)
                (ap (λ q. access_of (record { event = Access t d; reply = q })) reply_is ∙ access) own
                (ap (λ q. caller_access_in (Access t d) q t) reply_is
                ∙ made_is) asks b.call b.access b.earlier b.before b.accesses_are b.asks reported
                (so_far (with_caller_accesses b.earlier b.call ∷ b.before) b.given_are
                (one_less s b.call b.access b.earlier b.before b.accesses_are reported)))
          ]
        where
          nothing_runs : all ≡ [] → Stands s past all → ⊥
          nothing_runs no_calls (inl (ran, none)) = both_ways _ (none t) alone.is_live
          nothing_runs no_calls (inr x) = no_cons x.call x.before (sym no_calls ∙ x.all_are)
            where
              no_cons : (c : Call) (before : List Call) → [] ≡ c ∷ before → ⊥
              no_cons c before q = cc

      by_step : (d' : Request) → d ≡ d' → (answers : List ℤ) → next_of s past t ≡ Ends answers → StepReply s past t (requested d') e.reply
          → Stands s (e ∷ past) all
      by_step (Read k) asks answers end (inl c) = absurd (closes_none s past legal.0 t alone k Look c.rest c.closes)
      by_step (Read k) asks answers end (inr m) = made _ _ (reported k _) answers m.is refl end refl tt refl refl
          (cond-true (nat_eq t t) _ [] (eq-eqb t t refl)) (sym asks)
      by_step (Write k v) asks answers end (inl c) = absurd (closes_none s past legal.0 t alone k Store c.rest c.closes)
      by_step (Write k v) asks answers end (inr m) = made _ _ (wrote k v) answers m.is refl end refl tt refl refl
          (cond-true (nat_eq t t) _ [] (eq-eqb t t refl)) (sym asks)

      by_fit : (b : Bool) (answers : List ℤ) → next_of s past t ≡ Ends answers → OfFit b e.reply (StepReply s past t (requested d) e.reply)
          → Stands s (e ∷ past) all
      by_fit true answers end h = by_step d refl answers end h
      by_fit false answers end h = away reply.BadArgs h refl refl tt refl

      by_next : (n : Next) → next_of s past t ≡ n → RequestReply s past t d n e.reply → Stands s (e ∷ past) all
      by_next (Looks k) end h = away reply.NotEnded h refl refl tt refl
      by_next (Puts k v) end h = away reply.NotEnded h refl refl tt refl
      by_next (Raises code) end h = away reply.NotEnded h refl refl tt refl
      by_next (Ends answers) end h = by_fit (is_fit d) answers end h

  by_event : (v : Event) → e.event ≡ v → NoneLive past → (all : List Call) → given_with v e.reply (given_calls past) ≡ map given_of all
      → CanBeReported s all → Stands s (e ∷ past) all
  by_event (Start p args) event none [] is can = absurd cc
  by_event (Start p args) event none (c ∷ before) is can =
      let first = given_first (record { procedure = p; args = args; requests = [] }) (given_of c) (given_calls past)
      (map given_of before) is in
      let parts = given_parts _ _ first.0 in
      started p args event none c before parts.0 parts.1 (none_requested c.caller_accesses parts.2) can
      (so_far before first.1 (less s c before can))
  by_event (Step t) event none all is can = idles (λ p args q. cc) none all (so_far all is can)
  by_event (Access t d) event none all is can =
      let turned = turned_away past none t d s e.reply (subst (λ v. LegalReply s past v e.reply) event legal.1) in
      idles (λ p args q. cc) none all (so_far all (sym
      (ap (λ b. cond b (given_calls past) (with_request d (given_calls past))) turned) ∙ is) can)
  by_event (Commit t) event none all is can = idles (λ p args q. cc) none all (so_far all is can)
  by_event (Quit t) event none all is can = idles (λ p args q. cc) none all (so_far all is can)

  one_more : (all : List Call) → given_calls (e ∷ past) ≡ map given_of all → CanBeReported s all
      → NoneLive past ⊎ ((t : ℕ) × IsAlone past t × IsNoQuitOf e.event t)
      → Stands s (e ∷ past) all
  one_more all is can (inl none) = by_event e.event refl none all is can
  one_more all is can (inr (t, alone, inl (inl asks))) = goes_on t alone (inl asks) all can (so_far all (others all is (Step t) asks) can)
  one_more all is can (inr (t, alone, inl (inr asks))) = goes_on t alone (inr asks) all can (so_far all (others all is (Commit t) asks) can)
  one_more all is can (inr (t, alone, inr (d, asks))) = requests t d alone asks all (others all is (Access t d) asks) can

stands : (s : Configuration) (past : List Entry) → Legal s past → IsOneByOne past → (all : List Call)
    → given_calls past ≡ map given_of all → CanBeReported s all
    → Stands s past all
stands s [] legal by [] is can = inl (
  record { legal = tt; one_by_one = tt; same_calls = refl; count_is = refl },
  none_at_first,
)
stands s [] legal by (c ∷ all) is can = absurd cc
stands s (e ∷ past) legal by all is can = one_more s past e legal by (stands s past legal.0 by.0) all is can by.1

pub given_calls_are_reported : GivenCallsAreReported
given_calls_are_reported s past legal again same_rules by none is = elim (stands s again same_rules by (reported_calls past) is can) [
  | inl (ran, all_reported) ↦ (ran.same_calls, calls_decide s again past same_rules legal ran.same_calls)
  | inr x ↦ absurd (both_ways _ (none x.t) x.going.alone.is_live)
]
  where
    can : CanBeReported s (reported_calls past)
    can = record {
      admitted = committed_admitted s past legal;
      few = reported_few s past legal;
      some_live = some_live s past legal;
      through = all_go_through s past legal;
    }
