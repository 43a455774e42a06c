-- Calls that are run again, one after another, on a new engine.
use Rattle.std.specs.Prelude.{◌≡◌, ℕ, suc, ◌≤◌, ℤ, Bool, true, false, List, [], ◌∷◌, ◌++◌, length, map, take, reverse, Option, Some, None}
use Rattle.std.specs.List.{All}
use Rattle.std.proofs.Common.{refl, sym, ap, ap₂, ◌∙◌, subst, inl, inr, arith, length-append}
use Rattle.std.proofs.lemmas.Grind.{reverse_onto}
use Rattle.std.proofs.lemmas.List.{append_assoc, append-nil, length-reverse, length-map, map-append, reverse-append, reverse-reverse, take_all}
use Rattle.std.proofs.lemmas.List.Elements.{All-append, All-head, All-tail}
use Rattle.std.proofs.lemmas.Simd.{map-map}
use Rattle.sgt_model.specs.declared.entry.Entry.{Entry}
use Rattle.sgt_model.specs.declared.event.Event.{Event}
use Rattle.sgt_model.specs.declared.event.Event.TheVariants.{Start, Step, Commit}
use Rattle.sgt_model.specs.declared.reply.Reply.{Reply}
use Rattle.sgt_model.specs.declared.reply.Reply.TheVariants as reply
use Rattle.sgt_model.specs.Fates.{ending_in, is_start}
use Rattle.sgt_model.specs.Legality.{Legal, LegalReply}
use Rattle.sgt_model.specs.Progress.{caller_accesses, with_caller_accesses}
use Rattle.sgt_model.specs.Questions.{is_ending}
use Rattle.sgt_model.specs.Replay.{RunResult, GaveAnswers, RaisedCode, reported, reported_calls, reported_in}
use Rattle.sgt_model.specs.Runs.{CallerAccess}
use Rattle.sgt_model.specs.Configurations.{Configuration}
use Rattle.sgt_model.specs.ShortReplies.{short_reply}
use Rattle.sgt_model.proofs.Facts.{legal_older}
use Rattle.sgt_engine.specs.EngineView.{EngineView, configuration_of, with_entry}
use Rattle.sgt_progress.specs.Alone.{IsAlone, NoneLive}
use Rattle.sgt_progress.specs.GivenCalls.{GivenCall, GivenCallsAreReported, given_calls, given_of}
use Rattle.sgt_progress.specs.Reruns.{IsOneByOne, ReportTheSame}
use Rattle.sgt_progress.proofs.Alone.{started_alone, stays_alone}
use Rattle.sgt_progress.proofs.RunAlone.{StepsSo, commit_ends, none_after_end, none_at_first, none_stays, step_so}
use Rattle.sgt_c.specs.declared.call_struct.SgtCall.{SgtCall}
use Rattle.sgt_c.specs.declared.held.Held.{Held}
use Rattle.sgt_c.specs.declared.reply_struct.SgtOutcome.{SgtOutcome}
use Rattle.sgt_c.specs.declared.reply_struct.SgtReply.{SgtReply}
use Rattle.sgt_c.specs.AccessStructs.{accesses_of}
use Rattle.sgt_c.specs.ManyRuns.{IsRunnable, RanAll, args_in}
use Rattle.sgt_c.specs.ReplayedCalls.{ArePassed, AreReported, CountsAccesses, bare_call, call_in, past_at, result_in}
use Rattle.sgt_c.specs.ReplyStructs.{HoldsReply}
use Rattle.sgt_c.specs.Reruns.{CanBeRerun, GivenReportTheSame, HoldResults, HoldsResult, RerunReportsTheSame, RunsReportTheSame, given_by}
use Rattle.sgt_c.specs.Runs.{CommitsIf, IsAccess, Runs, RunsOn, is_access, is_end, with_entries}
use Rattle.sgt_c.proofs.CallerAccesses.{legal_to}

-- ---- one transaction, entry by entry

-- nothing is live, and these calls were given one after another
record Between (past : List Entry) (given : List GivenCall) : Type 0 where
  by : IsOneByOne past
  none : NoneLive past
  calls : given_calls past ≡ given

-- the same, but t is the only live transaction
record Amid (past : List Entry) (t : ℕ) (given : List GivenCall) : Type 0 where
  by : IsOneByOne past
  alone : IsAlone past t
  calls : given_calls past ≡ given

-- a reply that starts none, ends none and reports no end
record IsPlain (event : Event) (t : ℕ) (r : Reply) : Type 0 where
  no_start : is_start r ≡ false
  no_end : ending_in event r t ≡ None
  no_result : reported_in r ≡ []

access_plain : (event : Event) (t : ℕ) (r : Reply) → is_access (short_reply r) ≡ true → IsPlain event t r
access_plain event t (reply.Looked k v) a = record { no_start = refl; no_end = refl; no_result = refl }
access_plain event t (reply.Wrote k v) a = record { no_start = refl; no_end = refl; no_result = refl }
access_plain event t _ a = absurd cc

end_plain : (event : Event) (t : ℕ) (r : Reply) → is_end (short_reply r) ≡ true → IsPlain event t r
end_plain event t reply.Ended a = record { no_start = refl; no_end = refl; no_result = refl }
end_plain event t _ a = absurd cc

end_is : (r : Reply) → is_end (short_reply r) ≡ true → r ≡ reply.Ended
end_is reply.Ended a = refl
end_is _ a = absurd cc

step_goes : (past : List Entry) (t : ℕ) (given : List GivenCall) (r : Reply) → IsPlain (Step t) t r → Amid past t given
    → Amid (record { event = Step t; reply = r } ∷ past) t given
step_goes past t given r plain amid = record {
  by = (amid.by, inr (t, amid.alone, inl (inl refl)));
  alone = stays_alone past (record { event = Step t; reply = r }) t amid.alone plain.no_start plain.no_end;
  calls = amid.calls;
}

-- the accesses of the only live one
record Went (past after : List Entry) (t : ℕ) (given : List GivenCall) : Type 0 where
  amid : Amid after t given
  reported_same : reported after ≡ reported past

accesses_go : (past : List Entry) (t : ℕ) (given : List GivenCall) (steps : List Entry) → All (IsAccess t) steps → Amid past t given → Went past (steps ++ past) t given
accesses_go past t given [] all amid = record { amid = amid; reported_same = refl }
accesses_go past t given (e ∷ steps) all amid =
    let one = All-head (IsAccess t) e steps all in
    let before = accesses_go past t given steps (All-tail (IsAccess t) e steps all) amid in
    let plain = access_plain (Step t) t e.reply one.1 in record {
      amid = subst (λ (v : Event). Amid (record { event = v; reply = e.reply } ∷ steps ++ past) t given) (sym one.0)
          (step_goes (steps ++ past) t given e.reply plain before.amid);
      reported_same = ap (λ l. l ++ reported (steps ++ past)) plain.no_result ∙ before.reported_same;
    }

-- the last step, if it is neither an access nor the procedure's end
ends_else : (r : Reply) → is_access (short_reply r) ≡ false → is_end (short_reply r) ≡ false → StepsSo r → is_ending r ≡ true
ends_else (reply.Looked k v) a b so = absurd cc
ends_else (reply.Wrote k v) a b so = absurd cc
ends_else reply.Ended a b so = absurd cc
ends_else _ a b so = so

-- ---- one call

-- a call was run from its start to its end, after which nothing is live; this reply was reported for it
record RanTo (s : Configuration) (past after : List Entry) (given : List GivenCall) (c : GivenCall) (last : Reply) : Type 0 where
  between : Between after (c ∷ given)
  reported_more : reported after ≡ reported_in last ++ reported past

module _ (s : Configuration) (past : List Entry) (given : List GivenCall) (so_far : Between past given) (p : ℕ) (args : List ℤ) where
  abbrev own : GivenCall
  own = record { procedure = p; args = args; requests = [] }

  refused : (last : Reply) → is_start last ≡ false → RanTo s past (record { event = Start p args; reply = last } ∷ past) given own last
  refused last no_start = record {
    between = record {
      by = (so_far.by, inl so_far.none);
      none = none_stays past (record { event = Start p args; reply = last }) no_start so_far.none;
      calls = ap (λ l. own ∷ l) so_far.calls;
    };
    reported_more = refl;
  }

  module _ (t : ℕ) (steps : List Entry) (all : All (IsAccess t) steps) (r : Reply) (last_step : is_access (short_reply r) ≡ false) where
    abbrev begun : List Entry
    begun = record { event = Start p args; reply = reply.Started t } ∷ past

    abbrev walked : List Entry
    walked = steps ++ begun

    abbrev stepped : List Entry
    stepped = record { event = Step t; reply = r } ∷ walked

    went : Legal s begun → Went begun walked t (own ∷ given)
    went legal = accesses_go begun t (own ∷ given) steps all (record {
      by = (so_far.by, inl so_far.none);
      alone = started_alone s past (record { event = Start p args; reply = reply.Started t }) legal so_far.none t refl;
      calls = ap (λ l. own ∷ l) so_far.calls;
    })

    aborted : Legal s stepped → is_end (short_reply r) ≡ false → RanTo s past stepped given own r
    aborted legal no_end =
        let w = went (legal_older s steps begun legal.0) in record {
          between = record {
            by = (w.amid.by, inr (t, w.amid.alone, inl (inl refl)));
            none = none_after_end s walked (record { event = Step t; reply = r }) t legal w.amid.alone
                (ends_else r last_step no_end (step_so s walked legal.0 t w.amid.alone r legal.1));
            calls = w.amid.calls;
          };
          reported_more = ap (λ l. reported_in r ++ l) w.reported_same;
        }

    ended : (last : Reply) → Legal s (record { event = Commit t; reply = last } ∷ stepped) → is_end (short_reply r) ≡ true
        → RanTo s past (record { event = Commit t; reply = last } ∷ stepped) given own last
    ended last legal at_end =
        let w = went (legal_older s steps begun legal.0.0) in
        let plain = end_plain (Step t) t r at_end in
        let amid = step_goes walked t (own ∷ given) r plain w.amid in
        let ending = commit_ends s walked t last w.amid.alone.is_live
        (subst (LegalReply s walked (Step t)) (end_is r at_end) legal.0.1)
        (subst (λ (q : Reply). IsAlone (record { event = Step t; reply = q } ∷ walked) t) (end_is r at_end) amid.alone)
        (subst (λ (q : Reply). LegalReply s (record { event = Step t; reply = q } ∷ walked) (Commit t) last) (end_is r at_end) legal.1) in
        record {
          between = record {
            by = (amid.by, inr (t, amid.alone, inl (inr refl)));
            none = none_after_end s stepped (record { event = Commit t; reply = last }) t legal amid.alone ending;
            calls = amid.calls;
          };
          reported_more = ap (λ l. reported_in last ++ l) (ap (λ l. l ++ reported walked) plain.no_result ∙ w.reported_same);
        }

-- ---- as the engine's view has it

-- what holds of the engine before a call, if it holds of the engine after it
record Follows (s : Configuration) (e after : EngineView) (given : List GivenCall) (c : GivenCall) (last : Reply) : Type 0 where
  legal : Legal s e.past
  same : configuration_of after ≡ configuration_of e
  ran : Between e.past given → RanTo s e.past after.past given c last

module _ (s : Configuration) (e : EngineView) (given : List GivenCall) (p : ℕ) (args : List ℤ) where
  abbrev requested : GivenCall
  requested = record { procedure = p; args = args; requests = [] }

  runs_on : (t : ℕ) (wrote : Bool) (last : Reply) (after : EngineView) → RunsOn t wrote last (with_entry (Start p args) (reply.Started t) e) after
      → Legal s after.past → Follows s e after given requested last
  runs_on t wrote last after (r, stepped, (steps, all, last_step, _, stepped_is), commits) legal = go (is_end (short_reply r)) refl commits
    where
      steps_end : EngineView
      steps_end = with_entry (Step t) r (with_entries steps (with_entry (Start p args) (reply.Started t) e))

      go : (b : Bool) → is_end (short_reply r) ≡ b → CommitsIf b t r last stepped after → Follows s e after given requested last
      go true at_end is =
          let after_is : after ≡ with_entry (Commit t) last steps_end = is ∙ ap (with_entry (Commit t) last) stepped_is in
          let all_legal = subst (λ (v : EngineView). Legal s v.past) after_is legal in
          subst (λ (v : EngineView). Follows s e v given requested last) (sym after_is) (record {
            legal = (legal_older s steps _ all_legal.0.0).0;
            same = refl;
            ran = λ so_far. ended s e.past given so_far p args t steps all r last_step last all_legal at_end;
          })
      go false no_end (last_is, is) =
          let after_is : after ≡ steps_end = is ∙ stepped_is in
          let all_legal = subst (λ (v : EngineView). Legal s v.past) after_is legal in
          subst (λ (v : EngineView). Follows s e v given requested last) (sym after_is) (subst (λ q. Follows s e steps_end given requested q) (sym last_is) (record {
            legal = (legal_older s steps _ all_legal.0).0;
            same = refl;
            ran = λ so_far. aborted s e.past given so_far p args t steps all r last_step all_legal no_end;
          }))

  runs : (started : Option ℕ) (wrote : Bool) (last : Reply) (after : EngineView) → Runs (Start p args) started wrote last e after → Legal s after.past
      → Follows s e after given requested last
  runs None wrote last after (no_start, _, is) legal =
      let all_legal = subst (λ (v : EngineView). Legal s v.past) is legal in
      subst (λ (v : EngineView). Follows s e v given requested last) (sym is) (record {
        legal = all_legal.0;
        same = refl;
        ran = λ so_far. refused s e.past given so_far p args last no_start;
      })
  runs (Some t) wrote last after ran legal = runs_on t wrote last after ran legal

-- ---- all calls

-- what a run requests for a call: its procedure with its arguments, and no accesses
abbrev started_by : SgtCall → GivenCall
started_by c = given_of (bare_call c)

-- the results that these replies report, the last one first
abbrev results_of : List Reply → List RunResult
results_of [] = []
results_of (r ∷ replies) = results_of replies ++ reported_in r

-- these are the last replies of the calls
abbrev Said : List SgtCall → List SgtOutcome → List Reply → Type 0
Said [] outcomes [] = Unit {0}
Said [] outcomes (r ∷ replies) = ⊥
Said (c ∷ calls) [] replies = ⊥
Said (c ∷ calls) (o ∷ outcomes) [] = ⊥
Said (c ∷ calls) (o ∷ outcomes) (r ∷ replies) = HoldsReply o.reply r × Said calls outcomes replies

legal_before : (s : Configuration) (calls : List SgtCall) (outcomes : List SgtOutcome) (e after : EngineView) → RanAll calls outcomes e after
    → Legal s after.past → Legal s e.past
legal_before s [] outcomes e after is legal = subst (λ (v : EngineView). Legal s v.past) is legal
legal_before s (c ∷ calls) [] e after ran legal = absurd ran
legal_before s (c ∷ calls) (o ∷ outcomes) e after (between, (started, wrote, last, one, _, _, _), rest) legal =
    (runs s e [] c.procedure (args_in c) started wrote last between one (legal_before s calls outcomes between after rest legal)).legal

same_before : (s : Configuration) (calls : List SgtCall) (outcomes : List SgtOutcome) (e after : EngineView) → RanAll calls outcomes e after
    → Legal s after.past → configuration_of after ≡ configuration_of e
same_before s [] outcomes e after is legal = ap configuration_of is
same_before s (c ∷ calls) [] e after ran legal = absurd ran
same_before s (c ∷ calls) (o ∷ outcomes) e after (between, (started, wrote, last, one, _, _, _), rest) legal =
    same_before s calls outcomes between after rest legal
    ∙ (runs s e [] c.procedure (args_in c) started wrote last between one (legal_before s calls outcomes between after rest legal)).same

record RanAllTo (past after : List Entry) (given : List GivenCall) (calls : List SgtCall) (outcomes : List SgtOutcome) : Type 0 where
  replies : List Reply
  said : Said calls outcomes replies
  between : Between after (reverse (map started_by calls) ++ given)
  reported_more : reported after ≡ results_of replies ++ reported past

all_ran : (s : Configuration) (calls : List SgtCall) (outcomes : List SgtOutcome) (e after : EngineView) (given : List GivenCall) → RanAll calls outcomes e after
    → Legal s after.past → Between e.past given → RanAllTo e.past after.past given calls outcomes
all_ran s [] outcomes e after given is legal so_far =
    subst (λ (v : EngineView). RanAllTo e.past v.past given [] outcomes) (sym is) (record { replies = []; said = tt; between = so_far; reported_more = refl })
all_ran s (c ∷ calls) [] e after given ran legal so_far = absurd ran
all_ran s (c ∷ calls) (o ∷ outcomes) e after given (between, (started, wrote, last, one, _, _, holds), rest) legal so_far =
    let first = (runs s e given c.procedure (args_in c) started wrote last between one (legal_before s calls outcomes between after rest legal)).ran so_far in
    let others = all_ran s calls outcomes between after (started_by c ∷ given) rest legal first.between in record {
      replies = last ∷ others.replies;
      said = (holds, others.said);
      between = subst (Between after.past)
          (sym (ap (λ l. l ++ given) (reverse_onto (map started_by calls) (started_by c) []) ∙ append_assoc (reverse (map started_by calls)) (started_by c ∷ []) given))
          others.between;
      reported_more = others.reported_more ∙ ap (λ l. results_of others.replies ++ l) first.reported_more
          ∙ sym (append_assoc (results_of others.replies) (reported_in last) (reported e.past));
    }

-- ---- results

one_at_most : (r : Reply) → length (reported_in r) ≤ 1
one_at_most (reply.Committed answers) = omega arith
one_at_most (reply.Refused code fell) = omega arith
one_at_most _ = omega arith

results_few : (replies : List Reply) → length (results_of replies) ≤ length replies
results_few [] = omega arith
results_few (r ∷ replies) =
    let a = length-append (results_of replies) (reported_in r) in let b = one_at_most r in let c = results_few replies in omega (arith, a, b, c)

said_length : (calls : List SgtCall) (outcomes : List SgtOutcome) (replies : List Reply) → Said calls outcomes replies → length replies ≡ length calls
said_length [] outcomes [] said = refl
said_length [] outcomes (r ∷ replies) said = absurd said
said_length (c ∷ calls) [] replies said = absurd said
said_length (c ∷ calls) (o ∷ outcomes) [] said = absurd said
said_length (c ∷ calls) (o ∷ outcomes) (r ∷ replies) said = ap suc (said_length calls outcomes replies said.1)

holds_result : (s : SgtReply) (r : Reply) (x : RunResult) → HoldsReply s r → reported_in r ≡ x ∷ [] → HoldsResult s x
holds_result s (reply.Committed answers) x holds is = subst (HoldsResult s) (first is) holds
  where
    first : GaveAnswers answers ∷ [] ≡ x ∷ [] → GaveAnswers answers ≡ x
    first e = cc
holds_result s (reply.Refused code fell) x holds is = subst (HoldsResult s) (first is) (holds.0, holds.1)
  where
    first : RaisedCode code ∷ [] ≡ x ∷ [] → RaisedCode code ≡ x
    first e = cc
holds_result s _ x holds is = absurd cc

-- the last items of equal lists, and the items before them
last_same : (xs ys : List RunResult) (x y : RunResult) → xs ++ x ∷ [] ≡ ys ++ y ∷ [] → (xs ≡ ys) × (x ≡ y)
last_same [] [] x y e = (refl, cc)
last_same [] (z ∷ ys) x y e = absurd (too_long ys (second e))
  where
    second : x ∷ [] ≡ z ∷ ys ++ y ∷ [] → ys ++ y ∷ [] ≡ []
    second e = cc

    too_long : (ys : List RunResult) → ys ++ y ∷ [] ≡ [] → ⊥
    too_long [] e = cc
    too_long (w ∷ ys) e = cc
last_same (z ∷ xs) [] x y e = absurd (too_long xs (second e))
  where
    second : z ∷ xs ++ x ∷ [] ≡ y ∷ [] → xs ++ x ∷ [] ≡ []
    second e = cc

    too_long : (xs : List RunResult) → xs ++ x ∷ [] ≡ [] → ⊥
    too_long [] e = cc
    too_long (w ∷ xs) e = cc
last_same (z ∷ xs) (w ∷ ys) x y e =
    let rest = last_same xs ys x y (second e) in (ap₂ (λ u l. u ∷ l) (first e) rest.0, rest.1)
  where
    first : z ∷ xs ++ x ∷ [] ≡ w ∷ ys ++ y ∷ [] → z ≡ w
    first e = cc

    second : z ∷ xs ++ x ∷ [] ≡ w ∷ ys ++ y ∷ [] → xs ++ x ∷ [] ≡ ys ++ y ∷ []
    second e = cc

same_results : (calls : List SgtCall) (outcomes : List SgtOutcome) (replies : List Reply) → Said calls outcomes replies
    → results_of replies ≡ reverse (map result_in calls) → HoldResults outcomes calls
same_results [] outcomes [] said same = tt
same_results [] outcomes (r ∷ replies) said same = absurd said
same_results (c ∷ calls) [] replies said same = absurd said
same_results (c ∷ calls) (o ∷ outcomes) [] said same = absurd said
same_results (c ∷ calls) (o ∷ outcomes) (r ∷ replies) said same =
    by_result (same_results calls outcomes replies said.1) (reported_in r) refl (one_at_most r)
  where
    others : List RunResult
    others = reverse (map result_in calls)

    all_same : results_of replies ++ reported_in r ≡ others ++ result_in c ∷ []
    all_same = same ∙ reverse_onto (map result_in calls) (result_in c) []

    by_result : (results_of replies ≡ others → HoldResults outcomes calls) → (l : List RunResult) → reported_in r ≡ l → length (reported_in r) ≤ 1 → HoldResults (o ∷ outcomes) (c ∷ calls)
    by_result rest [] none few =
        let a = results_few replies in
        let b = said_length calls outcomes replies said.1 in
        let d = length-append others (result_in c ∷ []) in
        let f = length-reverse (map result_in calls) in
        let g = length-map calls result_in in
        let h = ap length (sym (append-nil (results_of replies)) ∙ ap (λ l. results_of replies ++ l) (sym none) ∙ all_same) in
        absurd (omega (arith, a, b, d, f, g, h))
    by_result rest (x ∷ []) one few =
        let both = last_same (results_of replies) others x (result_in c) (ap (λ l. results_of replies ++ l) (sym one) ∙ all_same) in
        (holds_result o.reply r (result_in c) said.0 (one ∙ ap (λ y. y ∷ []) both.1), rest both.0)
    by_result rest (x ∷ y ∷ l) two few = let h = ap length two in absurd (omega (arith, h, few))

-- ---- the law

-- a call without accesses
module _ (now : List Entry) where
  no_access : (t : ℕ) → 0 ≡ length (accesses_of now t) → caller_accesses now t ≡ []
  no_access t e = empty (caller_accesses now t) (omega (arith, e, length-reverse (caller_accesses now t)))
    where
      empty : (xs : List CallerAccess) → length xs ≡ 0 → xs ≡ []
      empty [] e = refl
      empty (x ∷ xs) e = absurd (omega (arith, e))

  bare_given : (c : SgtCall) → CountsAccesses now c → c.accesses ≡ 0 → given_by now c ≡ started_by c
  bare_given c counts none = ap (λ xs. given_of (with_caller_accesses xs (bare_call c))) (no_access c.tid (sym none ∙ counts))

  all_bare : (calls : List SgtCall) → All (CountsAccesses now) calls → All IsRunnable calls → map (given_by now) calls ≡ map started_by calls
  all_bare [] counts runnable = refl
  all_bare (c ∷ calls) counts runnable =
      ap₂ (λ g l. g ∷ l) (bare_given c (All-head (CountsAccesses now) c calls counts) (All-head IsRunnable c calls runnable).1)
      (all_bare calls (All-tail (CountsAccesses now) c calls counts) (All-tail IsRunnable c calls runnable))

reversed : {A B : Type 0} (f : A → B) (l : List A) → map f (reverse l) ≡ reverse (map f l)
reversed f [] = refl
reversed f (x ∷ l) =
    ap (map f) (reverse_onto l x []) ∙ map-append f (reverse l) (x ∷ []) ∙ ap (λ m. m ++ f x ∷ []) (reversed f l)
    ∙ sym (reverse_onto (map f l) (f x) [])

-- calls that were requested again, each with its accesses
given_report_the_same : GivenCallsAreReported → (s : Configuration) (past now : List Entry) (calls : List SgtCall) → Legal s past
    → reported_calls past ≡ reverse (map (call_in now) calls) → GivenReportTheSame s past (map (given_by now) calls)
given_report_the_same law s past now calls legal calls_are after same legal_then one_by_one none given =
    law s past legal after.past legal_then one_by_one none (given ∙ sym were)
  where
    were : map given_of (reported_calls past) ≡ reverse (map (given_by now) calls)
    were = ap (map given_of) calls_are ∙ reversed given_of (map (call_in now) calls)
        ∙ ap reverse (map-map given_of (call_in now) calls)

-- calls without accesses that were run again
runs_report_the_same : (s : Configuration) (past : List Entry) (calls : List SgtCall) → GivenReportTheSame s past (map started_by calls)
    → reported past ≡ reverse (map result_in calls) → RunsReportTheSame s past calls
runs_report_the_same s past calls law results_are fresh after outcomes (same, new) (ran, guarantees, _) = (
  same_results calls outcomes all.replies all.said (sym reported_all ∙ agrees.1.reported_same ∙ results_are),
  agrees.1,
)
  where
    same_then : configuration_of after.engine ≡ s
    same_then = same_before (configuration_of after.engine) calls outcomes fresh.engine after.engine ran guarantees.legal ∙ same

    legal_then : Legal s after.engine.past
    legal_then = subst (λ x. Legal x after.engine.past) same_then guarantees.legal

    all : RanAllTo fresh.engine.past after.engine.past [] calls outcomes
    all = all_ran s calls outcomes fresh.engine after.engine [] ran legal_then (subst (λ l. Between l []) (sym new) (record {
      by = tt;
      none = none_at_first;
      calls = refl;
    }))

    reported_all : reported after.engine.past ≡ results_of all.replies
    reported_all = all.reported_more ∙ ap (λ l. results_of all.replies ++ reported l) new ∙ append-nil (results_of all.replies)

    agrees : (reported_calls after.engine.past ≡ reported_calls past) × ReportTheSame s after.engine.past past
    agrees = law after.engine same_then legal_then all.between.by all.between.none
        (all.between.calls ∙ append-nil (reverse (map started_by calls)))

-- calls that were read from a history can be requested and run again
rerun_reports_the_same : GivenCallsAreReported → (s : Configuration) (past now : List Entry) (calls : List SgtCall) → Legal s past
    → reported_calls past ≡ reverse (map (call_in now) calls) → reported past ≡ reverse (map result_in calls) → All (CountsAccesses now) calls
    → RerunReportsTheSame s past now calls
rerun_reports_the_same law s past now calls legal calls_are results_are counts = record {
  given = given;
  runs = λ runnable. runs_report_the_same s past calls (subst (GivenReportTheSame s past) (all_bare now calls counts runnable) given) results_are;
}
  where
    given : GivenReportTheSame s past (map (given_by now) calls)
    given = given_report_the_same law s past now calls legal calls_are

-- ---- the calls up to a position of a history

legal_at : (s : Configuration) (past : List Entry) (next : ℕ) → Legal s past → Legal s (past_at (reverse past) next)
legal_at s past next legal = legal_to s (reverse past) next (subst (Legal s) (sym (reverse-reverse past)) legal)

-- what was read earlier, and then these
module _ {X : Type 0} (read : List Entry → List X) (field : SgtCall → X) (entries : List Entry) (from next : ℕ) (earlier now : List SgtCall) where
  joined : read [] ≡ [] → read (past_at entries from) ≡ reverse (map field (take (length earlier) earlier)) ++ read (past_at entries 0)
      → read (past_at entries next) ≡ reverse (map field now) ++ read (past_at entries from) → read (past_at entries next) ≡ reverse (map field (earlier ++ now))
  joined none before more =
      more ∙ ap (λ l. reverse (map field now) ++ l) (before ∙ ap (λ l. reverse (map field (take (length earlier) earlier)) ++ l) none
      ∙ append-nil _ ∙ ap (λ l. reverse (map field l)) (take_all (length earlier) earlier (omega arith)))
      ∙ sym (ap reverse (map-append field earlier now) ∙ reverse-append (map field earlier) (map field now))

pub can_be_rerun : GivenCallsAreReported → (h : Held) (from : ℕ) (to : List SgtCall) (count next : ℕ) → Legal (configuration_of h.engine) h.engine.past
    → AreReported (reverse h.engine.past) from to count next → CanBeRerun (Some h) from to count next
can_be_rerun law h from to count next legal now earlier before =
    rerun_reports_the_same law (configuration_of h.engine) (past_at (reverse h.engine.past) next) h.engine.past (earlier ++ take count to)
    (legal_at (configuration_of h.engine) h.engine.past next legal)
    (subst (λ l. reported_calls (past_at (reverse h.engine.past) next) ≡ reverse (map (call_in l) (earlier ++ take count to))) (reverse-reverse h.engine.past)
    (joined reported_calls (call_in (reverse (reverse h.engine.past))) (reverse h.engine.past) from next earlier (take count to) refl before.calls now.calls))
    (joined reported result_in (reverse h.engine.past) from next earlier (take count to) refl before.results now.results)
    (subst (λ l. All (CountsAccesses l) (earlier ++ take count to)) (reverse-reverse h.engine.past)
    (All-append (CountsAccesses (reverse (reverse h.engine.past))) earlier (take count to)
    (subst (All (CountsAccesses (reverse (reverse h.engine.past)))) (take_all (length earlier) earlier (omega arith)) before.accesses) now.accesses))

-- the same of the engine that a call has taken out of its handle
pub taken_can_be_rerun : GivenCallsAreReported → (held : Option Held) (h lent : Held) (entries : List Entry) (from : ℕ) (to : List SgtCall) (count next : ℕ)
    → Some h ≡ held → lent ≡ h → reverse entries ≡ lent.engine.past → Legal (configuration_of lent.engine) lent.engine.past
    → ArePassed entries from to count next → CanBeRerun held from to count next
taken_can_be_rerun law held h lent entries from to count next taken same is legal passed =
    subst (λ o. CanBeRerun o from to count next) taken (subst (λ (x : Held). CanBeRerun (Some x) from to count next) same
    (can_be_rerun law lent from to count next legal
    (subst (λ l. AreReported l from to count next) (sym (reverse-reverse entries) ∙ ap reverse is) passed.reported)))
