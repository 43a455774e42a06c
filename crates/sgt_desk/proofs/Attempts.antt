-- Turns of an attempt: what each leaves.
use Rattle.std.proofs.Common.{◌≡◌, ◌≢◌, ◌⊎◌, ℕ, ℤ, Bool, true, false, cond, ◌&&◌, ◌<◌, ◌≤◌, length, List, Option, Some, None, Result, Ok, Err, refl, sym, ap, subst, ◌∙◌, inl, inr, arith, length-append}
use Rattle.sgt_model.specs.declared.entry.Entry.{Entry}
use Rattle.sgt_model.specs.declared.errors.NoMemory.{NoMemory}
use Rattle.sgt_model.specs.declared.event.Event.TheVariants.{Step, Commit, Quit}
use Rattle.sgt_model.specs.declared.short_reply.ShortCause.TheVariants as why
use Rattle.sgt_model.specs.declared.short_reply.ShortReply.{ShortReply}
use Rattle.sgt_model.specs.declared.short_reply.ShortReply.TheVariants as bare
use Rattle.sgt_model.specs.Contents.{Key}
use Rattle.sgt_model.specs.Fates.{live}
use Rattle.sgt_model.specs.Legality.{Legal}
use Rattle.sgt_progress.specs.Waits.{IsReady}
use Rattle.sgt_desk.specs.declared.ask.Ask.{Ask}
use Rattle.sgt_desk.specs.declared.ask.Turn.{Turn as TurnKind}
use Rattle.sgt_desk.specs.declared.ask.Turn.TheVariants.{Done, Rest, Late, Again, Stale}
use Rattle.sgt_desk.specs.declared.reason.Reason.{Reason}
use Rattle.sgt_desk.specs.declared.reason.Reason.TheVariants.{Turn, Full, End, Busy, Cut}
use Rattle.sgt_desk.specs.declared.running.Run.{Run}
use Rattle.sgt_desk.specs.Asks.{CommitsWhy, IsLate, IsNewest, IsNoWait, has_come, is_held}
use Rattle.sgt_desk.specs.Attempts.{CommitsAttempt, GoneOn, QuitsIfLive, StepsOn}
use Rattle.sgt_desk.specs.Desks.{DeskState, Adds, Wakes, ends_short, holds}
use Rattle.sgt_desk.specs.Engines.{Answered}
use Rattle.sgt_desk.specs.Runs.{GaveUp, Grows, RestsFor, gives_up, is_conflict}
use Rattle.sgt_desk.proofs.Entries.{IsLast, answered_grows, answered_told, answered_commit_gone, answered_live, answered_ready, answered_step_gone, commit_not_full, commit_not_over, grows_any, grows_not, grows_on, grows_one, step_not_full, step_not_over}

abbrev made : TurnKind → Result TurnKind NoMemory
made turn = Ok turn

-- a call that has to rest is not done
pub rest_not_done : (b : Bool) (turn : TurnKind) → turn ≡ cond b Late Rest → made turn ≢ made Done
rest_not_done true turn is done = let same : turn ≡ Done = cc done in cc (sym is ∙ same)
rest_not_done false turn is done = let same : turn ≡ Done = cc done in cc (sym is ∙ same)

-- a turn that is none of these gives its attempt up
pub gives : (turn : Result TurnKind NoMemory) → turn ≢ Ok Done → turn ≢ Ok Rest → turn ≢ Ok Again → turn ≢ Ok Stale → gives_up turn ≡ true
gives (Ok Done) done rest again stale = absurd (done refl)
gives (Ok Rest) done rest again stale = absurd (rest refl)
gives (Ok Late) done rest again stale = refl
gives (Ok Again) done rest again stale = absurd (again refl)
gives (Ok Stale) done rest again stale = absurd (stale refl)
gives (Err e) done rest again stale = refl

pub legal_as_before : (before after : DeskState) → after.configuration ≡ before.configuration → Legal after.configuration after.past
    → Legal before.configuration after.past
legal_as_before before after same legal = subst (λ s. Legal s after.past) same legal

module _ (t : ℕ) (before after : DeskState) (ask next : Ask) where
  -- it was told to wait
  pub commit_waits : (u : ℕ) (turn : Result TurnKind NoMemory) → Adds (Commit t) before next.reply after → next.reply ≡ bare.Waits u
      → next.reason ≡ Some (Turn t u) → turn ≢ Ok Done → CommitsAttempt t before ask after next turn
  commit_waits u turn adds is why never =
      let told = answered_told before.configuration t u before.past after.past
      (subst (λ r. Answered before.configuration (Commit t) before.past r after.past) is adds.entry.answered) in record {
        grows = answered_grows before.configuration (Commit t) before.past after.past next.reply adds.entry.answered false t (inl (inr refl));
        not_full = λ done. absurd (never done);
        not_over = λ alive done. absurd (never done);
        gone = λ ready done. absurd (never done);
        waits = λ may rests. subst (λ r. RestsFor after (Some t) r) (sym why) (refl, told.another, told.on_record);
      }

  -- it was answered otherwise
  pub commit_done : Adds (Commit t) before next.reply after → Legal after.configuration after.past → IsNoWait next.reply
      → CommitsAttempt t before ask after next (Ok Done)
  commit_done adds legal never = record {
    grows = answered_grows before.configuration (Commit t) before.past after.past next.reply adds.entry.answered false t (inl (inr refl));
    not_full = λ done. commit_not_full before.configuration t before.past after.past next.reply adds.entry.answered;
    not_over = λ alive done. commit_not_over before.configuration t before.past after.past next.reply adds.entry.answered alive;
    gone = λ ready done. answered_commit_gone before.configuration t before.past after.past next.reply adds.entry.answered
        (legal_as_before before after adds.entry.configuration legal) ready never;
    waits = λ may rests. absurd (not_done rests);
  }
    where
      not_done : (made Done ≡ made Rest) ⊎ (made Done ≡ made Late) → ⊥
      not_done (inl is) = cc is
      not_done (inr is) = cc is

-- a reason that ceases in one of two turns wakes all that rest
pub wakes_on : (a b c : DeskState) (first both : Bool) → Wakes a b first → Wakes b c both → (first ≡ true → both ≡ true) → Wakes a c both
wakes_on a b c first both w v woken r before gone = by_middle (holds r b) refl
  where
    by_middle : (x : Bool) → holds r b ≡ x → both ≡ true
    by_middle true is = v r is gone
    by_middle false is = woken (w r before is)

-- ---- steps

access_ends_none : (short : ShortReply) → ((k : Key) × (v : Option ℤ) × (short ≡ bare.Looked k v)) ⊎ ((k : Key) × (v : Option ℤ) × (short ≡ bare.Wrote k v))
    → ends_short short ≡ false
access_ends_none short (inl x) = ap ends_short x.2
access_ends_none short (inr x) = ap ends_short x.2

module _ (t : ℕ) (first before after : DeskState) (short : ShortReply) where
  -- one more step
  pub grew : Grows false t first.past before.past → Adds (Step t) before short after → Grows false t first.past after.past
  grew grows adds = grows_on false t first.past before.past after.past grows
      (answered_grows before.configuration (Step t) before.past after.past short adds.entry.answered false t (inl (inl refl)))

  -- after which it is live
  pub still_live : (live first.past t ≡ true → live before.past t ≡ true) → Adds (Step t) before short after
      → ((k : Key) × (v : Option ℤ) × (short ≡ bare.Looked k v)) ⊎ ((k : Key) × (v : Option ℤ) × (short ≡ bare.Wrote k v))
      → live first.past t ≡ true → live after.past t ≡ true
  still_live live_still adds access alive = answered_live before.configuration (Step t) t before.past after.past short adds.entry.answered
      (access_ends_none short access) (live_still alive)

  -- the last one
  pub steps_on : (live first.past t ≡ true → live before.past t ≡ true) → Adds (Step t) before short after → Legal after.configuration after.past
      → (short ≢ bare.Ended → IsLast short) → StepsOn t first after short
  steps_on live_still adds legal last =
      let same = adds.entry.configuration in record {
        not_full = step_not_full before.configuration t before.past after.past short adds.entry.answered;
        not_over = λ alive. step_not_over before.configuration t before.past after.past short adds.entry.answered (live_still alive);
        ready = λ is. subst (λ s. IsReady s after.past t) (sym same) (answered_ready before.configuration t before.past after.past
            (subst (λ r. Answered before.configuration (Step t) before.past r after.past) is adds.entry.answered)
            (legal_as_before before after same legal));
        live_still = λ alive is. answered_live before.configuration (Step t) t before.past after.past short adds.entry.answered
            (ap ends_short is) (live_still alive);
        gone = λ never. answered_step_gone before.configuration t before.past after.past short adds.entry.answered
            (legal_as_before before after same legal) (last never);
      }

-- ---- the end of an attempt

module _ (t : ℕ) (before after : DeskState) (ask next : Ask) (quits : QuitsIfLive t before ask after next) where
  -- the newest reply is as before, or that to its abort
  pub quit_reply : (P : ShortReply → Type 0) → P (bare.Aborted why.Quit) → P ask.reply → P next.reply
  quit_reply P aborted same = by_live (live before.past t) refl
    where
      by_live : (b : Bool) → live before.past t ≡ b → P next.reply
      by_live true is = subst P (sym (quits.live_now is).1) aborted
      by_live false is = subst P (sym (quits.else_same is).1) same

  -- if it was not live, nothing was added
  pub not_quit : (quits_now : Bool) (first : List Entry) → live before.past t ≡ false → Grows false t first before.past
      → Grows quits_now t first after.past
  not_quit quits_now first gone grows = subst (λ l. Grows quits_now t first l) (sym (quits.else_same gone).0)
      (grows_any quits_now t first before.past grows)

  -- else its abort was
  pub may_quit : (first : List Entry) → Grows false t first before.past → Grows true t first after.past
  may_quit first grows = by_live (live before.past t) refl
    where
      by_live : (b : Bool) → live before.past t ≡ b → Grows true t first after.past
      by_live true is = let q = (quits.live_now is).0 in subst (λ l. Grows true t first l) (sym q.is)
          (grows_one true t (record { event = Quit t; reply = q.reply }) first before.past (grows_any true t first before.past grows)
          (inr (refl, refl)))
      by_live false is = not_quit true first is grows

-- what was added makes the history longer

pub grows_longer : (quits : Bool) (t : ℕ) (before after : List Entry) → Grows quits t before after → length before ≤ length after
grows_longer quits t before after g = let long = length-append g.later before in
    subst (λ l. length before ≤ length l) (sym g.is) (omega (arith, long))

quit_longer : (t : ℕ) (before after : DeskState) (ask next : Ask) → QuitsIfLive t before ask after next → length before.past ≤ length after.past
quit_longer t before after ask next quits =
    grows_longer true t before.past after.past (may_quit t before after ask next quits before.past (grows_not false t before.past))

pub commit_longer : (t : ℕ) (before mid after : DeskState) (short : ShortReply) (ask next : Ask) → Adds (Commit t) before short mid
    → QuitsIfLive t mid ask after next → length before.past < length after.past
commit_longer t before mid after short ask next adds quits =
    let one = ap length adds.entry.answered.adds in
    let more = quit_longer t mid after ask next quits in omega (arith, one, more)

both_of : (a b : Bool) → (a && b) ≡ true → (a ≡ true) × (b ≡ true)
both_of true true h = (refl, refl)
both_of true false h = absurd (cc h)
both_of false b h = absurd (cc h)

-- an attempt was given up since its commit had to wait
module _ (t : ℕ) (old : Option Reason) (mid after : DeskState) (ask next : Ask) (quits : QuitsIfLive t mid ask after next) (short : ShortReply) where
  pub gave_up : (reason : Option Reason) → RestsFor mid (Some t) reason → is_held reason mid ≡ true
      → CommitsWhy t mid.past old short reason → GaveUp t old after.past
  gave_up (Some (Turn u v)) rests held w =
      let both = both_of (live mid.past u) (live mid.past v) held in
      let alive : live mid.past t ≡ true = subst (λ x. live mid.past x ≡ true) rests.0 both.0 in
      let q = (quits.live_now alive).0 in record {
        other = v;
        reply = q.reply;
        before = mid.past;
        is = q.is;
        both_live = (alive, both.1);
        waits = waits w;
      }
    where
      waits : (old ≡ Some (Turn u v)) ⊎ ((u ≡ t) × (short ≡ bare.Waits v) × IsNewest (Commit t) (bare.Waits v) mid.past)
          → (old ≡ Some (Turn t v)) ⊎ IsNewest (Commit t) (bare.Waits v) mid.past
      waits (inl same) = inl (subst (λ x. old ≡ Some (Turn x v)) rests.0 same)
      waits (inr told) = inr told.2
  gave_up (Some (Full n)) rests held w = absurd rests
  gave_up (Some (End n)) rests held w = absurd rests
  gave_up (Some (Busy n)) rests held w = absurd rests
  gave_up (Some Cut) rests held w = absurd rests
  gave_up None rests held w = absurd rests

-- an attempt goes on from where its steps have left it
pub goes_on_from : (now t : ℕ) (first before after : DeskState) (run run' next : Run) (turn : Result TurnKind NoMemory) → run'.ask ≡ run.ask
    → Grows false t first.past before.past → GoneOn now t before run' after next turn → GoneOn now t first run after next turn
goes_on_from now t first before after run run' next turn same grows on = record {
  grows = grows_on (gives_up turn) t first.past before.past after.past (grows_any (gives_up turn) t first.past before.past grows) on.grows;
  rests = on.rests;
  late = subst (λ a. turn ≡ Ok Late → ((is_conflict next.ask.reply ≡ true) × IsLate a.deadline now next.ask.reason after)
      ⊎ ((has_come a.deadline now ≡ true) × GaveUp t a.reason after.past)) same on.late;
}
