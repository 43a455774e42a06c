-- A legal reply names no more transactions than may be live at once: its path and those aborted in cascade are of live ones.
use Rattle.std.specs.Prelude.{◌≡◌, ℕ, suc, ◌<◌, ◌≤◌, Bool, true, false, cond, ◌⊎◌, nat_eq, nat_lt, List, [], ◌∷◌, length, Option, Some, None, ℤ}
use Rattle.std.specs.List.{list_any}
use Rattle.std.specs.Option.{is_none}
use Rattle.std.proofs.Common.{refl, sym, ap, subst, inl, inr, arith}
use Rattle.std.proofs.lemmas.Bool.{and_parts, and_from, ltb-true}
use Rattle.sgt_model.specs.declared.event.Event.{Event}
use Rattle.sgt_model.specs.declared.event.Event.TheVariants.{Start, Step, Access, Commit, Quit}
use Rattle.sgt_model.specs.declared.event.Request.{Request}
use Rattle.sgt_model.specs.declared.reply.Reply.{Reply}
use Rattle.sgt_model.specs.declared.reply.Reply.TheVariants as reply
use Rattle.sgt_model.specs.declared.reply.Cause.{Cause}
use Rattle.sgt_model.specs.declared.reply.Cause.TheVariants as cause
use Rattle.sgt_model.specs.declared.reply.Fate.{Fate}
use Rattle.sgt_model.specs.declared.reply.Fate.TheVariants as fate
use Rattle.sgt_model.specs.declared.entry.Entry.{Entry}
use Rattle.sgt_model.specs.declared.kind.Kind.{Kind}
use Rattle.sgt_model.specs.declared.kind.Kind.TheVariants.{Look, Store}
use Rattle.sgt_model.specs.declared.limits.Asks.{Asks}
use Rattle.sgt_model.specs.declared.limits.Asks.TheVariants.{AtStep, AtCommit}
use Rattle.sgt_model.specs.Contents.{Key}
use Rattle.sgt_model.specs.Traces.{Next, Looks, Puts, Ends, Raises}
use Rattle.sgt_model.specs.Paths.{PathOf, Member, Distinct, Rising}
use Rattle.sgt_model.specs.Fates.{concerns, subject, ending_in, start_count, fate_of, started_ones, live, live_ones}
use Rattle.sgt_model.specs.Pairs.{Pair}
use Rattle.sgt_model.specs.Falls.{Falls}
use Rattle.sgt_model.specs.Configurations.{Rules, Configuration, takes}
use Rattle.sgt_model.specs.Progress.{next_of, requested, is_fit}
use Rattle.sgt_model.specs.StartReply.{args_fit, capacity_reply, taken_reply, start_reply}
use Rattle.sgt_model.specs.Legality.{RaisedStep, RaisedCommit, AbortReply, CycleAbortReply, Makes, StepReply, OfFit, RequestReply, CommitReply, OfStarted, LegalReply, Legal}
use Rattle.sgt_model.specs.ReplySizes.{CauseNamesAtMost, FateNamesAtMost, ReplyNamesAtMost, RepliesNameFew}
use Rattle.sgt_model.proofs.Facts.{some_is, option_or-cases}
use Rattle.sgt_model.proofs.Listed.{kept_member}
use Rattle.sgt_model.proofs.Capacity.{limits_are_kept}
use Rattle.sgt_model.proofs.Verdict.{pair_live}
use Rattle.sgt_model.proofs.Conditions.{distinct_fits}
use Rattle.sgt_model.proofs.OneReply.{rising_below, rising_rest}
use Rattle.sgt_model.proofs.SomeReply.{begun_has}

-- on lists of numbers

-- rising numbers are different
rising_distinct : (l : List ℕ) → Rising l → Distinct l
rising_distinct [] r = tt
rising_distinct (t ∷ l) r = ((λ m. let less : t < t = rising_below t l r t m in omega arith), rising_distinct l (rising_rest t l r))

-- fates and starts

-- an entry whose reply names few ends none by more
ending_names : (most : ℕ) (event : Event) (r : Reply) (t : ℕ) (f : Fate) → ReplyNamesAtMost most r → ending_in event r t ≡ Some f
    → FateNamesAtMost most f
ending_names most event (reply.Aborted why fell) t f few e = go (concerns event t) (list_any (λ u. nat_eq u t) fell) e
  where
    go : (b c : Bool) → cond b (Some (fate.Aborted why)) (cond c (Some (fate.Fell (subject event))) None) ≡ Some f → FateNamesAtMost most f
    go true c e = subst (λ g. FateNamesAtMost most g) (some_is (fate.Aborted why) f e) few.0
    go false true e = subst (λ g. FateNamesAtMost most g) (some_is (fate.Fell (subject event)) f e) tt
    go false false e = absurd (cc)
ending_names most event (reply.Refused code fell) t f few e = go (concerns event t) (list_any (λ u. nat_eq u t) fell) e
  where
    go : (b c : Bool) → cond b (Some (fate.Aborted (cause.Asked code))) (cond c (Some (fate.Fell (subject event))) None) ≡ Some f
        → FateNamesAtMost most f
    go true c e = subst (λ g. FateNamesAtMost most g) (some_is (fate.Aborted (cause.Asked code)) f e) tt
    go false true e = subst (λ g. FateNamesAtMost most g) (some_is (fate.Fell (subject event)) f e) tt
    go false false e = absurd (cc)
ending_names most event (reply.Committed answers) t f few e = go (concerns event t) e
  where
    go : (b : Bool) → cond b (Some fate.Committed) None ≡ Some f → FateNamesAtMost most f
    go true e = subst (λ g. FateNamesAtMost most g) (some_is fate.Committed f e) tt
    go false e = absurd (cc)
ending_names most event _ t f few e = absurd (cc)

start_names : (most : ℕ) (rules : Rules) (begun living p : ℕ) (args : List ℤ) → ReplyNamesAtMost most
    (start_reply rules begun living p args)
start_names most rules begun living p args = called (takes rules p)
  where
    one_of : (b c : Bool) → ReplyNamesAtMost most (cond b reply.Spent (cond c reply.Full (reply.Started begun)))
    one_of true c = tt
    one_of false true = tt
    one_of false false = tt

    fits : (b : Bool) → ReplyNamesAtMost most (cond b (capacity_reply rules.limits begun living) reply.BadArgs)
    fits true = one_of _ _
    fits false = tt

    called : (o : Option ℕ) → ReplyNamesAtMost most (taken_reply rules.limits begun living o args)
    called None = tt
    called (Some count) = fits (args_fit count args)

module _ (s : Configuration) (past : List Entry) (h : Legal s past) where
  live_listed : (l : List ℕ) → Distinct l → ((u : ℕ) → Member u l → live past u ≡ true) → length l ≤ s.rules.limits.live
  live_listed l d alive =
      let fits : length l ≤ length (live_ones past) =
      distinct_fits l (live_ones past) d (λ u m. kept_member (live past) u (started_ones past) (alive u m)
      (begun_has past u (ltb-true u (start_count past) (and_parts _ _ (alive u m)).0))) in
      let kept : length (live_ones past) ≤ s.rules.limits.live = (limits_are_kept s past h).1 in
      omega arith

  -- all on a path from a live one are live
  path_live : (t : ℕ) (rest : List ℕ) → live past t ≡ true → PathOf (Pair past) t rest → (u : ℕ) → Member u (t ∷ rest) → live past u ≡ true
  path_live t rest alive p u (inl e) = subst (λ x. live past x ≡ true) (sym e) alive
  path_live t [] alive p u (inr m) = absurd m
  path_live t (v ∷ rest) alive p u (inr m) = path_live v rest (pair_live s past h t v alive p.0) p.1 u m

  -- with t, those aborted in cascade with it are no more than may be live at once
  few_fall : (t : ℕ) → live past t ≡ true → (fell : List ℕ) → Falls past t fell → length fell < s.rules.limits.live
  few_fall t alive fell falls =
      let all : suc (length fell) ≤ s.rules.limits.live =
      live_listed (t ∷ fell) ((λ m. (falls.each t m).1 refl), rising_distinct fell falls.rising)
      (λ u m. elim m [ inl e ↦ subst (λ x. live past x ≡ true) (sym e) alive | inr k ↦ (falls.each u k).0 ]) in
      omega arith

  abort_names : (t : ℕ) → live past t ≡ true → (why : Cause) → CauseNamesAtMost s.rules.limits.live why → (r : Reply)
      → AbortReply past t why r → ReplyNamesAtMost s.rules.limits.live r
  abort_names t alive why few r a = subst (λ x. ReplyNamesAtMost s.rules.limits.live x) (sym a.is)
      (few, few_fall t alive a.fell a.falls)

  access_names : (t : ℕ) → live past t ≡ true → (k : Key) (kind : Kind) (given r : Reply)
      → ReplyNamesAtMost s.rules.limits.live given → CycleAbortReply past t k kind r ⊎ Makes past t k kind given r
      → ReplyNamesAtMost s.rules.limits.live r
  access_names t alive k kind given r few (inl x) = abort_names t alive (cause.Cycle (t ∷ x.rest))
      (live_listed (t ∷ x.rest) x.closes.distinct (path_live t x.rest alive x.closes.pairs)) r x.aborts
  access_names t alive k kind given r few (inr x) = subst (λ y. ReplyNamesAtMost s.rules.limits.live y) (sym x.is) few

  raised_step_names : (t : ℕ) → live past t ≡ true → (code : ℕ) (asks : Asks) (r : Reply) → RaisedStep asks past t code r
      → ReplyNamesAtMost s.rules.limits.live r
  raised_step_names t alive code AtStep r x = abort_names t alive (cause.Asked code) tt r x
  raised_step_names t alive code AtCommit r x = subst (λ y. ReplyNamesAtMost s.rules.limits.live y) (sym x) tt

  step_names : (t : ℕ) → live past t ≡ true → (next : Next) (r : Reply) → StepReply s past t next r → ReplyNamesAtMost s.rules.limits.live r
  step_names t alive (Looks k) r x = access_names t alive k Look _ r tt x
  step_names t alive (Puts k v) r x = access_names t alive k Store _ r tt x
  step_names t alive (Ends answers) r x = subst (λ y. ReplyNamesAtMost s.rules.limits.live y) (sym x) tt
  step_names t alive (Raises code) r x = raised_step_names t alive code s.rules.limits.asks r x

  fit_names : (t : ℕ) → live past t ≡ true → (n : Next) (fit : Bool) (r : Reply) → OfFit fit r (StepReply s past t n r)
      → ReplyNamesAtMost s.rules.limits.live r
  fit_names t alive n true r x = step_names t alive n r x
  fit_names t alive n false r x = subst (λ y. ReplyNamesAtMost s.rules.limits.live y) (sym x) tt

  request_names : (t : ℕ) → live past t ≡ true → (d : Request) (next : Next) (r : Reply) → RequestReply s past t d next r
      → ReplyNamesAtMost s.rules.limits.live r
  request_names t alive d (Ends answers) r x = fit_names t alive (requested d) (is_fit d) r x
  request_names t alive d (Looks k) r x = subst (λ y. ReplyNamesAtMost s.rules.limits.live y) (sym x) tt
  request_names t alive d (Puts k v) r x = subst (λ y. ReplyNamesAtMost s.rules.limits.live y) (sym x) tt
  request_names t alive d (Raises code) r x = subst (λ y. ReplyNamesAtMost s.rules.limits.live y) (sym x) tt

  raised_commit_names : (t : ℕ) → live past t ≡ true → (code : ℕ) (asks : Asks) (r : Reply) → RaisedCommit asks past t code r
      → ReplyNamesAtMost s.rules.limits.live r
  raised_commit_names t alive code AtStep r x = subst (λ y. ReplyNamesAtMost s.rules.limits.live y) (sym x) tt
  raised_commit_names t alive code AtCommit r (inl x) = subst (λ y. ReplyNamesAtMost s.rules.limits.live y) (sym x.is) tt
  raised_commit_names t alive code AtCommit r (inr x) = subst (λ y. ReplyNamesAtMost s.rules.limits.live y) (sym x.is)
      (few_fall t alive x.fell x.falls)

  commit_names : (t : ℕ) → live past t ≡ true → (next : Next) (r : Reply) → CommitReply s past t next r
      → ReplyNamesAtMost s.rules.limits.live r
  commit_names t alive (Ends answers) r (inl x) = subst (λ y. ReplyNamesAtMost s.rules.limits.live y) (sym x.is) tt
  commit_names t alive (Ends answers) r (inr x) = subst (λ y. ReplyNamesAtMost s.rules.limits.live y) (sym x.is) tt
  commit_names t alive (Looks k) r x = subst (λ y. ReplyNamesAtMost s.rules.limits.live y) (sym x) tt
  commit_names t alive (Puts k v) r x = subst (λ y. ReplyNamesAtMost s.rules.limits.live y) (sym x) tt
  commit_names t alive (Raises code) r x = raised_commit_names t alive code s.rules.limits.asks r x

  module _ (fates : (t : ℕ) (f : Fate) → fate_of past t ≡ Some f → FateNamesAtMost s.rules.limits.live f) where
    of_started : (t : ℕ) (r : Reply) (P : Type 0) → (live past t ≡ true → P → ReplyNamesAtMost s.rules.limits.live r)
        → (b : Bool) (o : Option Fate) → nat_lt t (start_count past) ≡ b → fate_of past t ≡ o → OfStarted b o r P
        → ReplyNamesAtMost s.rules.limits.live r
    of_started t r P if_live true None started unended x = if_live (and_from _ _ started (ap is_none unended)) x
    of_started t r P if_live true (Some f) started ended x = subst (λ y. ReplyNamesAtMost s.rules.limits.live y) (sym x) (fates t f ended)
    of_started t r P if_live false o started ended x = subst (λ y. ReplyNamesAtMost s.rules.limits.live y) (sym x) tt

    reply_names : (event : Event) (r : Reply) → LegalReply s past event r → ReplyNamesAtMost s.rules.limits.live r
    reply_names (Start p args) r x = subst (λ y. ReplyNamesAtMost s.rules.limits.live y) (sym x)
        (start_names s.rules.limits.live s.rules (start_count past) (length (live_ones past)) p args)
    reply_names (Step t) r x = of_started t r (StepReply s past t (next_of s past t) r)
        (λ alive. step_names t alive (next_of s past t) r) (nat_lt t (start_count past)) (fate_of past t) refl refl x
    reply_names (Access t d) r x = of_started t r (RequestReply s past t d (next_of s past t) r)
        (λ alive. request_names t alive d (next_of s past t) r) (nat_lt t (start_count past)) (fate_of past t) refl refl x
    reply_names (Commit t) r x = of_started t r (CommitReply s past t (next_of s past t) r)
        (λ alive. commit_names t alive (next_of s past t) r) (nat_lt t (start_count past)) (fate_of past t) refl refl x
    reply_names (Quit t) r x = of_started t r (AbortReply past t cause.Quit r) (λ alive. abort_names t alive cause.Quit tt r)
        (nat_lt t (start_count past)) (fate_of past t) refl refl x

fates_name : (s : Configuration) (past : List Entry) → Legal s past → (t : ℕ) (f : Fate) → fate_of past t ≡ Some f
    → FateNamesAtMost s.rules.limits.live f
fates_name s [] h t f e = absurd (cc)
fates_name s (x ∷ past) h t f e = elim (option_or-cases (ending_in x.event x.reply t) (fate_of past t) f e) [
  | inl now ↦ ending_names s.rules.limits.live x.event x.reply t f (reply_names s past h.0 (fates_name s past h.0) x.event x.reply h.1) now
  | inr (none, before) ↦ fates_name s past h.0 t f before
]

pub replies_name_few : RepliesNameFew
replies_name_few s past h event r x = reply_names s past h (fates_name s past h) event r x
