-- How the number of live transactions changes with an entry.
use Rattle.std.proofs.Common.{◌≡◌, ◌↔◌, ℕ, zero, suc, ◌+◌, ◌<◌, ◌≤◌, Bool, true, false, cond, not, ◌&&◌, ◌||◌, ◌⊎◌, nat_eq, nat_lt, List, [], ◌∷◌, ◌++◌, length, length-append, reverse, take, Option, Some, None, is_none, refl, sym, ap, ap₂, subst, inl, inr, ◌∙◌, arith}
use Rattle.std.proofs.lemmas.Bool.{true≢false, lt-ltb, cases_lt, eqb-true, eq-eqb}
use Rattle.std.proofs.lemmas.List.Elements.{filter-append}
use Rattle.std.specs.List.{filter}
use Rattle.std.specs.Option.{is_some, option_or}
use Rattle.sgt_model.specs.declared.reply.Reply.{Reply}
use Rattle.sgt_model.specs.declared.reply.Reply.TheVariants as reply
use Rattle.sgt_model.specs.declared.reply.Fate.{Fate}
use Rattle.sgt_model.specs.declared.reply.Fate.TheVariants as fate
use Rattle.sgt_model.specs.declared.entry.Entry.{Entry}
use Rattle.sgt_model.specs.Paths.{Member, Distinct}
use Rattle.sgt_model.specs.Fates.{is_start, start_count, ending_in, fate_of, live, started_ones, live_ones}
use Rattle.sgt_model.specs.Configurations.{Configuration}
use Rattle.sgt_model.specs.Legality.{Legal}
use Rattle.sgt_model.proofs.Effects.{EndsNone, ends_none-no_end, Effect, idle, begins, accesses, commits, undoes, refuses, Undoing, effect}
use Rattle.sgt_model.proofs.Facts.{live-started, unstarted-no_fate}
use Rattle.sgt_model.proofs.Counted.{filter-both, filter-same, filter_listed}
use Rattle.sgt_model.proofs.Listed.{kept_member}
use Rattle.sgt_model.proofs.Rises.{live_ones-rise}
use Rattle.sgt_model.proofs.Capacity.{begun_below}
use Rattle.sgt_model.proofs.SomeReply.{begun_has}
use Rattle.sgt_audit.specs.LiveCount.{count_started, count_ended}
use Rattle.sgt_audit.specs.AllOutcomes.{FewLive, AllEnded}
use Rattle.sgt_audit.proofs.Numbers.{is_among, rising_distinct, some_less}

starts_none : (r : Reply) → is_start r ≡ false → count_started r ≡ 0
starts_none (reply.Started t) e = absurd (true≢false e)
starts_none _ e = refl

ends_no_one : (r : Reply) → EndsNone r → count_ended r ≡ 0
ends_no_one (reply.Committed answers) h = absurd h
ends_no_one (reply.Aborted why fell) h = absurd h
ends_no_one (reply.Refused code fell) h = absurd h
ends_no_one _ h = refl

module _ (past : List Entry) (e : Entry) where
  -- whether the entry ends the transaction
  abbrev gone : ℕ → Bool
  gone t = is_some (ending_in e.event e.reply t)

  still_live : is_start e.reply ≡ false → (t : ℕ) → live (e ∷ past) t ≡ (live past t && not (gone t))
  still_live none t = rw none (go (nat_lt t (start_count past)) (ending_in e.event e.reply t))
    where
      go : (b : Bool) (o : Option Fate) → (b && is_none (option_or o (fate_of past t))) ≡ ((b && is_none (fate_of past t)) && not
          (is_some o))
      go false o = refl
      go true (Some f) = out (is_none (fate_of past t))
        where
          out : (b : Bool) → false ≡ (b && false)
          out true = refl
          out false = refl
      go true None = stays (is_none (fate_of past t))
        where
          stays : (b : Bool) → b ≡ (b && true)
          stays true = refl
          stays false = refl

  left_live : is_start e.reply ≡ false → live_ones (e ∷ past) ≡ filter (λ t. not (gone t)) (live_ones past)
  left_live none = ap (λ b. filter (live (e ∷ past)) (cond b (started_ones past ++ start_count past ∷ []) (started_ones past))) none
      ∙ (filter-same (live (e ∷ past)) (λ t. live past t && not (gone t)) (started_ones past) (still_live none)
      ∙ sym (filter-both (λ t. not (gone t)) (live past) (started_ones past)))

  member_live : (t : ℕ) → live past t ≡ true → Member t (live_ones past)
  member_live t alive = kept_member (live past) t (started_ones past) alive (begun_has past t (live-started past t alive))

  -- those of a list end
  lost : (those : List ℕ) → is_start e.reply ≡ false → ((t : ℕ) → gone t ≡ is_among those t) → Distinct those
      → ((t : ℕ) → Member t those → live past t ≡ true) → length (live_ones (e ∷ past)) + length those ≡ length (live_ones past)
  lost those none same once alive =
      let rest : live_ones (e ∷ past) ≡ filter (λ t. not (is_among those t)) (live_ones past) =
      left_live none ∙ filter-same (λ t. not (gone t)) (λ t. not (is_among those t)) (live_ones past) (λ t. ap not (same t)) in
      let fewer = some_less those (live_ones past) once (rising_distinct (live_ones past) (live_ones-rise past))
      (λ t m. member_live t (alive t m)) in
      ap (λ l. length l + length those) rest ∙ fewer

  none_lost : is_start e.reply ≡ false → EndsNone e.reply → length (live_ones (e ∷ past)) + count_ended e.reply ≡ length
      (live_ones past) + count_started e.reply
  none_lost none ends =
      let same = lost [] none (λ t. ap is_some (ends_none-no_end e.event e.reply ends t)) tt (λ t m. absurd m) in
      let a = starts_none e.reply none in
      let b = ends_no_one e.reply ends in
      let zero : length {A = ℕ} [] ≡ 0 = refl in
      omega arith

  one_started : (s : Configuration) → Legal s past → e.reply ≡ reply.Started (start_count past)
      → length (live_ones (e ∷ past)) + count_ended e.reply ≡ length (live_ones past) + count_started e.reply
  one_started s legal is =
      let ones : live_ones (e ∷ past) ≡ filter (live (e ∷ past)) (started_ones past ++ start_count past ∷ []) =
      ap (λ b. filter (live (e ∷ past)) (cond b (started_ones past ++ start_count past ∷ []) (started_ones past))) (ap is_start is) in
      let both = filter-append (live (e ∷ past)) (started_ones past) (start_count past ∷ []) in
      let old = filter_listed (live (e ∷ past)) (live past) (started_ones past) (λ t m. as_before t (begun_below past t m)) in
      let new : filter (live (e ∷ past)) (start_count past ∷ [])
      ≡ start_count past ∷ [] = ap (λ b. cond b (start_count past ∷ []) []) (now_live) in
      let count = ap length (ones ∙ (both ∙ ap₂ (λ a b. a ++ b) old new)) ∙ length-append (live_ones past) (start_count past ∷ []) in
      let a : count_started e.reply ≡ 1 = ap count_started is in
      let b : count_ended e.reply ≡ 0 = ap count_ended is in
      let one : length {A = ℕ} (start_count past ∷ []) ≡ 1 = refl in
      omega arith
    where
      no_end : (t : ℕ) → ending_in e.event e.reply t ≡ None
      no_end t = ap (λ r. ending_in e.event r t) is

      more : start_count (e ∷ past) ≡ start_count past + 1
      more = ap (λ b. cond b (start_count past + 1) (start_count past)) (ap is_start is)

      live_is : (t : ℕ) → live (e ∷ past) t ≡ (nat_lt t (start_count past + 1) && is_none (fate_of past t))
      live_is t = ap₂ (λ n o. nat_lt t n && is_none (option_or o (fate_of past t))) more (no_end t)

      as_before : (t : ℕ) → t < start_count past → live (e ∷ past) t ≡ live past t
      as_before t less = live_is t ∙ ap (λ a. a && is_none (fate_of past t)) (lt-ltb t (start_count past + 1) (omega arith)
          ∙ sym (lt-ltb t (start_count past) less))

      now_live : live (e ∷ past) (start_count past) ≡ true
      now_live = live_is (start_count past) ∙ ap₂ (λ a o. a && is_none o) (lt-ltb (start_count past) (start_count past + 1) (omega arith))
          (unstarted-no_fate s past legal (start_count past) (omega arith))

  -- one that is undone ends, with those aborted in cascade
  one_undone : is_start e.reply ≡ false → (u : Undoing past e.event e.reply) → count_ended e.reply ≡ length u.fell + 1
      → length (live_ones (e ∷ past)) + count_ended e.reply ≡ length (live_ones past) + count_started e.reply
  one_undone none u b =
      let some = lost (u.t ∷ u.fell) none (λ t. ap is_some (u.ends t) ∙ abort_gone (fate.Aborted u.why) (fate.Fell u.t)
      (nat_eq u.t t) (is_among u.fell t)) ((λ m. (u.falls.each u.t m).1 refl), rising_distinct u.fell u.falls.rising)
      (λ t m. those t m) in
      let a = starts_none e.reply none in
      let n : length (u.t ∷ u.fell) ≡ length u.fell + 1 = omega arith in
      omega arith
    where
      abort_gone : (f g : Fate) (b c : Bool) → is_some (cond b (Some f) (cond c (Some g) None)) ≡ (b || c)
      abort_gone f g true c = refl
      abort_gone f g false true = refl
      abort_gone f g false false = refl

      those : (t : ℕ) → Member t (u.t ∷ u.fell) → live past t ≡ true
      those t (inl same) = subst (λ v. live past v ≡ true) (sym same) u.is_live
      those t (inr m) = (u.falls.each t m).0

  by_effect : (s : Configuration) → Legal s past → Effect s past e.event e.reply
      → length (live_ones (e ∷ past)) + count_ended e.reply ≡ length (live_ones past) + count_started e.reply
  by_effect s legal (idle i) = none_lost i.no_start i.ends_none
  by_effect s legal (begins b) = one_started s legal b.reply_is
  by_effect s legal (accesses x) = none_lost x.no_start x.ends_none
  by_effect s legal (commits c) =
      let none : is_start e.reply ≡ false = ap is_start c.reply_is in
      let one = lost (c.t ∷ []) none (λ t. ap₂ (λ x y. is_some (ending_in x y t)) c.event_is c.reply_is
      ∙ commit_gone (nat_eq c.t t)) ((λ m. m), tt) (λ t m. subst (λ u. live past u ≡ true) (sym (only t m)) c.is_live) in
      let a = starts_none e.reply none in
      let b : count_ended e.reply ≡ 1 = ap count_ended c.reply_is in
      let n : length {A = ℕ} (c.t ∷ []) ≡ 1 = refl in
      omega arith
    where
      commit_gone : (b : Bool) → is_some (cond b (Some fate.Committed) None) ≡ (b || false)
      commit_gone true = refl
      commit_gone false = refl

      only : (t : ℕ) → Member t (c.t ∷ []) → t ≡ c.t
      only t (inl same) = same
      only t (inr m) = absurd m
  by_effect s legal (undoes x) = one_undone (ap is_start x.reply_is) x.undoing (ap count_ended x.reply_is)
  by_effect s legal (refuses x) = one_undone (ap is_start x.reply_is) x.undoing (ap count_ended x.reply_is)

started_or_ended : (r : Reply) → (count_started r ≡ 0) ⊎ (count_ended r ≡ 0)
started_or_ended (reply.Committed answers) = inl refl
started_or_ended (reply.Aborted why fell) = inl refl
started_or_ended (reply.Refused code fell) = inl refl
started_or_ended _ = inr refl

-- after an entry as many are live as before it, plus the one that it started, minus those that it ended
pub live_count : (s : Configuration) (past : List Entry) (e : Entry) → Legal s (e ∷ past)
    → length (live_ones (e ∷ past)) + count_ended e.reply ≡ length (live_ones past) + count_started e.reply
live_count s past e legal = by_effect past e s legal.0 (effect s past e.event e.reply legal.1)

-- an entry ends at most as many as were live
pub ends_live : (s : Configuration) (past : List Entry) (e : Entry) → Legal s (e ∷ past) → count_ended e.reply ≤ length (live_ones past)
ends_live s past e legal = let n = live_count s past e legal in elim (started_or_ended e.reply) [
  | inl none ↦ omega arith
  | inr none ↦ omega arith
]

-- after an entry that starts and ends nothing as many are live
pub same_live : (s : Configuration) (past : List Entry) (e : Entry) → Legal s (e ∷ past) → is_start e.reply ≡ false → EndsNone e.reply
    → length (live_ones (e ∷ past)) ≡ length (live_ones past)
same_live s past e legal none ends =
    let n = live_count s past e legal in
    let a = starts_none e.reply none in
    let b = ends_no_one e.reply ends in
    omega arith

kept_none : (p : ℕ → Bool) → ((t : ℕ) → p t ≡ false) → (ts : List ℕ) → length (filter p ts) ≡ 0
kept_none p none [] = refl
kept_none p none (t ∷ ts) = ap (λ b. length (cond b (t ∷ filter p ts) (filter p ts))) (none t) ∙ kept_none p none ts

-- the count of live transactions is 0 exactly if none is live
pub none_counted : (past : List Entry) → (length (live_ones past) ≡ 0) ↔ ((t : ℕ) → live past t ≡ false)
none_counted past = (λ no_one t. not_live no_one t (live past t) refl, λ none. kept_none (live past) none (started_ones past))
  where
    empty : (ts : List ℕ) (t : ℕ) → length ts ≡ 0 → Member t ts → ⊥
    empty [] t no_one m = m
    empty (u ∷ ts) t no_one m = absurd (omega arith)

    not_live : length (live_ones past) ≡ 0 → (t : ℕ) (b : Bool) → live past t ≡ b → live past t ≡ false
    not_live no_one t true is =
        absurd (empty (live_ones past) t no_one (kept_member (live past) t (started_ones past) is
        (begun_has past t (live-started past t is))))
    not_live no_one t false is = is

take_whole : (n : ℕ) (h : List Entry) → length h ≤ n → take n h ≡ h
take_whole zero [] le = refl
take_whole (suc n) [] le = refl
take_whole zero (e ∷ h) le = absurd (omega arith)
take_whole (suc n) (e ∷ h) le = ap (λ l. e ∷ l) (take_whole n h (omega arith))

-- at the end of the history the count of live transactions shows whether any is live
pub at_end : (h : List Entry) (i workers count : ℕ) → length h ≤ i → count ≡ length (live_ones (reverse (take i h)))
    → ((n : ℕ) → n ≤ i → length (live_ones (reverse (take n h))) ≤ workers) → ((nat_eq count 0 ≡ true) ↔ (FewLive h workers × AllEnded h))
at_end h i workers count whole is before = (
  (λ t. (few, (none_counted (reverse h)).0 (sym all ∙ eqb-true count 0 t))),
  λ both. eq-eqb count 0 (all ∙ (none_counted (reverse h)).1 both.1),
)
  where
    all : count ≡ length (live_ones (reverse h))
    all = is ∙ ap (λ l. length (live_ones (reverse l))) (take_whole i h whole)

    few : FewLive h workers
    few n = elim (cases_lt n (i + 1)) [
      | inl less ↦ before n (omega arith)
      | inr later ↦
          let same : take i h ≡ take n h = take_whole i h whole ∙ sym (take_whole n h (omega arith)) in
          subst (λ l. length (live_ones (reverse l)) ≤ workers) same (before i (omega arith))
    ]
