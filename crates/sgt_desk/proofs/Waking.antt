-- Which entries can make a reason to rest cease: only those that end a transaction.
use Rattle.std.proofs.Common.{◌≡◌, ℕ, ◌≤◌, Bool, true, false, cond, not, ◌&&◌, ◌||◌, nat_lt, List, [], ◌∷◌, ◌++◌, Option, Some, None, length, refl, sym, ap, subst, ◌∙◌, arith}
use Rattle.std.specs.List.{filter}
use Rattle.std.proofs.lemmas.Bool.{lt-ltb, le-ltb, ltb-true, ltb-false}
use Rattle.sgt_model.specs.declared.entry.Entry.{Entry}
use Rattle.sgt_model.specs.declared.event.Event.{Event}
use Rattle.sgt_model.specs.declared.reply.Reply.{Reply}
use Rattle.sgt_model.specs.declared.reply.Reply.TheVariants as reply
use Rattle.sgt_model.specs.declared.short_reply.ShortReply.{ShortReply}
use Rattle.sgt_model.specs.Fates.{is_start, live, live_ones, start_count, started_ones}
use Rattle.sgt_model.specs.Questions.{is_ending}
use Rattle.sgt_model.specs.ShortReplies.{short_reply}
use Rattle.sgt_model.proofs.Questions.{others_end_none}
use Rattle.sgt_desk.specs.declared.reason.Reason.{Reason}
use Rattle.sgt_desk.specs.declared.reason.Reason.TheVariants.{Turn, Full, End, Busy, Cut}
use Rattle.sgt_desk.specs.Engines.{Answered}
use Rattle.sgt_desk.specs.Desks.{DeskState, SameHistory, Wakes, ends_short, holds, is_busy}
use Rattle.sgt_desk.specs.declared.ask.Ask.{Ask}
use Rattle.sgt_desk.specs.Asks.{Rests, is_held}

-- ---- how many are live

le_trans : {a b c : ℕ} → a ≤ b → b ≤ c → a ≤ c
le_trans x y = omega (arith, x, y)

filter_more : (p q : ℕ → Bool) (l : List ℕ) → ((t : ℕ) → p t ≡ true → q t ≡ true) → length (filter p l) ≤ length (filter q l)
filter_more p q [] more = omega arith
filter_more p q (t ∷ l) more = go (p t) (q t) (more t) (filter_more p q l more)
  where
    go : (a b : Bool) → (a ≡ true → b ≡ true) → length (filter p l) ≤ length (filter q l)
        → length (cond a (t ∷ filter p l) (filter p l)) ≤ length (cond b (t ∷ filter q l) (filter q l))
    go true true m rest = omega arith
    go true false m rest = absurd (cc (m refl))
    go false true m rest = omega arith
    go false false m rest = rest

filter_longer : (p : ℕ → Bool) (l : List ℕ) (n : ℕ) → length (filter p l) ≤ length (filter p (l ++ n ∷ []))
filter_longer p [] n = omega arith
filter_longer p (t ∷ l) n = go (p t) (filter_longer p l n)
  where
    go : (a : Bool) → length (filter p l) ≤ length (filter p (l ++ n ∷ []))
        → length (cond a (t ∷ filter p l) (filter p l)) ≤ length (cond a (t ∷ filter p (l ++ n ∷ [])) (filter p (l ++ n ∷ [])))
    go true rest = omega arith
    go false rest = rest

-- an entry that ends no transaction leaves as many live as before, or one more
pub live_more : (past : List Entry) (e : Entry) → is_ending e.reply ≡ false → length (live_ones past) ≤ length (live_ones (e ∷ past))
live_more past e is = go (is_start e.reply)
  where
    now : length (live_ones past) ≤ length (filter (λ t. live (e ∷ past) t) (started_ones past))
    now = filter_more (λ t. live past t) (λ t. live (e ∷ past) t) (started_ones past) (others_end_none past e is)

    go : (b : Bool) → length (live_ones past)
        ≤ length (filter (λ t. live (e ∷ past) t) (cond b (started_ones past ++ start_count past ∷ []) (started_ones past)))
    go true = le_trans now (filter_longer (λ t. live (e ∷ past) t) (started_ones past) (start_count past))
    go false = now

-- ---- reasons

pub ends_short_is : (r : Reply) → ends_short (short_reply r) ≡ is_ending r
ends_short_is (reply.Committed answers) = refl
ends_short_is (reply.Aborted why fell) = refl
ends_short_is (reply.Refused code fell) = refl
ends_short_is _ = refl

both : (a b c d : Bool) → (a ≡ true → c ≡ true) → (b ≡ true → d ≡ true) → (a && b) ≡ true → (c && d) ≡ true
both true true c d f g h = rw (f refl, g refl) refl
both true false c d f g h = absurd cc
both false b c d f g h = absurd cc

either : (a b c d : Bool) → (a ≡ true → c ≡ true) → (b ≡ true → d ≡ true) → (a || b) ≡ true → (c || d) ≡ true
either true b c d f g h = rw (f refl) refl
either false b true d f g h = refl
either false b false d f g h = g h

not_less : (a b c : ℕ) → a ≤ b → not (nat_lt a c) ≡ true → not (nat_lt b c) ≡ true
not_less a b c le h = go (nat_lt a c) refl h
  where
    go : (x : Bool) → nat_lt a c ≡ x → not x ≡ true → not (nat_lt b c) ≡ true
    go true e n = absurd cc
    go false e n = let l = ltb-false a c e in ap not (le-ltb b c (omega arith))

more_than : (a b c : ℕ) → b ≤ c → nat_lt a b ≡ true → nat_lt a c ≡ true
more_than a b c le h = lt-ltb a c (let l = ltb-true a b h in omega arith)

-- two states: live transactions stay live, and as many calls or more are counted
module _ (a b : DeskState) (part : b.part ≡ a.part) (ended : b.ended ≡ a.ended) (committing : a.committing ≤ b.committing)
    (cutters : a.cutters ≤ b.cutters) (alive : (t : ℕ) → live a.past t ≡ true → live b.past t ≡ true)
    (count : length (live_ones a.past) ≤ length (live_ones b.past)) where
  some_live : nat_lt 0 (length (live_ones a.past)) ≡ true → nat_lt 0 (length (live_ones b.past)) ≡ true
  some_live = more_than 0 _ _ count

  busy_stays : is_busy a ≡ true → is_busy b ≡ true
  busy_stays = either _ _ _ _ some_live (more_than 0 _ _ committing)

  pub reason_stays : (r : Reason) → holds r a ≡ true → holds r b ≡ true
  reason_stays (Turn t u) h = both _ _ _ _ (alive t) (alive u) h
  reason_stays (Full n) h = not_less _ _ n count h
  reason_stays (End n) h = both _ _ _ _ (λ x. rw ended x) some_live h
  reason_stays (Busy n) h = both _ _ _ _ (λ x. rw part x) busy_stays h
  reason_stays Cut h = more_than 0 _ _ cutters h

no_less : {m n : ℕ} → n ≡ m → m ≤ n
no_less e = omega (arith, e)

-- an event that ends no transaction
pub answered_stays : (a b : DeskState) (event : Event) (short : ShortReply) → Answered a.configuration event a.past short b.past
    → ends_short short ≡ false → b.part ≡ a.part → b.ended ≡ a.ended → b.committing ≡ a.committing → b.cutters ≡ a.cutters
    → (r : Reason) → holds r a ≡ true → holds r b ≡ true
answered_stays a b event short it none part ended committing cutters = reason_stays a b part ended (no_less committing) (no_less cutters)
    (λ t l. subst (λ p. live p t ≡ true) (sym it.adds) (others_end_none a.past _ quiet t l))
    (subst (λ p. length (live_ones a.past) ≤ length (live_ones p)) (sym it.adds) (live_more a.past _ quiet))
  where
    quiet : is_ending it.reply ≡ false
    quiet = sym (ends_short_is it.reply) ∙ ap ends_short it.is_short ∙ none

-- the same history, and as many calls or more are counted
pub counted_stays : (a b : DeskState) → SameHistory a b → a.committing ≤ b.committing → a.cutters ≤ b.cutters
    → (r : Reason) → holds r a ≡ true → holds r b ≡ true
counted_stays a b same committing cutters = reason_stays a b same.part same.ended committing cutters
    (λ t l. subst (λ p. live p t ≡ true) (sym same.past) l)
    (no_less (ap (λ p. length (live_ones p)) same.past))

-- ---- a call's reason

pub held_stays : (reason : Option Reason) (a b : DeskState) → ((r : Reason) → holds r a ≡ true → holds r b ≡ true) → is_held reason a ≡ true
    → is_held reason b ≡ true
held_stays None a b stays h = absurd cc
held_stays (Some r) a b stays h = stays r h

pub rests_stay : (c d : Ask) (now : ℕ) (a b : DeskState) → ((r : Reason) → holds r a ≡ true → holds r b ≡ true) → d.reason ≡ c.reason
    → d.deadline ≡ c.deadline → Rests c now a → Rests d now b
rests_stay c d now a b stays reason deadline rests = record {
  held = rw reason (held_stays c.reason a b stays rests.held);
  in_time = rw deadline rests.in_time;
}

-- ---- one change after another

pub wakes_on : (a b c : DeskState) (first last : Bool) → Wakes a b first → Wakes b c last → (first ≡ true → last ≡ true) → Wakes a c last
wakes_on a b c first last one other on r before after = go (holds r b) refl
  where
    go : (x : Bool) → holds r b ≡ x → last ≡ true
    go true e = other r e after
    go false e = on (one r before e)

-- nothing has ceased
pub wakes_none : (a b : DeskState) (last : Bool) → ((r : Reason) → holds r a ≡ true → holds r b ≡ true) → Wakes a b last
wakes_none a b last stays r before after = absurd (cc (sym (stays r before) ∙ after))
