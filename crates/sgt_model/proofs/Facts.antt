-- Basic facts of legal histories: which transactions are live at an entry; fates stay; only started transactions act.
-- on options
use Rattle.std.proofs.Common.{◌++◌, ◌≡◌, ◌≢◌, ℕ, ◌+◌, ◌<◌, ◌≤◌, Bool, true, false, cond, ◌⊎◌, List, [], ◌∷◌, Option, Some, None, is_none, nat_eq, refl, sym, ap, ap₂, subst, inl, inr, ◌∙◌, arith, lt_of_lt_of_le, le_refl}
use Rattle.std.proofs.lemmas.Bool.{and_from, and_parts, or_cases, ltb-true, lt-ltb, eqb-true, eq-eqb, ne_eqb, both_ways, or_left, or_right}
use Rattle.std.specs.List.{list_any}
use Rattle.std.specs.Option.{option_or, unwrap_or}
use Rattle.sgt_model.specs.declared.event.Event.{Event}
use Rattle.sgt_model.specs.declared.reply.Reply.{Reply}
use Rattle.sgt_model.specs.declared.reply.Fate.{Fate}
use Rattle.sgt_model.specs.declared.reply.Fate.TheVariants as fate
use Rattle.sgt_model.specs.declared.entry.Entry.{Entry}
use Rattle.sgt_model.specs.declared.kind.Kind.{Kind}
use Rattle.sgt_model.specs.declared.kind.Kind.TheVariants.{Look}
use Rattle.sgt_model.specs.Contents.{Key, key_eq}
use Rattle.sgt_model.specs.Paths.{Member}
use Rattle.sgt_model.specs.Accesses.{Access, access_in, access_of}
use Rattle.sgt_model.specs.Fates.{is_start, start_count, ending_in, fate_of, has_committed, has_aborted, aborted, committed, live}
use Rattle.sgt_model.specs.Values.{visible}
use Rattle.sgt_model.specs.Pairs.{one_stores, conflicts, has_conflicting, FollowsIn, Precedes}
use Rattle.sgt_model.specs.Closes.{Closes}
use Rattle.sgt_model.specs.Configurations.{Configuration}
use Rattle.sgt_model.specs.Progress.{call_at, call_in, call_of, next_of}
use Rattle.sgt_model.specs.Legality.{HasNoLivePredecessor, LegalReply, Legal}
use Rattle.sgt_model.specs.Replay.{reported_call_in, reported_in}
use Rattle.sgt_model.specs.Laws.{CommitAgrees}
use Rattle.sgt_model.proofs.Effects.{Made, EndsNone, ends_none-no_end, ends_none-no_call, ends_none-reports_none, ends_none-agrees, no_start-no_call, Begins, Accesses, Commits, Undoing, Undoes, Effect, idle, begins, accesses, commits, undoes, Refusal, refuses, none_from, effect}

-- on options

pub some_is : {A : Type 0} (x y : A) → Some x ≡ Some y → x ≡ y
some_is x y e = cc

pub option_or-cases : {A : Type 0} (x y : Option A) (f : A) → option_or x y ≡ Some f → (x ≡ Some f) ⊎ ((x ≡ None) × (y ≡ Some f))
option_or-cases None y f e = inr (refl, e)
option_or-cases (Some g) y f e = inl e

pub option_or-at_none : {A : Type 0} (x y : Option A) → x ≡ None → option_or x y ≡ y
option_or-at_none x y e = ap (λ z. option_or z y) e

pub option_or-none : {A : Type 0} (x y : Option A) → option_or x y ≡ None → (x ≡ None) × (y ≡ None)
option_or-none None y e = (refl, e)
option_or-none (Some g) y e = absurd (cc)

pub none_unless : {A : Type 0} (x : Option A) → ((g : A) → x ≡ Some g → ⊥) → x ≡ None
none_unless None h = refl
none_unless (Some g) h = absurd (h g refl)

-- on one entry

pub live-started : (past : List Entry) (t : ℕ) → live past t ≡ true → t < start_count past
live-started past t h = ltb-true t (start_count past) (and_parts _ _ h).0

pub live-no_fate : (past : List Entry) (t : ℕ) → live past t ≡ true → fate_of past t ≡ None
live-no_fate past t h = none_from _ (and_parts _ _ h).1

pub live_from : (past : List Entry) (t : ℕ) → t < start_count past → fate_of past t ≡ None → live past t ≡ true
live_from past t started open_still = and_from _ _ (lt-ltb t (start_count past) started) (ap is_none open_still)

Commits-ends : {s : Configuration} {past : List Entry} {event : Event} {r : Reply} (c : Commits s past event r) (u : ℕ)
    → ending_in event r u ≡ cond (nat_eq c.t u) (Some fate.Committed) None
Commits-ends {s} {past} {event} {r} c u = ap₂ (λ x y. ending_in x y u) c.event_is c.reply_is

Commits-no_access : {s : Configuration} {past : List Entry} {event : Event} {r : Reply} → Commits s past event r → access_in event r ≡ None
Commits-no_access {s} {past} {event} {r} c = ap (λ x. access_in event x) c.reply_is

Begins-no_access : {s : Configuration} {past : List Entry} {event : Event} {r : Reply} → Begins s past event r → access_in event r ≡ None
Begins-no_access {s} {past} {event} {r} b = ap (λ x. access_in event x) b.reply_is

Begins-no_end : {s : Configuration} {past : List Entry} {event : Event} {r : Reply} → Begins s past event r → (u : ℕ)
    → ending_in event r u ≡ None
Begins-no_end {s} {past} {event} {r} b u = ap (λ x. ending_in event x u) b.reply_is

Undoes-no_access : {s : Configuration} {past : List Entry} {event : Event} {r : Reply} → Undoes s past event r → access_in event r ≡ None
Undoes-no_access {s} {past} {event} {r} x = ap (λ y. access_in event y) x.reply_is

Refusal-no_access : {s : Configuration} {past : List Entry} {event : Event} {r : Reply} → Refusal s past event r → access_in event r ≡ None
Refusal-no_access {s} {past} {event} {r} x = ap (λ y. access_in event y) x.reply_is

access_case : {s : Configuration} {past : List Entry} {event : Event} {r : Reply} → Effect s past event r → (a : Access)
    → access_in event r ≡ Some a → (x : Accesses s past event r) × (x.access ≡ a)
access_case (idle i) a e = absurd (cc (sym i.no_access ∙ e))
access_case (begins b) a e = absurd (cc (sym (Begins-no_access b) ∙ e))
access_case (accesses x) a e = (x, some_is _ _ (sym x.access_is ∙ e))
access_case (commits c) a e = absurd (cc (sym (Commits-no_access c) ∙ e))
access_case (undoes x) a e = absurd (cc (sym (Undoes-no_access x) ∙ e))
access_case (refuses x) a e = absurd (cc (sym (Refusal-no_access x) ∙ e))

-- an access is by a live transaction
pub access-live : (s : Configuration) (past : List Entry) (event : Event) (r : Reply) → LegalReply s past event r → (a : Access)
    → access_in event r ≡ Some a → live past a.by ≡ true
access-live s past event r h a e = let x = access_case (effect s past event r h) a e in
    subst (λ (b : Access). live past b.by ≡ true) x.1 x.0.is_live

-- and closes no cycle
pub access-free : (s : Configuration) (past : List Entry) (event : Event) (r : Reply) → LegalReply s past event r → (a : Access)
    → access_in event r ≡ Some a → (rest : List ℕ) → Closes past a.by a.key a.kind rest → ⊥
access-free s past event r h a e = let x = access_case (effect s past event r h) a e in
    subst (λ (b : Access). (rest : List ℕ) → Closes past b.by b.key b.kind rest → ⊥) x.1 x.0.free

-- and is what comes next, or what the caller requested at the end
pub access-fits : (s : Configuration) (past : List Entry) (event : Event) (r : Reply) → LegalReply s past event r → (a : Access)
    → access_in event r ≡ Some a → Made (next_of s past a.by) event a
access-fits s past event r h a e = let x = access_case (effect s past event r h) a e in
    subst (λ (b : Access). Made (next_of s past b.by) event b) x.1 x.0.made

-- and where it is a read, returned what was visible
pub look-found : (s : Configuration) (past : List Entry) (event : Event) (r : Reply) → LegalReply s past event r → (a : Access)
    → access_in event r ≡ Some a → a.kind ≡ Look → a.value ≡ visible s.opening past a.key
look-found s past event r h a e = let x = access_case (effect s past event r h) a e in
    subst (λ (b : Access). b.kind ≡ Look → b.value ≡ visible s.opening past b.key) x.1 x.0.found

-- and ends none
pub access-no_end : (s : Configuration) (past : List Entry) (event : Event) (r : Reply) → LegalReply s past event r → (a : Access)
    → access_in event r ≡ Some a → (u : ℕ) → ending_in event r u ≡ None
access-no_end s past event r h a e u = ends_none-no_end event r (access_case (effect s past event r h) a e).0.ends_none u

pub member_from : (u : ℕ) (l : List ℕ) → list_any (λ v. nat_eq v u) l ≡ true → Member u l
member_from u [] e = absurd (cc)
member_from u (v ∷ l) e = elim (or_cases (nat_eq v u) (list_any (λ w. nat_eq w u) l) e) [
  | inl h ↦ inl (sym (eqb-true v u h))
  | inr h ↦ inr (member_from u l h)
]

pub member_to : (u : ℕ) (l : List ℕ) → Member u l → list_any (λ v. nat_eq v u) l ≡ true
member_to u [] h = absurd h
member_to u (v ∷ l) (inl e) = or_left (nat_eq v u) _ (eq-eqb v u (sym e))
member_to u (v ∷ l) (inr h) = or_right (nat_eq v u) _ (member_to u l h)

ends_at : (a t : ℕ) (x f : Fate) → cond (nat_eq a t) (Some x) None ≡ Some f → (a ≡ t) × (x ≡ f)
ends_at a t x f e = go (nat_eq a t) refl e
  where
    go : (b : Bool) → nat_eq a t ≡ b → cond b (Some x) None ≡ Some f → (a ≡ t) × (x ≡ f)
    go true h e = (eqb-true a t h, some_is x f e)
    go false h e = absurd (cc)

undone_at : (b c : Bool) (x y f : Fate) → has_aborted (Some x) ≡ true → has_aborted (Some y) ≡ true
    → cond b (Some x) (cond c (Some y) None) ≡ Some f → ((b ≡ true) ⊎ (c ≡ true)) × (has_aborted (Some f) ≡ true)
undone_at true c x y f hx hy e = (inl refl, ap has_aborted (sym e) ∙ hx)
undone_at false true x y f hx hy e = (inr refl, ap has_aborted (sym e) ∙ hy)
undone_at false false x y f hx hy e = absurd (cc)

pub record Ended (s : Configuration) (past : List Entry) (event : Event) (r : Reply) (t : ℕ) (f : Fate) : Type 0 where
  pub commit : Commits s past event r
  pub is : commit.t ≡ t
  pub fate_is : f ≡ fate.Committed

pub record Undone (past : List Entry) (event : Event) (r : Reply) (t : ℕ) (f : Fate) : Type 0 where
  pub undo : Undoing past event r
  pub is : (undo.t ≡ t) ⊎ Member t undo.fell
  pub is_abort : has_aborted (Some f) ≡ true

pub undone_case : {past : List Entry} {event : Event} {r : Reply} (x : Undoing past event r) (t : ℕ) (f : Fate)
    → ending_in event r t ≡ Some f → Undone past event r t f
undone_case x t f e =
    let h = undone_at (nat_eq x.t t) (list_any (λ v. nat_eq v t) x.fell) _ _ f refl refl (sym (x.ends t) ∙ e) in
    record { undo = x; is = elim h.0 [ inl q ↦ inl (eqb-true x.t t q) | inr q ↦ inr (member_from t x.fell q) ]; is_abort = h.1 }

-- what ended a transaction: its commit, or an abort
pub end_case : {s : Configuration} {past : List Entry} {event : Event} {r : Reply} → Effect s past event r → (t : ℕ) (f : Fate)
    → ending_in event r t ≡ Some f → Ended s past event r t f ⊎ Undone past event r t f
end_case {event = event} {r = r} (idle i) t f e = absurd (cc (sym (ends_none-no_end event r i.ends_none t) ∙ e))
end_case (begins b) t f e = absurd (cc (sym (Begins-no_end b t) ∙ e))
end_case {event = event} {r = r} (accesses x) t f e = absurd (cc (sym (ends_none-no_end event r x.ends_none t) ∙ e))
end_case (commits c) t f e = let h = ends_at c.t t _ f (sym (Commits-ends c t) ∙ e) in
    inl (record { commit = c; is = h.0; fate_is = sym h.1 })
end_case (undoes x) t f e = inr (undone_case x.undoing t f e)
end_case (refuses x) t f e = inr (undone_case x.undoing t f e)

pub end_live : {s : Configuration} {past : List Entry} {event : Event} {r : Reply} (t : ℕ) (f : Fate)
    → Ended s past event r t f ⊎ Undone past event r t f → live past t ≡ true
end_live {past = past} t f (inl h) = subst (λ u. live past u ≡ true) h.is h.commit.is_live
end_live {past = past} t f (inr h) = elim h.is [
  | inl q ↦ subst (λ u. live past u ≡ true) q h.undo.is_live
  | inr q ↦ (h.undo.falls.each t q).0
]

-- what an entry ends was live
pub end-live : (s : Configuration) (past : List Entry) (event : Event) (r : Reply) → LegalReply s past event r → (t : ℕ) (f : Fate)
    → ending_in event r t ≡ Some f → live past t ≡ true
end-live s past event r h t f e = end_live t f (end_case (effect s past event r h) t f e)

-- what has ended is not ended again
pub ended-no_end : (s : Configuration) (past : List Entry) (event : Event) (r : Reply) → LegalReply s past event r → (t : ℕ) (f : Fate)
    → fate_of past t ≡ Some f → ending_in event r t ≡ None
ended-no_end s past event r h t f e = none_unless _ (λ g q. absurd (cc (sym (live-no_fate past t (end-live s past event r h t g q)) ∙ e)))

-- a transaction that commits had no live one before it, and no other ends with it
pub commit-none_live : (s : Configuration) (past : List Entry) (event : Event) (r : Reply) → LegalReply s past event r → (t : ℕ)
    → ending_in event r t ≡ Some fate.Committed → HasNoLivePredecessor past t
commit-none_live s past event r h t e =
    elim (end_case (effect s past event r h) t fate.Committed e) [
      | inl q ↦ subst (λ u. HasNoLivePredecessor past u) q.is q.commit.none_live
      | inr q ↦ absurd (cc q.is_abort)
    ]

pub commit-no_end : (s : Configuration) (past : List Entry) (event : Event) (r : Reply) → LegalReply s past event r → (t : ℕ)
    → ending_in event r t ≡ Some fate.Committed → (u : ℕ) → t ≢ u → ending_in event r u ≡ None
commit-no_end s past event r h t e u apart =
    elim (end_case (effect s past event r h) t fate.Committed e) [
      | inl q ↦ Commits-ends q.commit u
          ∙ ap (λ b. cond b (Some fate.Committed) None) (ne_eqb q.commit.t u (λ x. apart (sym q.is ∙ x)))
      | inr q ↦ absurd (cc q.is_abort)
    ]

-- on a whole history

starts_at : (b : Bool) (n : ℕ) → n ≤ cond b (n + 1) n
starts_at true n = omega arith
starts_at false n = le_refl n

pub starts-grow : (e : Entry) (past : List Entry) → start_count past ≤ start_count (e ∷ past)
starts-grow e past = starts_at (is_start e.reply) (start_count past)

pub started-stays : (e : Entry) (past : List Entry) (t : ℕ) → t < start_count past → t < start_count (e ∷ past)
started-stays e past t h = lt_of_lt_of_le h (starts-grow e past)

-- a fate is final
pub fate-final : (s : Configuration) (e : Entry) (past : List Entry) → Legal s (e ∷ past) → (t : ℕ) (f : Fate) → fate_of past t ≡ Some f
    → fate_of (e ∷ past) t ≡ Some f
fate-final s e past h t f ended = option_or-at_none _ _ (ended-no_end s past e.event e.reply h.1 t f ended) ∙ ended

-- what has ended was started
pub ended-started : (s : Configuration) (past : List Entry) → Legal s past → (t : ℕ) (f : Fate) → fate_of past t ≡ Some f
    → t < start_count past
ended-started s [] h t f ended = absurd (cc)
ended-started s (e ∷ past) h t f ended =
    elim (option_or-cases _ _ f ended) [
      | inl now ↦ started-stays e past t
          (live-started past t (end-live s past e.event e.reply h.1 t f now))
      | inr before ↦ started-stays e past t (ended-started s past h.0 t f before.1)
    ]

pub unstarted-no_fate : (s : Configuration) (past : List Entry) → Legal s past → (t : ℕ) → start_count past ≤ t → fate_of past t ≡ None
unstarted-no_fate s past h t unstarted = none_unless _ (λ f ended. let started = ended-started s past h t f ended in omega arith)

-- what is live after an entry was live before it, or was started by it
pub live-before : (e : Entry) (past : List Entry) (t : ℕ) → live (e ∷ past) t ≡ true → t < start_count past → live past t ≡ true
live-before e past t alive started = live_from past t started (option_or-none _ _ (live-no_fate (e ∷ past) t alive)).1

pub committed-fate : (past : List Entry) (t : ℕ) → committed past t ≡ true → fate_of past t ≡ Some fate.Committed
committed-fate past t h = go (fate_of past t) h
  where
    go : (o : Option Fate) → has_committed o ≡ true → o ≡ Some fate.Committed
    go None h = absurd (cc)
    go (Some fate.Committed) h = refl
    go (Some (fate.Aborted why)) h = absurd (cc)
    go (Some (fate.Fell u)) h = absurd (cc)

pub committed-stays : (s : Configuration) (e : Entry) (past : List Entry) → Legal s (e ∷ past) → (t : ℕ) → committed past t ≡ true
    → committed (e ∷ past) t ≡ true
committed-stays s e past h t c = ap has_committed (fate-final s e past h t fate.Committed (committed-fate past t c))

aborted_fate : (o : Option Fate) → has_aborted o ≡ true → (f : Fate) × (o ≡ Some f)
aborted_fate None h = absurd (cc)
aborted_fate (Some f) h = (f, refl)

pub aborted-fate : (past : List Entry) (t : ℕ) → aborted past t ≡ true
    → (f : Fate) × (fate_of past t ≡ Some f) × (has_aborted (Some f) ≡ true)
aborted-fate past t h = let a = aborted_fate (fate_of past t) h in (a.0, a.1, sym (ap has_aborted a.1) ∙ h)

pub aborted-stays : (s : Configuration) (e : Entry) (past : List Entry) → Legal s (e ∷ past) → (t : ℕ) → aborted past t ≡ true
    → aborted (e ∷ past) t ≡ true
aborted-stays s e past h t a = let f = aborted-fate past t a in ap has_aborted (fate-final s e past h t f.0 f.1) ∙ f.2

-- the other way: what is not aborted after an entry was not aborted before it
pub stood-before : (s : Configuration) (e : Entry) (past : List Entry) → Legal s (e ∷ past) → (t : ℕ) → aborted (e ∷ past) t ≡ false
    → aborted past t ≡ false
stood-before s e past h t stands = go (aborted past t) refl
  where
    go : (b : Bool) → aborted past t ≡ b → b ≡ false
    go false q = refl
    go true q = absurd (both_ways _ stands (aborted-stays s e past h t q))

pub live-stands : (past : List Entry) (t : ℕ) → live past t ≡ true → aborted past t ≡ false
live-stands past t h = ap has_aborted (live-no_fate past t h)

pub live-not_committed : (past : List Entry) (t : ℕ) → live past t ≡ true → committed past t ≡ true → ⊥
live-not_committed past t h c = both_ways _ (ap has_committed (live-no_fate past t h)) c

pub committed-stands : (past : List Entry) (t : ℕ) → committed past t ≡ true → aborted past t ≡ false
committed-stands past t h = ap has_aborted (committed-fate past t h)

-- a started transaction is live, committed or aborted
pub status : (past : List Entry) (t : ℕ) → t < start_count past
    → (live past t ≡ true) ⊎ ((committed past t ≡ true) ⊎ (aborted past t ≡ true))
status past t started = go (fate_of past t) refl
  where
    go : (o : Option Fate) → fate_of past t ≡ o → (live past t ≡ true) ⊎ ((committed past t ≡ true) ⊎ (aborted past t ≡ true))
    go None e = inl (live_from past t started e)
    go (Some fate.Committed) e = inr (inl (ap has_committed e))
    go (Some (fate.Aborted why)) e = inr (inr (ap has_aborted e))
    go (Some (fate.Fell u)) e = inr (inr (ap has_aborted e))

-- a started one that is neither live nor aborted is committed
pub committed_else : (past : List Entry) (t : ℕ) → t < start_count past → (live past t ≡ true → ⊥) → aborted past t ≡ false
    → committed past t ≡ true
committed_else past t started not_live stands = elim (status past t started) [
  | inl alive ↦ absurd (not_live alive)
  | inr (inl c) ↦ c
  | inr (inr a) ↦ absurd (both_ways _ stands a)
]

-- committed now or before
pub commit-case : (e : Entry) (past : List Entry) (t : ℕ) → committed (e ∷ past) t ≡ true
    → (ending_in e.event e.reply t ≡ Some fate.Committed) ⊎ ((ending_in e.event e.reply t ≡ None) × (committed past t ≡ true))
commit-case e past t h = elim (option_or-cases _ _ _ (committed-fate (e ∷ past) t h)) [
  | inl now ↦ inl now
  | inr before ↦ inr (before.0, ap has_committed before.1)
]

-- aborted now or before
pub abort-case : (e : Entry) (past : List Entry) (t : ℕ) → aborted (e ∷ past) t ≡ true
    → ((f : Fate) × (ending_in e.event e.reply t ≡ Some f) × (has_aborted (Some f) ≡ true)) ⊎ (aborted past t ≡ true)
abort-case e past t h = let a = aborted-fate (e ∷ past) t h in elim (option_or-cases _ _ _ a.1) [
  | inl now ↦ inl (a.0, now, a.2)
  | inr before ↦ inr (ap has_aborted before.1 ∙ a.2)
]

-- at an access no fate changes
pub access-same_fate : (s : Configuration) (e : Entry) (past : List Entry) → Legal s (e ∷ past) → (a : Access) → access_of e ≡ Some a
    → (t : ℕ) → fate_of (e ∷ past) t ≡ fate_of past t
access-same_fate s e past h a is t = option_or-at_none _ _ (access-no_end s past e.event e.reply h.1 a is t)

-- on accesses

pub record Conflicting (o : Option Access) (t : ℕ) (k : Key) (kind : Kind) : Type 0 where
  pub access : Access
  pub is : o ≡ Some access
  pub by : access.by ≡ t
  pub same_key : key_eq access.key k ≡ true
  pub one_stores : one_stores access.kind kind ≡ true

pub conflicts-access : (o : Option Access) (t : ℕ) (k : Key) (kind : Kind) → conflicts o t k kind ≡ true → Conflicting o t k kind
conflicts-access None t k kind h = absurd (cc)
conflicts-access (Some a) t k kind h = let p = and_parts _ _ h in let q = and_parts _ _ p.1 in
    record { access = a; is = refl; by = eqb-true a.by t p.0; same_key = q.0; one_stores = q.1 }

pub record Follows (past : List Entry) (o : Option Access) (t u : ℕ) : Type 0 where
  pub access : Access
  pub is : o ≡ Some access
  pub by : access.by ≡ u
  pub access_list : has_conflicting past t access.key access.kind ≡ true

pub follows-access : (past : List Entry) (o : Option Access) (t u : ℕ) → FollowsIn past o t u → Follows past o t u
follows-access past None t u h = absurd h
follows-access past (Some a) t u h = record { access = a; is = refl; by = h.0; access_list = h.1 }

-- a transaction with an access was started, so unstarted transactions have none
pub has_conflicting-started : (s : Configuration) (past : List Entry) → Legal s past → (t : ℕ) (k : Key) (kind : Kind)
    → has_conflicting past t k kind ≡ true → t < start_count past
has_conflicting-started s [] h t k kind q = absurd (cc)
has_conflicting-started s (e ∷ past) h t k kind q = elim (or_cases _ _ q) [
  | inl now ↦ let c = conflicts-access _ t k kind now in
      started-stays e past t
      (subst (λ u. u < start_count past) c.by (live-started past _ (access-live s past e.event e.reply h.1 c.access c.is)))
  | inr before ↦ started-stays e past t (has_conflicting-started s past h.0 t k kind before)
]

pub precedes-started : (s : Configuration) (past : List Entry) → Legal s past → (t u : ℕ) → Precedes past t u
    → (t < start_count past) × (u < start_count past)
precedes-started s [] h t u p = absurd p
precedes-started s (e ∷ past) h t u (inl now) = let f = follows-access past (access_of e) t u now in (
  started-stays e past t (has_conflicting-started s past h.0 t _ _ f.access_list),
  started-stays e past u
      (subst (λ v. v < start_count past) f.by (live-started past _ (access-live s past e.event e.reply h.1 f.access f.is))),
)
precedes-started s (e ∷ past) h t u (inr before) = let p = precedes-started s past h.0 t u before in
    (started-stays e past t p.0, started-stays e past u p.1)

-- an entry that commits and refuses no transaction
pub record Uncommitted (s : Configuration) (past : List Entry) (event : Event) (r : Reply) : Type 0 where
  pub no_call : reported_call_in past event r ≡ []
  pub reports_none : reported_in r ≡ []
  pub no_commit : (u : ℕ) → ending_in event r u ≡ Some fate.Committed → ⊥
  pub agrees : CommitAgrees s past event r

uncommitted : (s : Configuration) (past : List Entry) (event : Event) (r : Reply) → EndsNone r → Uncommitted s past event r
uncommitted s past event r h = record {
  no_call = ends_none-no_call past event r h;
  reports_none = ends_none-reports_none r h;
  no_commit = λ u e. cc (sym (ends_none-no_end event r h u) ∙ e);
  agrees = ends_none-agrees s past event r h;
}

undone_uncommitted : (s : Configuration) (past : List Entry) (event : Event) (r : Reply) → Undoes s past event r
    → Uncommitted s past event r
undone_uncommitted s past event r x = record {
  no_call = ap (λ y. reported_call_in past event y) x.reply_is;
  reports_none = ap reported_in x.reply_is;
  no_commit = λ u e. no_commit u (end_case (undoes x) u fate.Committed e);
  agrees = subst (λ y. CommitAgrees s past event y) (sym x.reply_is) tt;
}
  where
    no_commit : (u : ℕ) → Ended s past event r u fate.Committed ⊎ Undone past event r u fate.Committed → ⊥
    no_commit u (inl c) = cc (sym x.reply_is ∙ c.commit.reply_is)
    no_commit u (inr y) = cc y.is_abort

pub commits_or_not : {s : Configuration} {past : List Entry} {event : Event} {r : Reply} → Effect s past event r
    → Commits s past event r ⊎ (Refusal s past event r ⊎ Uncommitted s past event r)
commits_or_not {s} {past} {event} {r} (idle i) = inr (inr (uncommitted s past event r i.ends_none))
commits_or_not {s} {past} {event} {r} (begins b) =
    inr (inr (subst (λ x. Uncommitted s past event x) (sym b.reply_is) (uncommitted s past event _ tt)))
commits_or_not {s} {past} {event} {r} (accesses x) = inr (inr (uncommitted s past event r x.ends_none))
commits_or_not (commits c) = inl c
commits_or_not {s} {past} {event} {r} (undoes x) = inr (inr (undone_uncommitted s past event r x))
commits_or_not (refuses x) = inr (inl x)

-- the call of a transaction that was started stays
call_in-kept : {s : Configuration} {past : List Entry} {event : Event} {r : Reply} → Effect s past event r → (t : ℕ) → t < start_count past
    → call_in event r t ≡ None
call_in-kept {s} {past} {event} {r} (idle i) t h = no_start-no_call event r i.no_start t
call_in-kept {s} {past} {event} {r} (begins b) t h = ap (λ x. call_in event x t) b.reply_is ∙ ap (λ c. cond c (call_at event) None)
    (ne_eqb (start_count past) t (λ e. omega arith))
call_in-kept {s} {past} {event} {r} (accesses x) t h = no_start-no_call event r x.no_start t
call_in-kept {s} {past} {event} {r} (commits c) t h = ap (λ x. call_in event x t) c.reply_is
call_in-kept {s} {past} {event} {r} (undoes x) t h = ap (λ y. call_in event y t) x.reply_is
call_in-kept {s} {past} {event} {r} (refuses x) t h = ap (λ y. call_in event y t) x.reply_is

pub call-kept : (s : Configuration) (past : List Entry) (e : Entry) (t : ℕ) → LegalReply s past e.event e.reply → t < start_count past
    → call_of (e ∷ past) t ≡ call_of past t
call-kept s past e t h started = ap (λ x. unwrap_or x (call_of past t)) (call_in-kept (effect s past e.event e.reply h) t started)

-- finality over several entries

pub legal_older : (s : Configuration) (newer older : List Entry) → Legal s (newer ++ older) → Legal s older
legal_older s [] older h = h
legal_older s (e ∷ newer) older h = legal_older s newer older h.0

pub aborts-stay : (s : Configuration) (newer older : List Entry) (u : ℕ) → Legal s (newer ++ older) → aborted older u ≡ true
    → aborted (newer ++ older) u ≡ true
aborts-stay s [] older u legal h = h
aborts-stay s (e ∷ newer) older u legal h = aborted-stays s e (newer ++ older) legal u (aborts-stay s newer older u legal.0 h)
