-- What a transaction that stands has read from stands, and what a committed one has read from committed before it.
use Rattle.std.proofs.Common.{◌≡◌, ◌≢◌, ℕ, Bool, true, false, cond, not, ◌⊎◌, List, [], ◌∷◌, Option, Some, None, nat_eq, refl, sym, ap, subst, inl, inr, ◌∙◌, subst₂}
use Rattle.std.proofs.lemmas.Bool.{eq-eqb, both_ways, cases_eq, not-true}
use Rattle.std.specs.List.{list_any}
use Rattle.std.specs.Option.{option_or}
use Rattle.sgt_model.specs.declared.reply.Reply.TheVariants as reply
use Rattle.sgt_model.specs.Laws.{SourcesAreCommitted, AllSourcesAreCommitted}
use Rattle.sgt_model.specs.declared.event.Event.{Event}
use Rattle.sgt_model.specs.declared.reply.Reply.{Reply}
use Rattle.sgt_model.specs.declared.reply.Fate.{Fate}
use Rattle.sgt_model.specs.declared.reply.Fate.TheVariants as fate
use Rattle.sgt_model.specs.declared.entry.Entry.{Entry}
use Rattle.sgt_model.specs.declared.kind.Kind.TheVariants.{Look}
use Rattle.sgt_model.specs.Contents.{Key}
use Rattle.sgt_model.specs.Paths.{Member, Reaches}
use Rattle.sgt_model.specs.Accesses.{Access}
use Rattle.sgt_model.specs.Fates.{ending_in, has_aborted, aborted, committed, live}
use Rattle.sgt_model.specs.Values.{newest_store}
use Rattle.sgt_model.specs.ReadFrom.{IsBy, LooksFrom, ReadFrom}
use Rattle.sgt_model.specs.Falls.{Feeds}
use Rattle.sgt_model.specs.Pairs.{has_conflicting, Precedes}
use Rattle.sgt_model.specs.Configurations.{Configuration}
use Rattle.sgt_model.specs.Progress.{reads}
use Rattle.sgt_model.specs.Legality.{Legal, HasNoLivePredecessor}
use Rattle.sgt_model.specs.CommitOrder.{CommitsBefore}
use Rattle.sgt_model.proofs.Paths.{reaches_trans}
use Rattle.sgt_model.proofs.Effects.{EndsNone, Undoing, Effect, idle, begins, accesses, commits, undoes, refuses, effect}
use Rattle.sgt_model.proofs.Facts.{live-no_fate, access-live, member_to, end_case, end-live, commit-none_live, committed-fate, committed-stays, stood-before, live-stands, live-not_committed, status, commit-case, abort-case, access-same_fate, precedes-started}
use Rattle.sgt_model.proofs.Stores.{follows_from, newest-by}

-- on reads

pub record LookedAt (past : List Entry) (o : Option Access) (t u : ℕ) : Type 0 where
  pub access : Access
  pub is : o ≡ Some access
  pub looks : access.kind ≡ Look
  pub by : access.by ≡ t
  pub source : IsBy (newest_store (λ v. not (aborted past v)) access.key past) u

pub looks-access : (past : List Entry) (o : Option Access) (t u : ℕ) → LooksFrom past o t u → LookedAt past o t u
looks-access past None t u h = absurd h
looks-access past (Some a) t u h = record { access = a; is = refl; looks = h.0; by = h.1; source = h.2 }

pub read-apart : (past : List Entry) (t u : ℕ) → ReadFrom past t u → t ≢ u
read-apart [] t u h = absurd h
read-apart (e ∷ past) t u (inl h) = h.0
read-apart (e ∷ past) t u (inr h) = read-apart past t u h

-- a write precedes the read that returned it
pub read-precedes : (past : List Entry) (t u : ℕ) → ReadFrom past t u → Precedes past u t
read-precedes [] t u h = absurd h
read-precedes (e ∷ past) t u (inl h) = let l = looks-access past _ t u h.1 in
    inl (follows_from past _ l.access u t l.is l.by (subst (λ kind. has_conflicting past u l.access.key kind ≡ true) (sym l.looks)
    (newest-by _ l.access.key past u l.source).1))
read-precedes (e ∷ past) t u (inr h) = inr (read-precedes past t u h)

-- on paths

pub reaches-step : (step : ℕ → ℕ → Type 0) (t u v : ℕ) → Reaches step t u → step u v → Reaches step t v
reaches-step step t u v r h = reaches_trans step t u v r (v ∷ [], (h, tt), refl)

-- on aborts

undoes_more : {past : List Entry} {event : Event} {r : Reply} (x : Undoing past event r) (t u : ℕ) → live past t ≡ true
    → ReadFrom past t u → (x.t ≡ u) ⊎ Member u x.fell → (x.t ≡ t) ⊎ Member t x.fell
undoes_more {past} x t u alive h hit = go (cases_eq t x.t) hit
  where
    go : ((t ≡ x.t) ⊎ (t ≡ x.t → ⊥)) → (x.t ≡ u) ⊎ Member u x.fell → (x.t ≡ t) ⊎ Member t x.fell
    go (inl e) hit = inl (sym e)
    go (inr ne) (inl e) = inr (x.falls.all t alive ne (t ∷ [], (subst (λ w. ReadFrom past t w) (sym e) h, tt), refl))
    go (inr ne) (inr m) = inr (x.falls.all t alive ne (reaches-step (Feeds past) x.t u t (x.falls.each u m).2 h))

undoes_aborts : {past : List Entry} {event : Event} {r : Reply} (x : Undoing past event r) (t : ℕ) → (x.t ≡ t) ⊎ Member t x.fell
    → has_aborted (ending_in event r t) ≡ true
undoes_aborts {past} {event} {r} x t hit = ap has_aborted (x.ends t) ∙ go (nat_eq x.t t) (list_any (λ v. nat_eq v t) x.fell) (both hit)
  where
    both : (x.t ≡ t) ⊎ Member t x.fell → (nat_eq x.t t ≡ true) ⊎ (list_any (λ v. nat_eq v t) x.fell ≡ true)
    both (inl e) = inl (eq-eqb _ _ e)
    both (inr m) = inr (member_to t x.fell m)

    go : (b c : Bool) → (b ≡ true) ⊎ (c ≡ true)
        → has_aborted (cond b (Some (fate.Aborted x.why)) (cond c (Some (fate.Fell x.t)) None)) ≡ true
    go true c h = refl
    go false true h = refl
    go false false h = elim h [ inl e ↦ e | inr e ↦ e ]

abort_wins : (o p : Option Fate) → has_aborted o ≡ true → has_aborted (option_or o p) ≡ true
abort_wins None p h = absurd (cc)
abort_wins (Some f) p h = h

-- a live transaction is aborted in cascade with what it has read from
pub falls_with : (s : Configuration) (e : Entry) (past : List Entry) → Legal s (e ∷ past) → (t u : ℕ) → live past t ≡ true
    → ReadFrom past t u → (f : Fate) → ending_in e.event e.reply u ≡ Some f → has_aborted (Some f) ≡ true → aborted (e ∷ past) t ≡ true
falls_with s e past h t u alive reads f now is =
    elim (end_case (effect s past e.event e.reply h.1) u f now) [
      | inl c ↦ absurd
          (cc (sym is ∙ ap (λ g. has_aborted (Some g)) c.fate_is))
      | inr x ↦ abort_wins _ _ (undoes_aborts x.undo t (undoes_more x.undo t u alive reads x.is))
    ]

ends_none-sources : (s : Configuration) (past : List Entry) (event : Event) (r : Reply) → EndsNone r → SourcesAreCommitted s past event r
ends_none-sources s past event (reply.Committed answers) h = absurd h
ends_none-sources s past event (reply.Refused code fell) h = absurd h
ends_none-sources s past event _ h = tt

-- the two laws of a history, which one induction proves together
record Sound (past : List Entry) : Type 0 where
  stands : (t u : ℕ) → aborted past t ≡ false → ReadFrom past t u → aborted past u ≡ false
  commits : (t u : ℕ) → committed past t ≡ true → ReadFrom past t u → (committed past u ≡ true) × CommitsBefore past u t

source_stands : (past : List Entry) (u : ℕ) (k : Key) → IsBy (newest_store (λ v. not (aborted past v)) k past) u → aborted past u ≡ false
source_stands past u k h = not-true _ (newest-by (λ v. not (aborted past v)) k past u h).0

-- a source of one that stands after an entry was not aborted in cascade at it
no_fall : (s : Configuration) (e : Entry) (past : List Entry) → Legal s (e ∷ past) → Sound past → (t u : ℕ) → aborted (e ∷ past) t ≡ false
    → ReadFrom past t u → (f : Fate) → ending_in e.event e.reply u ≡ Some f → has_aborted (Some f) ≡ true → ⊥
no_fall s e past h sound t u stands reads f now is = go (status past t (precedes-started s past h.0 u t (read-precedes past t u reads)).1)
  where
    go : (live past t ≡ true) ⊎ ((committed past t ≡ true) ⊎ (aborted past t ≡ true)) → ⊥
    go (inl alive) = both_ways _ stands (falls_with s e past h t u alive reads f now is)
    go (inr (inl c)) = live-not_committed past u (end-live s past e.event e.reply h.1 u f now) (sound.commits t u c reads).0
    go (inr (inr a)) = both_ways _ (stood-before s e past h t stands) a

stands_after : (s : Configuration) (e : Entry) (past : List Entry) → Legal s (e ∷ past) → Sound past → (t u : ℕ)
    → aborted (e ∷ past) t ≡ false → ReadFrom (e ∷ past) t u → aborted (e ∷ past) u ≡ false
stands_after s e past h sound t u stands (inl now) =
    let l = looks-access past _ t u now.1 in
    ap has_aborted (access-same_fate s e past h l.access l.is u) ∙ source_stands past u l.access.key l.source
stands_after s e past h sound t u stands (inr reads) = go (aborted (e ∷ past) u) refl
  where
    go : (b : Bool) → aborted (e ∷ past) u ≡ b → b ≡ false
    go false q = refl
    go true q = absurd (elim (abort-case e past u q) [
      | inl now ↦ no_fall s e past h sound t u stands reads now.0 now.1 now.2
      | inr before ↦ both_ways _ (sound.stands t u (stood-before s e past h t stands) reads) before
    ])

-- what a live transaction that waits for none has read from has committed
source_committed : (s : Configuration) (past : List Entry) → Legal s past → Sound past → (t u : ℕ) → live past t ≡ true
    → HasNoLivePredecessor past t → ReadFrom past t u → committed past u ≡ true
source_committed s past h sound t u t_alive none_live reads = go (status past u (precedes-started s past h u t precedes).0)
  where
    precedes : Precedes past u t
    precedes = read-precedes past t u reads

    t_stands : aborted past t ≡ false
    t_stands = live-stands past t t_alive

    u_stands : aborted past u ≡ false
    u_stands = sound.stands t u t_stands reads

    go : (live past u ≡ true) ⊎ ((committed past u ≡ true) ⊎ (aborted past u ≡ true)) → committed past u ≡ true
    go (inl alive) =
        absurd (none_live u
        (record {
          is_live = alive;
          pair = record {
            apart = λ q. read-apart past t u reads (sym q);
            first_stands = u_stands;
            second_stands = t_stands;
            precedes = precedes;
          };
        }))
    go (inr (inl c)) = c
    go (inr (inr a)) = absurd (both_ways _ u_stands a)

commits_after : (s : Configuration) (e : Entry) (past : List Entry) → Legal s (e ∷ past) → Sound past → (t u : ℕ)
    → committed (e ∷ past) t ≡ true → ReadFrom (e ∷ past) t u → (committed (e ∷ past) u ≡ true) × CommitsBefore (e ∷ past) u t
commits_after s e past h sound t u c (inl now) =
    let l = looks-access past _ t u now.1 in
    let alive = subst (λ v. live past v ≡ true) l.by (access-live s past e.event e.reply h.1 l.access l.is) in
    absurd (cc (sym (committed-fate (e ∷ past) t c) ∙ (access-same_fate s e past h l.access l.is t ∙ live-no_fate past t alive)))
commits_after s e past h sound t u c (inr reads) =
    elim (commit-case e past t c) [
      | inl now ↦ let before = source_committed s past h.0 sound t u (end-live s past e.event e.reply h.1 t fate.Committed now)
          (commit-none_live s past e.event e.reply h.1 t now) reads in
          (committed-stays s e past h u before, inl (now, before))
      | inr before ↦ let both = sound.commits t u before.1 reads in
          (committed-stays s e past h u both.0, inr both.1)
    ]

sound : (s : Configuration) (past : List Entry) → Legal s past → Sound past
sound s [] h = record { stands = λ t u q r. absurd r; commits = λ t u q r. absurd r }
sound s (e ∷ past) h = let before = sound s past h.0 in
    record { stands = λ t u. stands_after s e past h before t u; commits = λ t u. commits_after s e past h before t u }

-- who stands has read only from such as stand
pub source_of_standing_stands : (s : Configuration) (past : List Entry) → Legal s past → (t u : ℕ) → aborted past t ≡ false
    → ReadFrom past t u → aborted past u ≡ false
source_of_standing_stands s past h = (sound s past h).stands

-- a committed reader's sources are committed, and earlier
pub source_commits_before : (s : Configuration) (past : List Entry) → Legal s past → (t u : ℕ) → committed past t ≡ true
    → ReadFrom past t u → (committed past u ≡ true) × CommitsBefore past u t
source_commits_before s past h = (sound s past h).commits

-- at each reply that reports answers or a code, what its transaction has read from is committed
pub sources_are_committed : (s : Configuration) (past : List Entry) → Legal s past → AllSourcesAreCommitted s past
sources_are_committed s [] h = tt
sources_are_committed s (e ∷ past) h = (sources_are_committed s past h.0, now (effect s past e.event e.reply h.1))
  where
    now : Effect s past e.event e.reply → SourcesAreCommitted s past e.event e.reply
    now (idle i) = ends_none-sources s past e.event e.reply i.ends_none
    now (begins b) = subst (λ x. SourcesAreCommitted s past e.event x) (sym b.reply_is) tt
    now (accesses x) = ends_none-sources s past e.event e.reply x.ends_none
    now (commits c) = subst₂ (λ event r. SourcesAreCommitted s past event r) (sym c.event_is) (sym c.reply_is)
        (λ u reads. source_committed s past h.0 (sound s past h.0) c.t u c.is_live c.none_live reads)
    now (undoes x) = subst (λ r. SourcesAreCommitted s past e.event r) (sym x.reply_is) tt
    now (refuses x) = subst₂ (λ event r. SourcesAreCommitted s past event r) (sym x.event_is) (sym x.reply_is)
        (λ u reads. source_committed s past h.0 (sound s past h.0) x.undoing.t u x.undoing.is_live x.none_live reads)
