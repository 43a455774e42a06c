-- Reply order keeps real time.
use Rattle.std.specs.Prelude.{◌≡◌, ℕ, ◌<◌, true, cond, nat_eq, ◌⊎◌, List, [], ◌∷◌, ◌++◌, map, Option, Some, None}
use Rattle.std.proofs.Common.{refl, sym, ap, ap₂, ◌∙◌, subst, inl, inr, ⊎_elim}
use Rattle.std.proofs.lemmas.Bool.{cases_eq, eq-eqb}
use Rattle.std.proofs.lemmas.List.{map-append}
use Rattle.std.specs.Option.{option_or}
use Rattle.sgt_model.specs.declared.event.Event.{Event}
use Rattle.sgt_model.specs.declared.reply.Reply.{Reply}
use Rattle.sgt_model.specs.declared.reply.Reply.TheVariants as reply
use Rattle.sgt_model.specs.declared.reply.Fate.{Fate}
use Rattle.sgt_model.specs.declared.reply.Fate.TheVariants as fate
use Rattle.sgt_model.specs.declared.entry.Entry.{Entry}
use Rattle.sgt_model.specs.Accesses.{Access, access_of}
use Rattle.sgt_model.specs.Runs.{CallerAccess}
use Rattle.sgt_model.specs.Paths.{Member, Distinct, StandsBefore}
use Rattle.sgt_model.specs.Fates.{start_count, ending_in, fate_of, live}
use Rattle.sgt_model.specs.Configurations.{Configuration}
use Rattle.sgt_model.specs.Progress.{Call, caller_access_in, caller_accesses, with_caller_accesses}
use Rattle.sgt_model.specs.Replay.{reported_call_in, reported_calls}
use Rattle.sgt_model.specs.Legality.{LegalReply, Legal}
use Rattle.sgt_model.proofs.Effects.{EndsNone, Effect, idle, begins, accesses, commits, undoes, refuses, effect}
use Rattle.sgt_model.proofs.Facts.{live-no_fate, live-started, live_from, fate-final, ended-started, option_or-at_none, started-stays, access-live, access-no_end, call-kept, end-live}
use Rattle.sgt_model.proofs.Plays.{caller_access_if, caller_access_in-is, caller_access_if-none, caller_access_if-other}
use Rattle.sgt_model.proofs.Questions.{started_are_live}
use Rattle.sgt_model.proofs.Replays.{is_serializable}
use Rattle.sgt_progress.specs.RealTime.{reported_one_in, reported_ones, whole_call, EndsBeforeStart, ReplayKeepsRealTime}

-- what an entry reports

-- an entry reports the end of one live transaction, which ends there; or of none
record ReportsOne (past : List Entry) (event : Event) (r : Reply) : Type 0 where
  t : ℕ
  is : reported_one_in event r ≡ t ∷ []
  fate_is : Fate
  ends : ending_in event r t ≡ Some fate_is

ends_none-reported_one : (event : Event) (r : Reply) → EndsNone r → reported_one_in event r ≡ []
ends_none-reported_one event (reply.Committed answers) h = absurd h
ends_none-reported_one event (reply.Refused code fell) h = absurd h
ends_none-reported_one event _ h = refl

own_end : {A : Type 0} (t : ℕ) (x y : A) → cond (nat_eq t t) x y ≡ x
own_end t x y = ap (λ b. cond b x y) (eq-eqb t t refl)

reports : (s : Configuration) (past : List Entry) (event : Event) (r : Reply) → LegalReply s past event r
    → (reported_one_in event r ≡ []) ⊎ ReportsOne past event r
reports s past event r h = by_effect (effect s past event r h)
  where
    by_effect : Effect s past event r → (reported_one_in event r ≡ []) ⊎ ReportsOne past event r
    by_effect (idle i) = inl (ends_none-reported_one event r i.ends_none)
    by_effect (begins b) = inl (ap (reported_one_in event) b.reply_is)
    by_effect (accesses x) = inl (ends_none-reported_one event r x.ends_none)
    by_effect (commits c) = inr (record {
      t = c.t;
      is = ap₂ reported_one_in c.event_is c.reply_is;
      fate_is = fate.Committed;
      ends = ap₂ (λ v q. ending_in v q c.t) c.event_is c.reply_is ∙ own_end c.t _ _;
    })
    by_effect (undoes x) = inl (ap (reported_one_in event) x.reply_is)
    by_effect (refuses x) = inr (record {
      t = x.undoing.t;
      is = ap₂ reported_one_in x.event_is x.reply_is;
      fate_is = fate.Aborted x.undoing.why;
      ends = x.undoing.ends x.undoing.t ∙ own_end x.undoing.t _ _;
    })

-- of a history

-- one that was reported has ended
reported-ended : (s : Configuration) (past : List Entry) → Legal s past → (t : ℕ) → Member t (reported_ones past) → (f : Fate)
    × (fate_of past t ≡ Some f)
reported-ended s [] legal t m = absurd m
reported-ended s (e ∷ past) legal t m = go (reported-ended s past legal.0 t) (reports s past e.event e.reply legal.1)
  where
    before : ((f : Fate) × (fate_of past t ≡ Some f)) → (f : Fate) × (fate_of (e ∷ past) t ≡ Some f)
    before (f, is) = (f, fate-final s e past legal t f is)

    go : (Member t (reported_ones past) → (f : Fate) × (fate_of past t ≡ Some f))
        → (reported_one_in e.event e.reply ≡ []) ⊎ ReportsOne past e.event e.reply
        → (f : Fate) × (fate_of (e ∷ past) t ≡ Some f)
    go rest (inl none) = before (rest (subst (λ l. Member t (l ++ reported_ones past)) none m))
    go rest (inr w) = elim (subst (λ l. Member t (l ++ reported_ones past)) w.is m) [
      | inl now ↦ (w.fate_is, ap (λ u. fate_of (e ∷ past) u) now ∙ ap (λ o. option_or o (fate_of past w.t)) w.ends)
      | inr m ↦ before (rest m)
    ]

pub reported-started : (s : Configuration) (past : List Entry) → Legal s past → (t : ℕ) → Member t (reported_ones past)
    → t < start_count past
reported-started s past legal t m = let f = reported-ended s past legal t m in ended-started s past legal t f.0 f.1

reported-not_live : (s : Configuration) (past : List Entry) → Legal s past → (t : ℕ) → Member t (reported_ones past) → live past t
    ≡ true → ⊥
reported-not_live s past legal t m alive = let f = reported-ended s past legal t m in cc (sym f.1 ∙ live-no_fate past t alive)

-- each is reported once
pub once : (s : Configuration) (past : List Entry) → Legal s past → Distinct (reported_ones past)
once s [] legal = tt
once s (e ∷ past) legal = go (once s past legal.0) (reports s past e.event e.reply legal.1)
  where
    go : Distinct (reported_ones past) → (reported_one_in e.event e.reply ≡ []) ⊎ ReportsOne past e.event e.reply
        → Distinct (reported_ones (e ∷ past))
    go rest (inl none) = subst (λ l. Distinct (l ++ reported_ones past)) (sym none) rest
    go rest (inr w) = subst (λ l. Distinct (l ++ reported_ones past)) (sym w.is)
        ((λ m. reported-not_live s past legal.0 w.t m (end-live s past e.event e.reply legal.1 w.t w.fate_is w.ends)), rest)

-- the calls are theirs

reported_call-is : (past : List Entry) (event : Event) (r : Reply) → reported_call_in past event r
    ≡ map (whole_call past) (reported_one_in event r)
reported_call-is past event (reply.Committed answers) = refl
reported_call-is past event (reply.Refused code fell) = refl
reported_call-is past event _ = refl

map_agree : (f g : ℕ → Call) (l : List ℕ) → ((t : ℕ) → Member t l → f t ≡ g t) → map f l ≡ map g l
map_agree f g [] h = refl
map_agree f g (t ∷ l) h = ap₂ (λ c m. c ∷ m) (h t (inl refl)) (map_agree f g l (λ u m. h u (inr m)))

-- one that was reported made no access now, for itself or for its caller
reported-no_access : (s : Configuration) (past : List Entry) (e : Entry) → Legal s (e ∷ past) → (t : ℕ)
    → Member t (reported_ones (e ∷ past))
    → caller_access_in e.event e.reply t ≡ []
reported-no_access s past e legal t m = caller_access_in-is e.event e.reply t ∙ by_access (access_of e) refl
  where
    not_own : (a : Access) → access_of e ≡ Some a → a.by ≡ t → ⊥
    not_own a is own =
        let alive : live past t ≡ true = subst (λ u. live past u ≡ true) own (access-live s past e.event e.reply legal.1 a is) in
        reported-not_live s (e ∷ past) legal t m (live_from (e ∷ past) t (started-stays e past t (live-started past t alive))
        (option_or-at_none _ _ (access-no_end s past e.event e.reply legal.1 a is t) ∙ live-no_fate past t alive))

    by_access : (o : Option Access) → access_of e ≡ o → caller_access_if e.event (access_of e) t ≡ []
    by_access None is = ap (λ o. caller_access_if e.event o t) is ∙ caller_access_if-none e.event t
    by_access (Some a) is = ap (λ o. caller_access_if e.event o t) is
        ∙ ⊎_elim (λ own. absurd (not_own a is own)) (λ other. caller_access_if-other e.event a t other) (cases_eq a.by t)

whole-kept : (s : Configuration) (past : List Entry) (e : Entry) → Legal s (e ∷ past) → (t : ℕ) → t < start_count past
    → Member t (reported_ones (e ∷ past))
    → whole_call (e ∷ past) t ≡ whole_call past t
whole-kept s past e legal t started m =
    ap₂ (λ (xs : List CallerAccess) (c : Call). with_caller_accesses (xs ++ caller_accesses past t) c)
    (reported-no_access s past e legal t m)
    (call-kept s past e t legal.1 started)

pub calls : (s : Configuration) (past : List Entry) → Legal s past → reported_calls past ≡ map (whole_call past) (reported_ones past)
calls s [] legal = refl
calls s (e ∷ past) legal =
    ap₂ (λ l m. l ++ m) (reported_call-is past e.event e.reply) (calls s past legal.0)
    ∙ (sym (map-append (whole_call past) (reported_one_in e.event e.reply) (reported_ones past))
    ∙ map_agree (whole_call past) (whole_call (e ∷ past)) (reported_ones (e ∷ past))
    (λ t m. sym (whole-kept s past e legal t (started t m) m)))
  where
    started : (t : ℕ) → Member t (reported_ones (e ∷ past)) → t < start_count past
    started t m = elim (reports s past e.event e.reply legal.1) [
      | inl none ↦ reported-started s past legal.0 t (subst (λ l. Member t (l ++ reported_ones past)) none m)
      | inr w ↦ elim (subst (λ l. Member t (l ++ reported_ones past)) w.is m) [
        | inl now ↦ subst (λ u. u < start_count past) (sym now)
            (live-started past w.t (end-live s past e.event e.reply legal.1 w.t w.fate_is w.ends))
        | inr before ↦ reported-started s past legal.0 t before
      ]
    ]

-- real time

member_after : (t : ℕ) (l m : List ℕ) → Member t m → Member t (l ++ m)
member_after t [] m h = h
member_after t (u ∷ l) m h = inr (member_after t l m h)

ended-reported : (past : List Entry) (t u : ℕ) → EndsBeforeStart past t u → Member t (reported_ones past)
ended-reported [] t u b = absurd b
ended-reported (e ∷ past) t u (inl b) = member_after t (reported_one_in e.event e.reply) (reported_ones past) b.1
ended-reported (e ∷ past) t u (inr b) = member_after t (reported_one_in e.event e.reply) (reported_ones past) (ended-reported past t u b)

real_time : (s : Configuration) (past : List Entry) → Legal s past → (t u : ℕ) → EndsBeforeStart past t u → Member u (reported_ones past)
    → StandsBefore u t (reported_ones past)
real_time s [] legal t u b m = absurd b
real_time s (e ∷ past) legal t u (inl b) m = absurd (reported-not_live s (e ∷ past) legal u m (started_are_live s past e legal u b.0))
real_time s (e ∷ past) legal t u (inr b) m = elim (reports s past e.event e.reply legal.1) [
  | inl none ↦ subst (λ l. StandsBefore u t (l ++ reported_ones past)) (sym none)
      (real_time s past legal.0 t u b (subst (λ l. Member u (l ++ reported_ones past)) none m))
  | inr w ↦ subst (λ l. StandsBefore u t (l ++ reported_ones past)) (sym w.is)
      (elim (subst (λ l. Member u (l ++ reported_ones past)) w.is m) [
        | inl now ↦ inl (now, ended-reported past t u b)
        | inr before ↦ inr (real_time s past legal.0 t u b before)
      ])
]

pub replay_keeps_real_time : ReplayKeepsRealTime
replay_keeps_real_time s past legal = record {
  once = once s past legal;
  calls = calls s past legal;
  replay = is_serializable s past legal;
  real_time = real_time s past legal;
}
