-- A transaction's accesses in a legal history are what its procedure wanted.
use Rattle.std.specs.Prelude.{◌≡◌, ◌≢◌, ℕ, ◌<◌, ◌≤◌, ℤ, true, cond, ◌⊎◌, nat_eq, List, [], ◌∷◌, ◌++◌, length, map, Option, Some, None}
use Rattle.std.proofs.Common.{refl, sym, ap, ◌∙◌, subst, subst₂, inl, inr, ⊎_elim, arith}
use Rattle.sgt_model.specs.declared.event.Event.{Event}
use Rattle.sgt_model.specs.declared.event.Event.TheVariants.{Start, Step, Commit, Quit}
use Rattle.sgt_model.specs.declared.event.Event.TheVariants as event
use Rattle.sgt_model.specs.declared.event.Request.{Request}
use Rattle.sgt_model.specs.declared.reply.Reply.{Reply}
use Rattle.sgt_model.specs.declared.reply.Reply.TheVariants as reply
use Rattle.sgt_model.specs.Runs.{Run, CallerAccess}
use Rattle.sgt_model.specs.Traces.{Next, Ends}
use Rattle.std.proofs.lemmas.Bool.{cases_eq, cases_lt, eq-eqb, ne_eqb, cond-true, cond-false}
use Rattle.sgt_model.specs.declared.entry.Entry.{Entry}
use Rattle.sgt_model.specs.Accesses.{Access, access_in, access_of, act_in, acts}
use Rattle.sgt_model.specs.Fates.{start_count}
use Rattle.sgt_model.specs.Configurations.{Configuration}
use Rattle.sgt_model.specs.Progress.{Call, call_of, caller_access_in, caller_accesses, values_read, requested, is_fit, run_of, next_of}
use Rattle.sgt_model.specs.Legality.{LegalReply, Legal}
use Rattle.sgt_model.proofs.Effects.{Fits, Made}
use Rattle.sgt_model.proofs.Facts.{live-started, access-live, access-fits, starts-grow, call-kept}
use Rattle.sgt_model.proofs.Acts.{requests_of, caller_access_of, AtEnd, PlayedOn}
use Rattle.sgt_model.proofs.Traces.{past_end}

-- an access of t's own comes first
pub act_own : (x : Option Access) (a : Access) (t : ℕ) (rest : List Access) → x ≡ Some a → a.by ≡ t → act_in x t rest ≡ a ∷ rest
act_own x a t rest h g = subst (λ y. act_in y t rest ≡ a ∷ rest) (sym h) (cond-true (nat_eq a.by t) (a ∷ rest) rest (eq-eqb a.by t g))

pub act_other : (x : Option Access) (a : Access) (t : ℕ) (rest : List Access) → x ≡ Some a → a.by ≢ t → act_in x t rest ≡ rest
act_other x a t rest h g = subst (λ y. act_in y t rest ≡ rest) (sym h) (cond-false (nat_eq a.by t) (a ∷ rest) rest (ne_eqb a.by t g))

pub act_none : (x : Option Access) (t : ℕ) (rest : List Access) → x ≡ None → act_in x t rest ≡ rest
act_none x t rest h = ap (λ y. act_in y t rest) h

-- a transaction that was not started does not act
skip_unstarted : (s : Configuration) (past : List Entry) (e : Entry) (t : ℕ) → LegalReply s past e.event e.reply → start_count past ≤ t
    → acts (e ∷ past) t ≡ acts past t
skip_unstarted s past e t h unstarted = by_access (access_of e) refl
  where
    apart : (a : Access) → access_of e ≡ Some a → a.by ≢ t
    apart a is z = let started : a.by < start_count past = live-started past a.by (access-live s past e.event e.reply h a is) in omega arith

    by_access : (x : Option Access) → access_of e ≡ x → acts (e ∷ past) t ≡ acts past t
    by_access None is = act_none (access_of e) t (acts past t) is
    by_access (Some a) is = act_other (access_of e) a t (acts past t) is (apart a is)

pub acts_unstarted : (s : Configuration) (past : List Entry) (t : ℕ) → Legal s past → start_count past ≤ t → acts past t ≡ []
acts_unstarted s [] t h unstarted = refl
acts_unstarted s (e ∷ past) t h unstarted =
    let grow = starts-grow e past in
    let before : start_count past ≤ t = omega arith in
    skip_unstarted s past e t h.1 before ∙ acts_unstarted s past t h.0 before

-- what an entry adds to the accesses that a caller requested

abbrev pub caller_access_if : Event → Option Access → ℕ → List CallerAccess
caller_access_if (event.Access u d) (Some a) t = cond (nat_eq a.by t) (caller_access_of a ∷ []) []
caller_access_if _ _ t = []

pub caller_access_in-is : (event : Event) (r : Reply) (t : ℕ) → caller_access_in event r t ≡ caller_access_if event (access_in event r) t
caller_access_in-is (Start p args) r t = refl
caller_access_in-is (Step u) r t = refl
caller_access_in-is (Commit u) r t = refl
caller_access_in-is (Quit u) r t = refl
caller_access_in-is (event.Access u d) (reply.Looked k v) t = refl
caller_access_in-is (event.Access u d) (reply.Wrote k v) t = refl
caller_access_in-is (event.Access u d) _ t = refl

pub caller_access_if-none : (event : Event) (t : ℕ) → caller_access_if event None t ≡ []
caller_access_if-none (event.Access u d) t = refl
caller_access_if-none _ t = refl

pub caller_access_if-other : (event : Event) (a : Access) (t : ℕ) → a.by ≢ t → caller_access_if event (Some a) t ≡ []
caller_access_if-other (event.Access u d) a t n = cond-false (nat_eq a.by t) (caller_access_of a ∷ []) [] (ne_eqb a.by t n)
caller_access_if-other _ a t n = refl

-- one more access

ended_on : (r : Run) (xs : List CallerAccess) (all : List Access) (p : PlayedOn r xs all) (end : AtEnd r p.own)
    → requests_of r (values_read all) (length all) ≡ Ends end.0
ended_on r xs all p end = subst (λ l. requests_of r (values_read l) (length l) ≡ Ends end.0) (sym p.all_are)
    (past_end r p.own end.0 p.as_requested end.1 p.more)

-- where the end does not come next, there are no accesses but the run's own
pub only_own : (r : Run) (xs : List CallerAccess) (all : List Access) (p : PlayedOn r xs all)
    → ((answers : List ℤ) → requests_of r (values_read all) (length all) ≡ Ends answers → ⊥) → (p.more ≡ []) × (all ≡ p.own) × (xs ≡ [])
only_own r xs all p not_end = elim p.at_end [
  | inl none ↦ (none, p.all_are ∙ ap (λ l. l ++ p.own) none, p.caller_accesses_are ∙ ap (map caller_access_of) none)
  | inr end ↦ absurd (not_end end.0 (ended_on r xs all p end))
]

pub not_fit : (n : Next) (a : Access) (answers : List ℤ) → n ≡ Ends answers → Fits n a → ⊥
not_fit n a answers e h = subst (λ x. Fits x a) e h

played_step : (r : Run) (xs : List CallerAccess) (all : List Access) (a : Access) → PlayedOn r xs all
    → Fits (requests_of r (values_read all) (length all)) a → PlayedOn r xs (a ∷ all)
played_step r xs all a p fits =
    let only = only_own r xs all p (λ answers e. not_fit _ a answers e fits) in
    record {
      own = a ∷ p.own;
      more = [];
      all_are = ap (λ l. a ∷ l) only.1;
      caller_accesses_are = only.2;
      as_requested = (p.as_requested, subst (λ l. Fits (requests_of r (values_read l) (length l)) a) only.1 fits);
      fit = tt;
      at_end = inl refl;
    }

-- the run's own accesses brought it to its end
pub own_end : (r : Run) (xs : List CallerAccess) (all : List Access) (answers : List ℤ) (p : PlayedOn r xs all)
    → requests_of r (values_read all) (length all) ≡ Ends answers → requests_of r (values_read p.own) (length p.own) ≡ Ends answers
own_end r xs all answers p e = elim p.at_end [
  | inl none ↦ subst (λ l. requests_of r (values_read l) (length l) ≡ Ends answers) (p.all_are ∙ ap (λ l. l ++ p.own) none) e
  | inr end ↦ end.1 ∙ (sym (ended_on r xs all p end) ∙ e)
]

played_more : (r : Run) (xs : List CallerAccess) (all : List Access) (a : Access) (d : Request) (answers : List ℤ) → PlayedOn r xs all
    → requests_of r (values_read all) (length all) ≡ Ends answers → is_fit d ≡ true → Fits (requested d) a
    → PlayedOn r (caller_access_of a ∷ xs) (a ∷ all)
played_more r xs all a d answers p e fit fits = record {
  own = p.own;
  more = a ∷ p.more;
  all_are = ap (λ l. a ∷ l) p.all_are;
  caller_accesses_are = ap (λ l. caller_access_of a ∷ l) p.caller_accesses_are;
  as_requested = p.as_requested;
  fit = (p.fit, (d, fit, fits));
  at_end = inr (answers, own_end r xs all answers p e);
}

-- these accesses are what the call's run wants, and then what its caller requested
abbrev pub PlaysCall : Configuration → Call → List CallerAccess → List Access → Type 0
PlaysCall s c xs all = PlayedOn (run_of s.rules c) xs all

made_one : (r : Run) (xs : List CallerAccess) (all : List Access) (a : Access) (t : ℕ) (event : Event) → a.by ≡ t → PlayedOn r xs all
    → Made (requests_of r (values_read all) (length all)) event a → PlayedOn r (caller_access_if event (Some a) t ++ xs) (a ∷ all)
made_one r xs all a t (Step u) z p made = played_step r xs all a p made
made_one r xs all a t (event.Access u d) z p (answers, e, fit, fits) = subst (λ l. PlayedOn r (l ++ xs) (a ∷ all))
    (sym (cond-true (nat_eq a.by t) (caller_access_of a ∷ []) [] (eq-eqb a.by t z))) (played_more r xs all a d answers p e fit fits)
made_one r xs all a t (Start p args) z played made = absurd made
made_one r xs all a t (Commit u) z played made = absurd made
made_one r xs all a t (Quit u) z played made = absurd made

plays_on : (s : Configuration) (past : List Entry) (e : Entry) (t : ℕ) → LegalReply s past e.event e.reply → PlaysCall s (call_of past t)
    (caller_accesses past t) (acts past t) → PlaysCall s (call_of past t) (caller_accesses (e ∷ past) t) (acts (e ∷ past) t)
plays_on s past e t h ih = by_access (access_of e) refl
  where
    xs_are : (x : Option Access) → access_of e ≡ x → (l : List CallerAccess) → caller_access_if e.event x t ≡ l
        → caller_accesses (e ∷ past) t ≡ l ++ caller_accesses past t
    xs_are x is l same = ap (λ z. z ++ caller_accesses past t)
        (caller_access_in-is e.event e.reply t ∙ (ap (λ y. caller_access_if e.event y t) is ∙ same))

    kept : (x : Option Access) → access_of e ≡ x → caller_access_if e.event x t ≡ [] → act_in (access_of e) t (acts past t) ≡ acts past t
        → PlaysCall s (call_of past t) (caller_accesses (e ∷ past) t) (acts (e ∷ past) t)
    kept x is none same = subst₂ (λ xs l. PlaysCall s (call_of past t) xs l) (sym (xs_are x is [] none)) (sym same) ih

    own : (a : Access) → access_of e ≡ Some a → a.by ≡ t → PlaysCall s (call_of past t) (caller_accesses (e ∷ past) t) (acts (e ∷ past) t)
    own a is z =
        let made : Made (next_of s past t) e.event a = subst (λ u. Made (next_of s past u) e.event a) z
        (access-fits s past e.event e.reply h a is) in
        subst₂ (λ xs l. PlaysCall s (call_of past t) xs l) (sym (xs_are (Some a) is (caller_access_if e.event (Some a) t) refl))
        (sym (act_own (access_of e) a t (acts past t) is z))
        (made_one (run_of s.rules (call_of past t)) (caller_accesses past t) (acts past t) a t e.event z ih made)

    by_access : (x : Option Access) → access_of e ≡ x → PlaysCall s (call_of past t) (caller_accesses (e ∷ past) t) (acts (e ∷ past) t)
    by_access None is = kept None is (caller_access_if-none e.event t) (act_none (access_of e) t (acts past t) is)
    by_access (Some a) is =
        ⊎_elim (λ z. own a is z) (λ z. kept (Some a) is (caller_access_if-other e.event a t z)
        (act_other (access_of e) a t (acts past t) is z))
        (cases_eq a.by t)

played_none : (r : Run) → PlayedOn r [] []
played_none r = record { own = []; more = []; all_are = refl; caller_accesses_are = refl; as_requested = tt; fit = tt; at_end = inl refl }

-- with no access there is none that a caller requested
none_requested : (s : Configuration) (past : List Entry) (t : ℕ) → Legal s past → start_count past ≤ t → caller_accesses past t ≡ []
none_requested s [] t h unstarted = refl
none_requested s (e ∷ past) t h unstarted =
    let grow = starts-grow e past in
    let before : start_count past ≤ t = omega arith in
    ap (λ z. z ++ caller_accesses past t) (caller_access_in-is e.event e.reply t ∙ by_access (access_of e) refl before)
    ∙ none_requested s past t h.0 before
  where
    by_access : (x : Option Access) → access_of e ≡ x → start_count past ≤ t → caller_access_if e.event (access_of e) t ≡ []
    by_access None is before = ap (λ y. caller_access_if e.event y t) is ∙ caller_access_if-none e.event t
    by_access (Some a) is before = ap (λ y. caller_access_if e.event y t) is ∙ caller_access_if-other e.event a t
        (λ z. let started : a.by < start_count past = live-started past a.by (access-live s past e.event e.reply h.1 a is) in absurd
        (omega arith))

-- what a transaction did is what its procedure wanted, and then what its caller requested
pub plays : (s : Configuration) (past : List Entry) (t : ℕ) → Legal s past
    → PlaysCall s (call_of past t) (caller_accesses past t) (acts past t)
plays s [] t h = played_none _
plays s (e ∷ past) t h = by_start (plays s past t h.0) (cases_lt t (start_count past))
  where
    by_start : PlaysCall s (call_of past t) (caller_accesses past t) (acts past t) → (t < start_count past) ⊎ (start_count past ≤ t)
        → PlaysCall s (call_of (e ∷ past) t) (caller_accesses (e ∷ past) t) (acts (e ∷ past) t)
    by_start ih (inl started) = subst (λ c. PlaysCall s c (caller_accesses (e ∷ past) t) (acts (e ∷ past) t))
        (sym (call-kept s past e t h.1 started)) (plays_on s past e t h.1 ih)
    by_start ih (inr unstarted) =
        let xs : caller_accesses (e ∷ past) t ≡ [] = ap (λ z. z ++ caller_accesses past t)
        (caller_access_in-is e.event e.reply t ∙ new (access_of e) refl unstarted)
        ∙ none_requested s past t h.0 unstarted in
        subst₂ (λ xs l. PlaysCall s (call_of (e ∷ past) t) xs l) (sym xs)
        (sym (skip_unstarted s past e t h.1 unstarted ∙ acts_unstarted s past t h.0 unstarted)) (played_none _)
      where
        new : (x : Option Access) → access_of e ≡ x → start_count past ≤ t → caller_access_if e.event (access_of e) t ≡ []
        new None is before = ap (λ y. caller_access_if e.event y t) is ∙ caller_access_if-none e.event t
        new (Some a) is before = ap (λ y. caller_access_if e.event y t) is ∙ caller_access_if-other e.event a t
            (λ z. let started : a.by < start_count past = live-started past a.by (access-live s past e.event e.reply h.1 a is) in
            absurd (omega arith))
