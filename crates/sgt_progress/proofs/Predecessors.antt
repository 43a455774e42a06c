-- An edge into a transaction comes with an access of its own.
use Rattle.std.specs.Prelude.{◌≡◌, ◌≢◌, ℕ, ◌<◌, true, nat_eq, ◌⊎◌, List, [], ◌∷◌, ◌++◌, length, Option, Some, None}
use Rattle.std.proofs.Common.{refl, sym, ap, ap₂, ◌∙◌, subst, inl, inr}
use Rattle.std.proofs.lemmas.Bool.{cond-true, eq-eqb}
use Rattle.sgt_model.specs.declared.event.Event.{Event}
use Rattle.sgt_model.specs.declared.event.Event.TheVariants.{Start, Step, Commit, Quit}
use Rattle.sgt_model.specs.declared.event.Event.TheVariants as event
use Rattle.sgt_model.specs.declared.entry.Entry.{Entry}
use Rattle.sgt_model.specs.Runs.{CallerAccess}
use Rattle.sgt_model.specs.Traces.{Next, Looks, Puts, Ends, Raises, trace, next_at}
use Rattle.sgt_model.specs.Accesses.{Access, access_of, acts}
use Rattle.sgt_model.specs.Fates.{start_count, live}
use Rattle.sgt_model.specs.Pairs.{FollowsIn, Precedes}
use Rattle.sgt_model.specs.Configurations.{Configuration}
use Rattle.sgt_model.specs.Progress.{Call, caller_access_in, run_of, values_read, next_of}
use Rattle.sgt_model.specs.Legality.{Legal, LivePredecessor}
use Rattle.sgt_model.proofs.Effects.{Fits, Made}
use Rattle.sgt_model.proofs.Acts.{caller_access_of}
use Rattle.sgt_model.proofs.Facts.{live-started, live-before, call-kept, access-fits, stood-before, follows-access, precedes-started, started-stays}
use Rattle.sgt_model.proofs.Plays.{act_other, act_none, caller_access_if, caller_access_in-is}
use Rattle.sgt_progress.specs.Predecessors.{IsEnd, MakeNoneFor, NoNewPredecessors}

ends_fit_none : (n : Next) (a : Access) → IsEnd n → Fits n a → ⊥
ends_fit_none (Looks k) a e f = e
ends_fit_none (Puts k v) a e f = e
ends_fit_none (Ends answers) a e f = f
ends_fit_none (Raises code) a e f = f

-- at the end an access is one on which the caller decided
made_at_end : (n : Next) (v : Event) (a : Access) (t : ℕ) → IsEnd n → a.by ≡ t → Made n v a
    → caller_access_if v (Some a) t ≡ caller_access_of a ∷ []
made_at_end n (Step u) a t end own fits = absurd (ends_fit_none n a end fits)
made_at_end n (event.Access u d) a t end own fits = cond-true (nat_eq a.by t) (caller_access_of a ∷ []) [] (eq-eqb a.by t own)
made_at_end n (Start p args) a t end own fits = absurd fits
made_at_end n (Commit u) a t end own fits = absurd fits
made_at_end n (Quit u) a t end own fits = absurd fits

module _ (s : Configuration) (past : List Entry) (e : Entry) (legal : Legal s (e ∷ past)) (t : ℕ) (end : IsEnd (next_of s past t))
    (none : caller_access_in e.event e.reply t ≡ []) where
  -- no access is its
  not_own : (a : Access) → access_of e ≡ Some a → a.by ≢ t
  not_own a is same = some_not_none (caller_access_of a) (sym (made_at_end (next_of s past t) e.event a t end same
      (subst (λ u. Made (next_of s past u) e.event a) same (access-fits s past e.event e.reply legal.1 a is)))
      ∙ (ap (λ o. caller_access_if e.event o t) (sym is) ∙ (sym (caller_access_in-is e.event e.reply t) ∙ none)))
    where
      some_not_none : (x : CallerAccess) → x ∷ [] ≡ [] → ⊥
      some_not_none x q = cc

  same_acts : acts (e ∷ past) t ≡ acts past t
  same_acts = go (access_of e) refl
    where
      go : (o : Option Access) → access_of e ≡ o → acts (e ∷ past) t ≡ acts past t
      go None is = act_none (access_of e) t (acts past t) is
      go (Some a) is = act_other (access_of e) a t (acts past t) is (not_own a is)

  still_end : t < start_count past → IsEnd (next_of s (e ∷ past) t)
  still_end started = subst IsEnd (sym (ap₂ (λ (c : Call) (all : List Access). next_at
      (trace (run_of s.rules c) (values_read all)) (length all))
      (call-kept s past e t legal.1 started) same_acts)) end

  older_pair : (u : ℕ) → LivePredecessor (e ∷ past) u t → LivePredecessor past u t
  older_pair u p = by_case p.pair.precedes
    where
      by_case : FollowsIn past (access_of e) u t ⊎ Precedes past u t → LivePredecessor past u t
      by_case (inl new) = let f = follows-access past (access_of e) u t new in absurd (not_own f.access f.is f.by)
      by_case (inr old) = record {
        is_live = live-before e past u p.is_live (precedes-started s past legal.0 u t old).0;
        pair = record {
          apart = p.pair.apart;
          first_stands = stood-before s e past legal u p.pair.first_stands;
          second_stands = stood-before s e past legal t p.pair.second_stands;
          precedes = old;
        };
      }

-- what holds of t over some entries
record Over (s : Configuration) (past after : List Entry) (t : ℕ) : Type 0 where
  started : t < start_count after
  end : IsEnd (next_of s after t)
  older : (u : ℕ) → LivePredecessor after u t → LivePredecessor past u t

over : (s : Configuration) (past : List Entry) (t : ℕ) → live past t ≡ true → IsEnd (next_of s past t) → (later : List Entry)
    → Legal s (later ++ past)
    → MakeNoneFor t later → Over s past (later ++ past) t
over s past t alive end [] legal none = record { started = live-started past t alive; end = end; older = λ u p. p }
over s past t alive end (e ∷ later) legal none = let before = over s past t alive end later legal.0 none.1 in record {
  started = started-stays e (later ++ past) t before.started;
  end = still_end s (later ++ past) e legal t before.end none.0 before.started;
  older = λ u p. before.older u (older_pair s (later ++ past) e legal t before.end none.0 u p);
}

pub no_new_predecessors : NoNewPredecessors
no_new_predecessors s past legal t alive end later all none u p = (over s past t alive end later all none).older u p
