-- Calls that are run one after another: one more.
use Rattle.std.proofs.Common.{◌≡◌, ℕ, zero, suc, ◌+◌, ◌<◌, ◌≤◌, List, [], ◌∷◌, ◌++◌, length, take, drop, get_or, set, refl, sym, ap, ◌∙◌, subst, arith}
use Rattle.std.proofs.lemmas.List.{drop-drop, drop-set-lt, length-take-le, take_all, take_more}
use Rattle.std.proofs.lemmas.List.Elements.{All-push}
use Rattle.std.specs.List.{All}
use Rattle.sgt_engine.specs.EngineView.{EngineView}
use Rattle.sgt_c.specs.declared.call_struct.SgtCall.{SgtCall}
use Rattle.sgt_c.specs.declared.reply_struct.SgtOutcome.{SgtOutcome}
use Rattle.sgt_c.specs.ManyRuns.{IsRunnable, RanAll, RanOne}

one_more : (calls : List SgtCall) (outcomes : List SgtOutcome) (i : ℕ) (c : SgtCall) (o : SgtOutcome) (e between after : EngineView)
    → length calls ≡ i → i < length outcomes → RanAll calls outcomes e between → RanOne c o between after
    → RanAll (calls ++ c ∷ []) (set outcomes i o) e after
one_more [] [] i c o e between after same capacity all one = absurd (omega (arith, capacity))
one_more [] (x ∷ outcomes) zero c o e between after same capacity all one = (after, subst (λ v. RanOne c o v after) all one, refl)
one_more [] (x ∷ outcomes) (suc i) c o e between after same capacity all one = absurd (omega (arith, same))
one_more (d ∷ calls) [] i c o e between after same capacity all one = absurd (omega (arith, capacity))
one_more (d ∷ calls) (x ∷ outcomes) zero c o e between after same capacity all one = absurd (omega (arith, same))
one_more (d ∷ calls) (x ∷ outcomes) (suc i) c o e between after same capacity all one =
    (all.0, all.1, one_more calls outcomes i c o all.0 between after (omega (arith, same)) (omega (arith, capacity)) all.2 one)

pub ran_next : (calls : List SgtCall) (outcomes : List SgtOutcome) (i : ℕ) (d : SgtCall) (o : SgtOutcome) (e between after : EngineView)
    → i < length calls → length calls ≤ length outcomes → RanAll (take i calls) outcomes e between → RanOne (get_or calls i d) o between after
    → RanAll (take (i + 1) calls) (set outcomes i o) e after
ran_next calls outcomes i d o e between after within capacity all one =
    rw (take_more calls i d within)
    (one_more (take i calls) outcomes i (get_or calls i d) o e between after (length-take-le i calls (omega (arith, within)))
    (omega (arith, within, capacity)) all one)

-- outcomes after these calls do not count
ran_whatever : (calls : List SgtCall) (outcomes : List SgtOutcome) (i : ℕ) (o : SgtOutcome) (e after : EngineView) → length calls ≤ i
    → RanAll calls outcomes e after → RanAll calls (set outcomes i o) e after
ran_whatever [] outcomes i o e after few all = all
ran_whatever (c ∷ calls) [] i o e after few all = absurd all
ran_whatever (c ∷ calls) (x ∷ outcomes) zero o e after few all = absurd (omega (arith, few))
ran_whatever (c ∷ calls) (x ∷ outcomes) (suc i) o e after few all =
    (all.0, all.1, ran_whatever calls outcomes i o all.0 after (omega (arith, few)) all.2)

-- the calls before this one have run
pub ran_before : (calls : List SgtCall) (outcomes : List SgtOutcome) (i : ℕ) (o : SgtOutcome) (e after : EngineView) → i < length calls
    → RanAll (take i calls) outcomes e after → RanAll (take i calls) (set outcomes i o) e after
ran_before calls outcomes i o e after within all =
    ran_whatever (take i calls) outcomes i o e after (omega (arith, length-take-le i calls (omega (arith, within)))) all

-- the outcomes after it are unchanged
pub rest_next : (outcomes before : List SgtOutcome) (i : ℕ) (o : SgtOutcome) → drop i outcomes ≡ drop i before
    → drop (i + 1) (set outcomes i o) ≡ drop (i + 1) before
rest_next outcomes before i o same =
    drop-set-lt (i + 1) outcomes i o (omega arith) ∙ sym (drop-drop 1 i outcomes) ∙ ap (drop 1) same ∙ drop-drop 1 i before

-- ---- calls that may be asked for

-- one more
pub runnable_next : (calls : List SgtCall) (i : ℕ) (d : SgtCall) → i < length calls → IsRunnable (get_or calls i d) → All IsRunnable (take i calls)
    → All IsRunnable (take (i + 1) calls)
runnable_next calls i d within good so_far = rw (take_more calls i d within) (All-push IsRunnable (take i calls) (get_or calls i d) so_far good)

-- all of them
pub all_runnable : (calls : List SgtCall) (i : ℕ) → length calls ≤ i → All IsRunnable (take i calls) → All IsRunnable calls
all_runnable calls i following so_far = subst (All IsRunnable) (take_all i calls following) so_far

-- a call of zeros
abbrev pub no_call : SgtCall
no_call = record {
  kind = 0;
  tid = 0;
  procedure = 0;
  code = 0;
  args = 0;
  answers = 0;
  arg = [];
  answer = [];
  accesses = 0;
}
