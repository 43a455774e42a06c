-- The list of ends: what a start and an end do to it.
use Rattle.std.proofs.Common.{◌≡◌, ℕ, zero, suc, ◌+◌, ◌<◌, ◌≤◌, arith, List, [], ◌∷◌, ◌++◌, length, Some, None, refl, ap, ◌∙◌, slice_set}
use Rattle.std.specs.Prelude.{slice_get, slice_index_or}
use Rattle.sgt_model.specs.declared.reply.Cause.TheVariants as cause
use Rattle.sgt_model.specs.declared.reply.Fate.TheVariants as fate
use Rattle.sgt_sched.specs.declared.fates.End.{End}
use Rattle.sgt_sched.specs.declared.fates.End.TheVariants as end
use Rattle.sgt_sched.specs.FateList.{AreKept, HasPath, HavePaths, fate_of_end, fates_of_ends, live_in, live_among}
use Rattle.sgt_sched.specs.SchedulerView.{fate_at}

has-more : (m n : ℕ) → m ≤ n → (e : End) → HasPath m e → HasPath n e
has-more m n le end.Live h = tt
has-more m n le end.Committed h = tt
has-more m n le end.Quit h = tt
has-more m n le (end.Asked code) h = tt
has-more m n le (end.Fell first) h = tt
has-more m n le (end.Cycle index) h = omega (arith, le, h)

-- more paths keep the indices
pub have-more : (m n : ℕ) → m ≤ n → (ends : List End) → HavePaths m ends → HavePaths n ends
have-more m n le [] h = tt
have-more m n le (e ∷ ends) h = (has-more m n le e h.0, have-more m n le ends h.1)

-- a start has no path
pub have-added : (n : ℕ) (ends : List End) → HavePaths n ends → HavePaths n (ends ++ end.Live ∷ [])
have-added n [] h = (tt, tt)
have-added n (e ∷ ends) h = (h.0, have-added n ends h.1)

-- an end with its index
pub have-set : (n : ℕ) (ends : List End) (t : ℕ) (e : End) → HavePaths n ends → HasPath n e → HavePaths n (slice_set ends t e)
have-set n [] t e h own = tt
have-set n (x ∷ ends) zero e h own = (own, h.1)
have-set n (x ∷ ends) (suc t) e h own = (h.0, have-set n ends t e h.1 own)

-- the index of a cycle's end
pub index_within : (n : ℕ) (ends : List End) (t index : ℕ) → HavePaths n ends → slice_get ends t ≡ Some (end.Cycle index) → index < n
index_within n [] t index h is = absurd (cc)
index_within n (end.Live ∷ ends) zero index h is = absurd (cc)
index_within n (end.Committed ∷ ends) zero index h is = absurd (cc)
index_within n (end.Quit ∷ ends) zero index h is = absurd (cc)
index_within n (end.Asked code ∷ ends) zero index h is = absurd (cc)
index_within n (end.Fell first ∷ ends) zero index h is = absurd (cc)
index_within n (end.Cycle p ∷ ends) zero index h is = let same : p ≡ index = cc in omega (arith, h.0, same)
index_within n (e ∷ ends) (suc t) index h is = index_within n ends t index h.1 is

-- a start is one more that is live
pub live-added : (ends : List End) → live_among (ends ++ end.Live ∷ []) ≡ live_among ends + 1
live-added [] = refl
live-added (e ∷ ends) = omega (arith, live-added ends)

-- and an end one less
pub live-set : (cycles : List (List ℕ)) (ends : List End) (t : ℕ) (e : End) → slice_get (fates_of_ends cycles ends) t ≡ Some None
    → live_in e ≡ 0
    → live_among (slice_set ends t e) + 1 ≡ live_among ends
live-set cycles [] t e h z = absurd (cc)
live-set cycles (end.Live ∷ ends) zero e h z = omega (arith, z)
live-set cycles (end.Committed ∷ ends) zero e h z = absurd (cc)
live-set cycles (end.Quit ∷ ends) zero e h z = absurd (cc)
live-set cycles (end.Asked code ∷ ends) zero e h z = absurd (cc)
live-set cycles (end.Fell first ∷ ends) zero e h z = absurd (cc)
live-set cycles (end.Cycle index ∷ ends) zero e h z = absurd (cc)
live-set cycles (x ∷ ends) (suc t) e h z = let rest = live-set cycles ends t e h z in omega (arith, rest)

-- a transaction that has or had no fate was started
pub started : (cycles : List (List ℕ)) (ends : List End) (t : ℕ) → slice_get (fates_of_ends cycles ends) t ≡ Some None → t < length ends
started cycles [] t h = absurd (cc)
started cycles (e ∷ ends) zero h = omega arith
started cycles (e ∷ ends) (suc t) h = let rest = started cycles ends t h in omega (arith, rest)

fate-kept : (before after : List (List ℕ)) → AreKept before after → (e : End) → HasPath (length before) e
    → fate_of_end after e ≡ fate_of_end before e
fate-kept before after k end.Live h = refl
fate-kept before after k end.Committed h = refl
fate-kept before after k end.Quit h = refl
fate-kept before after k (end.Asked code) h = refl
fate-kept before after k (end.Fell first) h = refl
fate-kept before after k (end.Cycle index) h = ap (λ w. Some (fate.Aborted (cause.Cycle w))) (k.same index h)

-- an end sets the fate of one, and keeps those of the others
pub fates-set : (before after : List (List ℕ)) (ends : List End) (t : ℕ) (e : End) → AreKept before after → HavePaths (length before) ends
    → fates_of_ends after (slice_set ends t e) ≡ slice_set (fates_of_ends before ends) t (fate_of_end after e)
fates-set before after [] t e k h = refl
fates-set before after (x ∷ ends) zero e k h = ap (λ l. fate_of_end after e ∷ l) (kept ends h.1) where
  kept : (ends : List End) → HavePaths (length before) ends → fates_of_ends after ends ≡ fates_of_ends before ends
  kept [] h = refl
  kept (x ∷ ends) h = ap (λ f. f ∷ fates_of_ends after ends) (fate-kept before after k x h.0) ∙ ap (λ l. fate_of_end before x ∷ l)
      (kept ends h.1)
fates-set before after (x ∷ ends) (suc t) e k h = ap (λ f. f ∷ fates_of_ends after (slice_set ends t e)) (fate-kept before after k x h.0)
    ∙ ap (λ l. fate_of_end before x ∷ l) (fates-set before after ends t e k h.1)

-- the fate of one that an end was found of
pub fate_at-found : (cycles : List (List ℕ)) (ends : List End) (t : ℕ) (e : End) → slice_get ends t ≡ Some e
    → fate_at (fates_of_ends cycles ends) t ≡ fate_of_end cycles e
fate_at-found cycles [] t e is = absurd (cc)
fate_at-found cycles (x ∷ ends) zero e is = let same : x ≡ e = cc in ap (fate_of_end cycles) same
fate_at-found cycles (x ∷ ends) (suc t) e is = fate_at-found cycles ends t e is

-- what stands at an index, whatever were read past the end
pub read-any : (cycles : List (List ℕ)) (index : ℕ) (d e : List ℕ) → index < length cycles
    → slice_index_or cycles index d ≡ slice_index_or cycles index e
read-any [] index d e h = absurd (omega (arith, h))
read-any (w ∷ cycles) zero d e h = refl
read-any (w ∷ cycles) (suc index) d e h = read-any cycles index d e (omega (arith, h))
