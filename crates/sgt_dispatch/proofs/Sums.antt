-- Facts and sums over the logs of a queue, of which a step changes or adds one.
use Rattle.std.proofs.Common.{◌≡◌, ◌≢◌, ℕ, zero, suc, ◌+◌, ◌≤◌, ⊎_elim, List, [], ◌∷◌, ◌++◌, set, refl, ap, sym, subst, arith}
use Rattle.std.specs.List.{sum_by}
use Rattle.std.proofs.lemmas.List.Sums.{sum_by-cons, sum_by-append}
use mathlib.Core.Option.{some, some-injective, some-ne-none}
use lib.ListN.{get_elem?}
use Rattle.atomic_table.proofs.Lists.{at_set, at_snoc}
use Rattle.sgt_dispatch.specs.declared.log.Log.{Log}
use Rattle.sgt_dispatch.specs.Logs.{EachLog}

pub EachLog-set : (P : ℕ → Log → Type 0) (logs : List Log) (k : ℕ) (log : Log) → P k log
    → ((j : ℕ) (other : Log) → j ≢ k → get_elem? logs j ≡ some other → P j other) → EachLog P (set logs k log)
EachLog-set P logs k log mine others j other at =
    ⊎_elim (λ (x : (j ≡ k) × (log ≡ other)). subst (λ (y : ℕ × Log). P y.0 y.1) (λ i. (sym x.0 i, x.1 i)) mine)
    (λ (x : (j ≢ k) × (get_elem? logs j ≡ some other)). others j other x.0 x.1) (at_set logs k j log other at)

pub EachLog-push : (P : ℕ → Log → Type 0) (logs : List Log) (log : Log) → ((j : ℕ) → P j log) → EachLog P logs
    → EachLog P (logs ++ log ∷ [])
EachLog-push P logs log new old j other at = ⊎_elim (λ (x : get_elem? logs j ≡ some other). old j other x)
    (λ (x : log ≡ other). subst (λ (y : Log). P j y) x (new j)) (at_snoc logs log other j at)

pub EachLog-one : (P : ℕ → Log → Type 0) (log : Log) → P 0 log → EachLog P (log ∷ [])
EachLog-one P log mine zero other at = subst (λ (y : Log). P 0 y) (some-injective log other at) mine
EachLog-one P log mine (suc j) other at = absurd (some-ne-none other (sym at))

module _ (f : Log → ℕ) where
  pub sum_by-set_log : (logs : List Log) (k : ℕ) (old new : Log) → get_elem? logs k ≡ some old
      → sum_by f (set logs k new) + f old ≡ sum_by f logs + f new
  sum_by-set_log [] k old new at = absurd (some-ne-none old (sym at))
  sum_by-set_log (log ∷ logs) zero old new at = omega (
    arith,
    ap f (some-injective log old at),
    sum_by-cons f log logs,
    sum_by-cons f new logs,
  )
  sum_by-set_log (log ∷ logs) (suc k) old new at = omega (
    arith,
    sum_by-cons f log logs,
    sum_by-cons f log (set logs k new),
    sum_by-set_log logs k old new at,
  )

  pub sum_by-push_log : (logs : List Log) (log : Log) → sum_by f (logs ++ log ∷ []) ≡ sum_by f logs + f log
  sum_by-push_log logs log = omega (arith, sum_by-append f logs (log ∷ []), sum_by-cons f log [])

  pub sum_by-has_log : (logs : List Log) (k : ℕ) (log : Log) → get_elem? logs k ≡ some log → f log ≤ sum_by f logs
  sum_by-has_log [] k log at = absurd (some-ne-none log (sym at))
  sum_by-has_log (other ∷ logs) zero log at = omega (arith, ap f (some-injective other log at), sum_by-cons f other logs)
  sum_by-has_log (other ∷ logs) (suc k) log at = omega (arith, sum_by-cons f other logs, sum_by-has_log logs k log at)

-- if a log with no share adds nothing
module _ (f parts : Log → ℕ) where
  abbrev AddsNothing : List Log → Type 0
  AddsNothing = EachLog (λ _ log. parts log ≡ 0 → f log ≡ 0)

  sum_by-no_part : (logs : List Log) → AddsNothing logs → sum_by parts logs ≡ 0 → sum_by f logs ≡ 0
  sum_by-no_part [] nothing none = refl
  sum_by-no_part (log ∷ logs) nothing none =
      let more = sum_by-cons parts log logs in
      let here = nothing 0 log refl (omega (arith, more, none)) in
      let rest = sum_by-no_part logs (λ k. nothing (suc k)) (omega (arith, more, none)) in omega (arith, sum_by-cons f log logs, here, rest)

  -- a log with every share has the whole sum
  pub sum_by-every_part : (logs : List Log) (k : ℕ) (log : Log) → AddsNothing logs → get_elem? logs k ≡ some log
      → sum_by parts logs ≡ parts log → sum_by f logs ≡ f log
  sum_by-every_part [] k log nothing at all = absurd (some-ne-none log (sym at))
  sum_by-every_part (other ∷ logs) zero log nothing at all =
      let same : other ≡ log = some-injective other log at in
      let rest = sum_by-no_part logs (λ k. nothing (suc k)) (omega (arith, ap parts same, sum_by-cons parts other logs, all)) in
      omega (arith, sum_by-cons f other logs, rest, ap f same)
  sum_by-every_part (other ∷ logs) (suc k) log nothing at all =
      let more = sum_by-cons parts other logs in
      let has = sum_by-has_log parts logs k log at in
      let here = nothing 0 other refl (omega (arith, more, has, all)) in
      let rest = sum_by-every_part logs k log (λ j. nothing (suc j)) at (omega (arith, more, has, all)) in
      omega (arith, sum_by-cons f other logs, here, rest)
