-- Which entry starts a transaction.
use Rattle.std.proofs.Common.{◌≡◌, ℕ, ◌+◌, ◌-◌, ◌<◌, ◌≤◌, List, Some, None, ap, ◌∙◌, inl, inr, arith, slice_get}
use Rattle.std.specs.Option.{unwrap_or}
use Rattle.std.proofs.lemmas.Bool.{cases_eq}
use Rattle.sgt_model.specs.declared.entry.Entry.{Entry}
use Rattle.sgt_model.specs.Progress.{call_in, call_of}
use Rattle.sgt_explain.specs.Places.{entries_before}
use Rattle.sgt_explain.specs.Calls.{placed_call}
use Rattle.sgt_explain.proofs.Prefixes.{before_next}

-- an entry that does not start t
pub no_call_here : (entries : List Entry) (at t : ℕ) (e : Entry) → 0 < at → slice_get entries (at - 1) ≡ Some e
    → call_in e.event e.reply t ≡ None → call_of (entries_before entries at) t ≡ call_of (entries_before entries (at - 1)) t
no_call_here entries at t e some is none =
    let next : at ≡ (at - 1) + 1 = omega (arith, some) in
    ap (λ n. call_of (entries_before entries n) t) next
    ∙ ap (λ past. call_of past t) (before_next entries (at - 1) e is)
    ∙ ap (λ o. unwrap_or o (call_of (entries_before entries (at - 1)) t)) none

pub no_call_more : (entries : List Entry) (place at t : ℕ) (e : Entry) → 0 < at → slice_get entries (at - 1) ≡ Some e
    → call_in e.event e.reply t ≡ None → ((n : ℕ) → at ≤ n → n < place → placed_call entries t n ≡ None)
    → (n : ℕ) → at - 1 ≤ n → n < place → placed_call entries t n ≡ None
no_call_more entries place at t e some is none more n from below = elim (cases_eq n (at - 1)) [
  | inl same ↦ rw (same, is) none
  | inr other ↦ more n (omega (arith, some, from, other)) below
]
