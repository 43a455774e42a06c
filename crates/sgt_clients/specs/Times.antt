-- When transactions began, in the order that is tested.
use Rattle.std.specs.Prelude.{◌≡◌, ◌≤◌, ℕ, List, Some, slice_get}
use Rattle.sgt_clients.specs.declared.clients.Span.{Span}

-- all began by the new time, if the others did by the old one, and the transaction did not end before it
abbrev pub ComesAfter : List Span → ℕ → ℕ → ℕ → Type 0
ComesAfter spans t old new = (s : Span) × (slice_get spans t ≡ Some s) × (old ≤ new) × (s.began ≤ new)
    × ((e : ℕ) → s.ended ≡ Some e → new ≤ e)
