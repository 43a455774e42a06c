-- Parts of a list.
use Rattle.std.specs.Prelude.{◌≡◌, ◌+◌, ◌≤◌, ℕ, List, ◌++◌, take, drop}
use Rattle.sgt_log.specs.declared.span.Span.{Span}

-- the items of a part
abbrev pub part_of : {X : Type 0} → List X → Span → List X
part_of list s = take s.count (drop s.from list)

-- the part without items
abbrev pub no_items : Span
no_items = record { from = 0; count = 0 }

-- a part of a list of this length
abbrev pub IsWithin : ℕ → Span → Type 0
IsWithin len s = (s.from + s.count ≤ len) × (s.count ≤ 32)

-- the same list, perhaps with more items after it
abbrev pub HasMore : {X : Type 0} → List X → List X → Type 0
HasMore {X} before after = (more : List X) × (after ≡ before ++ more)
