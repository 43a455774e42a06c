-- Links from positions of a list to earlier ones.
use Rattle.std.specs.Prelude.{ℕ, Option, Some, None, slice_get, is_some, if◌then◌else◌}
use Rattle.std.specs.List.{sum_by}
use Rattle.sgt_classes.specs.declared.links.Links.{Links}

-- the inner option, none if there is none
abbrev pub or_none : Option (Option ℕ) → Option ℕ
or_none None = None
or_none (Some o) = o

-- the earlier position of a position, or none
unfoldable pub link_of : Links → ℕ → Option ℕ
link_of links i = or_none (slice_get links.earlier.items i)

-- 1 if there is one
abbrev pub one_if_some : Option ℕ → ℕ
one_if_some o = if is_some o then 1 else 0

-- how many positions have one
unfoldable pub links_len : Links → ℕ
links_len links = sum_by one_if_some links.earlier.items
