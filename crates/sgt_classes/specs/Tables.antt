-- Positions by numbers.
use Rattle.std.specs.Prelude.{ℕ, ◌+◌, Option, if◌then◌else◌, nat_lt}
use Rattle.std.specs.BTreeMap.{get, btree_map_len}
use Rattle.std.specs.Ordering.{nat_cmp}
use Rattle.sgt_classes.specs.declared.table.Table.{Table}
use Rattle.sgt_classes.specs.Links.{link_of, links_len}

-- the position of a number, or none
unfoldable pub entry_of : Table → ℕ → Option ℕ
entry_of t n = if nat_lt n t.bound then link_of t.low n else get nat_cmp t.high n

-- how many numbers have a position
unfoldable pub table_len : Table → ℕ
table_len t = links_len t.low + btree_map_len t.high
