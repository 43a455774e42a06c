use Rattle.std.proofs.Common.{◌≡◌, ◌++◌, take}
use Rattle.std.specs.List.{flat_map}
use Rattle.std.specs.Fmt.{decimal}
use Rattle.sgt_clients.specs.JsonText.{next_item}
use Rattle.sgt_clients.proofs.level_json.append_each_count.Given as goal

abbrev pub invariant-loop-count : goal.invariant-loop-count
invariant-loop-count l = l.text.items ≡ l.fn.text.items ++ flat_map (next_item decimal) (take l.count-index l.counts)
