use Rattle.std.proofs.Common.{◌≡◌, ◌++◌, take}
use Rattle.std.specs.List.{flat_map}
use Rattle.sgt_reply_json.specs.Lists.{next_item}
use Rattle.sgt_reply_json.proofs.list.append_each.Given as goal

abbrev pub invariant-loop-item : goal.invariant-loop-item
invariant-loop-item g l = l.text.items ≡ l.fn.text.items ++ flat_map (next_item g.I.Item.spelled) (take l.item-index l.list)
