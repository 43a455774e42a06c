use Rattle.std.proofs.Common.{◌≡◌, ◌++◌, take}
use Rattle.std.specs.List.{flat_map}
use Rattle.sgt_clients.specs.JsonText.{next_item}
use Rattle.sgt_clients.proofs.item.append_later_items.Given as goal

abbrev pub invariant-loop-item : goal.invariant-loop-item
invariant-loop-item g l = l.text.items ≡ l.fn.text.items ++ flat_map (next_item (g.I.Item.object l.clients)) (take l.item-index l.items)
