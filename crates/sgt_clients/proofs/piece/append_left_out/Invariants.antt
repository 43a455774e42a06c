use Rattle.std.proofs.Common.{◌≡◌, ◌++◌, take}
use Rattle.std.specs.List.{flat_map}
use Rattle.sgt_clients.specs.ReportText.{left_out_text}
use Rattle.sgt_clients.proofs.piece.append_left_out.Given as goal

abbrev pub invariant-loop-value : goal.invariant-loop-value
invariant-loop-value l = l.text.items ≡ l.fn.text.items ++ flat_map (left_out_text l.spoken) (take l.value-index l.values)
