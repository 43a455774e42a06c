use Rattle.std.proofs.Common.{◌≡◌, ◌++◌, take}
use Rattle.std.specs.List.{flat_map}
use Rattle.sgt_reply_json.specs.Pieces.{piece_text}
use Rattle.sgt_reply_json.proofs.piece.append_pieces.Given as goal

abbrev pub invariant-loop-piece : goal.invariant-loop-piece
invariant-loop-piece l = l.text.items ≡ l.fn.text.items ++ flat_map piece_text (take l.piece-index l.pieces)
