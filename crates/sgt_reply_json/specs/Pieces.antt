-- Texts made of pieces.
use Rattle.std.specs.Prelude.{ℕ, List}
use Rattle.std.specs.Fmt.{decimal, signed_decimal}
use Rattle.sgt_reply_json.specs.declared.piece.Piece.{Piece}
use Rattle.sgt_reply_json.specs.declared.piece.Piece.TheVariants.{Words, Number, Value, Transactions, Values}
use Rattle.sgt_reply_json.specs.Lists.{list_text}

-- the text of a piece
abbrev pub piece_text : Piece → List ℕ
piece_text (Words words) = words.now
piece_text (Number n) = decimal n
piece_text (Value v) = signed_decimal v
piece_text (Transactions ts) = list_text decimal ts.now
piece_text (Values vs) = list_text signed_decimal vs.now
