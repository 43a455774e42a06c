-- The parts of texts on what clients saw.
use Rattle.std.specs.Prelude.{ℕ, List}
use Rattle.std.specs.Fmt.{decimal}
use Rattle.sgt_clients.specs.declared.part.Part.{Part}
use Rattle.sgt_clients.specs.declared.part.Part.TheVariants as part
use Rattle.sgt_clients.specs.declared.piece.Piece.{Piece}
use Rattle.sgt_clients.specs.declared.piece.Piece.TheVariants as piece
use Rattle.sgt_clients.specs.ReportText.{transaction_text, placed, key_text, values_text, value_at, key_at, read_at, placed_read, fault_text, ground_text, partial_text, unseen_text}
use Rattle.sgt_clients.specs.Values.{value_text}

-- the text of a piece
abbrev pub piece_text : Piece → List ℕ
piece_text (piece.Value v) = value_text v
piece_text (piece.ValueAt c t p) = value_at c.now t p
piece_text (piece.Key c k) = key_text c.now k
piece_text (piece.KeyAt c t p) = key_at c.now t p
piece_text (piece.Values values spoken) = values_text spoken values.now
piece_text (piece.Transaction t) = transaction_text t
piece_text (piece.Placed c t) = placed c.now t
piece_text (piece.Read c t p spoken) = read_at c.now t p spoken
piece_text (piece.PlacedRead c t p spoken) = placed_read c.now t p spoken

-- the text of a part
abbrev pub part_text : Part → List ℕ
part_text (part.Words words) = words.now
part_text (part.Number n) = decimal n
part_text (part.Transaction t) = transaction_text t
part_text (part.Placed c t) = placed c.now t
part_text (part.Fault c reader read fault) = fault_text c.now reader read fault.now
part_text (part.Partial c partial) = partial_text c.now partial.now
part_text (part.Unseen c it) = unseen_text c.now it.now
part_text (part.Why c step) = ground_text c.now step.from step.to step.why
