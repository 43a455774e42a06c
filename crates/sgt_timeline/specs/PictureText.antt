-- The text of a picture, in SVG 1.1.
use Rattle.std.specs.Prelude.{ℕ, ◌+◌, ◌==◌, if◌then◌else◌, List, [], ◌∷◌, ◌++◌, Option, Some, None, slice_get, map, codes}
use Rattle.std.specs.Option.{option_map_or}
use Rattle.std.specs.List.{flat_map}
use Rattle.std.specs.Fmt.{decimal}
use Rattle.sgt_classes.specs.declared.operation.Operation.{Operation}
use Rattle.sgt_classes.specs.declared.operation.Action.{Action}
use Rattle.sgt_classes.specs.declared.operation.Action.TheVariants.{Read, Write, Commit, Abort}
use Rattle.sgt_format.specs.Templates.{filled}
use Rattle.sgt_notation.specs.declared.history.History.{History}
use Rattle.sgt_notation.specs.Spellings.{text_at}
use Rattle.sgt_notation.specs.Readings.{shown_byte, texts}
use Rattle.sgt_timeline.specs.declared.picture.Picture.{Picture}
use Rattle.sgt_timeline.specs.declared.picture.Row.{Row}
use Rattle.sgt_timeline.specs.declared.picture.Line.{Line}
use Rattle.sgt_timeline.specs.declared.picture.LineKind.{LineKind}
use Rattle.sgt_timeline.specs.declared.picture.LineKind.TheVariants as kind
use Rattle.sgt_timeline.specs.declared.picture.Mark.{Mark}
use Rattle.sgt_timeline.specs.declared.picture.Note.{Note}
use Rattle.sgt_timeline.specs.declared.picture.Part.{Part}
use Rattle.sgt_timeline.specs.declared.picture.Part.TheVariants as part
use Rattle.sgt_timeline.specs.declared.style.TheConstants.{STYLE, READS, WRITES, COMMITS, ABORTS, READS_FROM, READS_FROM_ABORTED, CYCLE, VIOLATION}

-- a byte as the text of an element: what has a meaning there is named, and what is no printable ASCII is a `?`
abbrev pub escaped_byte : ℕ → List ℕ
escaped_byte b = if b == 38 then codes "&amp;" else (if b == 60 then codes "&lt;" else (if b == 62 then codes "&gt;"
    else (if b == 34 then codes "&quot;" else (if b == 39 then codes "&#39;" else shown_byte b ∷ []))))

-- bytes as the text of an element
abbrev pub escaped : List ℕ → List ℕ
escaped bytes = flat_map escaped_byte bytes

-- the letter of an operation
abbrev pub letter_text : Action → List ℕ
letter_text (Read x) = codes "r"
letter_text (Write x) = codes "w"
letter_text Commit = codes "c"
letter_text Abort = codes "a"

-- the item of this number in brackets
unfoldable pub item_text : History → ℕ → List ℕ
item_text h x = codes "[" ++ escaped (text_at (texts h) x) ++ codes "]"

-- the item of a read or a write
abbrev pub label_text : History → Action → List ℕ
label_text h (Read x) = item_text h x
label_text h (Write x) = item_text h x
label_text h Commit = []
label_text h Abort = []

-- the class of a mark
abbrev pub class_text : Action → List ℕ
class_text (Read x) = codes "read"
class_text (Write x) = codes "write"
class_text Commit = codes "commit"
class_text Abort = codes "abort"

-- the class of a mark that stands out, after its own
abbrev pub ends_text : Option LineKind → List ℕ
ends_text (Some kind.Cycle) = codes " in-cycle"
ends_text (Some kind.Violation) = codes " in-violation"
ends_text (Some kind.ReadsFrom) = []
ends_text (Some kind.ReadsFromAborted) = []
ends_text None = []

-- the class of a line
abbrev pub kind_text : LineKind → List ℕ
kind_text kind.ReadsFrom = codes "reads"
kind_text kind.ReadsFromAborted = codes "undone"
kind_text kind.Cycle = codes "cycle"
kind_text kind.Violation = codes "violation"

-- the beginning of a mark: its class, and the letter and the transaction of its operation
unfoldable pub mark_head : Mark → Operation → List ℕ
mark_head m op = codes "<g class=\"" ++ class_text op.action ++ ends_text m.ends ++ codes "\"><title>" ++ letter_text op.action
    ++ decimal op.transaction

-- its number, and its box
unfoldable pub box_text : Mark → ℕ → List ℕ
box_text m number =
    filled (codes "</title><text class=\"place\" x=\"#\" y=\"22\">#</text><rect x=\"#\" y=\"#\" width=\"#\" height=\"26\" rx=\"5\"/>")
    (map decimal (m.middle ∷ number ∷ m.left ∷ m.top ∷ m.width ∷ []))
    ++ filled (codes "<text x=\"#\" y=\"#\">") (map decimal (m.middle ∷ m.base ∷ []))

-- the mark of an operation: the operation in full as its title, its number, and a box with the operation
unfoldable pub operation_mark : History → Mark → ℕ → Operation → List ℕ
operation_mark h m number op = mark_head m op ++ label_text h op.action ++ box_text m number ++ letter_text op.action
    ++ label_text h op.action ++ codes "</text></g>\n"

-- the mark of the operation at its place; its number is the place, counted from 1
abbrev pub mark_text : History → Mark → List ℕ
mark_text h m = option_map_or (operation_mark h m (m.place + 1)) (slice_get h.operations.items m.place) []

-- a row: the transaction, a guide across the picture, and the span from the first operation to the last
unfoldable pub row_text : ℕ → Row → List ℕ
row_text width r =
    filled (codes "<text class=\"name\" x=\"12\" y=\"#\">T<tspan class=\"sub\" dy=\"3\">#</tspan></text>")
    (map decimal (r.base ∷ r.transaction ∷ []))
    ++ filled (codes "<path class=\"guide\" d=\"M#,# H#\"/><path class=\"span\" d=\"M#,# H#\"/>\n")
    (map decimal (r.first ∷ r.y ∷ width ∷ r.first ∷ r.y ∷ r.last ∷ []))

-- a line: from its start to its lane, along the lane, and to its end
unfoldable pub line_text : Line → List ℕ
line_text l = codes "<polyline class=\"" ++ kind_text l.kind ++ filled (codes "\" points=\"#,# #,# #,# #,#\"/>\n")
    (map decimal (l.from_x ∷ l.from_y ∷ l.from_x ∷ l.lane ∷ l.to_x ∷ l.lane ∷ l.to_x ∷ l.to_y ∷ []))

-- a line of words below the picture
unfoldable pub note_text : Note → List ℕ
note_text n = filled (codes "<text x=\"12\" y=\"#\">") (map decimal (n.base ∷ [])) ++ escaped n.words.items ++ codes "</text>\n"

-- the same in the description
unfoldable pub description_text : Note → List ℕ
description_text n = escaped n.words.items ++ codes "\n"

-- the size and the title
unfoldable pub title_text : Picture → List ℕ
title_text p =
    filled (codes "<svg xmlns=\"http://www.w3.org/2000/svg\" version=\"1.1\" role=\"img\" width=\"#\" height=\"#\" viewBox=\"0 0 # #\">\n")
    (map decimal (p.width ∷ p.height ∷ p.width ∷ p.height ∷ []))
    ++ filled (codes "<title>A history of # operations</title>\n<desc>") (map decimal (p.operations ∷ []))

-- the style and the paper
unfoldable pub paper_text : Picture → List ℕ
paper_text p = codes "</desc>\n" ++ STYLE.now
    ++ filled (codes "<rect class=\"paper\" width=\"#\" height=\"#\"/>\n") (map decimal (p.width ∷ p.height ∷ []))

-- the start of the legend, which stands here
unfoldable pub legend_start : ℕ → List ℕ
legend_start y = filled (codes "<g transform=\"translate(12,#)\">\n") (map decimal (y ∷ []))

-- a part of the legend
abbrev pub part_text : Part → List ℕ
part_text part.Reads = READS.now
part_text part.Writes = WRITES.now
part_text part.Commits = COMMITS.now
part_text part.Aborts = ABORTS.now
part_text part.ReadsFrom = READS_FROM.now
part_text part.ReadsFromAborted = READS_FROM_ABORTED.now
part_text part.Cycle = CYCLE.now
part_text part.Violation = VIOLATION.now

-- the legend
abbrev pub legend_text : Picture → List ℕ
legend_text p = legend_start p.legend ++ flat_map part_text p.parts.items ++ codes "</g>\n"

-- the picture: the rows, the lines, the marks above them, the legend, and the words below
abbrev pub picture_text : History → Picture → List ℕ
picture_text h p = title_text p ++ flat_map description_text p.notes.items ++ paper_text p ++ flat_map (row_text p.width) p.rows.items
    ++ flat_map line_text p.lines.items ++ flat_map (mark_text h) p.marks.items ++ legend_text p ++ flat_map note_text p.notes.items
    ++ codes "</svg>\n"
