-- A run as a text in the notation of Bernstein, Hadzilacos and Goodman (1987), chapter 2: a line for each operation.
use Rattle.std.specs.Prelude.{◌≡◌, ℕ, ⊤, List, [], ◌∷◌, ◌++◌, codes}
use Rattle.std.specs.List.{flat_map}
use Rattle.std.specs.Fmt.{decimal}
use Rattle.sgt_model.specs.declared.entry.Entry.{Entry}
use Rattle.sgt_model.specs.declared.event.Event.{Event}
use Rattle.sgt_model.specs.declared.reply.Reply.{Reply}
use Rattle.sgt_model.specs.declared.reply.Reply.TheVariants as reply
use Rattle.sgt_model.specs.Contents.{Key}
use Rattle.sgt_classes.specs.declared.operation.Operation.{Operation}
use Rattle.sgt_notation.specs.Spellings.{bracketed, spelling, text_at}
use Rattle.sgt_textbook.specs.Textbook.{named, stepping, textbook}
use Rattle.sgt_format.specs.Decimals.{key_text}

-- each of the transactions accesses the key, a line each
abbrev pub access_lines : List ℕ → Key → List ℕ → List ℕ
access_lines letter key = flat_map (λ t. letter ++ decimal t ++ bracketed (key_text key) ++ codes "\n")

-- each of the transactions ends, a line each
abbrev pub end_lines : List ℕ → List ℕ → List ℕ
end_lines letter = flat_map (λ t. letter ++ decimal t ++ codes "\n")

-- The lines of the operations of an event with this reply. `Looked` is a read, and `Wrote` a write, of none as well. A commit is one
-- if the reply says so. An abort is first that of the event's transaction, and then one for each that is aborted in
-- cascade.
abbrev pub operations_text : Event → Reply → List ℕ
operations_text event (reply.Looked k v) = access_lines (codes "r") k (stepping event)
operations_text event (reply.Wrote k v) = access_lines (codes "w") k (stepping event)
operations_text event (reply.Committed answers) = end_lines (codes "c") (named event)
operations_text event (reply.Aborted why fell) = end_lines (codes "a") (named event ++ fell)
operations_text event (reply.Refused code fell) = end_lines (codes "a") (named event ++ fell)
operations_text event _ = []

-- the transcript of entries, newest entry first: the newest one's operations come last
abbrev pub transcript : List Entry → List ℕ
transcript [] = []
transcript (e ∷ past) = transcript past ++ operations_text e.event e.reply

-- this many entries were cut off: what follows is another history
abbrev pub cut_comment : ℕ → List ℕ
cut_comment entries = codes "# cut " ++ decimal entries ++ codes "\n"

-- ---- what it spells

-- the name of the key's item is the text of the key, if the reply names a key
abbrev pub NamesKey : (Key → ℕ) → List (List ℕ) → Reply → Type 0
NamesKey number items (reply.Looked k v) = text_at items (number k) ≡ key_text k
NamesKey number items (reply.Wrote k v) = text_at items (number k) ≡ key_text k
NamesKey number items _ = ⊤

-- the same for each key of these entries
abbrev pub NamesKeys : (Key → ℕ) → List (List ℕ) → List Entry → Type 0
NamesKeys number items [] = ⊤
NamesKeys number items (e ∷ past) = NamesKeys number items past × NamesKey number items e.reply

-- the operations as they are spelled, a line each
abbrev pub spelled_lines : List (List ℕ) → List Operation → List ℕ
spelled_lines items = flat_map (λ op. spelling items op ++ codes "\n")

-- a transcript spells the operations of the textbook's history, whatever numbers the keys get there
abbrev pub TranscriptsSpellTextbooks : Type 0
TranscriptsSpellTextbooks = (number : Key → ℕ) (items : List (List ℕ)) (past : List Entry) → NamesKeys number items past
    → transcript past ≡ spelled_lines items (textbook number past)
