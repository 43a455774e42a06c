-- The answers to the lines of a script, and the parts into which its cuts divide a run.
use Rattle.std.specs.Prelude.{◌≡◌, ℕ, ⊤, List, [], ◌∷◌, ◌++◌, length, map, reverse}
use Rattle.sgt_model.specs.declared.entry.Entry.{Entry}
use Rattle.sgt_model.specs.Contents.{Contents}
use Rattle.sgt_model.specs.Configurations.{Configuration}
use Rattle.sgt_model.specs.Legality.{LegalReply}
use Rattle.sgt_model.specs.Values.{settled}
use Rattle.sgt_engine.specs.Cuts.{NobodyLive, configuration_after}
use Rattle.sgt_engine.specs.EngineView.{EngineView, configuration_of}
use Rattle.sgt_format.specs.ReplyText.{text}
use Rattle.sgt_format.specs.CutText.{cut_text, still_live_text}
use Rattle.sgt_notation.specs.Transcripts.{operations_text, cut_comment}
use Rattle.sgt_reply_json.specs.ReplyObjects.{cut_object, reply_object, still_live_object}
use Rattle.sgt_script.specs.declared.output.Output.{Output}
use Rattle.sgt_script.specs.declared.output.Output.TheVariants.{Replies, History, Records, Json}
use Rattle.sgt_format.specs.declared.script_line.ScriptLine.{ScriptLine}
use Rattle.sgt_format.specs.declared.script_line.ScriptLine.TheVariants as script_line

-- ---- answers

-- the answer to a line: an event gets a reply, and becomes an entry; a cut gets the number of entries that were cut
-- off, or that a transaction is live
pub data Answer : Type 0 where
  Replied : Entry → Answer
  WasCut : ℕ → Answer
  StillLive : Answer

-- what the line requests
abbrev pub requested : Answer → ScriptLine
requested (Replied e) = script_line.Event e.event
requested (WasCut entries) = script_line.Cut
requested StillLive = script_line.Cut

-- the requests that got these answers, oldest first
abbrev pub lines_of : List Answer → List ScriptLine
lines_of answers = map requested (reverse answers)

-- the text of an answer, by the output mode: the line that replies to it; or its operations, with a comment where one
-- history ends and another starts; or nothing; or the reply as an object of JSON
abbrev pub answer_text : Output → Answer → List ℕ
answer_text Replies (Replied e) = text e.reply
answer_text Replies (WasCut entries) = cut_text entries
answer_text Replies StillLive = still_live_text
answer_text History (Replied e) = operations_text e.event e.reply
answer_text History (WasCut entries) = cut_comment entries
answer_text History StillLive = []
answer_text Records a = []
answer_text Json (Replied e) = reply_object e.event e.reply
answer_text Json (WasCut entries) = cut_object entries
answer_text Json StillLive = still_live_object

-- the text of these answers, oldest first
abbrev pub answers_text : Output → List Answer → List ℕ
answers_text w [] = []
answers_text w (a ∷ answers) = answers_text w answers ++ answer_text w a

-- ---- parts

-- a part of a run: what it started from, and the history of the events since
pub record Part : Type 0 where
  pub configuration : Configuration
  pub past : List Entry

-- the committed contents at the end of a part
abbrev pub left_by : Part → Contents
left_by p = settled p.configuration.opening p.past

-- the part of an engine
abbrev pub part_at : EngineView → Part
part_at e = record { configuration = configuration_of e; past = e.past }

-- the current part after one more answer: an event adds an entry to it, and a cut starts a new part on its committed
-- contents
abbrev pub part_after : Answer → Part → Part
part_after (Replied e) p = record { configuration = p.configuration; past = e ∷ p.past }
part_after (WasCut entries) p = record { configuration = configuration_after p.configuration p.past; past = [] }
part_after StillLive p = p

-- the current part after these answers
abbrev pub part_of : Configuration → List Answer → Part
part_of s [] = record { configuration = s; past = [] }
part_of s (a ∷ answers) = part_after a (part_of s answers)

-- the part that an answer cuts off, if it does
abbrev pub cut_by : Answer → Part → List Part
cut_by (Replied e) p = []
cut_by (WasCut entries) p = p ∷ []
cut_by StillLive p = []

-- the parts cut off, newest first
abbrev pub cut_off : Configuration → List Answer → List Part
cut_off s [] = []
cut_off s (a ∷ answers) = cut_by a (part_of s answers) ++ cut_off s answers

-- all parts, the current one first
abbrev pub parts_of : Configuration → List Answer → List Part
parts_of s answers = part_of s answers ∷ cut_off s answers

-- ---- legal answers

-- the answer is a legal one for the next line: to an event, a legal reply; to a cut, the number of the part's entries
-- if no transaction is live, and else that one is
abbrev pub LegalAnswer : Part → Answer → Type 0
LegalAnswer p (Replied e) = LegalReply p.configuration p.past e.event e.reply
LegalAnswer p (WasCut entries) = NobodyLive p.past × (entries ≡ length p.past)
LegalAnswer p StillLive = ¬ NobodyLive p.past

-- each answer is legal after those before it
abbrev pub LegalRun : Configuration → List Answer → Type 0
LegalRun s [] = ⊤
LegalRun s (a ∷ answers) = LegalRun s answers × LegalAnswer (part_of s answers) a
