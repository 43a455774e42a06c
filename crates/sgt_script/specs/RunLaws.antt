-- What every run of a script obeys: the headline for each part, and laws of what was written.
use Rattle.std.specs.Prelude.{◌≡◌, ℕ, List, [], ◌∷◌, ◌++◌, ⊤, length}
use Rattle.sgt_model.specs.declared.reply.Reply.{Reply}
use Rattle.sgt_model.specs.declared.reply.Reply.TheVariants as reply
use Rattle.sgt_model.specs.Paths.{Acyclic}
use Rattle.sgt_model.specs.Pairs.{Pair}
use Rattle.sgt_model.specs.Replay.{RunResult, GaveAnswers, RaisedCode, Folded, folded, ReplayAgrees}
use Rattle.sgt_model.specs.Contents.{Contents}
use Rattle.sgt_model.specs.Configurations.{Configuration}
use Rattle.sgt_model.specs.Aborts.{AbortsHaveCause}
use Rattle.sgt_model.specs.CommitOrder.{CommitsInOrder}
use Rattle.sgt_smallbank.specs.Replays.{CommitsAreBank}
use Rattle.sgt_textbook.specs.Laws.{TextbookLaws}
use Rattle.sgt_notation.specs.Transcripts.{TranscriptsSpellTextbooks, cut_comment, transcript}
use Rattle.sgt_format.specs.ReplyText.{text}
use Rattle.sgt_input.specs.Ends.{End}
use Rattle.sgt_script.specs.declared.output.Output.TheVariants.{Replies, Records, Json}
use Rattle.sgt_script.specs.Parts.{Answer, Replied, WasCut, StillLive, Part, answer_text, answers_text, part_of, parts_of}
use Rattle.sgt_script.specs.Scripts.{Execution, Closing}

-- the line that reports the first of these results to a transaction that commits. A code has no such line
abbrev pub answers_line : List RunResult → List ℕ
answers_line [] = []
answers_line (GaveAnswers answers ∷ results) = text (reply.Committed answers)
answers_line (RaisedCode code ∷ results) = []

-- the line that reports the first of these results to a transaction that is refused, with these aborted in cascade.
-- Answers have no such line
abbrev pub code_line : List ℕ → List RunResult → List ℕ
code_line fell [] = []
code_line fell (GaveAnswers answers ∷ results) = []
code_line fell (RaisedCode code ∷ results) = text (reply.Refused code fell)

-- the line of a reply. For a transaction that commits or is refused, it reports the first of these results in place
-- of the reply's own answers or code
abbrev pub line_reporting : List RunResult → Reply → List ℕ
line_reporting results (reply.Committed answers) = answers_line results
line_reporting results (reply.Refused code fell) = code_line fell results
line_reporting results r = text r

-- the results after the first
abbrev pub later_results : List RunResult → List RunResult
later_results [] = []
later_results (r ∷ results) = results

-- the results left after a reply took the first
abbrev pub results_left : List RunResult → Reply → List RunResult
results_left results (reply.Committed answers) = later_results results
results_left results (reply.Refused code fell) = later_results results
results_left results _ = results

-- ---- the serial run of all parts

-- the same rules, on these initial contents
abbrev pub opened_on : Contents → Configuration → Configuration
opened_on m s = record { opening = m; rules = s.rules }

-- the contents after the serial run of the parts cut off: each runs on what the one before it left, the first on the
-- initial contents
abbrev pub carried : Configuration → List Answer → Contents
carried s [] = s.opening
carried s (Replied e ∷ answers) = carried s answers
carried s (WasCut entries ∷ answers) = (folded (opened_on (carried s answers) s) (part_of s answers).past).last
carried s (StillLive ∷ answers) = carried s answers

-- the serial run of the current part, on the contents that the parts cut off left
abbrev pub chained : Configuration → List Answer → Folded
chained s answers = folded (opened_on (carried s answers) s) (part_of s answers).past

-- the text of these answers, in which transactions that commit or are refused get the results of the serial run of
-- their part. In the current part these are the given results, last one first
abbrev pub replies_reporting : Configuration → List RunResult → List Answer → List ℕ
replies_reporting s results [] = []
replies_reporting s results (Replied e ∷ answers) = replies_reporting s (results_left results e.reply) answers ++ line_reporting results e.reply
replies_reporting s results (WasCut entries ∷ answers) = replies_reporting s (chained s answers).results answers ++ answer_text Replies (WasCut entries)
replies_reporting s results (StillLive ∷ answers) = replies_reporting s results answers ++ answer_text Replies StillLive

-- what was written is what the serial run of all parts, one after another, returns: each `committed` line has its
-- answers, and each `refused` line the code that it raises. If the run ends well, the last lines are the database
-- that it leaves
pub record IsSerialText (run : Execution) (out : List ℕ) (end : End) : Type 0 where
  pub last : List ℕ
  pub closing : Closing Replies (chained run.configuration run.answers).last end last
  pub text : out ≡ replies_reporting run.configuration (chained run.configuration run.answers).results run.answers ++ last

-- ---- the laws

-- the parts of the headline, for a part of a run; and the bank's arithmetic
pub record PartLaws (p : Part) : Type 0 where
  pub replay : ReplayAgrees p.configuration p.past
  pub no_cycle : Acyclic (Pair p.past)
  pub causes : AbortsHaveCause p.configuration p.past
  pub order : CommitsInOrder p.past
  pub bank : CommitsAreBank p.configuration p.past

-- they hold for each of these parts
abbrev pub InEachPart : List Part → Type 0
InEachPart [] = ⊤
InEachPart (p ∷ parts) = PartLaws p × InEachPart parts

-- they hold for each part of a run, between its cuts, and what was written is what one serial run returns
pub record RunLaws (run : Execution) (out : List ℕ) (end : End) : Type 0 where
  pub parts : InEachPart (parts_of run.configuration run.answers)
  pub written : IsSerialText run out end

-- ---- in the output mode History

-- what the textbook says holds for the history of each of these parts
abbrev pub InEachTextbook : List Part → Type 0
InEachTextbook [] = ⊤
InEachTextbook (p ∷ parts) = TextbookLaws p.past × InEachTextbook parts

-- the transcript of a part, after a comment with the number of entries that were cut off before it
abbrev pub after_cut : Part → List Part → List ℕ
after_cut p [] = transcript p.past
after_cut p (q ∷ parts) = after_cut q parts ++ cut_comment (length q.past) ++ transcript p.past

-- the transcripts of the parts, the current one last, with a comment wherever a history was cut off
abbrev pub transcripts : List Part → List ℕ
transcripts [] = []
transcripts (p ∷ parts) = after_cut p parts

-- The laws hold for each part of a run, and so do the textbook's. What was written are the transcripts of the parts,
-- which spell the operations of the textbook's histories.
pub record HistoryLaws (run : Execution) (out : List ℕ) : Type 0 where
  pub parts : InEachPart (parts_of run.configuration run.answers)
  pub textbooks : InEachTextbook (parts_of run.configuration run.answers)
  pub written : out ≡ transcripts (parts_of run.configuration run.answers)
  pub spelled : TranscriptsSpellTextbooks

-- ---- in the output modes Records and Json

-- The laws hold for each part of a run. If the run ends well, it wrote the record lines of the database that the
-- serial run of all parts, one after another, leaves. If it ends at a fault, it wrote nothing.
pub record RecordLaws (run : Execution) (out : List ℕ) (end : End) : Type 0 where
  pub parts : InEachPart (parts_of run.configuration run.answers)
  pub written : Closing Records (chained run.configuration run.answers).last end out

-- The laws hold for each part of a run, so each answer is that of the serial run. The replies were written as objects,
-- and then, if the run ends well, the record lines of the database that the serial run of all parts, one after another,
-- leaves.
pub record JsonLaws (run : Execution) (out : List ℕ) (end : End) : Type 0 where
  pub parts : InEachPart (parts_of run.configuration run.answers)
  pub last : List ℕ
  pub closing : Closing Json (chained run.configuration run.answers).last end last
  pub written : out ≡ answers_text Json run.answers ++ last
