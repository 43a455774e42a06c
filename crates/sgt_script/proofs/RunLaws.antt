-- The laws of a script's run: of each part, since its history is legal, and of what was written.
use Rattle.std.proofs.Common.{◌≡◌, refl, sym, ap, ◌∙◌, subst, List, [], ◌∷◌, ◌++◌, append_assoc, append-nil}
use Rattle.std.proofs.Math.Path.{fun_ext}
use Rattle.std.specs.Prelude.{ℕ, length, Option, None, Some, IfSome, Ok, Err}
use Rattle.sgt_model.specs.declared.entry.Entry.{Entry}
use Rattle.sgt_model.specs.declared.limits.Limits.{Limits}
use Rattle.sgt_model.specs.declared.reply.Reply.{Reply}
use Rattle.sgt_model.specs.declared.reply.Reply.TheVariants as reply
use Rattle.sgt_model.specs.Contents.{Key, Contents}
use Rattle.sgt_model.specs.Configurations.{Configuration, Rules, rules_from, configuration}
use Rattle.sgt_model.specs.StoredValues.{HoldValues, CommittedAreValues}
use Rattle.sgt_model.specs.Syntax.{ProcedureText}
use Rattle.sgt_model.specs.Laws.{HeadlineHolds}
use Rattle.sgt_model.specs.Legality.{Legal}
use Rattle.sgt_model.specs.Replay.{RunResult, folded, reported_in, reported}
use Rattle.sgt_smallbank.specs.Replays.{CommitsAreBank, ReplayIsBank}
use Rattle.sgt_smallbank.specs.Texts.{procedures}
use Rattle.sgt_assembly.specs.Openings.{OpenedHoldValues}
use Rattle.sgt_format.specs.FilledOpenings.{after_records, leading_records, number_after}
use Rattle.sgt_format.specs.ReplyText.{text}
use Rattle.sgt_input.specs.Lines.{Ending}
use Rattle.sgt_input.specs.Ends.{End}
use Rattle.sgt_textbook.specs.Laws.{AreCommitOrdered, AreSerializable, AreRecoverable, TextbookLaws}
use Rattle.sgt_notation.specs.Transcripts.{TranscriptsSpellTextbooks, cut_comment, operations_text, transcript}
use Rattle.sgt_script.specs.declared.output.Output.{Output}
use Rattle.sgt_script.specs.declared.output.Output.TheVariants.{Replies, History, Records, Json}
use Rattle.sgt_script.specs.Parts.{Answer, Replied, WasCut, StillLive, LegalRun, Part, answer_text, answers_text, cut_off, left_by, part_of, parts_of}
use Rattle.sgt_script.specs.Scripts.{Execution, Closing, Opened, RunOutput, ScriptOf}
use Rattle.sgt_script.specs.RunLaws.{HistoryLaws, InEachPart, InEachTextbook, IsSerialText, PartLaws, RunLaws, after_cut, transcripts, carried, chained, line_reporting, opened_on, replies_reporting, results_left}
use Rattle.sgt_script.proofs.Parts.{legal-part}

-- one more reply after a text: the line of its own results is its text
reports-one : (r : Reply) (results : List RunResult) (before : List ℕ) (reporting : List RunResult → List ℕ) → reporting results ≡ before
    → reporting (results_left (reported_in r ++ results) r) ++ line_reporting (reported_in r ++ results) r ≡ before ++ text r
reports-one (reply.Committed answers) results before reporting is = ap (λ l. l ++ text (reply.Committed answers)) is
reports-one (reply.Refused code fell) results before reporting is = ap (λ l. l ++ text (reply.Refused code fell)) is
reports-one (reply.Started t) results before reporting is = ap (λ l. l ++ text (reply.Started t)) is
reports-one reply.NoProcedure results before reporting is = ap (λ l. l ++ text reply.NoProcedure) is
reports-one reply.BadArgs results before reporting is = ap (λ l. l ++ text reply.BadArgs) is
reports-one reply.Spent results before reporting is = ap (λ l. l ++ text reply.Spent) is
reports-one reply.Full results before reporting is = ap (λ l. l ++ text reply.Full) is
reports-one reply.Unknown results before reporting is = ap (λ l. l ++ text reply.Unknown) is
reports-one (reply.Over ended) results before reporting is = ap (λ l. l ++ text (reply.Over ended)) is
reports-one (reply.Looked k v) results before reporting is = ap (λ l. l ++ text (reply.Looked k v)) is
reports-one (reply.Wrote k v) results before reporting is = ap (λ l. l ++ text (reply.Wrote k v)) is
reports-one reply.Ended results before reporting is = ap (λ l. l ++ text reply.Ended) is
reports-one reply.NotEnded results before reporting is = ap (λ l. l ++ text reply.NotEnded) is
reports-one (reply.Waits t) results before reporting is = ap (λ l. l ++ text (reply.Waits t)) is
reports-one (reply.Aborted why fell) results before reporting is = ap (λ l. l ++ text (reply.Aborted why fell)) is

-- contents that are the same, at the end
pub closing-same : (w : Output) (m n : Contents) (end : End) (last : List ℕ) → ((k : Key) → n k ≡ m k) → Closing w m end last
    → Closing w n end last
closing-same Replies m n (Ok done) last same (rows, by_key, contents, is) = (rows, by_key, (λ k. contents k ∙ sym (same k)), is)
closing-same History m n (Ok done) last same is = is
closing-same Records m n (Ok done) last same (rows, by_key, contents, is) = (rows, by_key, (λ k. contents k ∙ sym (same k)), is)
closing-same Json m n (Ok done) last same (rows, by_key, contents, is) = (rows, by_key, (λ k. contents k ∙ sym (same k)), is)
closing-same w m n (Err fault) last same is = is

-- a run in the output mode History writes the transcripts of its parts

-- one more entry of the current part
transcript-more : (s : Configuration) (e : Entry) (past : List Entry) (parts : List Part)
    → after_cut (record { configuration = s; past = past }) parts ++ operations_text e.event e.reply
    ≡ after_cut (record { configuration = s; past = e ∷ past }) parts
transcript-more s e past [] = refl
transcript-more s e past (q ∷ parts) =
    append_assoc (after_cut q parts ++ cut_comment (length q.past)) (transcript past) (operations_text e.event e.reply)

transcribed : (s : Configuration) (answers : List Answer) → LegalRun s answers
    → answers_text History answers ≡ transcripts (parts_of s answers)
transcribed s [] legal = refl
transcribed s (Replied e ∷ answers) legal =
    let p = part_of s answers in
    ap (λ l. l ++ operations_text e.event e.reply) (transcribed s answers legal.0)
    ∙ transcript-more p.configuration e p.past (cut_off s answers)
transcribed s (WasCut entries ∷ answers) legal =
    let p = part_of s answers in
    ap (λ l. l ++ cut_comment entries) (transcribed s answers legal.0)
    ∙ ap (λ n. transcripts (parts_of s answers) ++ cut_comment n) legal.1.1
    ∙ sym (append-nil (transcripts (parts_of s answers) ++ cut_comment (length p.past)))
transcribed s (StillLive ∷ answers) legal = append-nil (answers_text History answers) ∙ transcribed s answers legal.0

closes-nothing : (m : Contents) (end : End) (last : List ℕ) → Closing History m end last → last ≡ []
closes-nothing m (Ok done) last is = is
closes-nothing m (Err fault) last is = is

transcribed-run : (run : Execution) (n : ℕ) (later : List (List ℕ)) (ending : Ending) (out : List ℕ) (end : End)
    → RunOutput History run n later ending out end → out ≡ transcripts (parts_of run.configuration run.answers)
transcribed-run run n later ending out end output =
    output.text ∙ ap (λ l. answers_text History run.answers ++ l)
    (closes-nothing (left_by (part_of run.configuration run.answers)) end output.last output.closing)
    ∙ append-nil (answers_text History run.answers) ∙ transcribed run.configuration run.answers output.legal

module _ (headline : HeadlineHolds) where
  -- each part starts from what the serial run of those before it leaves
  chain : (s : Configuration) (answers : List Answer) → LegalRun s answers → (part_of s answers).configuration ≡ opened_on (carried s answers) s
  chain s [] legal = refl
  chain s (Replied e ∷ answers) legal = chain s answers legal.0
  chain s (WasCut entries ∷ answers) legal =
      let p = part_of s answers in
      let before = chain s answers legal.0 in
      let replay = (headline p.configuration p.past (legal-part s answers legal.0)).replay in
      let left : left_by p ≡ (folded (opened_on (carried s answers) s) p.past).last =
      fun_ext (λ k. sym (replay.database k)) ∙ ap (λ (t : Configuration). (folded t p.past).last) before in
      ap (λ (m : Contents). record { opening = m; rules = p.configuration.rules }) left
      ∙ ap (λ (r : Rules). record { opening = (folded (opened_on (carried s answers) s) p.past).last; rules = r })
      (ap (λ (t : Configuration). t.rules) before)
  chain s (StillLive ∷ answers) legal = chain s answers legal.0

  -- so the serial run of a part returns what the part reported
  chain-reports : (s : Configuration) (answers : List Answer) → LegalRun s answers → (chained s answers).results ≡ reported (part_of s answers).past
  chain-reports s answers legal =
      let p = part_of s answers in
      ap (λ (t : Configuration). (folded t p.past).results) (sym (chain s answers legal))
      ∙ (headline p.configuration p.past (legal-part s answers legal)).replay.answers

  pub chain-leaves : (s : Configuration) (answers : List Answer) → LegalRun s answers → (k : Key)
      → (chained s answers).last k ≡ left_by (part_of s answers) k
  chain-leaves s answers legal k =
      let p = part_of s answers in
      ap (λ (t : Configuration). (folded t p.past).last k) (sym (chain s answers legal))
      ∙ (headline p.configuration p.past (legal-part s answers legal)).replay.database k

  reports : (s : Configuration) (answers : List Answer) → LegalRun s answers
      → replies_reporting s (reported (part_of s answers).past) answers ≡ answers_text Replies answers
  reports s [] legal = refl
  reports s (Replied e ∷ answers) legal =
      reports-one e.reply (reported (part_of s answers).past) (answers_text Replies answers) (λ results. replies_reporting s results answers)
      (reports s answers legal.0)
  reports s (WasCut entries ∷ answers) legal = ap (λ l. l ++ answer_text Replies (WasCut entries))
      (ap (λ results. replies_reporting s results answers) (chain-reports s answers legal.0) ∙ reports s answers legal.0)
  reports s (StillLive ∷ answers) legal = ap (λ l. l ++ answer_text Replies StillLive) (reports s answers legal.0)

  serial-text : (run : Execution) (n : ℕ) (later : List (List ℕ)) (ending : Ending) (out : List ℕ) (end : End)
      → RunOutput Replies run n later ending out end → IsSerialText run out end
  serial-text run n later ending out end output = record {
    last = output.last;
    closing = closing-same Replies _ _ end output.last (chain-leaves run.configuration run.answers output.legal) output.closing;
    text = output.text ∙ ap (λ l. l ++ output.last) (sym (reports run.configuration run.answers output.legal)
        ∙ ap (λ results. replies_reporting run.configuration results run.answers) (sym (chain-reports run.configuration run.answers output.legal)));
  }

  module _ (opened : OpenedHoldValues) (settle : CommittedAreValues) (bank : ReplayIsBank) where
    -- the rules stay, and what a part starts from holds values
    rules-stay : (s : Configuration) (answers : List Answer) → LegalRun s answers → (part_of s answers).configuration.rules ≡ s.rules
    rules-stay s answers legal = ap (λ (t : Configuration). t.rules) (chain s answers legal)

    module _ (others : List ProcedureText) (limits : Limits) where
      same-configuration : (s : Configuration) (answers : List Answer) → s.rules ≡ rules_from (procedures ++ others) limits → LegalRun s answers
          → (part_of s answers).configuration ≡ configuration (part_of s answers).configuration.opening (procedures ++ others) limits
      same-configuration s answers is legal =
          ap (λ (r : Rules). record { opening = (part_of s answers).configuration.opening; rules = r }) (rules-stay s answers legal ∙ is)

      part-values : (s : Configuration) (answers : List Answer) → s.rules ≡ rules_from (procedures ++ others) limits → HoldValues s.opening
          → LegalRun s answers → HoldValues (part_of s answers).configuration.opening
      part-values s [] is values legal = values
      part-values s (Replied e ∷ answers) is values legal = part-values s answers is values legal.0
      part-values s (WasCut entries ∷ answers) is values legal =
          settle (part_of s answers).configuration.opening (procedures ++ others) limits (part_of s answers).past
          (part-values s answers is values legal.0)
          (subst (λ (t : Configuration). Legal t (part_of s answers).past) (same-configuration s answers is legal.0) (legal-part s answers legal.0))
      part-values s (StillLive ∷ answers) is values legal = part-values s answers is values legal.0

      part-laws : (s : Configuration) (answers : List Answer) → s.rules ≡ rules_from (procedures ++ others) limits → HoldValues s.opening
          → LegalRun s answers → PartLaws (part_of s answers)
      part-laws s answers is values legal =
          let p = part_of s answers in
          let parts = headline p.configuration p.past (legal-part s answers legal) in
          let same = same-configuration s answers is legal in
          record {
            replay = parts.replay;
            no_cycle = parts.no_cycle;
            causes = parts.causes;
            order = parts.order;
            bank = subst (λ (t : Configuration). CommitsAreBank t p.past) (sym same)
                (bank p.configuration.opening others limits p.past (part-values s answers is values legal)
                (subst (λ (t : Configuration). Legal t p.past) same (legal-part s answers legal)));
          }

      cut-laws : (s : Configuration) (answers : List Answer) → s.rules ≡ rules_from (procedures ++ others) limits → HoldValues s.opening
          → LegalRun s answers → InEachPart (cut_off s answers)
      cut-laws s [] is values legal = tt
      cut-laws s (Replied e ∷ answers) is values legal = cut-laws s answers is values legal.0
      cut-laws s (WasCut entries ∷ answers) is values legal =
          (part-laws s answers is values legal.0, cut-laws s answers is values legal.0)
      cut-laws s (StillLive ∷ answers) is values legal = cut-laws s answers is values legal.0

    pub parts-laws : (w : Output) (l : List ℕ) (ls : List (List ℕ)) (ending : Ending) (run : Execution) (out : List ℕ) (end : End)
        → Opened w l ls ending run out end → InEachPart (parts_of run.configuration run.answers)
    parts-laws w l ls ending run out end s =
        let rules = ap (λ (t : Configuration). t.rules) s.configuration in
        let values = subst (λ (t : Configuration). HoldValues t.opening) (sym s.configuration) (opened 1 l (leading_records ls) s.opening s.opens) in
        let others = s.opening.procedures.items in
        let limits = s.opening.limits in (
          part-laws others limits run.configuration run.answers rules values s.output.legal,
          cut-laws others limits run.configuration run.answers rules values s.output.legal,
        )

    pub run-laws : (ls : List (List ℕ)) (ending : Ending) (run : Option Execution) (out : List ℕ) (end : End)
        → ScriptOf Replies ls ending run out end → IfSome run (λ r. RunLaws r out end)
    run-laws [] ending None out end s = tt
    run-laws [] ending (Some run) out end s = absurd s
    run-laws (l ∷ ls) ending None out end s = tt
    run-laws (l ∷ ls) ending (Some run) out end s = record {
      parts = parts-laws Replies l ls ending run out end s;
      written = serial-text run (number_after ls) (after_records ls) ending out end s.output;
    }

    -- the same in the output mode History
    module _ (ordered : AreCommitOrdered) (serializable : AreSerializable) (recoverable : AreRecoverable)
        (spell : TranscriptsSpellTextbooks) where
      textbook-laws : (s : Configuration) (answers : List Answer) → LegalRun s answers → TextbookLaws (part_of s answers).past
      textbook-laws s answers legal =
          let p = part_of s answers in record {
            commit_ordered = λ number numbers. ordered number numbers p.configuration p.past (legal-part s answers legal);
            serializable = λ number numbers. serializable number numbers p.configuration p.past (legal-part s answers legal);
            recoverable = λ number numbers. recoverable number numbers p.configuration p.past (legal-part s answers legal);
          }

      cut-textbooks : (s : Configuration) (answers : List Answer) → LegalRun s answers → InEachTextbook (cut_off s answers)
      cut-textbooks s [] legal = tt
      cut-textbooks s (Replied e ∷ answers) legal = cut-textbooks s answers legal.0
      cut-textbooks s (WasCut entries ∷ answers) legal = (textbook-laws s answers legal.0, cut-textbooks s answers legal.0)
      cut-textbooks s (StillLive ∷ answers) legal = cut-textbooks s answers legal.0

      pub history-laws : (ls : List (List ℕ)) (ending : Ending) (run : Option Execution) (out : List ℕ) (end : End)
          → ScriptOf History ls ending run out end → IfSome run (λ r. HistoryLaws r out)
      history-laws [] ending None out end s = tt
      history-laws [] ending (Some run) out end s = absurd s
      history-laws (l ∷ ls) ending None out end s = tt
      history-laws (l ∷ ls) ending (Some run) out end s = record {
        parts = parts-laws History l ls ending run out end s;
        textbooks = (
          textbook-laws run.configuration run.answers s.output.legal,
          cut-textbooks run.configuration run.answers s.output.legal,
        );
        written = transcribed-run run (number_after ls) (after_records ls) ending out end s.output;
        spelled = spell;
      }
