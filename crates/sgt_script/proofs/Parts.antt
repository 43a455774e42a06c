-- Laws of the parts of a run: each has a legal history, and whatever was answered goes on over any further lines.
use Rattle.std.proofs.Common.{◌≡◌, ℕ, List, [], ◌∷◌, ◌++◌, refl, ap, sym, ◌∙◌, append_assoc, append-nil, subst}
use Rattle.std.proofs.lemmas.List.{map-append, reverse-append, length-reverse}
use Rattle.std.proofs.Math.Path.{fun_ext}
use Rattle.std.specs.Prelude.{map, reverse, length}
use Rattle.sgt_model.specs.Continuations.{SettledAreRows}
use Rattle.sgt_model.specs.Databases.{Row, contents_of}
use Rattle.sgt_model.specs.Fates.{live_ones}
use Rattle.sgt_model.specs.Legality.{Legal}
use Rattle.sgt_model.specs.OneReply.{SomeReplyIsLegal}
use Rattle.sgt_model.specs.Configurations.{Configuration}
use Rattle.sgt_model.specs.Values.{settled}
use Rattle.sgt_format.specs.declared.script_line.ScriptLine.{ScriptLine}
use Rattle.sgt_format.specs.declared.script_line.ScriptLine.TheVariants as script_line
use Rattle.sgt_model.specs.declared.entry.Entry.{Entry}
use Rattle.sgt_model.specs.declared.event.Event.{Event}
use Rattle.sgt_engine.specs.Cuts.{GoesOn, NobodyLive, configuration_after}
use Rattle.sgt_engine.specs.EngineView.{EngineView, configuration_of}
use Rattle.sgt_script.specs.Answering.{AnswersLine}
use Rattle.sgt_script.specs.declared.output.Output.{Output}
use Rattle.sgt_script.specs.Parts.{Answer, Replied, WasCut, StillLive, LegalAnswer, LegalRun, Part, answer_text, requested, lines_of, part_at, part_of, answers_text}

-- the history of the current part is legal
pub legal-part : (s : Configuration) (answers : List Answer) → LegalRun s answers → Legal (part_of s answers).configuration (part_of s answers).past
legal-part s [] legal = tt
legal-part s (Replied e ∷ answers) legal = (legal-part s answers legal.0, legal.1)
legal-part s (WasCut entries ∷ answers) legal = tt
legal-part s (StillLive ∷ answers) legal = legal-part s answers legal.0

-- rows can represent what the current part started from
pub part-rows : SettledAreRows → (s : Configuration) (rows : List Row) (answers : List Answer) → s.opening ≡ contents_of rows
    → (opened : List Row) × ((part_of s answers).configuration.opening ≡ contents_of opened)
part-rows are_rows s rows [] is = (rows, is)
part-rows are_rows s rows (Replied e ∷ answers) is = part-rows are_rows s rows answers is
part-rows are_rows s rows (WasCut entries ∷ answers) is =
    let before = part-rows are_rows s rows answers is in
    let after = are_rows before.0 (part_of s answers).past in
    (after.0, ap (λ m. settled m (part_of s answers).past) before.1 ∙ fun_ext (λ k. sym (after.2 k)))
part-rows are_rows s rows (StillLive ∷ answers) is = part-rows are_rows s rows answers is

-- some legal answer

cut-answer : (p : Part) (lives : List ℕ) → live_ones p.past ≡ lives → (a : Answer) × LegalAnswer p a × (requested a ≡ script_line.Cut)
cut-answer p [] none = (WasCut (length p.past), (none, refl), refl)
cut-answer p (t ∷ ts) some = (StillLive, (λ none. absurd (cc (sym some ∙ none))), refl)

answer-to : SomeReplyIsLegal → (p : Part) (line : ScriptLine) → (a : Answer) × LegalAnswer p a × (requested a ≡ line)
answer-to some p (script_line.Event e) =
    let r = some p.configuration p.past e in (Replied (record { event = e; reply = r.0 }), r.1, refl)
answer-to some p script_line.Cut = cut-answer p (live_ones p.past) refl

-- the text of answers with newer ones
pub replies-newer : (w : Output) (newer answers : List Answer)
    → answers_text w (newer ++ answers) ≡ answers_text w answers ++ answers_text w newer
replies-newer w [] answers = sym (append-nil (answers_text w answers))
replies-newer w (a ∷ newer) answers = ap (λ l. l ++ answer_text w a) (replies-newer w newer answers)
    ∙ append_assoc (answers_text w answers) (answers_text w newer) (answer_text w a)

-- and the lines
pub lines-newer : (newer answers : List Answer) → lines_of (newer ++ answers) ≡ lines_of answers ++ lines_of newer
lines-newer newer answers = ap (map requested) (reverse-append newer answers) ∙ map-append requested (reverse answers) (reverse newer)

-- legal answers go on over any further lines
pub runs-go-on : SomeReplyIsLegal → (s : Configuration) (answers : List Answer) (lines : List ScriptLine) → LegalRun s answers
    → (later : List Answer) × LegalRun s (later ++ answers) × (lines_of later ≡ lines)
runs-go-on some s answers [] legal = ([], legal, refl)
runs-go-on some s answers (line ∷ lines) legal =
    let one = answer-to some (part_of s answers) line in
    let more = runs-go-on some s (one.0 ∷ answers) lines (legal, one.1) in (
      more.0 ++ one.0 ∷ [],
      subst (LegalRun s) (sym (append_assoc more.0 (one.0 ∷ []) answers)) more.1,
      lines-newer more.0 (one.0 ∷ []) ∙ ap (λ l. requested one.0 ∷ l) more.2 ∙ ap (λ l. l ∷ lines) one.2,
    )

-- what an engine does with a line is an answer to it

pub replied : (w : Output) (e : Entry) (event : Event) (old new : EngineView) (before after : List ℕ) → configuration_of new ≡ configuration_of old
    → new.past ≡ e ∷ old.past → e.event ≡ event → after ≡ before ++ answer_text w (Replied e) → Legal (configuration_of new) new.past
    → AnswersLine w (script_line.Event event) (part_at old) (part_at new) before after
replied w e event old new before after same more is reported legal =
    let legal' : Legal (configuration_of old) (e ∷ old.past) =
    subst (λ (es : List Entry). Legal (configuration_of old) es) more (subst (λ (s : Configuration). Legal s new.past) same legal) in record {
      answer = Replied e;
      of_line = ap (λ (x : Event). script_line.Event x) is;
      legal = legal'.1;
      part = ap (λ (s : Configuration). record { configuration = s; past = new.past }) same
          ∙ ap (λ (es : List Entry). record { configuration = configuration_of old; past = es }) more;
      text = reported;
    }

nobody : (lives : List ℕ) → ¬ ¬ (lives ≡ []) → lives ≡ []
nobody [] not = refl
nobody (t ∷ ts) not = absurd (not (λ none. absurd (cc none)))

pub was-cut : (w : Output) (old new : EngineView) (items : List Entry) (n : ℕ) (before after : List ℕ) → GoesOn old new
    → reverse items ≡ old.past
    → n ≡ length items → ¬ ¬ NobodyLive old.past → after ≡ before ++ answer_text w (WasCut n)
    → AnswersLine w script_line.Cut (part_at old) (part_at new) before after
was-cut w old new items n before after goes entries counted not reported = record {
  answer = WasCut n;
  of_line = refl;
  legal = (nobody (live_ones old.past) not, counted ∙ sym (length-reverse items) ∙ ap length entries);
  part = ap (λ (s : Configuration). record { configuration = s; past = new.past }) goes.configuration
      ∙ ap (λ (es : List Entry). record { configuration = configuration_after (configuration_of old) old.past; past = es }) goes.past;
  text = reported;
}
