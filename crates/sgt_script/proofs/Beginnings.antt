-- Laws of an unfinished run: it wrote a prefix of what a whole run writes.
use Rattle.std.proofs.Common.{◌≡◌, ◌≢◌, ℕ, ◌+◌, List, [], ◌∷◌, ◌++◌, refl, ap, sym, ◌∙◌, append_assoc, append-nil, subst, inl, inr, arith}
use Rattle.std.proofs.lemmas.List.{take-append-drop}
use Rattle.std.specs.Result.{is_err}
use Rattle.std.specs.Prelude.{take, drop, true, false, Result, Option, None, Some, IfSome, OnErr, Ok, Err}
use Rattle.std.specs.Io.KnownBytes.{Appends, Consumes}
use Rattle.sgt_model.specs.declared.entry.Entry.{Entry}
use Rattle.sgt_model.specs.Continuations.{SettledAreRows}
use Rattle.sgt_model.specs.Databases.{Row, contents_of}
use Rattle.sgt_model.specs.OneReply.{SomeReplyIsLegal}
use Rattle.sgt_model.specs.Configurations.{Configuration}
use Rattle.sgt_model.specs.Values.{settled}
use Rattle.sgt_format.specs.DatabaseText.{database_text}
use Rattle.sgt_format.specs.RecordText.{record_lines}
use Rattle.sgt_format.specs.declared.opening.Opening.{Opening}
use Rattle.sgt_format.specs.declared.script_line.ScriptLine.{ScriptLine}
use Rattle.sgt_assembly.specs.Openings.{opened_configuration}
use Rattle.sgt_input.specs.declared.fault.Fault.{Fault}
use Rattle.sgt_input.specs.declared.fault.Fault.TheVariants as fault
use Rattle.sgt_input.specs.Lines.{Cut, cut_within, has_break}
use Rattle.sgt_input.specs.Intake.{Intake, bytes_left, cut_left, taken}
use Rattle.sgt_script.specs.Opened.{HasOpened}
use Rattle.sgt_input.specs.Records.{Passes, ReadsRecords}
use Rattle.sgt_input.proofs.Begun.{Begun, HaveBegun}
use Rattle.sgt_input.specs.Ends.{End, IsOfInput}
use Rattle.sgt_input.specs.Spelled.{spelled, end_of}
use Rattle.sgt_script.specs.declared.output.Output.{Output}
use Rattle.sgt_script.specs.declared.output.Output.TheVariants.{Replies, History, Records, Json}
use Rattle.sgt_script.specs.Parts.{Answer, LegalAnswer, LegalRun, Part, answer_text, left_by, lines_of, part_after, part_of, answers_text}
use Rattle.sgt_script.specs.Scripts.{ScriptOf, script_line_at, Closing, Last}
use Rattle.sgt_script.specs.Answering.{AnswersAll, AnswersLine, AnswersRead, AnswersScriptRead, AnswersSome, BeginWith, NoLine}
use Rattle.sgt_script.specs.Beginnings.{AppendsPart, Begins, IsStop, LineRuns, ScriptRuns, WritesAt}
use Rattle.sgt_script.specs.Outcomes.{IsCutOff, IsStopped}
use Rattle.sgt_script.proofs.Answers.{all-answered, appends-trans, begin-next, closes-part}
use Rattle.sgt_script.proofs.Parts.{lines-newer, part-rows, replies-newer, runs-go-on}
use Rattle.sgt_script.proofs.WholeLines.{IsReadSo, following-records, only-records, read-next, read-opened}
use Rattle.sgt_script.proofs.FirstLines.{appends-none, output-same}

-- what is written, and what is gathered

-- what was written of the answers, and what is gathered of them
abbrev pub Gathers : Output → Option (List ℕ) → Option (List ℕ) → List Answer → List ℕ → Type 0
Gathers w old now answers gathered = (bytes : List ℕ) × Appends old now bytes × (answers_text w answers ≡ bytes ++ gathered)

-- some of what is gathered was written out
abbrev pub Flushed : Option (List ℕ) → Option (List ℕ) → List ℕ → List ℕ → Type 0
Flushed old now gathered left = (bytes : List ℕ) × Appends old now bytes × (gathered ≡ bytes ++ left)

gathers-less : (w : Output) (a b c : Option (List ℕ)) (answers : List Answer) (held held' : List ℕ) → Gathers w a b answers held
    → Flushed b c held held'
    → Gathers w a c answers held'
gathers-less w a b c answers held held' (xs, first, all) (ys, second, rest) = (
  xs ++ ys,
  appends-trans a b c xs ys first second,
  all ∙ ap (λ l. xs ++ l) rest ∙ sym (append_assoc xs ys held'),
)

gathers-next : (w : Output) (a b : Option (List ℕ)) (answers : List Answer) (x : Answer) (held held' : List ℕ) → Gathers w a b answers held
    → held' ≡ held ++ answer_text w x → Gathers w a b (x ∷ answers) held'
gathers-next w a b answers x held held' (xs, first, all) more =
    (xs, first, ap (λ l. l ++ answer_text w x) all ∙ append_assoc xs held (answer_text w x) ∙ ap (λ l. xs ++ l) (sym more))

-- a failed write of these bytes wrote the first of them
pub part-of : {A E : Type 0} (r : Result A E) (a b : Option (List ℕ)) (bytes seen : List ℕ) → seen ≡ bytes → is_err r ≡ true
    → OnErr r ((k : ℕ) × Appends a b (take k seen)) → AppendsPart a b bytes
part-of (Ok x) a b bytes seen same failed part = absurd (cc)
part-of (Err e) a b bytes seen same failed (k, part) = record {
  written = take k seen;
  rest = drop k seen;
  parts = sym same ∙ sym (take-append-drop k seen);
  appends = part;
}

-- what follows of how a run ended

-- one that ended at the fault of its lines ended at the same one
pub same-fault : {A : Type 0} (r : Result A Fault) (end : End) (f g : Fault) → r ≡ Err f → end ≡ Err f → end ≡ Err g → r ≡ Err g
same-fault r end f g was is ends = was ∙ ap (λ (h : Fault). Err h) (cc (sym is ∙ ends))

-- and no write of its lines failed before it stopped
pub stop-well : {A : Type 0} (r : Result A Fault) (end : End) (f : Fault) → r ≡ Err f → end ≡ Err f → IsStop end → r ≢ Err fault.Writing
stop-well r end f was is stop writing =
    let same : f ≡ fault.Writing = cc (sym was ∙ writing) in subst IsStop (is ∙ ap (λ (h : Fault). Err h) same) stop

-- a claim for the case of an error holds if that error occurred
pub on-failed : {P : Type 0} (r : End) (f : Fault) → r ≡ Err f → OnErr r P → P
on-failed {P} r f is holds = subst (λ (e : End). OnErr e P) is holds

-- after some lines

-- of known lines from number n on, those before this intake were answered, and here an engine's part and what is gathered stand
pub record IsAnsweredSo (w : Output) (s : Configuration) (n : ℕ) (known : Option Cut) (from old : Option (List ℕ)) (i : Intake)
    (rest held : Option (List ℕ)) (gathered : List ℕ) (p : Part) : Type 0 where
  pub answers : List Answer
  pub legal : LegalRun s answers
  pub part : part_of s answers ≡ p
  pub answered : BeginWith n known (lines_of answers) (i.number + 1) (cut_left i rest)
  pub read : i.ended ≡ false → IsReadSo n from (bytes_left i rest) answers (i.number + 1)
  pub written : Gathers w old held answers gathered

begin-here : (n : ℕ) (known : Option Cut) → BeginWith n known [] n known
begin-here n None = tt
begin-here n (Some c) = (refl, refl)

consumes-none : (now : Option (List ℕ)) → Consumes now now []
consumes-none None = tt
consumes-none (Some xs) = refl

-- before the first
pub answered-none : (w : Output) (i : Intake) (rest held : Option (List ℕ)) (gathered : List ℕ) (s : Configuration) (past : List Entry)
    → gathered ≡ []
    → past ≡ []
    → IsAnsweredSo w s (i.number + 1) (cut_left i rest) (bytes_left i rest) held i rest held gathered (record { configuration = s; past = past })
answered-none w i rest held gathered s past empty none = record {
  answers = [];
  legal = tt;
  part = ap (λ (es : List Entry). record { configuration = s; past = es }) (sym none);
  answered = begin-here (i.number + 1) (cut_left i rest);
  read = λ going. record {
    bytes = [];
    lines = [];
    consumes = consumes-none (bytes_left i rest);
    whole = λ more. refl;
    are = (refl, refl);
    number = omega arith;
  };
  written = ([], appends-none held, sym empty);
}

module _ (w : Output) (s : Configuration) (n : ℕ) (known : Option Cut) (from old : Option (List ℕ)) where
  -- if a prefix of the gathered text is written
  pub answered-flushed : (i : Intake) (rest b c : Option (List ℕ)) (held held' : List ℕ) (p : Part)
      → IsAnsweredSo w s n known from old i rest b held p → Flushed b c held held' → IsAnsweredSo w s n known from old i rest c held' p
  answered-flushed i rest b c held held' p so flushed = record {
    answers = so.answers;
    legal = so.legal;
    part = so.part;
    answered = so.answered;
    read = so.read;
    written = gathers-less w old b c so.answers held held' so.written flushed;
  }

  -- after one more
  pub answered-next : (i i' : Intake) (rest rest' held : Option (List ℕ)) (gathered gathered' : List ℕ) (p p' : Part) (line : ScriptLine)
      → IsAnsweredSo w s n known from old i rest held gathered p
      → BeginWith (i.number + 1) (cut_left i rest) (line ∷ []) (i'.number + 1) (cut_left i' rest')
      → script_line_at i'.number i'.line ≡ Ok line → Consumes (bytes_left i rest) (bytes_left i' rest') (taken i')
      → has_break i'.line ≡ false → i'.number ≡ i.number + 1 → (i'.ended ≡ false → i.ended ≡ false)
      → AnswersLine w line p p' gathered gathered' → IsAnsweredSo w s n known from old i' rest' held gathered' p'
  answered-next i i' rest rest' held gathered gathered' p p' line so begin at took unbroken number before step = record {
    answers = step.answer ∷ so.answers;
    legal = (so.legal, subst (λ (q : Part). LegalAnswer q step.answer) (sym so.part) step.legal);
    part = ap (part_after step.answer) so.part ∙ sym step.part;
    answered = begin-next n (i.number + 1) (i'.number + 1) known (cut_left i rest) (cut_left i' rest') so.answers step.answer so.answered
        (subst (λ (l : ScriptLine). BeginWith (i.number + 1) (cut_left i rest) (l ∷ []) (i'.number + 1) (cut_left i' rest'))
        (sym step.of_line) begin);
    read = read-next n from i i' rest rest' so.answers step.answer so.read before took unbroken
        (at ∙ ap (λ (l : ScriptLine). Ok l) (sym step.of_line)) number;
    written = gathers-next w old held so.answers step.answer gathered gathered' so.written step.text;
  }

  -- if the gathered text is written
  pub some-written : (i : Intake) (rest to b c : Option (List ℕ)) (held : List ℕ) (p : Part) (wrote unread : Type 0)
      → (so : IsAnsweredSo w s n known from old i rest b held p) → Appends b c held → (unread → AnswersRead n from to so.answers)
      → AnswersSome w s n known from to old c wrote unread
  some-written i rest to b c held p wrote unread so last read = record {
    answers = so.answers;
    next = i.number + 1;
    left = cut_left i rest;
    legal = so.legal;
    answered = so.answered;
    written = so.written.0 ++ held;
    appends = appends-trans old b c so.written.0 held so.written.1 last;
    rest = [];
    parts = so.written.2 ∙ sym (append-nil (so.written.0 ++ held));
    all = λ _. refl;
    read = read;
  }

  -- if that write failed
  pub some-part : (i : Intake) (rest to b c : Option (List ℕ)) (held : List ℕ) (p : Part) (wrote unread : Type 0)
      → (so : IsAnsweredSo w s n known from old i rest b held p) → AppendsPart b c held → ¬ wrote → ¬ unread
      → AnswersSome w s n known from to old c wrote unread
  some-part i rest to b c held p wrote unread so part failed unread' = record {
    answers = so.answers;
    next = i.number + 1;
    left = cut_left i rest;
    legal = so.legal;
    answered = so.answered;
    written = so.written.0 ++ part.written;
    appends = appends-trans old b c so.written.0 part.written so.written.1 part.appends;
    rest = part.rest;
    parts = so.written.2 ∙ ap (λ l. so.written.0 ++ l) part.parts ∙ sym (append_assoc so.written.0 part.written part.rest);
    all = λ well. absurd (failed well);
    read = λ reading. absurd (unread' reading);
  }

  -- if the run ends there with a failed write
  pub some-failed : {A : Type 0} (i : Intake) (rest to b c : Option (List ℕ)) (held : List ℕ) (p : Part) (r : Result A Fault)
      → (so : IsAnsweredSo w s n known from old i rest b held p) → AppendsPart b c held → r ≡ Err fault.Writing
      → AnswersSome w s n known from to old c (r ≢ Err fault.Writing) (r ≡ Err fault.Reading)
  some-failed i rest to b c held p r so part is =
      some-part i rest to b c held p (r ≢ Err fault.Writing) (r ≡ Err fault.Reading) so part (λ other. other is)
      (λ reading. absurd (cc (sym reading ∙ is)))

  -- if it stops there
  pub some-stop : {A : Type 0} (i : Intake) (rest to b c : Option (List ℕ)) (held : List ℕ) (p : Part) (r : Result A Fault)
      (f reported : Fault) → (so : IsAnsweredSo w s n known from old i rest b held p) → WritesAt f reported b c held → r ≡ Err reported
      → (f ≡ fault.Reading → AnswersRead n from to so.answers)
      → AnswersSome w s n known from to old c (r ≢ Err fault.Writing) (r ≡ Err fault.Reading)
  some-stop i rest to b c held p r f reported so (inl (same, written)) is read =
      some-written i rest to b c held p (r ≢ Err fault.Writing) (r ≡ Err fault.Reading) so written
      (λ reading. read (cc (sym reading ∙ is ∙ ap (λ (g : Fault). Err g) same)))
  some-stop i rest to b c held p r f reported so (inr (failed, part)) is read =
      some-failed i rest to b c held p r so part (is ∙ ap (λ (g : Fault). Err g) failed)

  -- if it stops at a failed allocation, which left the gathered text unchanged
  pub some-refused : {A : Type 0} (i : Intake) (rest to b c : Option (List ℕ)) (held held' : List ℕ) (p : Part) (r : Result A Fault)
      (reported : Fault) → IsAnsweredSo w s n known from old i rest b held p → held' ≡ held → WritesAt fault.NoMemory reported b c held'
      → r ≡ Err reported → AnswersSome w s n known from to old c (r ≢ Err fault.Writing) (r ≡ Err fault.Reading)
  some-refused i rest to b c held held' p r reported so kept written is =
      some-stop i rest to b c held p r fault.NoMemory reported so (subst (λ (l : List ℕ). WritesAt fault.NoMemory reported b c l) kept written) is
      (λ reading. absurd (cc reading))

  -- if these were all lines
  pub all-so : (i : Intake) (rest b c : Option (List ℕ)) (held : List ℕ) (p : Part) (end : End)
      → (so : IsAnsweredSo w s n known from old i rest b held p) → NoLine (i.number + 1) (cut_left i rest) end → Appends b c held
      → (all : AnswersAll w s n known old c end) × (part_of s all.answers ≡ p)
  all-so i rest b c held p end so none last = (
    record {
      answers = so.answers;
      legal = so.legal;
      all = all-answered n (i.number + 1) known (cut_left i rest) so.answers end so.answered none;
      written = subst (Appends old c) (sym so.written.2) (appends-trans old b c so.written.0 held so.written.1 last);
    },
    so.part,
  )

  -- if they end at a fault of the input
  pub fault-stop : (i : Intake) (rest b c : Option (List ℕ)) (held : List ℕ) (p : Part) (f reported : Fault)
      → (so : IsAnsweredSo w s n known from old i rest b held p) → WritesAt f reported b c held
      → (IsOfInput f → NoLine (i.number + 1) (cut_left i rest) (Err f)) → IsOfInput reported → AnswersAll w s n known old c (Err reported)
  fault-stop i rest b c held p f reported so (inl (same, written)) none exact =
      subst (λ (g : Fault). AnswersAll w s n known old c (Err g)) (sym same)
      (all-so i rest b c held p (Err f) so (none (subst IsOfInput same exact)) written).0
  fault-stop i rest b c held p f reported so (inr (failed, part)) none exact = absurd (subst IsOfInput failed exact)

-- whole runs

-- what follows the answers
closes : (w : Output) → SettledAreRows → (s : Configuration) (rows : List Row) (answers : List Answer) (end : End) → s.opening ≡ contents_of rows
    → (last : List ℕ) × Closing w (left_by (part_of s answers)) end last
closes History are_rows s rows answers (Ok tt') is = ([], refl)
closes Replies are_rows s rows answers (Ok tt') is =
    let opened = part-rows are_rows s rows answers is in
    let reported = are_rows opened.0 (part_of s answers).past in (
      database_text reported.0,
      (reported.0, reported.1, λ k. reported.2 k ∙ ap (λ m. settled m (part_of s answers).past k) (sym opened.1), refl),
    )
closes Records are_rows s rows answers (Ok tt') is =
    let opened = part-rows are_rows s rows answers is in
    let reported = are_rows opened.0 (part_of s answers).past in (
      record_lines reported.0,
      (reported.0, reported.1, λ k. reported.2 k ∙ ap (λ m. settled m (part_of s answers).past k) (sym opened.1), refl),
    )
closes Json are_rows s rows answers (Ok tt') is =
    let opened = part-rows are_rows s rows answers is in
    let reported = are_rows opened.0 (part_of s answers).past in (
      record_lines reported.0,
      (reported.0, reported.1, λ k. reported.2 k ∙ ap (λ m. settled m (part_of s answers).past k) (sym opened.1), refl),
    )
closes w are_rows s rows answers (Err f) is = ([], refl)

-- what was answered goes on to a whole run
goes-on : (w : Output) → SomeReplyIsLegal → SettledAreRows → (s : Configuration) (rows : List Row) (n m : ℕ) (c : Cut) (left : Option Cut)
    (answers : List Answer) (out rest : List ℕ) → s.opening ≡ contents_of rows → LegalRun s answers
    → BeginWith n (Some c) (lines_of answers) m left → answers_text w answers ≡ out ++ rest → Begins (LineRuns w s n c) answers out
goes-on w some are_rows s rows n m c None answers out rest is legal answered parts = absurd answered
goes-on w some are_rows s rows n m c (Some left) answers out rest is legal answered parts =
    let more = runs-go-on some s answers (spelled script_line_at m left.given) legal in
    let end : End = end_of script_line_at n c.given c.ending in
    let closing = closes w are_rows s rows (more.0 ++ answers) end is in record {
      run = record { configuration = s; answers = more.0 ++ answers };
      newer = more.0;
      begins = refl;
      rest = rest ++ (answers_text w more.0 ++ closing.0);
      end = end;
      whole = (
        refl,
        record {
          last = closing.0;
          legal = more.1;
          lines_are = lines-newer more.0 answers ∙ ap (λ l. lines_of answers ++ l) more.2 ∙ sym answered.0;
          end_is = refl;
          closing = closing.1;
          text = sym (ap (λ l. l ++ closing.0) (replies-newer w more.0 answers ∙ ap (λ l. l ++ answers_text w more.0) parts)
              ∙ append_assoc (out ++ rest) (answers_text w more.0) closing.0 ∙ append_assoc out rest (answers_text w more.0 ++ closing.0));
        },
      );
    }

-- what a run over known lines from number n on wrote that stopped after a reply
abbrev pub Stops : Output → Configuration → ℕ → Option Cut → (from to old new : Option (List ℕ)) → End → Type 0
Stops w s n known from to old new end = IfSome known (λ c. (answered : List Answer) × Appends old new (answers_text w answered)
    × Begins (LineRuns w s n c) answered (answers_text w answered) × (end ≡ Err fault.Reading → AnswersRead n from to answered))

-- and what one wrote whose write failed
abbrev pub Fails : Output → Configuration → ℕ → Option Cut → Option (List ℕ) → Option (List ℕ) → Type 0
Fails w s n known old new = IfSome known (λ c. (answered : List Answer) × (out : List ℕ) × Appends old new out
    × Begins (LineRuns w s n c) answered out)

pub stops-from : (w : Output) → SomeReplyIsLegal → SettledAreRows → (s : Configuration) (rows : List Row) (n : ℕ) (known : Option Cut)
    (from to old new : Option (List ℕ)) (wrote unread : Type 0) (end : End) → s.opening ≡ contents_of rows → wrote
    → (end ≡ Err fault.Reading → unread) → AnswersSome w s n known from to old new wrote unread
    → Stops w s n known from to old new end
stops-from w answer are_rows s rows n None from to old new wrote unread end is well failed some = tt
stops-from w answer are_rows s rows n (Some c) from to old new wrote unread end is well failed some =
    let whole : answers_text w some.answers ≡ some.written =
    some.parts ∙ ap (λ l. some.written ++ l) (some.all well) ∙ append-nil some.written in (
      some.answers,
      subst (Appends old new) (sym whole) some.appends,
      goes-on w answer are_rows s rows n some.next c some.left some.answers (answers_text w some.answers) [] is some.legal
          some.answered (sym (append-nil (answers_text w some.answers))),
      λ reading. some.read (failed reading),
    )

pub fails-from : (w : Output) → SomeReplyIsLegal → SettledAreRows → (s : Configuration) (rows : List Row) (n : ℕ) (known : Option Cut)
    (from to old new : Option (List ℕ)) (wrote unread : Type 0) → s.opening ≡ contents_of rows
    → AnswersSome w s n known from to old new wrote unread → Fails w s n known old new
fails-from w answer are_rows s rows n None from to old new wrote unread is some = tt
fails-from w answer are_rows s rows n (Some c) from to old new wrote unread is some = (
  some.answers,
  some.written,
  some.appends,
  goes-on w answer are_rows s rows n some.next c some.left some.answers some.written some.rest is some.legal some.answered
      some.parts,
)

-- if the write of the database failed
pub fails-last : (w : Output) (s : Configuration) (n : ℕ) (known : Option Cut) (q : Part) (gathered : List ℕ)
    (held held' held'' : Option (List ℕ))
    → (all : AnswersAll w s n known held held' (Ok tt)) × (part_of s all.answers ≡ q) → Last w (left_by q) gathered
    → AppendsPart held' held'' gathered
    → Fails w s n known held held''
fails-last w s n None q gathered held held' held'' answered is part = tt
fails-last w s n (Some c) q gathered held held' held'' (all, present) is part = (
  all.answers,
  answers_text w all.answers ++ part.written,
  appends-trans held held' held'' (answers_text w all.answers) part.written all.written part.appends,
  record {
    run = record { configuration = s; answers = all.answers };
    newer = [];
    begins = refl;
    rest = part.rest;
    end = Ok tt;
    whole = (
      refl,
      record {
        last = gathered;
        legal = all.legal;
        lines_are = sym all.all.0;
        end_is = sym all.all.1;
        closing = closes-part w (part_of s all.answers) q gathered present is;
        text = append_assoc (answers_text w all.answers) part.written part.rest
            ∙ ap (λ l. answers_text w all.answers ++ l) (sym part.parts);
      },
    );
  },
)

-- from the first line

-- a whole run after an opening is one of the script
of-script : (w : Output) (most : ℕ) (s : Configuration) (bytes line : List ℕ) (n : ℕ) (c : Cut) (o : Opening) (answered : List Answer) (out : List ℕ)
    → HaveBegun 1 most bytes line o n c → s ≡ opened_configuration o → Begins (LineRuns w s n c) answered out
    → Begins (ScriptRuns w most bytes) answered out
of-script w most s bytes line n c o answered out opened is begun = record {
  run = begun.run;
  newer = begun.newer;
  begins = begun.begins;
  rest = begun.rest;
  end = begun.end;
  whole = subst (λ (ls : List (List ℕ)). ScriptOf w ls (cut_within most bytes).ending (Some begun.run) (out ++ begun.rest) begun.end) (sym opened.given)
      (record {
        opening = o;
        opens = opened.opens;
        configuration = begun.whole.0 ∙ is;
        output = output-same w begun.run _ n _ c.given _ c.ending (out ++ begun.rest) begun.end opened.number opened.left opened.ending
            begun.whole.1;
      });
}

-- the text of answers is empty if only the records at the end are written
answers-unwritten : (answers : List Answer) → answers_text Records answers ≡ []
answers-unwritten [] = refl
answers-unwritten (a ∷ answers) = append-nil (answers_text Records answers) ∙ answers-unwritten answers

pub no-answers : (w : Output) (answers : List Answer) → w ≡ Records → answers_text w answers ≡ []
no-answers w answers is = subst (λ (mode : Output). answers_text mode answers ≡ []) (sym is) (answers-unwritten answers)

-- before an opening nothing is written
pub stops-nothing : (w : Output) (most : ℕ) (rest to held : Option (List ℕ)) (end : End) → (end ≡ Err fault.Reading → AnswersScriptRead rest to [])
    → IsStopped w most rest to held held end
stops-nothing w most None to held end read = tt
stops-nothing w most (Some bytes) to held end read = record {
  answered = [];
  appends = appends-none held;
  begins = inl refl;
  read = read;
  nothing = λ is. appends-none held;
}

-- nor after a failed read or a failed allocation after line 1
pub stops-records : (w : Output) (most : ℕ) (input : Option (List ℕ)) (i : Intake) (rest to held : Option (List ℕ)) (o : Opening) (end : End)
    → HasOpened 1 most input i rest o → (end ≡ Err fault.Reading → (i.ended ≡ false) × ReadsRecords (bytes_left i rest) to)
    → IsStopped w most input to held held end
stops-records w most None i rest to held o end opened read = tt
stops-records w most (Some bytes) i rest to held o end opened read = record {
  answered = [];
  appends = appends-none held;
  begins = inl refl;
  read = λ reading. read-opened most i bytes rest to o [] opened (read reading).0 (only-records (bytes_left i rest) to (read reading).1);
  nothing = λ is. appends-none held;
}

-- after an opening
pub stops-opened : (w : Output) (most : ℕ) (i k : Intake) (s : Configuration) (input rest rest' to old new : Option (List ℕ)) (known : Option Cut)
    (first o : Opening) (end : End) → HasOpened 1 most input i rest first → Begun 1 most input i.line o (k.number + 1) known
    → s ≡ opened_configuration o
    → (k.ended ≡ false → (i.ended ≡ false) × Passes i.number (bytes_left i rest) k.number (bytes_left k rest'))
    → (end ≡ Err fault.Reading → k.ended ≡ false) → Stops w s (k.number + 1) known (bytes_left k rest') to old new end
    → IsStopped w most input to old new end
stops-opened w most i k s None rest rest' to old new known first o end opened begun is passes going stops = tt
stops-opened w most i k s (Some bytes) rest rest' to old new None first o end opened begun is passes going stops = absurd begun
stops-opened w most i k s (Some bytes) rest rest' to old new (Some c) first o end opened begun is passes going
    (answered, wrote, begins, read) = record {
      answered = answered;
      appends = wrote;
      begins = inr (of-script w most s bytes i.line (k.number + 1) c o answered (answers_text w answered) begun is begins);
      read = λ reading.
          let still = passes (going reading) in
          read-opened most i bytes rest to first answered opened still.0
          (following-records (bytes_left i rest) (bytes_left k rest') to i.number k.number answered opened.number still.1 (read reading));
      nothing = λ records. subst (Appends old new) (no-answers w answered records) wrote;
    }

pub fails-opened : (w : Output) (most : ℕ) (s : Configuration) (rest old new : Option (List ℕ)) (line : List ℕ) (n : ℕ) (known : Option Cut) (o : Opening)
    → Begun 1 most rest line o n known → s ≡ opened_configuration o → Fails w s n known old new → IsCutOff w most rest old new
fails-opened w most s None old new line n known o begun is fails = tt
fails-opened w most s (Some bytes) old new line n None o begun is fails = absurd begun
fails-opened w most s (Some bytes) old new line n (Some c) o begun is (answered, out, wrote, begins) =
    record { answered = answered; out = out; appends = wrote; begins = of-script w most s bytes line n c o answered out begun is begins }
