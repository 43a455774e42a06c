-- Laws of lines that are answered one after another.
use Rattle.std.proofs.Common.{◌≡◌, ℕ, List, [], ◌∷◌, ◌++◌, refl, ap, sym, ◌∙◌, append_assoc, append-nil, subst}
use Rattle.std.proofs.lemmas.List.{map-append}
use Rattle.std.proofs.lemmas.Grind.{reverse_onto}
use Rattle.std.specs.Prelude.{map, reverse, Option, None, Some, IfSome, IfErr, OnOk, Ok, Err}
use Rattle.sgt_input.specs.declared.fault.Fault.{Fault}
use Rattle.sgt_model.specs.Configurations.{Configuration}
use Rattle.sgt_input.specs.declared.fault.Fault.TheVariants as fault
use Rattle.std.specs.Io.KnownBytes.{Appends}
use Rattle.sgt_input.specs.Lines.{Cut}
use Rattle.sgt_input.specs.Ends.{End, IsExact, IsOfInput}
use Rattle.sgt_input.specs.Spelled.{spelled}
use Rattle.sgt_script.specs.declared.output.Output.{Output}
use Rattle.sgt_script.specs.Parts.{Answer, LegalRun, Part, requested, left_by, lines_of, part_of, answers_text}
use Rattle.sgt_script.specs.Scripts.{Execution, RunOutput, script_line_at, Closing, Last}
use Rattle.sgt_script.specs.Answering.{AllAnswered, AnswersAll, BeginWith, NoLine}

-- the requests of the lines, with one answer more
pub lines_of-answer : (a : Answer) (answers : List Answer) → lines_of (a ∷ answers) ≡ lines_of answers ++ requested a ∷ []
lines_of-answer a answers = ap (map requested) (reverse_onto answers a []) ∙ map-append requested (reverse answers) (a ∷ [])

-- one more line
pub begin-next : (n m k : ℕ) (a b c : Option Cut) (answers : List Answer) (x : Answer) → BeginWith n a (lines_of answers) m b
    → BeginWith m b (requested x ∷ []) k c → BeginWith n a (lines_of (x ∷ answers)) k c
begin-next n m k None b c answers x first next = tt
begin-next n m k (Some a) None c answers x first next = absurd first
begin-next n m k (Some a) (Some b) None answers x first next = next
begin-next n m k (Some a) (Some b) (Some c) answers x first next =
    let more : lines_of answers ++ requested x ∷ spelled script_line_at k c.given ≡ lines_of (x ∷ answers) ++ spelled script_line_at k c.given =
    sym (append_assoc (lines_of answers) (requested x ∷ []) (spelled script_line_at k c.given))
    ∙ ap (λ l. l ++ spelled script_line_at k c.given)
    (sym (lines_of-answer x answers)) in
    (first.0 ∙ ap (λ l. lines_of answers ++ l) next.0 ∙ more, first.1 ∙ next.1)

-- the last line
pub all-answered : (n m : ℕ) (a b : Option Cut) (answers : List Answer) (end : End) → BeginWith n a (lines_of answers) m b
    → NoLine m b end → AllAnswered n a answers end
all-answered n m None b answers end first none = tt
all-answered n m (Some a) None answers end first none = absurd first
all-answered n m (Some a) (Some b) answers end first none =
    (first.0 ∙ ap (λ l. lines_of answers ++ l) none.0 ∙ append-nil (lines_of answers), first.1 ∙ none.1)

-- what is written in two parts
pub appends-trans : (a b c : Option (List ℕ)) (xs ys : List ℕ) → Appends a b xs → Appends b c ys → Appends a c (xs ++ ys)
appends-trans None b c xs ys first second = tt
appends-trans (Some ws) None c xs ys first second = absurd first
appends-trans (Some ws) (Some bs) None xs ys first second = second
appends-trans (Some ws) (Some bs) (Some cs) xs ys first second = second ∙ ap (λ l. l ++ ys) first ∙ append_assoc ws xs ys

-- what a run over known lines from number n on writes, with what it started from
abbrev pub RunWrote : Output → Configuration → ℕ → Option Cut → Option (List ℕ) → Option (List ℕ) → End → Type 0
RunWrote w s n known held held' end =
    IfSome known (λ c. (run : Execution) × (run.configuration ≡ s) × (out : List ℕ) × Appends held held' out
    × RunOutput w run n c.given c.ending out end)

-- a run whose lines are all answered, with what it wrote
pub output-all : (w : Output) (s : Configuration) (n : ℕ) (known : Option Cut) (answers : List Answer) (end : End) (last : List ℕ)
    (held held' : Option (List ℕ)) → LegalRun s answers → AllAnswered n known answers end
    → Closing w (left_by (part_of s answers)) end last → Appends held held' (answers_text w answers ++ last)
    → RunWrote w s n known held held' end
output-all w s n None answers end last held held' legal all closing written = tt
output-all w s n (Some c) answers end last held held' legal all closing written = (
  record { configuration = s; answers = answers },
  refl,
  answers_text w answers ++ last,
  written,
  record {
    last = last;
    legal = legal;
    lines_are = sym all.0;
    end_is = sym all.1;
    closing = closing;
    text = refl;
  },
)

-- an exact end that could only be a failed write is a good one
pub exact-flush : (r : End) → IfErr r (λ f. f ≡ fault.Writing) → IsExact r → r ≡ Ok tt
exact-flush (Ok tt') err exact = refl
exact-flush (Err f) err exact = absurd (subst IsOfInput err exact)

-- what a run writes that ended at a fault of the script
pub output-fault : (w : Output) (s : Configuration) (n : ℕ) (known : Option Cut) (r : End) (f : Fault) (held held' : Option (List ℕ))
    → r ≡ Err f → (IsOfInput f → AnswersAll w s n known held held' (Err f)) → IsExact r → RunWrote w s n known held held' r
output-fault w s n known r f held held' failed answered exact =
    let all = answered (subst IsExact failed exact) in
    subst (RunWrote w s n known held held') (sym failed)
    (output-all w s n known all.answers (Err f) [] held held' all.legal all.all refl
    (subst (Appends held held') (sym (append-nil (answers_text w all.answers))) all.written))

-- the database after an engine's part
pub closes-part : (w : Output) (p q : Part) (last : List ℕ) → p ≡ q → Last w (left_by q) last → Closing w (left_by p) (Ok tt) last
closes-part w p q last same is = subst (λ (x : Part). Last w (left_by x) last) (sym same) is

-- what a run writes that ended well
pub output-well : (w : Output) (s : Configuration) (n : ℕ) (known : Option Cut) (q : Part) (r : End) (gathered : List ℕ)
    (held held' held'' : Option (List ℕ)) → r ≡ Ok tt
    → (all : AnswersAll w s n known held held' (Ok tt)) × (part_of s all.answers ≡ q) → Last w (left_by q) gathered
    → OnOk r (Appends held' held'' gathered)
    → RunWrote w s n known held held'' r
output-well w s n known q r gathered held held' held'' wrote (all, part) is last =
    let more : Appends held' held'' gathered = subst (λ (e : End). OnOk e (Appends held' held'' gathered)) wrote last in
    subst (RunWrote w s n known held held'') (sym wrote)
    (output-all w s n known all.answers (Ok tt) gathered held held'' all.legal all.all
    (closes-part w (part_of s all.answers) q gathered part is)
    (appends-trans held held' held'' (answers_text w all.answers) gathered all.written more))
