-- Laws of bytes that are read line by line: the whole lines among them, and what these request.
use Rattle.std.proofs.Common.{◌≡◌, ℕ, ◌+◌, false, List, [], ◌∷◌, ◌++◌, length, refl, ap, sym, ◌∙◌, append_assoc, append-nil, subst, arith}
use Rattle.std.proofs.lemmas.List.{length-append}
use Rattle.std.specs.Prelude.{Result, Option, None, Some, ⊤, Ok, Err}
use Rattle.std.specs.Io.KnownBytes.{Consumes, Keeps, prepend_known}
use Rattle.sgt_input.specs.declared.fault.Fault.{Fault}
use Rattle.sgt_input.specs.Lines.{AtEnd, has_break, whole_lines}
use Rattle.sgt_format.specs.declared.opening.Opening.{Opening}
use Rattle.sgt_input.specs.Intake.{Intake, NoLineCame, bytes_left, taken}
use Rattle.sgt_script.specs.Opened.{HasOpened, ReadsNoLine}
use Rattle.sgt_input.specs.Records.{Passes, ReadsRecords}
use Rattle.sgt_input.specs.Ends.{End}
use Rattle.sgt_input.specs.Spelled.{and_later, or_later, spelled, end_of}
use Rattle.sgt_input.proofs.Cuts.{whole_lines-first}
use Rattle.sgt_script.specs.Parts.{Answer, requested}
use Rattle.sgt_script.specs.Scripts.{script_line_at}
use Rattle.sgt_script.specs.Answering.{AreAnswered, AnswersRead, AreAfterRecords, AreLaterAnswered, AnswersScriptRead}
use Rattle.sgt_script.proofs.Answers.{lines_of-answer}

-- one more line after lines that all spell something

-- after one of these
spelled-following : {A : Type 0} (r : Result A Fault) (x : A) (later more : List A) (end end' : End) → or_later r end ≡ Ok tt
    → (end ≡ Ok tt → (more ≡ later ++ x ∷ []) × (end' ≡ Ok tt))
    → (and_later r more ≡ and_later r later ++ x ∷ []) × (or_later r end' ≡ Ok tt)
spelled-following (Ok y) x later more end end' well next = (ap (λ l. y ∷ l) (next well).0, (next well).1)
spelled-following (Err f) x later more end end' well next = absurd (cc well)

spelled-more : {A : Type 0} (read : ℕ → List ℕ → Result A Fault) (n : ℕ) (ls : List (List ℕ)) (line : List ℕ) (x : A)
    → end_of read n ls AtEnd ≡ Ok tt → read (n + length ls) line ≡ Ok x
    → (spelled read n (ls ++ line ∷ []) ≡ spelled read n ls ++ x ∷ []) × (end_of read n (ls ++ line ∷ []) AtEnd ≡ Ok tt)
spelled-more read n [] line x well is =
    let at : read n line ≡ Ok x = ap (λ k. read k line) (omega arith) ∙ is in
    (ap (λ r. and_later r []) at, ap (λ r. or_later r (Ok tt)) at)
spelled-more read n (l ∷ ls) line x well is =
    spelled-following (read n l) x (spelled read (n + 1) ls) (spelled read (n + 1) (ls ++ line ∷ []))
    (end_of read (n + 1) ls AtEnd) (end_of read (n + 1) (ls ++ line ∷ []) AtEnd) well
    (λ later. spelled-more read (n + 1) ls line x later (ap (λ k. read k line) (omega arith) ∙ is))

answered-more : (n : ℕ) (ls : List (List ℕ)) (line : List ℕ) (answers : List Answer) (a : Answer) → AreAnswered n ls answers
    → script_line_at (n + length ls) line ≡ Ok (requested a) → AreAnswered n (ls ++ line ∷ []) (a ∷ answers)
answered-more n ls line answers a are is =
    let more = spelled-more script_line_at n ls line (requested a) are.1 is in
    (more.0 ∙ ap (λ l. l ++ requested a ∷ []) are.0 ∙ sym (lines_of-answer a answers), more.1)

-- bytes read one after another

pub consumes-trans : (a b c : Option (List ℕ)) (xs ys : List ℕ) → Consumes a b xs → Consumes b c ys → Consumes a c (xs ++ ys)
consumes-trans None b c xs ys first second = tt
consumes-trans (Some ls) None c xs ys first second = absurd first
consumes-trans (Some ls) (Some ms) None xs ys first second = second
consumes-trans (Some ls) (Some ms) (Some ns) xs ys first second = first ∙ ap (λ l. xs ++ l) second ∙ sym (append_assoc xs ys ns)

-- from there to here just these lines were read, from number n to before m, and they got these answers
pub record IsReadSo (n : ℕ) (old now : Option (List ℕ)) (answers : List Answer) (m : ℕ) : Type 0 where
  pub bytes : List ℕ
  pub lines : List (List ℕ)
  pub consumes : Consumes old now bytes
  pub whole : (rest : List ℕ) → whole_lines (bytes ++ rest) ≡ lines ++ whole_lines rest
  pub are : AreAnswered n lines answers
  pub number : m ≡ n + length lines

-- a line with its newline
read-line : (n m m' : ℕ) (a b c : Option (List ℕ)) (answers : List Answer) (x : Answer) (line : List ℕ) → IsReadSo n a b answers m
    → Consumes b c (line ++ 10 ∷ []) → has_break line ≡ false → script_line_at m line ≡ Ok (requested x) → m' ≡ m + 1
    → IsReadSo n a c (x ∷ answers) m'
read-line n m m' a b c answers x line read taken unbroken is next = record {
  bytes = read.bytes ++ (line ++ 10 ∷ []);
  lines = read.lines ++ line ∷ [];
  consumes = consumes-trans a b c read.bytes (line ++ 10 ∷ []) read.consumes taken;
  whole = λ rest. ap whole_lines (append_assoc read.bytes (line ++ 10 ∷ []) rest
      ∙ ap (λ l. read.bytes ++ l) (append_assoc line (10 ∷ []) rest))
      ∙ read.whole (line ++ 10 ∷ rest) ∙ ap (λ ls. read.lines ++ ls) (whole_lines-first line rest unbroken)
      ∙ sym (append_assoc read.lines (line ∷ []) (whole_lines rest));
  are = answered-more n read.lines line answers x read.are (ap (λ k. script_line_at k line) (sym read.number) ∙ is);
  number = omega (arith, next, read.number, length-append read.lines (line ∷ []));
}

-- the next line, if the source has not ended with it
pub read-next : (n : ℕ) (from : Option (List ℕ)) (i i' : Intake) (rest rest' : Option (List ℕ)) (answers : List Answer) (x : Answer)
    → (i.ended ≡ false → IsReadSo n from (bytes_left i rest) answers (i.number + 1)) → (i'.ended ≡ false → i.ended ≡ false)
    → Consumes (bytes_left i rest) (bytes_left i' rest') (taken i') → has_break i'.line ≡ false
    → script_line_at i'.number i'.line ≡ Ok (requested x) → i'.number ≡ i.number + 1 → i'.ended ≡ false
    → IsReadSo n from (bytes_left i' rest') (x ∷ answers) (i'.number + 1)
read-next n from i i' rest rest' answers x read before took unbroken is number going =
    let line : taken i' ≡ i'.line ++ 10 ∷ [] = rw going refl in
    read-line n (i.number + 1) (i'.number + 1) from (bytes_left i rest) (bytes_left i' rest') answers x i'.line (read (before going))
    (subst (Consumes (bytes_left i rest) (bytes_left i' rest')) line took) unbroken (ap (λ k. script_line_at k i'.line) (sym number) ∙ is)
    (omega (arith, number))

-- if a read failed

-- what is held was read
consumes-held : (from now rest : Option (List ℕ)) (bytes held : List ℕ) → Consumes from now bytes → Keeps now (prepend_known held rest)
    → Consumes from rest (bytes ++ held)
consumes-held None now rest bytes held took kept = tt
consumes-held (Some xs) None rest bytes held took kept = absurd took
consumes-held (Some xs) (Some ys) None bytes held took kept = absurd kept
consumes-held (Some xs) (Some ys) (Some zs) bytes held took kept =
    took ∙ ap (λ l. bytes ++ l) (sym kept) ∙ sym (append_assoc bytes held zs)

left-going : (i : Intake) (rest : Option (List ℕ)) → i.ended ≡ false → bytes_left i rest ≡ prepend_known i.held rest
left-going i rest going = rw going refl

pub read-failed : (n m : ℕ) (from : Option (List ℕ)) (i i' : Intake) (rest rest' : Option (List ℕ)) (answers : List Answer)
    → IsReadSo n from (bytes_left i rest) answers m → NoLineCame i rest i' rest' → AnswersRead n from rest' answers
read-failed n m from i i' rest rest' answers read none = (
  read.bytes ++ i'.held,
  consumes-held from (bytes_left i rest) rest' read.bytes i'.held read.consumes
      (subst (Keeps (bytes_left i rest)) (left-going i' rest' none.2) none.0),
  subst (λ (ls : List (List ℕ)). AreAnswered n ls answers)
      (sym (read.whole i'.held ∙ ap (λ ls. read.lines ++ ls) none.1 ∙ append-nil read.lines)) read.are,
)

-- from the first line

-- if it was not whole
pub read-nothing : (rest to : Option (List ℕ)) → ReadsNoLine rest to → AnswersScriptRead rest to []
read-nothing rest to (read, took, none) = (read, took, subst (λ (ls : List (List ℕ)). AreLaterAnswered ls []) (sym none) refl)

-- known bytes were read whose whole lines are record lines and lines that got these answers
abbrev pub AnswersAfter : Option (List ℕ) → Option (List ℕ) → List Answer → Type 0
AnswersAfter None to answers = ⊤
AnswersAfter (Some old) to answers = (read : List ℕ) × Consumes (Some old) to read × AreAfterRecords (whole_lines read) answers

-- after line 1
pub read-opened : (most : ℕ) (i : Intake) (bytes : List ℕ) (rest to : Option (List ℕ)) (o : Opening) (answers : List Answer)
    → HasOpened 1 most (Some bytes) i rest o → i.ended ≡ false → AnswersAfter (bytes_left i rest) to answers
    → AnswersScriptRead (Some bytes) to answers
read-opened most i bytes rest to o answers opened going following =
    go (bytes_left i rest) (subst (Consumes (Some bytes) (bytes_left i rest)) line opened.took) following
  where
    line : taken i ≡ i.line ++ 10 ∷ []
    line = rw going refl

    go : (mid : Option (List ℕ)) → Consumes (Some bytes) mid (i.line ++ 10 ∷ []) → AnswersAfter mid to answers
        → AnswersScriptRead (Some bytes) to answers
    go None consumed answered = absurd consumed
    go (Some mid) consumed (read, then, events) = (
      i.line ++ 10 ∷ read,
      subst (Consumes (Some bytes) to) (append_assoc i.line (10 ∷ []) read)
          (consumes-trans (Some bytes) (Some mid) to (i.line ++ 10 ∷ []) read consumed then),
      subst (λ (ls : List (List ℕ)). AreLaterAnswered ls answers) (sym (whole_lines-first i.line read opened.unbroken)) events,
    )

-- record lines alone were read
pub only-records : (old to : Option (List ℕ)) → ReadsRecords old to → AnswersAfter old to []
only-records None to reads = tt
only-records (Some old) None reads = absurd reads
only-records (Some old) (Some now) (read, bytes, are) = (
  read,
  bytes,
  record { records = whole_lines read; others = []; parts = sym (append-nil (whole_lines read)); are = are; answered = (refl, refl) },
)

-- others after record lines
pub following-records : (old mid to : Option (List ℕ)) (n m : ℕ) (answers : List Answer) → n ≡ 1 → Passes n old m mid
    → AnswersRead (m + 1) mid to answers → AnswersAfter old to answers
following-records None mid to n m answers one passes read = tt
following-records (Some old) None to n m answers one passes read = absurd passes
following-records (Some old) (Some mid) to n m answers one passed (read, then, events) = (
  passed.read ++ read,
  consumes-trans (Some old) (Some mid) to passed.read read passed.bytes then,
  record {
    records = passed.lines;
    others = whole_lines read;
    parts = passed.whole read;
    are = passed.are;
    answered = subst (λ k. AreAnswered k (whole_lines read) answers) count events;
  },
)
  where
    count : m + 1 ≡ 2 + length passed.lines
    count = omega (arith, one, passed.number)
