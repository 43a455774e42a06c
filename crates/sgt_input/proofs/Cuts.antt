-- Laws of splitting a text into lines.
use Rattle.std.proofs.Common.{◌≡◌, ℕ, ◌+◌, ◌-◌, ◌<◌, ◌≤◌, Bool, true, false, nat_eq, List, [], ◌∷◌, ◌++◌, length, take, refl, ap, sym, ◌∙◌, arith, append_assoc, inl, inr, add-one}
use Rattle.std.specs.Prelude.{nat_le, if◌then◌else◌}
use Rattle.std.proofs.Math.Seq.{take-append-add}
use Rattle.std.proofs.lemmas.Grind.{common_steps}
use Rattle.std.proofs.lemmas.Bool.{false≢true, cases_Bool, le-leb}
use Rattle.std.proofs.lemmas.Bool.Decides.{nat_tests, eqb_tells}
use Rattle.sgt_input.proofs.Breaks.{no_break-append}
use Rattle.sgt_input.specs.Lines.{has_break, whole_lines, unended, last_line, lines, is_short, long_line, counted, before_long, ending_of, AtLongLine, AtLimit, cut_within}

-- a text without a newline has no whole line
pub whole_lines-none : (bytes : List ℕ) → has_break bytes ≡ false → whole_lines bytes ≡ []
whole_lines-none [] none = refl
whole_lines-none (x ∷ xs) none = grind (arith, nat_tests, whole_lines-none xs)

-- all of it comes after the last newline
pub unended-none : (bytes : List ℕ) → has_break bytes ≡ false → unended bytes ≡ bytes
unended-none [] none = refl
unended-none (x ∷ xs) none = rw none refl

-- a newline after some bytes
pub has_break-following : (line rest : List ℕ) → has_break (line ++ 10 ∷ rest) ≡ true
has_break-following [] rest = refl
has_break-following (x ∷ xs) rest = grind (arith, nat_tests, has_break-following xs rest)

-- the first line of a text
pub whole_lines-first : (line rest : List ℕ) → has_break line ≡ false → whole_lines (line ++ 10 ∷ rest) ≡ line ∷ whole_lines rest
whole_lines-first [] rest none = refl
whole_lines-first (x ∷ xs) rest none = grind (arith, nat_tests, whole_lines-first xs rest)

-- and the bytes after the last
pub unended-first : (line rest : List ℕ) → unended (line ++ 10 ∷ rest) ≡ unended rest
unended-first [] rest = refl
unended-first (x ∷ xs) rest = rw (has_break-following (x ∷ xs) rest) (unended-first xs rest)

-- a byte before a text with a first line
first_line-following : (x : ℕ) (xs : List ℕ) → nat_eq x 10 ≡ false → (line : List ℕ) × (rest : List ℕ) × (has_break line ≡ false)
    × (xs ≡ line ++ 10 ∷ rest) → (line : List ℕ) × (rest : List ℕ) × (has_break line ≡ false) × (x ∷ xs ≡ line ++ 10 ∷ rest)
first_line-following x xs other (line, rest, none, is) = (x ∷ line, rest, rw other none, ap (λ l. x ∷ l) is)

-- a text with a newline has a first line
pub first_line : (text : List ℕ) → has_break text ≡ true → (line : List ℕ) × (rest : List ℕ) × (has_break line ≡ false)
    × (text ≡ line ++ 10 ∷ rest)
first_line [] some = absurd (false≢true some)
first_line (x ∷ xs) some =
    elim (eqb_tells x 10) [
      | inl ten ↦ ([], xs, refl, ap (λ y. y ∷ xs) ten.1)
      | inr other ↦ first_line-following x xs other.0 (first_line xs (grind (arith, nat_tests)))
    ]

-- a text that begins with a long piece without a newline gives none of its lines
pub long_first : (within : Bool) (piece rest : List ℕ) (ls : List (List ℕ)) → has_break piece ≡ false → 65536 < length piece
    → (before_long ((piece ++ rest) ∷ ls) ≡ []) × (ending_of within ((piece ++ rest) ∷ ls) ≡ AtLongLine)
long_first within piece rest ls none long =
    let test : is_short (piece ++ rest) ≡ false = grind (arith, common_steps, nat_tests) in
    (rw test refl, rw test refl)

-- if a text with such a beginning has no newline, it is its own last line
long_unended : (within : Bool) (piece rest : List ℕ) (last : List ℕ → List (List ℕ)) → has_break piece ≡ false
    → has_break rest ≡ false → 65536 < length piece → last (piece ++ rest) ≡ (piece ++ rest) ∷ []
    → (before_long (whole_lines (piece ++ rest) ++ last (unended (piece ++ rest))) ≡ []) × (ending_of within
    (whole_lines (piece ++ rest) ++ last (unended (piece ++ rest))) ≡ AtLongLine)
long_unended within piece rest last none none' long listed =
    rw (
      whole_lines-none (piece ++ rest) (no_break-append piece rest none none'),
      unended-none (piece ++ rest)
          (no_break-append piece rest none none'),
      listed,
    ) (long_first within piece rest [] none long)

-- else the line begins with the piece
long_whole : (within : Bool) (piece line rest : List ℕ) (last : List ℕ → List (List ℕ)) → has_break piece ≡ false
    → has_break line ≡ false → 65536 < length piece
    → (before_long (whole_lines (piece ++ (line ++ 10 ∷ rest)) ++ last (unended (piece ++ (line ++ 10 ∷ rest)))) ≡ [])
    × (ending_of within (whole_lines (piece ++ (line ++ 10 ∷ rest)) ++ last (unended (piece ++ (line ++ 10 ∷ rest)))) ≡ AtLongLine)
long_whole within piece line rest last none none' long =
    rw (sym (append_assoc piece line (10 ∷ rest)), whole_lines-first (piece ++ line) rest (no_break-append piece line none none'))
    (long_first within piece line (whole_lines rest ++ last (unended ((piece ++ line) ++ 10 ∷ rest))) none long)

-- so a text that begins with a long piece without a newline gives no line
pub long_beginning : (within : Bool) (piece rest : List ℕ) (last : List ℕ → List (List ℕ)) → has_break piece ≡ false
    → 65536 < length piece → last (piece ++ rest) ≡ (piece ++ rest) ∷ []
    → (before_long (whole_lines (piece ++ rest) ++ last (unended (piece ++ rest))) ≡ []) × (ending_of within
    (whole_lines (piece ++ rest) ++ last (unended (piece ++ rest))) ≡ AtLongLine)
long_beginning within piece rest last none long listed =
    elim (cases_Bool (has_break rest)) [
      | inl some ↦ (let found = first_line rest some in rw found.3 (long_whole within piece found.0 found.1 last none found.2 long))
      | inr none' ↦ long_unended within piece rest last none none' long listed
    ]

-- a last line that is too long, as it is listed
pub listed_last : (piece rest : List ℕ) → 65536 < length piece → last_line (piece ++ rest) ≡ (piece ++ rest) ∷ []
listed_last [] rest long = absurd (omega arith)
listed_last (x ∷ xs) rest long = refl

pub listed_long : (piece rest : List ℕ) → 65536 < length piece → long_line (piece ++ rest) ≡ (piece ++ rest) ∷ []
listed_long piece rest long =
    let test : is_short (piece ++ rest) ≡ false = grind (arith, common_steps, nat_tests) in
    rw test refl

-- the first line takes its bytes and one more of the limit
same_within : (k : ℕ) (line rest : List ℕ) → length line + 1 ≤ k → nat_le (length (line ++ 10 ∷ rest)) k ≡ nat_le (length rest)
    (k - (length line + 1))
same_within k line rest fits = grind (arith, common_steps, nat_tests)

take_first : (k : ℕ) (line rest : List ℕ) → length line + 1 ≤ k → take k (line ++ 10 ∷ rest) ≡ line ++ 10 ∷ take
    (k - (length line + 1)) rest
take_first k line rest fits =
    let size : k ≡ length line + (k - (length line + 1) + 1) = omega arith in
    ap (λ n. take n (line ++ 10 ∷ rest)) size ∙ take-append-add line (10 ∷ rest) (k - (length line + 1) + 1)
    ∙ ap (λ n. line ++ take n (10 ∷ rest)) (add-one (k - (length line + 1)))

-- after the first line, the lines that count are those of the rest
counted_first : (k : ℕ) (line rest : List ℕ) → has_break line ≡ false → length line + 1 ≤ k
    → counted k (line ++ 10 ∷ rest) ≡ line ∷ counted (k - (length line + 1)) rest
counted_first k line rest none fits =
    rw (same_within k line rest fits) (
    elim (nat_le (length rest) (k - (length line + 1))) as
    (λ b. (if b then lines (line ++ 10 ∷ rest) else whole_lines (take k (line ++ 10 ∷ rest)) ++ long_line
    (unended (take k (line ++ 10 ∷ rest)))) ≡ line ∷
    (if b then lines rest else whole_lines (take (k - (length line + 1)) rest) ++ long_line
    (unended (take (k - (length line + 1)) rest)))) [
      | true ↦ rw (whole_lines-first line rest none, unended-first line rest) refl
      | false ↦ rw (
        take_first k line rest fits,
        whole_lines-first line (take (k - (length line + 1)) rest) none,
        unended-first line (take (k - (length line + 1)) rest),
      ) refl
    ])

-- the lines of a text with a first line
pub cut-first : (k : ℕ) (line rest : List ℕ) → has_break line ≡ false → length line ≤ 65536 → length line + 1 ≤ k
    → ((cut_within k (line ++ 10 ∷ rest)).given ≡ line ∷ (cut_within (k - (length line + 1)) rest).given)
    × ((cut_within k (line ++ 10 ∷ rest)).ending ≡ (cut_within (k - (length line + 1)) rest).ending)
cut-first k line rest none short fits =
    let test : is_short line ≡ true = le-leb (length line) 65536 short in
    let after : ℕ = k - (length line + 1) in (
      rw (counted_first k line rest none fits, test) refl,
      ap (λ b. ending_of b (counted k (line ++ 10 ∷ rest))) (same_within k line rest fits)
          ∙ ap (λ ls. ending_of (nat_le (length rest) after) ls) (counted_first k line rest none fits) ∙ rw test refl,
    )

-- the lines of a last line
pub cut-last : (k m : ℕ) (line : List ℕ) → has_break line ≡ false → 0 < length line → length line ≤ 65536 → length line ≤ k
    → ((cut_within k line).given ≡ line ∷ (cut_within m []).given) × ((cut_within k line).ending ≡ (cut_within m []).ending)
cut-last k m [] none some short fits = absurd (omega arith)
cut-last k m (x ∷ xs) none some short fits =
    let test : is_short (x ∷ xs) ≡ true = le-leb (length (x ∷ xs)) 65536 short in
    let inside : nat_le (length (x ∷ xs)) k ≡ true = le-leb (length (x ∷ xs)) k fits in (
      rw (le-leb 0 m (omega arith), inside, whole_lines-none (x ∷ xs) none, unended-none (x ∷ xs) none, test) refl,
      rw (le-leb 0 m (omega arith), inside, whole_lines-none (x ∷ xs) none, unended-none (x ∷ xs) none, test) refl,
    )

-- the lines of a text that begins with a line that is too long
pub cut-long : (k : ℕ) (piece rest : List ℕ) → has_break piece ≡ false → 65536 < length piece → length piece ≤ k
    → cut_within k (piece ++ rest) ≡ record { given = []; ending = AtLongLine }
cut-long k piece rest none long fits =
    let size : k ≡ length piece + (k - length piece) = omega arith in
    let front : take k (piece ++ rest) ≡ piece ++ take (k - length piece) rest = ap (λ n. take n (piece ++ rest)) size
    ∙ take-append-add piece rest (k - length piece) in
    elim (cases_Bool (nat_le (length (piece ++ rest)) k)) [
      | inl inside ↦ (let both = long_beginning true piece rest last_line none long (listed_last piece rest long) in
          rw (inside, both.0, both.1) refl)
      | inr outside ↦ (let both = long_beginning false piece (take (k - length piece) rest) long_line none long
          (listed_long piece (take (k - length piece) rest) long) in rw (outside, front, both.0, both.1) refl)
    ]

-- the lines of a text past its limit, if no whole line is within it
pub cut-limit : (k : ℕ) (text : List ℕ) → has_break (take k text) ≡ false → k ≤ 65536 → k < length text
    → cut_within k text ≡ record { given = []; ending = AtLimit }
cut-limit k text none few past =
    let outside : nat_le (length text) k ≡ false = grind (arith, nat_tests) in
    let test : is_short (take k text) ≡ true = grind (arith, common_steps, nat_tests) in
    rw (outside, whole_lines-none (take k text) none, unended-none (take k text) none, test) refl
