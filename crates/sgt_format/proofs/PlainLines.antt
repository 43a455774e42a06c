-- What a line in plain form spells.
use Rattle.std.proofs.Common.{◌≡◌, ◌≤◌, ◌<◌, ◌+◌, ◌-◌, ◌*◌, ◌/◌, ◌%◌, ◌^◌, Bool, false, ℕ, pos, List, [], ◌∷◌, ◌++◌, length, take, drop, Some, subst, refl, ap, sym, ◌∙◌, arith, lt-ltb}
use Rattle.std.specs.Prelude.{IsUtf8, Ok, codes, option_and_then, slice_index, map, ⊤}
use Rattle.std.specs.Fmt.{decimal}
use Rattle.std.proofs.lemmas.Fmt.{decimal_digit, decimal_step, IsAscii-decimal}
use Rattle.std.proofs.lemmas.List.{take_more, take-append-drop, take_all, length-drop}
use Rattle.std.proofs.lemmas.Str.{IsUtf8-from_ascii, IsUtf8-append, IsUtf8-nil}
use Rattle.json.specs.Token.{Token, begin_array, end_array, string, number}
use Rattle.json.specs.Lex.{tokens}
use Rattle.json.specs.Print.{escape_byte, quoted, token_text, separator, ends, ArePrintable}
use Rattle.json.specs.Spaced.{IsGap, AreGaps, print_spaced}
use Rattle.json.proofs.Printed.Tokens.{tokens-print_spaced}
use Rattle.json.proofs.Printed.Decimals.{IsNumber-decimal}
use Rattle.json.proofs.Printed.Utf8.{IsUtf8-are_ascii, IsUtf8-separator, IsUtf8-IsGap}
use Rattle.serde_json.specs.Find.{as_i64}
use Rattle.serde_json.proofs.Numbers.{number_of-decimal}
use Rattle.sgt_model.specs.declared.event.Event.{Event}
use Rattle.sgt_model.specs.declared.event.Event.TheVariants.{Step, Commit, Quit}
use Rattle.sgt_proc_json.specs.Trees.{natural}
use Rattle.sgt_format.specs.EventLines.{of_transaction, event_of}
use Rattle.sgt_format.specs.LineTokens.{whole_number, event_at}
use Rattle.sgt_format.proofs.LineTokens.{transaction, event_found}

-- a text that begins with these words
pub split_after : (text words rest : List ℕ) (same : ℕ) → take same text ≡ take same words → length words ≤ same
    → rest ≡ take (length text - same) (drop same text) → text ≡ words ++ rest
split_after text words rest same are whole is =
    let following : take (length text - same) (drop same text) ≡ drop same text =
    take_all _ (drop same text) (omega (arith, length-drop same text)) in
    sym (take-append-drop same text) ∙ ap (λ front. front ++ drop same text) (are ∙ take_all same words whole)
    ∙ ap (λ rest. words ++ rest) (sym following ∙ sym is)

-- one closing bracket
pub one_bracket : (text : List ℕ) → length text ≡ 1 → slice_index text 0 ≡ 93 → text ≡ codes "]"
one_bracket [] many first = absurd (omega arith)
one_bracket (x ∷ []) many first = ap (λ z. z ∷ []) first
one_bracket (x ∷ y ∷ rest) many first = absurd (omega arith)

-- a number of one digit
pub one_digit : (text : List ℕ) (n : ℕ) → 0 < length text → 48 ≤ slice_index text 0 → slice_index text 0 ≤ 57
    → n ≡ slice_index text 0 - 48 → take 1 text ≡ decimal n
one_digit (x ∷ xs) n some low high is =
    ap (λ d. d ∷ []) (omega arith) ∙ sym (decimal_digit n (omega arith))
one_digit [] n some low high is = absurd (omega arith)

-- one more digit
pub one_more_digit : (text : List ℕ) (digits n m : ℕ) → digits < length text → take digits text ≡ decimal n → 0 < n
    → n < 100_000_000_000_000_000 → 48 ≤ slice_index text digits → slice_index text digits ≤ 57
    → m ≡ 10 * n + (slice_index text digits - 48) → take (digits + 1) text ≡ decimal m
one_more_digit text digits n m within are some small low high is =
    let front : m / 10 ≡ n = omega arith in
    let last : 48 + m % 10 ≡ slice_index text digits = omega arith in
    let more : decimal m ≡ decimal n ++ slice_index text digits ∷ [] =
    decimal_step m (omega arith) (omega arith) ∙ ap (λ k. decimal k ++ (48 + m % 10) ∷ []) front
    ∙ ap (λ d. decimal n ++ d ∷ []) last in
    take_more text digits 0 within ∙ ap (λ ds. ds ++ slice_index text digits ∷ []) are ∙ sym more

-- a number and a closing bracket
pub number_last : (text : List ℕ) (n digits : ℕ) → take digits text ≡ decimal n → digits + 1 ≡ length text
    → slice_index text digits ≡ 93 → text ≡ decimal n ++ 93 ∷ []
number_last text n digits are all last =
    sym (take_all (digits + 1) text (omega arith)) ∙ take_more text digits 0 (omega arith) ∙ rw (are, last) refl

pub whole_decimal : (n : ℕ) → n < 1_000_000_000_000_000_000 → whole_number (decimal n) ≡ Some (pos n)
whole_decimal n small =
    let low : n < 2 ^ 63 = omega arith in
    ap (option_and_then as_i64) (number_of-decimal n (omega arith)) ∙ rw (lt-ltb _ _ low) refl

-- ---- tokens with gaps

-- the text of each token is UTF-8
abbrev pub AreUtf8 : List Token → Type 0
AreUtf8 [] = ⊤
AreUtf8 (t ∷ ts) = IsUtf8 (token_text t) × AreUtf8 ts

utf8_spaced : (follows : Bool) (ps : List (List ℕ × Token)) → AreGaps ps → AreUtf8 (map (λ p. p.1) ps) → IsUtf8 (print_spaced follows ps)
unfolding print_spaced
utf8_spaced follows [] gaps are = IsUtf8-nil
utf8_spaced follows (p ∷ ps) gaps are =
    IsUtf8-append (separator follows p.1) _ (IsUtf8-separator follows p.1)
    (IsUtf8-append p.0 _ (IsUtf8-IsGap p.0 gaps.0)
    (IsUtf8-append (token_text p.1) _ are.0 (utf8_spaced (ends p.1) ps gaps.1 are.1)))

-- a line that is these tokens with gaps
pub record IsSpaced (line : List ℕ) (ts : List Token) : Type 0 where
  pub utf8 : IsUtf8 line
  pub read : tokens line ≡ ts

pub is_spaced : (line : List ℕ) (ts : List Token) (ps : List (List ℕ × Token)) → line ≡ print_spaced false ps → AreGaps ps
    → map (λ p. p.1) ps ≡ ts → ArePrintable ts → AreUtf8 ts → IsSpaced line ts
is_spaced line ts ps is gaps same can are = record {
  utf8 = subst IsUtf8 (sym is) (utf8_spaced false ps gaps (subst AreUtf8 (sym same) are));
  read = ap tokens is ∙ tokens-print_spaced ps gaps (subst ArePrintable (sym same) can) ∙ same;
}

pub decimal_utf8 : (n : ℕ) → n < 2 ^ 64 → IsUtf8 (decimal n)
decimal_utf8 n small = IsUtf8-from_ascii (decimal n) (IsAscii-decimal n small)

-- ---- a word and a transaction

abbrev spaced : List ℕ → List ℕ → ℕ → List (List ℕ × Token)
spaced w gap t = ([], begin_array) ∷ ([], string w) ∷ (gap, number (decimal t)) ∷ ([], end_array) ∷ []

by_word : (w words gap line rest : List ℕ) (t : ℕ) (event : Event) → IsUtf8 (quoted w) → IsGap gap → line ≡ words ++ (gap ++ rest)
    → rest ≡ decimal t ++ 93 ∷ [] → t < 2 ^ 32 → words ++ (gap ++ (decimal t ++ 93 ∷ [])) ≡ print_spaced false (spaced w gap t)
    → of_transaction w t ≡ Some event → event_of line ≡ Ok event
unfolding ArePrintable
by_word w words gap line rest t event plain is_gap begins ends small printed means =
    let all = is_spaced line _ (spaced w gap t) (begins ∙ ap (λ rest. words ++ (gap ++ rest)) ends ∙ printed)
    (tt, (tt, (is_gap, (tt, tt)))) refl (tt, (tt, (IsNumber-decimal t (omega arith), (tt, tt))))
    (IsUtf8-are_ascii (91 ∷ []) refl, (plain, (decimal_utf8 t (omega arith), (IsUtf8-are_ascii (93 ∷ []) refl, tt)))) in
    let number_is : natural 32 (pos t) ≡ Some t = rw (lt-ltb _ _ small) refl in
    let found : event_at (tokens line) ≡ Some event =
    ap event_at all.read ∙ transaction w (decimal t) (pos t) (whole_decimal t (omega arith))
    ∙ ap (option_and_then (of_transaction w)) number_is ∙ means in
    event_found line line (tokens line) (Some event) all.utf8 refl refl found

pub plain_step : (line gap rest : List ℕ) (t : ℕ) → IsGap gap → line ≡ codes "[\"step\"," ++ (gap ++ rest) → rest ≡ decimal t ++ 93 ∷ []
    → t < 2 ^ 32 → event_of line ≡ Ok (Step t)
unfolding print_spaced escape_byte
plain_step line gap rest t is_gap begins ends small =
    by_word (codes "step") (codes "[\"step\",") gap line rest t (Step t) (IsUtf8-are_ascii _ refl) is_gap begins ends small refl refl

pub plain_commit : (line gap rest : List ℕ) (t : ℕ) → IsGap gap → line ≡ codes "[\"commit\"," ++ (gap ++ rest) → rest ≡ decimal t ++ 93 ∷ []
    → t < 2 ^ 32 → event_of line ≡ Ok (Commit t)
unfolding print_spaced escape_byte
plain_commit line gap rest t is_gap begins ends small =
    by_word (codes "commit") (codes "[\"commit\",") gap line rest t (Commit t) (IsUtf8-are_ascii _ refl) is_gap begins ends small refl refl

pub plain_quit : (line gap rest : List ℕ) (t : ℕ) → IsGap gap → line ≡ codes "[\"quit\"," ++ (gap ++ rest) → rest ≡ decimal t ++ 93 ∷ []
    → t < 2 ^ 32 → event_of line ≡ Ok (Quit t)
unfolding print_spaced escape_byte
plain_quit line gap rest t is_gap begins ends small =
    by_word (codes "quit") (codes "[\"quit\",") gap line rest t (Quit t) (IsUtf8-are_ascii _ refl) is_gap begins ends small refl refl
