-- What a line spells that is a call in plain form.
use Rattle.std.proofs.Common.{◌≡◌, ◌≤◌, ◌<◌, ◌-◌, ◌^◌, true, false, Bool, ℕ, ℤ, pos, negsuc, suc, List, [], ◌∷◌, ◌++◌, length, take, drop, Some, None, Option, subst, refl, arith, sym, ◌∙◌, ap, lt-ltb}
use Rattle.std.specs.Prelude.{slice_index, codes, map, IsUtf8, Ok, option_and_then}
use Rattle.std.specs.Fmt.{decimal, signed_decimal}
use Rattle.std.proofs.lemmas.Fmt.{IsAscii-signed}
use Rattle.std.proofs.lemmas.List.{take-append-drop, take_all, length-drop, append-nil, append_assoc}
use Rattle.std.proofs.lemmas.Str.{IsUtf8-from_ascii}
use lib.Signed.{mag}
use Rattle.json.specs.Token.{Token, begin_array, end_array, string, number}
use Rattle.json.specs.Print.{escape_byte, quoted, ArePrintable}
use Rattle.json.specs.Spaced.{IsGap, print_spaced}
use Rattle.json.proofs.Printed.Decimals.{IsNumber-decimal, IsNumber-signed_decimal}
use Rattle.json.proofs.Printed.Utf8.{IsUtf8-are_ascii}
use Rattle.serde_json.specs.Data.{Num}
use Rattle.serde_json.specs.Find.{as_i64}
use Rattle.serde_json.specs.Read.{number_of}
use Rattle.serde_json.proofs.Numbers.{number_of-negative}
use Rattle.sgt_model.specs.declared.event.Event.TheVariants.{Start}
use Rattle.sgt_proc_json.specs.Trees.{natural}
use Rattle.sgt_model.specs.declared.call.Call.{Call}
use Rattle.sgt_format.specs.EventLines.{event_of}
use Rattle.sgt_format.specs.JobLines.{job_of}
use Rattle.sgt_format.specs.LineTokens.{whole_number, whole_numbers}
use Rattle.sgt_format.specs.PlainLines.{number_tokens, comma_after, AreArguments, AreSmall, IsCall}
use Rattle.sgt_format.proofs.LineTokens.{spelled_start, spelled_job, event_found, job_found}
use Rattle.sgt_format.proofs.PlainLines.{whole_decimal, AreUtf8, IsSpaced, is_spaced, decimal_utf8}

pub two_brackets : (text : List ℕ) → length text ≡ 2 → slice_index text 0 ≡ 93 → slice_index text 1 ≡ 93 → text ≡ codes "]]"
two_brackets [] many first second = absurd (omega arith)
two_brackets (x ∷ []) many first second = absurd (omega arith)
two_brackets (x ∷ y ∷ []) many first second = ap (λ z. z ∷ y ∷ []) first ∙ ap (λ z. 93 ∷ z ∷ []) second
two_brackets (x ∷ y ∷ z ∷ rest) many first second = absurd (omega arith)

pub number_first : (text rest : List ℕ) (n digits : ℕ) → take digits text ≡ decimal n
    → rest ≡ take (length text - digits) (drop digits text) → text ≡ decimal n ++ rest
number_first text rest n digits are is =
    let following : take (length text - digits) (drop digits text) ≡ drop digits text =
    take_all _ (drop digits text) (omega (arith, length-drop digits text)) in
    sym (take-append-drop digits text) ∙ ap (λ front. front ++ drop digits text) are
    ∙ ap (λ rest. decimal n ++ rest) (sym following ∙ sym is)

-- a number that is whole is a number
pub number_there : (r : List ℕ) (a : ℤ) → whole_number r ≡ Some a → (l : Num) × (number_of r ≡ Some l) × (as_i64 l ≡ Some a)
number_there r a is = by_number (number_of r) refl
  where
    by_number : (o : Option Num) → number_of r ≡ o → (l : Num) × (number_of r ≡ Some l) × (as_i64 l ≡ Some a)
    by_number None e = absurd (cc)
    by_number (Some l) e = (l, e, sym (ap (option_and_then as_i64) e) ∙ is)

-- ---- arguments

-- whether there is a number
abbrev pub some : List ℤ → Bool
some [] = false
some (n ∷ rest) = true

-- the brackets alone
pub no_arguments : (text : List ℕ) (args : List ℤ) → text ≡ codes "]]" → AreArguments (some args) text []
unfolding print_spaced
no_arguments text [] is = record { spaced = ([], end_array) ∷ ([], end_array) ∷ []; gaps = (tt, (tt, tt)); tokens = refl; is = is }
no_arguments text (n ∷ args) is = record { spaced = ([], end_array) ∷ ([], end_array) ∷ []; gaps = (tt, (tt, tt)); tokens = refl; is = is }

-- one number before others
pub one_before : (args : List ℤ) (gap rest more : List ℕ) (n : ℤ) (others : List ℤ) → IsGap gap
    → rest ≡ comma_after args ++ (gap ++ (signed_decimal n ++ more)) → AreArguments true more others
    → AreArguments (some args) rest (n ∷ others)
unfolding print_spaced
one_before [] gap rest more n others is_gap is are = record {
  spaced = (gap, number (signed_decimal n)) ∷ are.spaced;
  gaps = (is_gap, are.gaps);
  tokens = ap (λ ts. number (signed_decimal n) ∷ ts) are.tokens;
  is = is ∙ ap (λ more. gap ++ (signed_decimal n ++ more)) are.is;
}
one_before (m ∷ args) gap rest more n others is_gap is are = record {
  spaced = (gap, number (signed_decimal n)) ∷ are.spaced;
  gaps = (is_gap, are.gaps);
  tokens = ap (λ ts. number (signed_decimal n) ∷ ts) are.tokens;
  is = is ∙ ap (λ more. 44 ∷ (gap ++ (signed_decimal n ++ more))) are.is;
}

-- whatever numbers a rest is, the text is these arguments and then those
abbrev pub GoesOn : List ℕ → List ℤ → List ℕ → Type 0
GoesOn text args rest = (others : List ℤ) → AreArguments (some args) rest others → AreArguments false text (args ++ others)

some_more : (args : List ℤ) (n : ℤ) → some (args ++ n ∷ []) ≡ true
some_more [] n = refl
some_more (m ∷ args) n = refl

pub one_argument_more : (text rest more gap : List ℕ) (args longer : List ℤ) (n : ℤ) → GoesOn text args rest → IsGap gap
    → rest ≡ comma_after args ++ (gap ++ (signed_decimal n ++ more)) → longer ≡ args ++ n ∷ [] → GoesOn text longer more
one_argument_more text rest more gap args longer n goes_on is_gap next is others are =
    let following : AreArguments true more others =
    subst (λ b. AreArguments b more others) (ap some is ∙ some_more args n) are in
    subst (λ all. AreArguments false text all) (sym (append_assoc args (n ∷ []) others) ∙ ap (λ args. args ++ others) (sym is))
    (goes_on (n ∷ others) (one_before args gap rest more n others is_gap next following))

pub arguments_end : (text rest : List ℕ) (args : List ℤ) → GoesOn text args rest → rest ≡ codes "]]" → AreArguments false text args
arguments_end text rest args goes_on is =
    subst (λ all. AreArguments false text all) (append-nil args) (goes_on [] (no_arguments rest args is))

small_too : (args : List ℤ) (n : ℤ) → AreSmall args → mag n < 1_000_000_000_000_000_000 → AreSmall (args ++ n ∷ [])
small_too [] n are is = (is, tt)
small_too (m ∷ args) n are is = (are.0, small_too args n are.1 is)

pub one_small_more : (args longer : List ℤ) (n : ℤ) → AreSmall args → mag n < 1_000_000_000_000_000_000 → longer ≡ args ++ n ∷ []
    → AreSmall longer
one_small_more args longer n are is same = subst AreSmall (sym same) (small_too args n are is)

-- ---- what they mean

pub whole_signed : (n : ℤ) → mag n < 1_000_000_000_000_000_000 → whole_number (signed_decimal n) ≡ Some n
whole_signed (pos n) small = whole_decimal n small
whole_signed (negsuc n) small = ap (option_and_then as_i64) (number_of-negative n (omega arith))

pub signed_utf8 : (n : ℤ) → mag n < 1_000_000_000_000_000_000 → IsUtf8 (signed_decimal n)
signed_utf8 n small = IsUtf8-from_ascii (signed_decimal n) (IsAscii-signed n (omega arith))

texts_are : (args : List ℤ) → AreSmall args → whole_numbers (map signed_decimal args) ≡ Some args
texts_are [] small = refl
texts_are (n ∷ args) small = rw (whole_signed n small.0, texts_are args small.1) refl

as_many : (args : List ℤ) → length (map signed_decimal args) ≡ length args
as_many [] = refl
as_many (n ∷ args) = ap suc (as_many args)

can_print : (args : List ℤ) → AreSmall args → ArePrintable (number_tokens args)
unfolding ArePrintable
can_print [] small = (tt, (tt, tt))
can_print (n ∷ args) small = (IsNumber-signed_decimal n (omega (arith, small.0)), can_print args small.1)

are_utf8 : (args : List ℤ) → AreSmall args → AreUtf8 (number_tokens args)
are_utf8 [] small = (IsUtf8-are_ascii (93 ∷ []) refl, (IsUtf8-are_ascii (93 ∷ []) refl, tt))
are_utf8 (n ∷ args) small = (signed_utf8 n small.0, are_utf8 args small.1)

-- a word, a procedure and arguments
abbrev spelled : List ℕ → ℕ → List ℤ → List Token
spelled w p args = begin_array ∷ string w ∷ number (decimal p) ∷ begin_array ∷ number_tokens args

-- with these gaps
abbrev spaced : List ℕ → List ℕ → ℕ → List ℕ → List (List ℕ × Token) → List (List ℕ × Token)
spaced w before p gap args = ([], begin_array) ∷ ([], string w) ∷ (before, number (decimal p)) ∷ (gap, begin_array) ∷ args

-- the tokens of a line that begins with these words
call_is_spaced : (w words before line rest : List ℕ) (call : Call) → IsUtf8 (quoted w) → IsGap before
    → line ≡ words ++ (before ++ rest) → (asks : IsCall rest call)
    → words ++ (before ++ (decimal call.procedure ++ (44 ∷ (asks.gap ++ 91 ∷ print_spaced false asks.arguments.spaced))))
    ≡ print_spaced false (spaced w before call.procedure asks.gap asks.arguments.spaced)
    → IsSpaced line (spelled w call.procedure call.args)
unfolding ArePrintable
call_is_spaced w words before line rest call plain is_gap begins asks same =
    is_spaced line _ (spaced w before call.procedure asks.gap asks.arguments.spaced)
    (begins ∙ ap (λ rest. words ++ (before ++ rest)) (asks.is
    ∙ ap (λ list. decimal call.procedure ++ (44 ∷ (asks.gap ++ 91 ∷ list))) asks.arguments.is) ∙ same)
    (tt, (tt, (is_gap, (asks.is_gap, asks.arguments.gaps))))
    (ap (λ ts. begin_array ∷ string w ∷ number (decimal call.procedure) ∷ begin_array ∷ ts) asks.arguments.tokens)
    (tt, (tt, (IsNumber-decimal call.procedure (omega (arith, asks.procedure)), (tt, can_print call.args asks.small)))) (
      IsUtf8-are_ascii (91 ∷ []) refl,
      (
        plain,
        (
          decimal_utf8 call.procedure (omega (arith, asks.procedure)),
          (IsUtf8-are_ascii (91 ∷ []) refl, are_utf8 call.args asks.small),
        ),
      ),
    )

number_is : (p : ℕ) → p < 65_536 → natural 16 (pos p) ≡ Some p
number_is p low = let bits : p < 2 ^ 16 = omega arith in rw (lt-ltb _ _ bits) refl

few_texts : (args : List ℤ) → length args ≤ 4 → length (map signed_decimal args) ≤ 4
few_texts args few = omega (arith, as_many args)

pub plain_start : (line gap rest : List ℕ) (call : Call) → IsGap gap → line ≡ codes "[\"start\"," ++ (gap ++ rest)
    → IsCall rest call → event_of line ≡ Ok (Start call.procedure call.args)
unfolding print_spaced escape_byte
plain_start line gap rest call is_gap begins asks =
    let all = call_is_spaced (codes "start") (codes "[\"start\",") gap line rest call (IsUtf8-are_ascii _ refl) is_gap begins asks refl in
    let small = whole_decimal call.procedure (omega (arith, asks.procedure)) in
    let found = spelled_start _ _ (codes "start") (decimal call.procedure) (pos call.procedure) call.procedure
    (map signed_decimal call.args) call.args (Some (Start call.procedure call.args)) all.read refl small
    (texts_are call.args asks.small) (few_texts call.args asks.few) (number_is call.procedure asks.procedure) refl in
    event_found line line _ (Some (Start call.procedure call.args)) all.utf8 refl refl found

pub job_called : (line gap rest : List ℕ) (call : Call) → IsGap gap → line ≡ codes "[\"job\"," ++ (gap ++ rest) → IsCall rest call
    → job_of line ≡ Ok call
unfolding print_spaced escape_byte
job_called line gap rest call is_gap begins asks =
    let all = call_is_spaced (codes "job") (codes "[\"job\",") gap line rest call (IsUtf8-are_ascii _ refl) is_gap begins asks refl in
    let small = whole_decimal call.procedure (omega (arith, asks.procedure)) in
    let found = spelled_job _ _ (codes "job") (decimal call.procedure) (pos call.procedure) call.procedure
    (map signed_decimal call.args) call.args (Some call) all.read refl small
    (texts_are call.args asks.small) (few_texts call.args asks.few) (number_is call.procedure asks.procedure) refl in
    job_found line line _ (Some call) all.utf8 refl refl found

-- the parts of a call
pub call_of : (text rest list more gap : List ℕ) (n p : ℕ) (args : List ℤ) → text ≡ decimal n ++ rest → IsGap gap
    → rest ≡ codes "," ++ (gap ++ more) → more ≡ codes "[" ++ list → AreArguments false list args → n ≡ p → p < 65_536
    → AreSmall args → length args ≤ 4 → IsCall text (record { procedure = p; args = args })
call_of text rest list more gap n p args first is_gap next opens last same low small few = record {
  gap = gap;
  list = list;
  is_gap = is_gap;
  is = first ∙ ap (λ k. decimal k ++ rest) same ∙ ap (λ rest. decimal p ++ rest) (next ∙ ap (λ more. 44 ∷ (gap ++ more)) opens);
  arguments = last;
  procedure = low;
  small = small;
  few = few;
}
