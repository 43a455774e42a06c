-- What a line spells that is a record in plain form.
use Rattle.std.proofs.Common.{◌≡◌, ◌<◌, false, ℕ, ℤ, List, [], ◌∷◌, ◌++◌, Some, None, Option, refl, arith, sym, ◌∙◌, ap}
use Rattle.std.specs.Prelude.{codes, option_and_then, IsUtf8}
use Rattle.std.specs.Fmt.{signed_decimal}
use lib.Signed.{mag}
use Rattle.json.specs.Token.{Token, begin_array, end_array, string, number}
use Rattle.json.specs.Json.{items, value}
use Rattle.json.specs.Print.{escape_byte, ArePrintable}
use Rattle.json.specs.Spaced.{IsGap, print_spaced}
use Rattle.json.proofs.Printed.Decimals.{IsNumber-signed_decimal}
use Rattle.json.proofs.Printed.Utf8.{IsUtf8-are_ascii}
use Rattle.serde_json.specs.Data.{Data}
use Rattle.serde_json.specs.Read.{read}
use Rattle.sgt_format.specs.LineTokens.{whole_number, tree_at}
use Rattle.sgt_format.specs.RecordLines.{of_numbers, record_line_in, record_line_of}
use Rattle.sgt_format.specs.declared.record_line.RecordLine.{RecordLine}
use Rattle.sgt_format.proofs.Views.{tree_of_read}
use Rattle.sgt_format.proofs.PlainLines.{is_spaced}
use Rattle.sgt_format.proofs.PlainCalls.{whole_signed, signed_utf8, number_there}

-- a word and three numbers
abbrev spelled : List ℕ → List ℕ → List ℕ → List ℕ → List Token
spelled w r s t = begin_array ∷ string w ∷ number r ∷ number s ∷ number t ∷ end_array ∷ []

numbers : (w r s t : List ℕ) (a b c : ℤ) → whole_number r ≡ Some a → whole_number s ≡ Some b → whole_number t ≡ Some c
    → option_and_then record_line_in (tree_at (spelled w r s t)) ≡ of_numbers w a b c
unfolding value items
numbers w r s t a b c first second third =
    let l = number_there r a first in
    let m = number_there s b second in
    let n = number_there t c third in
    rw (l.1, m.1, n.1) (rw (l.2, m.2, n.2) refl)

-- a line is the record that its tree spells
record_read : (line : List ℕ) (said : RecordLine) → IsUtf8 line → option_and_then record_line_in (read line) ≡ Some said
    → record_line_of line ≡ Some said
record_read line said utf8 is = by_tree (read line) refl
  where
    by_tree : (o : Option Data) → read line ≡ o → record_line_of line ≡ Some said
    by_tree None e = let no : None ≡ Some said = sym (ap (option_and_then record_line_in) e) ∙ is in absurd (cc)
    by_tree (Some tree) e =
        ap (option_and_then record_line_in) (tree_of_read line tree utf8 e) ∙ sym (ap (option_and_then record_line_in) e) ∙ is

abbrev spaced : List ℕ → List ℕ → ℤ → List ℕ → ℤ → List ℕ → ℤ → List (List ℕ × Token)
spaced w f a g b h c = ([], begin_array) ∷ ([], string w) ∷ (f, number (signed_decimal a)) ∷ (g, number (signed_decimal b))
    ∷ (h, number (signed_decimal c)) ∷ ([], end_array) ∷ []

pub plain_record : (line f first rest g second rest' h third last : List ℕ) (a b c : ℤ) → IsGap f → IsGap g → IsGap h
    → line ≡ codes "[\"record\"," ++ (f ++ first) → first ≡ signed_decimal a ++ rest → rest ≡ codes "," ++ (g ++ second)
    → second ≡ signed_decimal b ++ rest' → rest' ≡ codes "," ++ (h ++ third) → third ≡ signed_decimal c ++ last → last ≡ 93 ∷ []
    → mag a < 1_000_000_000_000_000_000 → mag b < 1_000_000_000_000_000_000 → mag c < 1_000_000_000_000_000_000
    → record_line_of line ≡ Some (record { table = a; number = b; value = c })
unfolding print_spaced escape_byte ArePrintable
plain_record line f first rest g second rest' h third last a b c gap gap' gap'' one two three four five six seven small small' small'' =
    let w = codes "record" in
    let text : line ≡ print_spaced false (spaced w f a g b h c) =
    one ∙ ap (λ z. codes "[\"record\"," ++ (f ++ z)) (two ∙ ap (λ z. signed_decimal a ++ z) (three ∙ ap (λ z. codes "," ++ (g ++ z))
    (four ∙ ap (λ z. signed_decimal b ++ z) (five ∙ ap (λ z. codes "," ++ (h ++ z)) (six ∙ ap (λ z. signed_decimal c ++ z) seven))))) in
    let all = is_spaced line (spelled w (signed_decimal a) (signed_decimal b) (signed_decimal c)) (spaced w f a g b h c) text
    (tt, (tt, (gap, (gap', (gap'', (tt, tt)))))) refl (
      tt,
      (
        tt,
        (
          IsNumber-signed_decimal a (omega (arith, small)),
          (
            IsNumber-signed_decimal b (omega (arith, small')),
            (IsNumber-signed_decimal c (omega (arith, small'')), (tt, tt)),
          ),
        ),
      ),
    ) (
      IsUtf8-are_ascii _ refl,
      (
        IsUtf8-are_ascii _ refl,
        (
          signed_utf8 a small,
          (
            signed_utf8 b small',
            (
              signed_utf8 c small'',
              (IsUtf8-are_ascii _ refl, tt),
            ),
          ),
        ),
      ),
    ) in
    record_read line _ all.utf8
    (ap (λ ts. option_and_then record_line_in (tree_at ts)) all.read
    ∙ numbers w _ _ _ a b c (whole_signed a small) (whole_signed b small') (whole_signed c small''))
