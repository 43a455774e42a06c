-- The calls and the accesses of lines in plain form.
use Rattle.std.specs.Prelude.{◌≡◌, ◌<◌, ◌≤◌, ℕ, ℤ, Bool, false, ◌||◌, nat_eq, List, [], ◌∷◌, ◌++◌, length, map, ⊤}
use Rattle.std.specs.Fmt.{decimal, signed_decimal}
use lib.Signed.{mag}
use Rattle.json.specs.Token.{Token, end_array, number}
use Rattle.json.specs.Spaced.{IsGap, AreGaps, print_spaced}
use Rattle.sgt_model.specs.declared.call.Call.{Call}

-- whether a newline is among these bytes
abbrev pub has_newline : List ℕ → Bool
has_newline [] = false
has_newline (x ∷ xs) = nat_eq x 10 || has_newline xs

-- the tokens of numbers, and of the brackets that close their list and the line
abbrev pub number_tokens : List ℤ → List Token
number_tokens args = map number (map signed_decimal args) ++ end_array ∷ end_array ∷ []

-- the text of these tokens, with gaps before some; the flag says whether a number precedes the text
pub record AreArguments (follows : Bool) (text : List ℕ) (args : List ℤ) : Type 0 where
  pub spaced : List (List ℕ × Token)
  pub gaps : AreGaps spaced
  pub tokens : map (λ p. p.1) spaced ≡ number_tokens args
  pub is : text ≡ print_spaced follows spaced

-- what precedes one more number
abbrev pub comma_after : List ℤ → List ℕ
comma_after [] = []
comma_after (n ∷ rest) = 44 ∷ []

-- each number has at most eighteen digits
abbrev pub AreSmall : List ℤ → Type 0
AreSmall [] = ⊤
AreSmall (n ∷ rest) = (mag n < 1_000_000_000_000_000_000) × AreSmall rest

-- a procedure, its arguments and the brackets that close a line
pub record IsCall (text : List ℕ) (call : Call) : Type 0 where
  pub gap : List ℕ
  pub list : List ℕ
  pub is_gap : IsGap gap
  pub is : text ≡ decimal call.procedure ++ (44 ∷ (gap ++ 91 ∷ list))
  pub arguments : AreArguments false list call.args
  pub procedure : call.procedure < 65_536
  pub small : AreSmall call.args
  pub few : length call.args ≤ 4

-- three numbers, separated by commas, and what follows them
pub record AreNumbers (text rest : List ℕ) (a b c : ℤ) : Type 0 where
  pub before : List ℕ
  pub between : List ℕ
  pub is_gap : IsGap before
  pub is_gap_too : IsGap between
  pub is : text ≡ signed_decimal a ++ (44 ∷ (before ++ (signed_decimal b ++ (44 ∷ (between ++ (signed_decimal c ++ rest))))))
  pub small : AreSmall (a ∷ b ∷ c ∷ [])
