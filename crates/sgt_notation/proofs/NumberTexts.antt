-- Numbers in decimal, and the bytes of items.
use Rattle.std.proofs.Common.{◌≡◌, ◌<◌, ◌≤◌, ◌+◌, ◌-◌, ◌*◌, ◌^◌, ℕ, zero, suc, List, [], ◌∷◌, ◌++◌, length, take, refl, ap, sym, ◌∙◌, subst, arith, rules, length-take, take_all}
use Rattle.std.specs.Prelude.{slice_index, get_or}
use Rattle.std.specs.Fmt.{decimal}
use Rattle.std.specs.Int.{IsInRange}
use Rattle.std.proofs.lemmas.Fmt.{decimal_nonempty, length-decimal-le, first_decimal, decimal_digit, digits_decimal, digits_value-decimal, decimal-digits_value}
use Rattle.std.proofs.lemmas.Str.Parse.{IsNumeralModel, numerals_by_fold, tells_by_index, digits_value_short}

-- each is a digit
abbrev pub AreDigits : List ℕ → Type 0
AreDigits ds = (i : ℕ) → i < length ds → IsInRange 48 57 (get_or ds i 0)

-- the number spelled by digits after those that spell n
abbrev pub read_on : ℕ → List ℕ → ℕ
read_on n [] = n
read_on n (d ∷ ds) = read_on (10 * n + (d - 48)) ds

own : IsNumeralModel AreDigits (read_on 0)
own = numerals_by_fold _ tells_by_index read_on (search rules)

read_more : (n d : ℕ) (ds : List ℕ) → read_on n (ds ++ d ∷ []) ≡ 10 * read_on n ds + (d - 48)
read_more n d [] = refl
read_more n d (e ∷ ds) = read_more (10 * n + (e - 48)) d ds

-- one digit more
pub read_next : (i : ℕ) (ds : List ℕ) → i < length ds → read_on 0 (take (suc i) ds) ≡ 10 * read_on 0 (take i ds) + (slice_index ds i - 48)
read_next i ds less = ap (read_on 0) (taken i ds less) ∙ read_more 0 (slice_index ds i) (take i ds)
  where
    taken : (i : ℕ) (ds : List ℕ) → i < length ds → take (suc i) ds ≡ take i ds ++ slice_index ds i ∷ []
    taken i [] less = absurd (omega (arith, less))
    taken zero (d ∷ ds) less = refl
    taken (suc i) (d ∷ ds) less = ap (λ l. d ∷ l) (taken i ds (omega (arith, less)))

-- few digits spell no great number
pub few_digits : (k : ℕ) (ds : List ℕ) → AreDigits ds → length ds ≤ k → read_on 0 ds < 10 ^ k
few_digits k ds are few = digits_value_short own ds k are few

-- digits without a leading zero are the text of what they spell
pub spells_value : (ds : List ℕ) → AreDigits ds → 0 < length ds → (get_or ds 0 0 ≡ 48 → length ds ≡ 1) → read_on 0 ds < 2 ^ 64
    → ds ≡ decimal (read_on 0 ds)
spells_value ds are some leading small = sym (decimal-digits_value own ds are some leading small)

-- what the text of a number spells
pub value_of_text : (n : ℕ) (ds : List ℕ) → n < 2 ^ 32 → ds ≡ decimal n → read_on 0 ds ≡ n
value_of_text n ds small is = ap (read_on 0) is ∙ digits_value-decimal own n (omega (arith, small))

-- the text of a number is digits
pub text_is_digits : (n : ℕ) (ds : List ℕ) → n < 2 ^ 32 → ds ≡ decimal n → AreDigits ds
text_is_digits n ds small is = subst AreDigits (sym is) (digits_decimal own n (omega (arith, small)))

-- how long it is
pub text_is_short : (n : ℕ) (ds : List ℕ) → n < 2 ^ 32 → ds ≡ decimal n → (0 < length ds) × (length ds ≤ 10)
text_is_short n ds small is = subst (λ l. (0 < length l) × (length l ≤ 10)) (sym is)
    (decimal_nonempty n (omega (arith, small)), length-decimal-le 10 n (omega arith) (omega (arith, small)) (omega (arith, small)))

-- it has no leading zero
pub text_leads : (n : ℕ) (ds : List ℕ) → n < 2 ^ 32 → ds ≡ decimal n → get_or ds 0 0 ≡ 48 → length ds ≡ 1
text_leads zero ds small is zero_first = ap length (is ∙ decimal_digit 0 (omega arith))
text_leads (suc n) ds small is zero_first =
    let more = first_decimal (suc n) (omega arith) (omega (arith, small)) in
    absurd (omega (arith, more, sym zero_first ∙ ap (λ l. get_or l 0 0) is))

taken_at : (i j : ℕ) (ds : List ℕ) → j < i → get_or (take i ds) j 0 ≡ get_or ds j 0
taken_at zero j ds less = absurd (omega (arith, less))
taken_at (suc i) j [] less = refl
taken_at (suc i) zero (d ∷ ds) less = refl
taken_at (suc i) (suc j) (d ∷ ds) less = taken_at i j ds (omega (arith, less))

-- the digits up to a position
pub taken_digits : (i : ℕ) (ds : List ℕ) → ((j : ℕ) → j < i → IsInRange 48 57 (get_or ds j 0)) → AreDigits (take i ds)
taken_digits i ds are j less =
    let within : j < i = omega (arith, less, length-take i ds) in
    subst (IsInRange 48 57) (sym (taken_at i j ds within)) (are j within)

-- nine digits spell no great number
pub nine_digits : (i : ℕ) (ds : List ℕ) → i ≤ 9 → ((j : ℕ) → j < i → IsInRange 48 57 (get_or ds j 0)) → read_on 0 (take i ds) < 1000000000
nine_digits i ds few are = few_digits 9 (take i ds) (taken_digits i ds are) (omega (arith, few, length-take i ds))

-- digits without a leading zero are the text of the number that they spell, and of no other
pub spelled_number : (i : ℕ) (ds : List ℕ) (value : ℕ) → value ≡ read_on 0 (take i ds) → length ds ≤ i
    → ((j : ℕ) → j < i → IsInRange 48 57 (get_or ds j 0)) → 0 < length ds → (get_or ds 0 0 ≡ 48 → length ds ≡ 1) → value < 2 ^ 32
    → ds ≡ decimal value
spelled_number i ds value is whole are some leading small =
    let all : take i ds ≡ ds = take_all i ds whole in
    let same : value ≡ read_on 0 ds = is ∙ ap (read_on 0) all in
    let digits : AreDigits ds = subst AreDigits all (taken_digits i ds are) in
    spells_value ds digits some leading (omega (arith, small, same)) ∙ ap decimal (sym same)

-- what digits spell
pub spelled_value : (i : ℕ) (ds : List ℕ) (value n : ℕ) → value ≡ read_on 0 (take i ds) → length ds ≤ i → n < 2 ^ 32 → ds ≡ decimal n
    → value ≡ n
spelled_value i ds value n is whole small text = is ∙ ap (read_on 0) (take_all i ds whole) ∙ value_of_text n ds small text
