use Rattle.std.proofs.Common.{◌≡◌, ◌<◌, ◌≤◌, ◌+◌, ◌-◌, ◌*◌, suc, length, take, sym, subst, rules, arith, inl, inr}
use Rattle.std.specs.Prelude.{slice_index, get_or}
use Rattle.std.specs.Int.{IsInRange}
use Rattle.std.proofs.lemmas.Bool.{cases_eq}
use Rattle.std.proofs.lemmas.Grind.{common_steps}
use Rattle.sgt_notation.proofs.NumberTexts.{read_on, text_is_short, text_leads, text_is_digits, nine_digits, read_next, spelled_number, spelled_value}
use Rattle.sgt_notation.proofs.spelled.read_number.Goals as goal

pub returns-then-is_empty-clause-none : goal.returns-then-is_empty-clause-none
returns-then-is_empty-clause-none c = λ none n small is.
    let s = text_is_short n c.args.digits.now small is in
    elim c.then-is_empty.either [
      | inl empty ↦ grind (arith, common_steps, s, empty, c.is_empty.ensures)
      | inr long ↦ absurd (omega (arith, long.1, s.1))
    ]

pub returns-then-digits-gt1-clause-none : goal.returns-then-digits-gt1-clause-none
returns-then-digits-gt1-clause-none c = λ none n small is.
    absurd (omega (arith, text_leads n c.args.digits.now small is c.if-digits-eq48.true, c.if-digits-gt1.true))

pub returns-then-not-is_ascii_digit-clause-none : goal.returns-then-not-is_ascii_digit-clause-none
returns-then-not-is_ascii_digit-clause-none c = λ none n small is.
    let digit = text_is_digits n c.args.digits.now small is c.loop-digit.digit-index (search rules) in
    grind (arith, common_steps, digit, c.if-not-is_ascii_digit.true, c.is_ascii_digit.ensures.value)

pub overflow_mul-value : goal.overflow_mul-value
overflow_mul-value c =
    let i = c.loop-digit.invariant in
    let few : c.loop-digit.digit-index ≤ 9 = omega (arith, c.loop-digit-test.true, c.if-digits-gt-LONGEST_NUMBER.false) in
    omega (arith, i.value, nine_digits c.loop-digit.digit-index c.args.digits.now few i.digits)

pub overflow_add-value : goal.overflow_add-value
overflow_add-value c =
    let i = c.loop-digit.invariant in
    let few : c.loop-digit.digit-index ≤ 9 = omega (arith, c.loop-digit-test.true, c.if-digits-gt-LONGEST_NUMBER.false) in
    grind (arith, common_steps, i.value, nine_digits c.loop-digit.digit-index c.args.digits.now few i.digits)

pub loop-digit-preserved : goal.loop-digit-preserved
loop-digit-preserved c =
    let i = c.loop-digit.invariant in
    let ds = c.args.digits.now in
    let k = c.loop-digit.digit-index in
    let next : read_on 0 (take (suc k) ds) ≡ 10 * read_on 0 (take k ds) + (slice_index ds k - 48) = read_next k ds c.loop-digit-test.true in
    let digit : c.from.result ≡ slice_index ds k - 48 = search rules in
    let same : suc k ≡ k + 1 = omega arith in
    let here : IsInRange 48 57 (get_or ds k 0) = grind (arith, common_steps, c.is_ascii_digit.ensures.value) in
    record {
      value = subst (λ j. 10 * c.loop-digit.value + c.from.result ≡ read_on 0 (take j ds)) same (omega (arith, i.value, next, digit));
      digits = λ j less. elim (cases_eq j k) [
        | inl e ↦ subst (λ j. IsInRange 48 57 (get_or ds j 0)) (sym e) here
        | inr other ↦ i.digits j (omega (arith, less, other))
      ];
    }

pub returns-then-value-from-clause-none : goal.returns-then-value-from-clause-none
returns-then-value-from-clause-none c = λ none n small is.
    let value = spelled_value c.loop-digit.digit-index c.args.digits.now c.loop-digit.value n c.loop-digit.invariant.value
    (omega (arith, c.loop-digit-test.false)) small is in
    grind (arith, common_steps, value, small)

pub returns-clause-some : goal.returns-clause-some
returns-clause-some c =
    let i = c.loop-digit.invariant in
    let small : c.loop-digit.value < 4294967296 = search rules in
    let some : 0 < length c.args.digits.now = grind (arith, common_steps, c.is_empty.ensures) in
    let leading : get_or c.args.digits.now 0 0 ≡ 48 → length c.args.digits.now ≡ 1 = (λ e. elim c.else-digits-eq48.either [
      | inl short ↦ omega (arith, short.1, some)
      | inr other ↦ absurd (grind (arith, other, e))
    ]) in (
      small,
      spelled_number c.loop-digit.digit-index c.args.digits.now c.loop-digit.value i.value (omega (arith, c.loop-digit-test.false))
          i.digits some leading small,
    )
