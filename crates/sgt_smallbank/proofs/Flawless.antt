-- The five texts have no flaw: a test for each kind of flaw finds none.
use Rattle.std.proofs.Common.{◌≡◌, ◌≢◌, refl, ℕ, zero, suc, ◌<◌, max, Bool, true, false, ◌||◌, arith}
use Rattle.std.specs.Prelude.{nat_lt, List, [], ◌∷◌}
use Rattle.std.proofs.lemmas.Bool.{or_parts, lt-ltb}
use Rattle.sgt_model.specs.Syntax.{ProcedureText}
use Rattle.sgt_model.specs.Ways.{onto}
use Rattle.sgt_model.specs.Ways as way
use Rattle.sgt_proc.specs.declared.flaw.Flaw.TheVariants.{HighRegister, UnsetRegister, NoArgument, HighTable, TooLong, TooDeep, ManyAnswers, BadCode, ManyArguments, BadLiteral}
use Rattle.sgt_proc.specs.Flaws.{in_block, high_register, no_argument, high_table, bad_code, bad_literal, uses_unset, most_answers, size, depth, exprs_depth, IsFlawless}
use Rattle.sgt_smallbank.specs.Texts.{balance, deposit_checking, transact_saving, amalgamate, write_check}

-- the test holds for some number below this one
abbrev pub some_below : ℕ → (ℕ → Bool) → Bool
some_below zero test = false
some_below (suc n) test = test n || some_below n test

none_below : (n : ℕ) (test : ℕ → Bool) → some_below n test ≡ false → (k : ℕ) → k < n → test k ≡ true → ⊥
none_below zero test none k below holds = absurd (omega arith)
none_below (suc n) test none k below holds =
    let parts = or_parts (test n) (some_below n test) none in
    let lower : k ≢ n → k < n = λ apart. omega arith in
    grind (arith, parts.0, none_below n test parts.1 k)

-- the tests of a text, one for each kind of flaw: each is true where it finds the flaw
abbrev pub tests : ProcedureText → List Bool
tests p =
    in_block high_register p.body
    ∷ some_below 16 (λ r. uses_unset r (onto p.body way.end))
    ∷ in_block (no_argument p.args) p.body
    ∷ in_block high_table p.body
    ∷ nat_lt 64 (size p.body)
    ∷ nat_lt 16 (max (depth p.body) (exprs_depth p.body))
    ∷ nat_lt 8 (most_answers (onto p.body way.end))
    ∷ in_block bad_code p.body
    ∷ nat_lt 4 p.args
    ∷ in_block bad_literal p.body
    ∷ []

-- their results if there is no flaw
abbrev pub none_found : List Bool
none_found = false ∷ false ∷ false ∷ false ∷ false ∷ false ∷ false ∷ false ∷ false ∷ false ∷ []

not_both : (b : Bool) → b ≡ false → b ≡ true → ⊥
not_both b is_not is_so = cc

tests_suffice : (p : ProcedureText) → tests p ≡ none_found → IsFlawless p
tests_suffice p t HighRegister h = not_both (in_block high_register p.body) (cc) h
tests_suffice p t UnsetRegister h = none_below 16 (λ r. uses_unset r (onto p.body way.end)) (cc) h.0 h.1.0 h.1.1
tests_suffice p t NoArgument h = not_both (in_block (no_argument p.args) p.body) (cc) h
tests_suffice p t HighTable h = not_both (in_block high_table p.body) (cc) h
tests_suffice p t TooLong h = not_both (nat_lt 64 (size p.body)) (cc) (lt-ltb _ _ h)
tests_suffice p t TooDeep h = not_both (nat_lt 16 (max (depth p.body) (exprs_depth p.body))) (cc) (lt-ltb _ _ h)
tests_suffice p t ManyAnswers h = not_both (nat_lt 8 (most_answers (onto p.body way.end))) (cc) (lt-ltb _ _ h)
tests_suffice p t BadCode h = not_both (in_block bad_code p.body) (cc) h
tests_suffice p t ManyArguments h = not_both (nat_lt 4 p.args) (cc) (lt-ltb _ _ h)
tests_suffice p t BadLiteral h = not_both (in_block bad_literal p.body) (cc) h

pub balance_is_flawless : IsFlawless balance
balance_is_flawless = tests_suffice balance refl

pub deposit_checking_is_flawless : IsFlawless deposit_checking
deposit_checking_is_flawless = tests_suffice deposit_checking refl

pub transact_saving_is_flawless : IsFlawless transact_saving
transact_saving_is_flawless = tests_suffice transact_saving refl

pub amalgamate_is_flawless : IsFlawless amalgamate
amalgamate_is_flawless = tests_suffice amalgamate refl

pub write_check_is_flawless : IsFlawless write_check
write_check_is_flawless = tests_suffice write_check refl
