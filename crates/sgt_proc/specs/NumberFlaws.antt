-- Flaws of single numbers.
use Rattle.std.specs.Prelude.{ℕ, ℤ, pos, Bool, false}
use Rattle.sgt_proc.specs.declared.flaw.Flaw.{Flaw}
use Rattle.sgt_proc.specs.declared.flaw.Flaw.TheVariants.{HighRegister, NoArgument, HighTable, BadCode, ManyArguments, BadLiteral}
use Rattle.sgt_proc.specs.declared.numbers.Number.{Number}
use Rattle.sgt_proc.specs.declared.numbers.Number.TheVariants.{Register, Argument, Table, Code, Literal, Arguments}
use Rattle.sgt_proc.specs.Flaws.{high_register, no_argument, high_table, bad_code, many_arguments, bad_literal}

-- the number has the flaw, in a procedure that takes this many arguments
abbrev pub is_bad : Flaw → ℕ → Number → Bool
is_bad HighRegister args = high_register
is_bad NoArgument args = no_argument args
is_bad HighTable args = high_table
is_bad BadCode args = bad_code
is_bad ManyArguments args = many_arguments
is_bad BadLiteral args = bad_literal
is_bad _ args = λ n. false

-- the number itself
abbrev pub value_of : Number → ℤ
value_of (Register n) = pos n
value_of (Argument n) = pos n
value_of (Table n) = pos n
value_of (Code n) = pos n
value_of (Literal n) = n
value_of (Arguments n) = pos n
