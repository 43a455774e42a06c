-- The flaws that a procedure's text can have.
use Rattle.std.specs.Prelude.{ℕ, ◌+◌, ◌<◌, max, Bool, false, not, ◌&&◌, ◌||◌, nat_eq, nat_lt, nat_le, IsTrue}
use Rattle.sgt_model.specs.Numbers.{is_value}
use Rattle.sgt_model.specs.Syntax.{ExprText, num, arg, reg, sum, diff, product, quotient, CondText, less, at_most, equal, Block, empty, look, find, put, remove, save, ask, choose, answer, ProcedureText}
use Rattle.sgt_model.specs.Ways.{Way, onto}
use Rattle.sgt_model.specs.Ways as way
use Rattle.sgt_proc.specs.declared.flaw.Flaw.{Flaw}
use Rattle.sgt_proc.specs.declared.flaw.Flaw.TheVariants.{HighRegister, UnsetRegister, NoArgument, HighTable, TooLong, TooDeep, ManyAnswers, BadCode, ManyArguments, BadLiteral}
use Rattle.sgt_proc.specs.declared.numbers.Number.{Number}
use Rattle.sgt_proc.specs.declared.numbers.Number.TheVariants.{Register, Argument, Table, Code, Literal, Arguments}

-- whether it holds for some number in an expression
abbrev pub in_expr : (Number → Bool) → ExprText → Bool
in_expr so (num n) = so (Literal n)
in_expr so (arg n) = so (Argument n)
in_expr so (reg n) = so (Register n)
in_expr so (sum a b) = in_expr so a || in_expr so b
in_expr so (diff a b) = in_expr so a || in_expr so b
in_expr so (product a b) = in_expr so a || in_expr so b
in_expr so (quotient a b) = in_expr so a || in_expr so b

-- whether it holds for some number in a condition
abbrev pub in_cond : (Number → Bool) → CondText → Bool
in_cond so (less a b) = in_expr so a || in_expr so b
in_cond so (at_most a b) = in_expr so a || in_expr so b
in_cond so (equal a b) = in_expr so a || in_expr so b

-- whether it holds for some number in statements, at any position
abbrev pub in_block : (Number → Bool) → Block → Bool
in_block so empty = false
in_block so (look to table id absent b) = (so (Register to) || (so (Table table) || (in_expr so id || so (Code absent)))) || in_block so b
in_block so (find to table id absent b) = (so (Register to) || (so (Table table) || (in_expr so id || in_expr so absent))) || in_block so b
in_block so (put table id value b) = (so (Table table) || (in_expr so id || in_expr so value)) || in_block so b
in_block so (remove table id b) = (so (Table table) || in_expr so id) || in_block so b
in_block so (save to value b) = (so (Register to) || in_expr so value) || in_block so b
in_block so (ask code b) = so (Code code) || in_block so b
in_block so (choose test ys ns b) = (in_cond so test || (in_block so ys || in_block so ns)) || in_block so b
in_block so (answer value b) = in_expr so value || in_block so b

-- a register number over 15
abbrev pub high_register : Number → Bool
high_register (Register n) = nat_lt 15 n
high_register _ = false

-- an argument number that is not below the count
abbrev pub no_argument : ℕ → Number → Bool
no_argument args (Argument n) = nat_le args n
no_argument args _ = false

-- a table number over 7
abbrev pub high_table : Number → Bool
high_table (Table n) = nat_lt 7 n
high_table _ = false

-- a code that is 0 or over 999
abbrev pub bad_code : Number → Bool
bad_code (Code n) = nat_eq n 0 || nat_lt 999 n
bad_code _ = false

-- a literal that is no value
abbrev pub bad_literal : Number → Bool
bad_literal (Literal n) = not (is_value n)
bad_literal _ = false

-- more than 4 arguments
abbrev pub many_arguments : Number → Bool
many_arguments (Arguments n) = nat_lt 4 n
many_arguments _ = false

-- an expression uses the register
abbrev pub uses : ℕ → ExprText → Bool
uses r (num n) = false
uses r (arg n) = false
uses r (reg n) = nat_eq n r
uses r (sum a b) = uses r a || uses r b
uses r (diff a b) = uses r a || uses r b
uses r (product a b) = uses r a || uses r b
uses r (quotient a b) = uses r a || uses r b

-- a condition uses the register
abbrev pub cond_uses : ℕ → CondText → Bool
cond_uses r (less a b) = uses r a || uses r b
cond_uses r (at_most a b) = uses r a || uses r b
cond_uses r (equal a b) = uses r a || uses r b

-- on some path the register is used before it is set
abbrev pub uses_unset : ℕ → Way → Bool
uses_unset r way.end = false
uses_unset r (way.look to table id absent rest) = uses r id || (not (nat_eq to r) && uses_unset r rest)
uses_unset r (way.find to table id absent rest) = (uses r id || uses r absent) || (not (nat_eq to r) && uses_unset r rest)
uses_unset r (way.put table id value rest) = (uses r id || uses r value) || uses_unset r rest
uses_unset r (way.remove table id rest) = uses r id || uses_unset r rest
uses_unset r (way.save to value rest) = uses r value || (not (nat_eq to r) && uses_unset r rest)
uses_unset r (way.ask code) = false
uses_unset r (way.fork test ys ns) = cond_uses r test || (uses_unset r ys || uses_unset r ns)
uses_unset r (way.answer value rest) = uses r value || uses_unset r rest

-- on some path some register, from 0 to 15, is used before it is set
abbrev pub UsesUnset : Way → Type 0
UsesUnset w = (r : ℕ) × ((r < 16) × IsTrue (uses_unset r w))

-- the most answers on one path
abbrev pub most_answers : Way → ℕ
most_answers way.end = 0
most_answers (way.look to table id absent rest) = most_answers rest
most_answers (way.find to table id absent rest) = most_answers rest
most_answers (way.put table id value rest) = most_answers rest
most_answers (way.remove table id rest) = most_answers rest
most_answers (way.save to value rest) = most_answers rest
most_answers (way.ask code) = 0
most_answers (way.fork test ys ns) = max (most_answers ys) (most_answers ns)
most_answers (way.answer value rest) = most_answers rest + 1

-- the number of statements
abbrev pub size : Block → ℕ
size empty = 0
size (look to table id absent b) = 1 + size b
size (find to table id absent b) = 1 + size b
size (put table id value b) = 1 + size b
size (remove table id b) = 1 + size b
size (save to value b) = 1 + size b
size (ask code b) = 1 + size b
size (choose test ys ns b) = 1 + (size ys + size ns) + size b
size (answer value b) = 1 + size b

-- the depth of an expression
abbrev pub expr_depth : ExprText → ℕ
expr_depth (num n) = 1
expr_depth (arg n) = 1
expr_depth (reg n) = 1
expr_depth (sum a b) = 1 + max (expr_depth a) (expr_depth b)
expr_depth (diff a b) = 1 + max (expr_depth a) (expr_depth b)
expr_depth (product a b) = 1 + max (expr_depth a) (expr_depth b)
expr_depth (quotient a b) = 1 + max (expr_depth a) (expr_depth b)

-- the depth of the deeper expression of a condition
abbrev pub cond_depth : CondText → ℕ
cond_depth (less a b) = max (expr_depth a) (expr_depth b)
cond_depth (at_most a b) = max (expr_depth a) (expr_depth b)
cond_depth (equal a b) = max (expr_depth a) (expr_depth b)

-- the depth of the deepest expression in statements
abbrev pub exprs_depth : Block → ℕ
exprs_depth empty = 0
exprs_depth (look to table id absent b) = max (expr_depth id) (exprs_depth b)
exprs_depth (find to table id absent b) = max (max (expr_depth id) (expr_depth absent)) (exprs_depth b)
exprs_depth (put table id value b) = max (max (expr_depth id) (expr_depth value)) (exprs_depth b)
exprs_depth (remove table id b) = max (expr_depth id) (exprs_depth b)
exprs_depth (save to value b) = max (expr_depth value) (exprs_depth b)
exprs_depth (ask code b) = exprs_depth b
exprs_depth (choose test ys ns b) = max (max (cond_depth test) (max (exprs_depth ys) (exprs_depth ns))) (exprs_depth b)
exprs_depth (answer value b) = max (expr_depth value) (exprs_depth b)

-- the depth of the deepest statement
abbrev pub depth : Block → ℕ
depth empty = 0
depth (look to table id absent b) = max 1 (depth b)
depth (find to table id absent b) = max 1 (depth b)
depth (put table id value b) = max 1 (depth b)
depth (remove table id b) = max 1 (depth b)
depth (save to value b) = max 1 (depth b)
depth (ask code b) = max 1 (depth b)
depth (choose test ys ns b) = max (1 + max (depth ys) (depth ns)) (depth b)
depth (answer value b) = max 1 (depth b)

-- a procedure has the flaw
abbrev pub HasFlaw : Flaw → ProcedureText → Type 0
HasFlaw HighRegister p = IsTrue (in_block high_register p.body)
HasFlaw UnsetRegister p = UsesUnset (onto p.body way.end)
HasFlaw NoArgument p = IsTrue (in_block (no_argument p.args) p.body)
HasFlaw HighTable p = IsTrue (in_block high_table p.body)
HasFlaw TooLong p = 64 < size p.body
HasFlaw TooDeep p = 16 < max (depth p.body) (exprs_depth p.body)
HasFlaw ManyAnswers p = 8 < most_answers (onto p.body way.end)
HasFlaw BadCode p = IsTrue (in_block bad_code p.body)
HasFlaw ManyArguments p = 4 < p.args
HasFlaw BadLiteral p = IsTrue (in_block bad_literal p.body)

-- a flaw's number
abbrev pub number : Flaw → ℕ
number HighRegister = 1
number UnsetRegister = 2
number NoArgument = 3
number HighTable = 4
number TooLong = 5
number TooDeep = 6
number ManyAnswers = 7
number BadCode = 8
number ManyArguments = 9
number BadLiteral = 10

-- a procedure has no flaw
abbrev pub IsFlawless : ProcedureText → Type 0
IsFlawless p = (f : Flaw) → HasFlaw f p → ⊥

-- a procedure has the flaw, and none with a smaller number
abbrev pub IsLeastFlaw : Flaw → ProcedureText → Type 0
IsLeastFlaw f p = HasFlaw f p × ((g : Flaw) → number g < number f → HasFlaw g p → ⊥)
