-- Where the first number of a procedure's text is that has a flaw.
-- A place is the indexes that lead to an item from the top. The procedure has the number of its arguments at index 0, and its
-- statements at 1, which have the indexes from 0 on. The items of a statement, a condition or an expression have those from 1 on.
use Rattle.std.specs.Prelude.{◌≡◌, ℕ, ◌+◌, ℤ, Bool, true, false, cond, List, [], ◌∷◌, Option, Some, None, option_map, Result, Ok, Err}
use Rattle.sgt_model.specs.Syntax.{ExprText, num, arg, reg, sum, diff, product, quotient, CondText, less, at_most, equal, Block, empty, look, find, put, remove, save, ask, choose, answer, ProcedureText}
use Rattle.sgt_proc.specs.declared.flaw.Flaw.{Flaw}
use Rattle.sgt_proc.specs.declared.flaw.Flaw.TheVariants.{UnsetRegister, TooLong, TooDeep, ManyAnswers}
use Rattle.sgt_proc.specs.declared.flaw_place.FlawPlace.{FlawPlace}
use Rattle.sgt_proc.specs.declared.flaw_place.Stop.{Stop}
use Rattle.sgt_proc.specs.declared.flaw_place.Stop.TheVariants.{BadNumber, Counted, NoMemory}
use Rattle.sgt_proc.specs.declared.numbers.Number.{Number}
use Rattle.sgt_proc.specs.declared.numbers.Number.TheVariants.{Register, Argument, Table, Code, Literal, Arguments}
use Rattle.sgt_proc.specs.NumberFlaws.{is_bad, value_of}
use Rattle.sgt_proc.specs.Paths.{branch}

-- a place, and the number there
abbrev pub Found : Type 0
Found = List ℕ × ℤ

-- what is found in an item, as found in the list that has the item at this index
abbrev pub under : ℕ → Option Found → Option Found
under index None = None
under index (Some found) = Some (index ∷ found.0, found.1)

-- what is found first, if the first of these is before the second
abbrev pub or_else : Option Found → Option Found → Option Found
or_else None later = later
or_else (Some found) later = Some found

-- a number at an index, if it is bad
abbrev pub first_number : (Number → Bool) → ℕ → Number → Option Found
first_number bad index n = cond (bad n) (Some (index ∷ [], value_of n)) None

-- the first bad number of an expression
abbrev pub first_in_expr : (Number → Bool) → ExprText → Option Found
first_in_expr bad (num n) = cond (bad (Literal n)) (Some ([], n)) None
first_in_expr bad (arg n) = first_number bad 1 (Argument n)
first_in_expr bad (reg n) = first_number bad 1 (Register n)
first_in_expr bad (sum a b) = or_else (under 1 (first_in_expr bad a)) (under 2 (first_in_expr bad b))
first_in_expr bad (diff a b) = or_else (under 1 (first_in_expr bad a)) (under 2 (first_in_expr bad b))
first_in_expr bad (product a b) = or_else (under 1 (first_in_expr bad a)) (under 2 (first_in_expr bad b))
first_in_expr bad (quotient a b) = or_else (under 1 (first_in_expr bad a)) (under 2 (first_in_expr bad b))

-- the first bad number of a condition
abbrev pub first_in_cond : (Number → Bool) → CondText → Option Found
first_in_cond bad (less a b) = or_else (under 1 (first_in_expr bad a)) (under 2 (first_in_expr bad b))
first_in_cond bad (at_most a b) = or_else (under 1 (first_in_expr bad a)) (under 2 (first_in_expr bad b))
first_in_cond bad (equal a b) = or_else (under 1 (first_in_expr bad a)) (under 2 (first_in_expr bad b))

-- the first bad number of the first statement; `first` and `second` are those of the branches of an If
abbrev pub first_in_front : (Number → Bool) → (first second : Option Found) → Block → Option Found
first_in_front bad first second empty = None
first_in_front bad first second (look to table id absent b) =
    or_else (first_number bad 1 (Register to))
    (or_else (first_number bad 2 (Table table)) (or_else (under 3 (first_in_expr bad id)) (first_number bad 4 (Code absent))))
first_in_front bad first second (find to table id absent b) =
    or_else (first_number bad 1 (Register to))
    (or_else (first_number bad 2 (Table table)) (or_else (under 3 (first_in_expr bad id)) (under 4 (first_in_expr bad absent))))
first_in_front bad first second (put table id value b) =
    or_else (first_number bad 1 (Table table))
    (or_else (under 2 (first_in_expr bad id)) (under 3 (first_in_expr bad value)))
first_in_front bad first second (remove table id b) =
    or_else (first_number bad 1 (Table table)) (under 2 (first_in_expr bad id))
first_in_front bad first second (save to value b) =
    or_else (first_number bad 1 (Register to)) (under 2 (first_in_expr bad value))
first_in_front bad first second (ask code b) = first_number bad 1 (Code code)
first_in_front bad first second (choose test ys ns b) =
    or_else (under 1 (first_in_cond bad test)) (or_else (under 2 first) (under 3 second))
first_in_front bad first second (answer value b) = under 1 (first_in_expr bad value)

-- the first bad number of statements, the first of which has this index
abbrev pub first_in_block : (Number → Bool) → ℕ → Block → Option Found
first_in_block bad index empty = None
first_in_block bad index (look to table id absent b) =
    or_else (under index (first_in_front bad None None (look to table id absent empty)))
    (first_in_block bad (index + 1) b)
first_in_block bad index (find to table id absent b) =
    or_else (under index (first_in_front bad None None (find to table id absent empty)))
    (first_in_block bad (index + 1) b)
first_in_block bad index (put table id value b) =
    or_else (under index (first_in_front bad None None (put table id value empty))) (first_in_block bad (index + 1) b)
first_in_block bad index (remove table id b) =
    or_else (under index (first_in_front bad None None (remove table id empty))) (first_in_block bad (index + 1) b)
first_in_block bad index (save to value b) =
    or_else (under index (first_in_front bad None None (save to value empty))) (first_in_block bad (index + 1) b)
first_in_block bad index (ask code b) =
    or_else (under index (first_in_front bad None None (ask code empty))) (first_in_block bad (index + 1) b)
first_in_block bad index (choose test ys ns b) =
    or_else (under index (first_in_front bad (first_in_block bad 0 ys) (first_in_block bad 0 ns) (choose test ys ns empty)))
    (first_in_block bad (index + 1) b)
first_in_block bad index (answer value b) =
    or_else (under index (first_in_front bad None None (answer value empty))) (first_in_block bad (index + 1) b)

-- the first bad number of the first statement, the branches of an If included
abbrev pub first_in_statement : (Number → Bool) → Block → Option Found
first_in_statement bad b = first_in_front bad (first_in_block bad 0 (branch true b)) (first_in_block bad 0 (branch false b)) b

-- the first number of a procedure that has this flaw
abbrev pub first_place : Flaw → ProcedureText → Option Found
first_place flaw p =
    or_else (first_number (is_bad flaw p.args) 0 (Arguments p.args))
    (under 1 (first_in_block (is_bad flaw p.args) 0 p.body))

-- a flaw of a path, or of a number of statements, a depth or a number of answers: not of a single number
abbrev pub IsCounted : Flaw → Type 0
IsCounted UnsetRegister = Unit {0}
IsCounted TooLong = Unit {0}
IsCounted TooDeep = Unit {0}
IsCounted ManyAnswers = Unit {0}
IsCounted _ = ⊥

-- a place with the number there, as it is found
abbrev pub found_at : FlawPlace → Found
found_at at = (at.place.items, at.number)

-- a search of what has this first place of the flaw passes if there is none, and stops there else
abbrev pub Finds : Flaw → Option Found → Result (Unit {0}) Stop → Type 0
Finds flaw first (Ok _) = first ≡ None
Finds flaw first (Err (BadNumber at)) = first ≡ Some (found_at at)
Finds flaw first (Err (Counted at)) = IsCounted flaw
Finds flaw first (Err NoMemory) = Unit {0}

-- a place of the flaw that is the first. A place of a counted flaw is not said
abbrev pub IsFirstPlace : Flaw → ProcedureText → Option FlawPlace → Type 0
IsFirstPlace flaw p at = (IsCounted flaw → ⊥) → option_map found_at at ≡ first_place flaw p
