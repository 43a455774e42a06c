-- The meaning of the procedure language, statement by statement. A procedure is executed at once and alone, over a working
-- copy of the database. This is a denotational semantics of a small language whose statements may end it early, by recursion
-- on its text. It uses no accesses, runs or histories; the law at the end connects it to the runs that these are read from.
use Rattle.std.specs.Prelude.{◌≡◌, ℕ, ℤ, ◌+ℤ◌, ◌-ℤ◌, ◌*ℤ◌, pos, int_div, int_lt, int_le, Bool, ◌&&◌, cond, nat_le, nat_lt, List, [], ◌∷◌, ◌++◌, length, Option, Some, None, Result, Ok, Err, ok_or, slice_get, slice_index_or, slice_set, replicate}
use Rattle.std.specs.Ordering.{int_eq}
use Rattle.sgt_model.specs.Numbers.{is_value}
use Rattle.sgt_model.specs.Contents.{Key, Contents, set_in}
use Rattle.sgt_model.specs.Syntax.{ExprText, num, arg, reg, sum, diff, product, quotient, CondText, less, at_most, equal, Block, empty, look, find, put, remove, save, ask, choose, answer, ProcedureText}
use Rattle.sgt_model.specs.Runs.{Outcome, Done, Asked, serial}
use Rattle.sgt_model.specs.Meaning.{found_or, run_with}

-- codes, which end a procedure

-- what a part of a procedure gives, or the code that is raised there and ends the whole procedure
abbrev pub OrCode : Type 0 → Type 0
OrCode A = Result A ℕ

-- one part, and then the next, which gets the result of the first; a code ends both
abbrev pub and_then : {A B : Type 0} → OrCode A → (A → OrCode B) → OrCode B
and_then (Ok a) next = next a
and_then (Err code) next = Err code

-- this, if the condition holds, or else the code
abbrev pub provided : {A : Type 0} → Bool → A → ℕ → OrCode A
provided condition a code = cond condition (Ok a) (Err code)

-- the code of a sum, difference, product or quotient that is no value, and of a quotient by 0
abbrev pub overflow : ℕ
overflow = 1000

-- the code of what no checked procedure does: use a register that is not set or an argument that does not exist, read
-- or write a record that has no key, write what is no value, give a ninth answer
abbrev pub stuck : ℕ
stuck = 0

-- the state of an execution

-- sixteen registers, each with its value or not set; the working map; the answers so far
pub record Workspace : Type 0 where
  pub registers : List (Option ℤ)
  pub working : Contents
  pub answers : List ℤ

-- at the start no register is set, the map is the database, and there are no answers
abbrev pub workspace_of : Contents → Workspace
workspace_of database = record { registers = replicate 16 None; working = database; answers = [] }

-- a value is set in a register; a number over 15 names none, and nothing is set
abbrev pub into_register : ℕ → ℤ → Workspace → Workspace
into_register to v w = record { registers = slice_set w.registers to (Some v); working = w.working; answers = w.answers }

-- a record of the working map is set to a value, or to none
abbrev pub into_record : Key → Option ℤ → Workspace → Workspace
into_record key v w = record { registers = w.registers; working = set_in w.working key v; answers = w.answers }

-- a value is added after the answers
abbrev pub into_answers : ℤ → Workspace → Workspace
into_answers v w = record { registers = w.registers; working = w.working; answers = w.answers ++ v ∷ [] }

-- expressions and conditions

-- the left part first, then the right one, and then the result of both values
abbrev pub in_turn : {A : Type 0} → OrCode ℤ → OrCode ℤ → (ℤ → ℤ → OrCode A) → OrCode A
in_turn left right make = and_then left (λ x. and_then right (λ y. make x y))

-- the result of arithmetic, if it is a value
abbrev pub value_or_overflow : ℤ → OrCode ℤ
value_or_overflow v = provided (is_value v) v overflow

-- the quotient, rounded towards zero, if it is a value; a quotient by 0 is none
abbrev pub quotient_or_overflow : ℤ → ℤ → OrCode ℤ
quotient_or_overflow x y = cond (int_eq y (pos 0)) (Err overflow) (value_or_overflow (int_div x y))

-- the value of an expression
abbrev pub evaluate : ExprText → List ℤ → Workspace → OrCode ℤ
evaluate (num n) args w = Ok n
evaluate (arg n) args w = ok_or (slice_get args n) stuck
evaluate (reg n) args w = ok_or (slice_index_or w.registers n None) stuck
evaluate (sum a b) args w = in_turn (evaluate a args w) (evaluate b args w) (λ x y. value_or_overflow (x +ℤ y))
evaluate (diff a b) args w = in_turn (evaluate a args w) (evaluate b args w) (λ x y. value_or_overflow (x -ℤ y))
evaluate (product a b) args w = in_turn (evaluate a args w) (evaluate b args w) (λ x y. value_or_overflow (x *ℤ y))
evaluate (quotient a b) args w = in_turn (evaluate a args w) (evaluate b args w) (λ x y. quotient_or_overflow x y)

-- whether a condition holds
abbrev pub decide : CondText → List ℤ → Workspace → OrCode Bool
decide (less a b) args w = in_turn (evaluate a args w) (evaluate b args w) (λ x y. Ok (int_lt x y))
decide (at_most a b) args w = in_turn (evaluate a args w) (evaluate b args w) (λ x y. Ok (int_le x y))
decide (equal a b) args w = in_turn (evaluate a args w) (evaluate b args w) (λ x y. Ok (int_eq x y))

-- statements

-- a table from 0 to 7 and a value are a key
abbrev pub key_of : ℕ → ℤ → OrCode Key
key_of table id = provided (nat_le table 7 && is_value id) (table, id) stuck

-- Look: the register gets the value of the record in the working map; if there is no record, `absent` is raised
abbrev pub look_at_record : List ℤ → (to table : ℕ) → (id : ExprText) → (absent : ℕ) → Workspace → OrCode Workspace
look_at_record args to table id absent w =
    and_then (evaluate id args w) (λ n.
    and_then (key_of table n) (λ key.
    and_then (ok_or (w.working key) absent) (λ v.
    Ok (into_register to v w))))

-- Find: the register gets the value of the record in the working map, or `absent` if there is no record
abbrev pub find_record : List ℤ → (to table : ℕ) → (id absent : ExprText) → Workspace → OrCode Workspace
find_record args to table id absent w =
    and_then (evaluate id args w) (λ n.
    and_then (evaluate absent args w) (λ v.
    and_then (key_of table n) (λ key.
    Ok (into_register to (found_or v (w.working key)) w))))

-- Put: the value is written to the record
abbrev pub put_record : List ℤ → (table : ℕ) → (id value : ExprText) → Workspace → OrCode Workspace
put_record args table id value w =
    and_then (evaluate id args w) (λ n.
    and_then (evaluate value args w) (λ v.
    and_then (key_of table n) (λ key.
    provided (is_value v) (into_record key (Some v) w) stuck)))

-- Remove: the record is removed
abbrev pub remove_record : List ℤ → (table : ℕ) → (id : ExprText) → Workspace → OrCode Workspace
remove_record args table id w =
    and_then (evaluate id args w) (λ n.
    and_then (key_of table n) (λ key.
    Ok (into_record key None w)))

-- Let: the register gets the value
abbrev pub let_register : List ℤ → (to : ℕ) → (value : ExprText) → Workspace → OrCode Workspace
let_register args to value w = and_then (evaluate value args w) (λ v. Ok (into_register to v w))

-- Answer: the value is added to the answers, at most eight
abbrev pub give_answer : List ℤ → (value : ExprText) → Workspace → OrCode Workspace
give_answer args value w = and_then (evaluate value args w) (λ v. provided (nat_lt (length w.answers) 8) (into_answers v w) stuck)

-- statements in a row: the first one, and then the rest. An Ask ends the procedure with its code. An If is the branch that
-- its condition chooses, and then the rest
abbrev pub execute : List ℤ → Block → Workspace → OrCode Workspace
execute args empty w = Ok w
execute args (look to table id absent rest) w = and_then (look_at_record args to table id absent w) (λ next. execute args rest next)
execute args (find to table id absent rest) w = and_then (find_record args to table id absent w) (λ next. execute args rest next)
execute args (put table id value rest) w = and_then (put_record args table id value w) (λ next. execute args rest next)
execute args (remove table id rest) w = and_then (remove_record args table id w) (λ next. execute args rest next)
execute args (save to value rest) w = and_then (let_register args to value w) (λ next. execute args rest next)
execute args (ask code rest) w = Err code
execute args (choose test ys ns rest) w =
    and_then (decide test args w) (λ chosen.
    and_then (cond chosen (execute args ys w) (execute args ns w)) (λ next.
    execute args rest next))
execute args (answer value rest) w = and_then (give_answer args value w) (λ next. execute args rest next)

-- procedures

-- at its end a procedure gives its answers and the working map; if it raised a code, its working map is dropped
abbrev pub outcome_of : OrCode Workspace → Outcome
outcome_of (Ok w) = Done w.answers w.working
outcome_of (Err code) = Asked code

-- what a procedure with these arguments does to a database
abbrev pub execution : ProcedureText → List ℤ → Contents → Outcome
execution p args database = outcome_of (execute args p.body (workspace_of database))

-- the run of a procedure at once is its execution: for every text, whatever its flaws, all arguments and every database
abbrev pub SerialIsExecution : Type 0
SerialIsExecution = (p : ProcedureText) (args : List ℤ) (database : Contents) → serial (run_with p args) database ≡ execution p args database
