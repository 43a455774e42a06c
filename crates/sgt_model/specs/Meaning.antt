-- What a procedure means: what its run does, one access after another.
use Rattle.std.specs.Prelude.{ℕ, ℤ, ◌+ℤ◌, ◌-ℤ◌, ◌*ℤ◌, pos, int_div, int_lt, int_le, Bool, ◌&&◌, cond, nat_le, nat_lt, List, [], ◌∷◌, ◌++◌, length, Option, Some, None, slice_get, slice_index_or, slice_set, replicate}
use Rattle.std.specs.Ordering.{int_eq}
use Rattle.sgt_model.specs.Numbers.{is_value}
use Rattle.sgt_model.specs.Contents.{Key}
use Rattle.sgt_model.specs.Syntax.{ExprText, num, arg, reg, sum, diff, product, quotient, CondText, less, at_most, equal, ProcedureText}
use Rattle.sgt_model.specs.Ways.{Way, onto}
use Rattle.sgt_model.specs.Ways as way
use Rattle.sgt_model.specs.Runs.{Run, looks, puts, ends, raises}

-- what an expression gives: a number; or arithmetic that gives no value; or nothing, because it names a register that is not
-- set or an argument that does not exist
pub data Got : Type 0 where
  is : ℤ → Got
  over : Got
  missing : Got

-- a number, if present
abbrev pub got : Option ℤ → Got
got None = missing
got (Some v) = is v

-- a number, if it is a value
abbrev pub bounded : ℤ → Got
bounded v = cond (is_value v) (is v) over

-- the quotient, rounded towards zero, if it is a value; a quotient by 0 is none
abbrev pub divided : ℤ → ℤ → Got
divided x y = cond (int_eq y (pos 0)) over (bounded (int_div x y))

-- the result of two parts; the left part is evaluated first
abbrev pub both : (ℤ → ℤ → Got) → Got → Got → Got
both f (is a) (is b) = f a b
both f (is a) over = over
both f (is a) missing = missing
both f over _ = over
both f missing _ = missing

-- the registers, each with its value, or None if it is not set
abbrev pub Registers : Type 0
Registers = List (Option ℤ)

-- sixteen registers, none set
abbrev pub fresh : Registers
fresh = replicate 16 None

-- what an expression gives
abbrev pub value_of : ExprText → List ℤ → Registers → Got
value_of (num n) args regs = is n
value_of (arg n) args regs = got (slice_get args n)
value_of (reg n) args regs = got (slice_index_or regs n None)
value_of (sum a b) args regs = both (λ x y. bounded (x +ℤ y)) (value_of a args regs) (value_of b args regs)
value_of (diff a b) args regs = both (λ x y. bounded (x -ℤ y)) (value_of a args regs) (value_of b args regs)
value_of (product a b) args regs = both (λ x y. bounded (x *ℤ y)) (value_of a args regs) (value_of b args regs)
value_of (quotient a b) args regs = both (λ x y. divided x y) (value_of a args regs) (value_of b args regs)

-- what a condition gives: it holds or not, or one of its parts overflows or is missing
pub data Truth : Type 0 where
  holds : Bool → Truth
  too_far : Truth
  unknown : Truth

-- two numbers compared, if present
abbrev pub compared : (ℤ → ℤ → Bool) → Got → Got → Truth
compared f (is a) (is b) = holds (f a b)
compared f (is a) over = too_far
compared f (is a) missing = unknown
compared f over _ = too_far
compared f missing _ = unknown

-- what a condition gives
abbrev pub truth_of : CondText → List ℤ → Registers → Truth
truth_of (less a b) args regs = compared int_lt (value_of a args regs) (value_of b args regs)
truth_of (at_most a b) args regs = compared int_le (value_of a args regs) (value_of b args regs)
truth_of (equal a b) args regs = compared int_eq (value_of a args regs) (value_of b args regs)

-- what no procedure that passed the check does: it raises code 0
abbrev pub wrong : Run
wrong = raises 0

-- arithmetic that gives no value raises code 1000
abbrev pub with_value : Got → (ℤ → Run) → Run
with_value (is v) go = go v
with_value over go = raises 1000
with_value missing go = wrong

-- the branch that a condition chooses
abbrev pub with_condition : Truth → Run → Run → Run
with_condition (holds b) ys ns = cond b ys ns
with_condition too_far ys ns = raises 1000
with_condition unknown ys ns = wrong

-- a table from 0 to 7, and a value
abbrev pub is_key : ℕ → ℤ → Bool
is_key table id = nat_le table 7 && is_value id

-- a key, if it is one
abbrev pub with_key : ℕ → ℤ → (Key → Run) → Run
with_key table id go = cond (is_key table id) (go (table, id)) wrong

-- what is written is a value
abbrev pub with_stored : ℤ → Run → Run
with_stored v go = cond (is_value v) go wrong

-- a read that finds no record raises its code
abbrev pub if_found : ℕ → Option ℤ → (ℤ → Run) → Run
if_found absent None go = raises absent
if_found absent (Some v) go = go v

-- the value that was read, or this number if there is no record
abbrev pub found_or : ℤ → Option ℤ → ℤ
found_or absent None = absent
found_or absent (Some v) = v

-- at most eight answers
abbrev pub with_capacity : List ℤ → Run → Run
with_capacity answers go = cond (nat_lt (length answers) 8) go wrong

-- the run along the statements to come, with these registers and answers
abbrev pub run : List ℤ → Way → Registers → List ℤ → Run
run args way.end regs answers = ends answers
run args (way.look to table id absent rest) regs answers =
    with_value (value_of id args regs) (λ n. with_key table n (λ k. looks k (λ found. if_found absent found (λ v. run args rest (slice_set regs to (Some v)) answers))))
run args (way.find to table id absent rest) regs answers =
    with_value (value_of id args regs) (λ n. with_value (value_of absent args regs) (λ v. with_key table n (λ k. looks k (λ found. run args rest (slice_set regs to (Some (found_or v found))) answers))))
run args (way.put table id value rest) regs answers =
    with_value (value_of id args regs) (λ n. with_value (value_of value args regs) (λ v. with_key table n (λ k. with_stored v (puts k (Some v) (run args rest regs answers)))))
run args (way.remove table id rest) regs answers =
    with_value (value_of id args regs) (λ n. with_key table n (λ k. puts k None (run args rest regs answers)))
run args (way.save to value rest) regs answers =
    with_value (value_of value args regs) (λ v. run args rest (slice_set regs to (Some v)) answers)
run args (way.ask code) regs answers = raises code
run args (way.fork test ys ns) regs answers =
    with_condition (truth_of test args regs) (run args ys regs answers) (run args ns regs answers)
run args (way.answer value rest) regs answers =
    with_value (value_of value args regs) (λ v. with_capacity answers (run args rest regs (answers ++ v ∷ [])))

-- the run of a procedure with these arguments
abbrev pub run_with : ProcedureText → List ℤ → Run
run_with p args = run args (onto p.body way.end) fresh []
