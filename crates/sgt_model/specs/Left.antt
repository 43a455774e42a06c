-- `Left`: the remainder of a procedure just after one of its accesses. It is data, and determines what the procedure does
-- next and the remainder after one more access. It is a list of statements with what they work on. It stores no values that
-- were read, only their results: registers, answers, and the branches that were chosen.
use Rattle.std.specs.Prelude.{◌≡◌, ℕ, zero, suc, ◌+◌, ℤ, Bool, cond, nat_lt, List, [], ◌∷◌, ◌++◌, length, Option, Some, None, Ok, Err, slice_set}
use Rattle.sgt_model.specs.Numbers.{is_value}
use Rattle.sgt_model.specs.Contents.{Key}
use Rattle.sgt_model.specs.Syntax.{Block, empty, look, find, put, remove, save, ask, choose, answer, ProcedureText}
use Rattle.sgt_model.specs.Traces.{Used, Next, Looks, Puts, Ends, Raises, trace, next_at}
use Rattle.sgt_model.specs.Meaning.{Got, is, over, missing, Truth, holds, too_far, unknown, Registers, fresh, value_of, truth_of, found_or, run_with}
use Rattle.sgt_model.specs.Executions.{OrCode, and_then, provided, overflow, stuck, key_of}

-- the remainder

-- the statements to come in order, the arguments, the registers, each with its value or not set, and the answers so far
pub record Rest : Type 0 where
  pub statements : Block
  pub args : List ℤ
  pub registers : Registers
  pub answers : List ℤ

-- the remainder of a procedure: to run on, or to raise a code because its last read found no record
pub data Left : Type 0 where
  ToRun : Rest → Left
  ToRaise : ℕ → Left

-- nothing is done yet
abbrev pub left_at_start : ProcedureText → List ℤ → Left
left_at_start p args = ToRun (record { statements = p.body; args = args; registers = fresh; answers = [] })

-- up to the next access

-- a block, and after its last statement those of another
abbrev pub followed_by : Block → Block → Block
followed_by empty more = more
followed_by (look to table id absent rest) more = look to table id absent (followed_by rest more)
followed_by (find to table id absent rest) more = find to table id absent (followed_by rest more)
followed_by (put table id value rest) more = put table id value (followed_by rest more)
followed_by (remove table id rest) more = remove table id (followed_by rest more)
followed_by (save to value rest) more = save to value (followed_by rest more)
followed_by (ask code rest) more = ask code (followed_by rest more)
followed_by (choose test ys ns rest) more = choose test ys ns (followed_by rest more)
followed_by (answer value rest) more = answer value (followed_by rest more)

-- where statements arrive without an access: at a `Look`, with its register and the code that it raises if there is no
-- record; at a `Find`, with its register and the number that replaces a missing record; at a write; each with the
-- remainder after it; or at their end, with the registers and the answers
pub data Reached : Type 0 where
  AtLook : Key → (to absent : ℕ) → Rest → Reached
  AtFind : Key → (to : ℕ) → (absent : ℤ) → Rest → Reached
  AtStore : Key → Option ℤ → Rest → Reached
  AtEnd : Registers → List ℤ → Reached

-- with more statements after it
abbrev pub with_more : Block → Rest → Rest
with_more more r = record { statements = followed_by r.statements more; args = r.args; registers = r.registers; answers = r.answers }

-- a branch that was entered arrives at an access, and the statements after the If are still to come; or it arrives at its
-- end, and these go on
abbrev pub then_after : Block → (Registers → List ℤ → OrCode Reached) → Reached → OrCode Reached
then_after following go_on (AtLook key to absent r) = Ok (AtLook key to absent (with_more following r))
then_after following go_on (AtFind key to absent r) = Ok (AtFind key to absent (with_more following r))
then_after following go_on (AtStore key v r) = Ok (AtStore key v (with_more following r))
then_after following go_on (AtEnd registers answers) = go_on registers answers

-- the value of an expression, or the code that it raises
abbrev pub number_or_code : Got → OrCode ℤ
number_or_code (is v) = Ok v
number_or_code over = Err overflow
number_or_code missing = Err stuck

-- whether a condition holds, or the code that it raises
abbrev pub choice_or_code : Truth → OrCode Bool
choice_or_code (holds chosen) = Ok chosen
choice_or_code too_far = Err overflow
choice_or_code unknown = Err stuck

-- the statements one after another up to the next access: a Let sets its register, an If enters the branch that its condition
-- chooses, an Answer gives its value; an Ask ends the procedure with its code
abbrev pub reach : Block → List ℤ → Registers → List ℤ → OrCode Reached
reach empty args registers answers = Ok (AtEnd registers answers)
reach (look to table id absent rest) args registers answers =
    and_then (number_or_code (value_of id args registers)) (λ n.
    and_then (key_of table n) (λ key.
    Ok (AtLook key to absent (record { statements = rest; args = args; registers = registers; answers = answers }))))
reach (find to table id absent rest) args registers answers =
    and_then (number_or_code (value_of id args registers)) (λ n.
    and_then (number_or_code (value_of absent args registers)) (λ v.
    and_then (key_of table n) (λ key.
    Ok (AtFind key to v (record { statements = rest; args = args; registers = registers; answers = answers })))))
reach (put table id value rest) args registers answers =
    and_then (number_or_code (value_of id args registers)) (λ n.
    and_then (number_or_code (value_of value args registers)) (λ v.
    and_then (key_of table n) (λ key.
    provided (is_value v) (AtStore key (Some v) (record { statements = rest; args = args; registers = registers; answers = answers })) stuck)))
reach (remove table id rest) args registers answers =
    and_then (number_or_code (value_of id args registers)) (λ n.
    and_then (key_of table n) (λ key.
    Ok (AtStore key None (record { statements = rest; args = args; registers = registers; answers = answers }))))
reach (save to value rest) args registers answers =
    and_then (number_or_code (value_of value args registers)) (λ v.
    reach rest args (slice_set registers to (Some v)) answers)
reach (ask code rest) args registers answers = Err code
reach (choose test ys ns rest) args registers answers =
    and_then (choice_or_code (truth_of test args registers)) (λ chosen.
    and_then (cond chosen (reach ys args registers answers) (reach ns args registers answers))
    (then_after rest (λ registers_then answers_then. reach rest args registers_then answers_then)))
reach (answer value rest) args registers answers =
    and_then (number_or_code (value_of value args registers)) (λ v.
    and_then (provided (nat_lt (length answers) 8) (answers ++ v ∷ []) stuck) (λ more.
    reach rest args registers more))

-- where the remainder arrives
abbrev pub reached : Left → OrCode Reached
reached (ToRun r) = reach r.statements r.args r.registers r.answers
reached (ToRaise code) = Err code

-- what comes next

-- an access, the end, or a code
abbrev pub next_of_reached : OrCode Reached → Next
next_of_reached (Ok (AtLook key to absent r)) = Looks key
next_of_reached (Ok (AtFind key to absent r)) = Looks key
next_of_reached (Ok (AtStore key v r)) = Puts key v
next_of_reached (Ok (AtEnd registers answers)) = Ends answers
next_of_reached (Err code) = Raises code

-- what the procedure does next
abbrev pub next_left : Left → Next
next_left l = next_of_reached (reached l)

-- one more access

-- a value is set in a register
abbrev pub with_register : (to : ℕ) → ℤ → Rest → Rest
with_register to v r = record { statements = r.statements; args = r.args; registers = slice_set r.registers to (Some v); answers = r.answers }

-- the value of a read is set in its register; if there was no record, its code is to be raised
abbrev pub with_found : Option ℤ → (to absent : ℕ) → Rest → Left
with_found None to absent r = ToRaise absent
with_found (Some v) to absent r = ToRun (with_register to v r)

-- after a read that returned this; if no read is next, the same remainder
abbrev pub left_with_found : Option ℤ → OrCode Reached → Left → Left
left_with_found found (Ok (AtLook key to absent r)) l = with_found found to absent r
left_with_found found (Ok (AtFind key to absent r)) l = ToRun (with_register to (found_or absent found) r)
left_with_found found _ l = l

-- the remainder after the read that is next, if that returns this
abbrev pub after_look : Option ℤ → Left → Left
after_look found l = left_with_found found (reached l) l

-- after a write; if no write is next, the same remainder
abbrev pub left_with_write : OrCode Reached → Left → Left
left_with_write (Ok (AtStore key v r)) l = ToRun r
left_with_write _ l = l

-- the remainder after the write that is next
abbrev pub after_store : Left → Left
after_store l = left_with_write (reached l) l

-- a number of accesses

-- one access, by what is next, and then the others: a read takes the first of the values, and a write takes none
abbrev pub after_next : Next → Left → List (Option ℤ) → (Left → List (Option ℤ) → Left) → Left
after_next (Looks key) l (found ∷ values) others = others (after_look found l) values
after_next (Looks key) l [] others = l
after_next (Puts key v) l values others = others (after_store l) values
after_next (Ends answers) l values others = l
after_next (Raises code) l values others = l

-- the remainder after this many accesses, whose reads return these values
abbrev pub left_after : Left → List (Option ℤ) → ℕ → Left
left_after l values zero = l
left_after l values (suc made) = after_next (next_left l) l values (λ then values_then. left_after then values_then made)

-- the remainder of a procedure with these arguments just after its first `made` accesses, whose reads returned these values
abbrev pub left : ProcedureText → List ℤ → List (Option ℤ) → ℕ → Left
left p args values made = left_after (left_at_start p args) values made

-- the laws, each for a procedure that has made this many accesses, whose reads returned exactly these values

-- what holds of each such procedure
abbrev pub OfEachUsed : (ProcedureText → List ℤ → List (Option ℤ) → ℕ → Type 0) → Type 0
OfEachUsed P = (p : ProcedureText) (args : List ℤ) (values : List (Option ℤ)) (made : ℕ) → Used (run_with p args) values made → P p args values made

-- what it does next is a function of its remainder
abbrev pub NextIsOfLeft : Type 0
NextIsOfLeft = OfEachUsed (λ p args values made. next_left (left p args values made) ≡ next_at (trace (run_with p args) values) made)

-- if a read is next, so is the remainder after it, with the value that it returns
abbrev pub LeftAfterLook : Type 0
LeftAfterLook = OfEachUsed (λ p args values made. (key : Key) (found : Option ℤ) → next_left (left p args values made) ≡ Looks key → left p args (values ++ found ∷ []) (made + 1) ≡ after_look found (left p args values made))

-- if a write is next, so is the remainder after it
abbrev pub LeftAfterStore : Type 0
LeftAfterStore = OfEachUsed (λ p args values made. (key : Key) (v : Option ℤ) → next_left (left p args values made) ≡ Puts key v → left p args values (made + 1) ≡ after_store (left p args values made))
