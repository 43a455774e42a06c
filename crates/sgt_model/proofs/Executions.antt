-- The run of a procedure does what its statements mean: by induction on the statements, for whatever comes after them.
use Rattle.std.specs.Prelude.{◌≡◌, ℕ, ℤ, ◌+ℤ◌, ◌-ℤ◌, ◌*ℤ◌, pos, int_div, int_lt, int_le, Bool, true, false, cond, nat_lt, List, length, Option, Some, None, Ok, Err, ok_or, slice_get, slice_index_or}
use Rattle.std.specs.Ordering.{int_eq}
use Rattle.std.proofs.Common.{refl, ◌∙◌}
use Rattle.sgt_model.specs.Numbers.{is_value}
use Rattle.sgt_model.specs.Contents.{Key, Contents}
use Rattle.sgt_model.specs.Syntax.{ExprText, num, arg, reg, sum, diff, product, quotient, CondText, less, at_most, equal, Block, empty, look, find, put, remove, save, ask, choose, answer}
use Rattle.sgt_model.specs.Runs.{Run, Outcome, Asked, serial}
use Rattle.sgt_model.specs.Ways.{Way, onto}
use Rattle.sgt_model.specs.Ways as way
use Rattle.sgt_model.specs.Meaning.{Got, is, over, missing, got, bounded, divided, both, value_of, Truth, holds, too_far, unknown, compared, truth_of, wrong, with_value, with_condition, is_key, if_found, run}
use Rattle.sgt_model.specs.Executions.{OrCode, and_then, provided, Workspace, workspace_of, in_turn, value_or_overflow, quotient_or_overflow, evaluate, decide, look_at_record, find_record, put_record, remove_record, let_register, give_answer, execute, outcome_of, SerialIsExecution}

-- expressions

abbrev got_or_code : Got → OrCode ℤ
got_or_code (is v) = Ok v
got_or_code over = Err 1000
got_or_code missing = Err 0

abbrev test_or_code : Truth → OrCode Bool
test_or_code (holds b) = Ok b
test_or_code too_far = Err 1000
test_or_code unknown = Err 0

ranged : (fits : Bool) (v : ℤ) → provided fits v 1000 ≡ got_or_code (cond fits (is v) over)
ranged true v = refl
ranged false v = refl

bounded_is : (v : ℤ) → value_or_overflow v ≡ got_or_code (bounded v)
bounded_is v = ranged (is_value v) v

by_zero : (none : Bool) (v : ℤ) → cond none (Err 1000) (value_or_overflow v) ≡ got_or_code (cond none over (bounded v))
by_zero true v = refl
by_zero false v = bounded_is v

divided_is : (x y : ℤ) → quotient_or_overflow x y ≡ got_or_code (divided x y)
divided_is x y = by_zero (int_eq y (pos 0)) (int_div x y)

both_are : (f : ℤ → ℤ → OrCode ℤ) (g : ℤ → ℤ → Got) → ((x y : ℤ) → f x y ≡ got_or_code (g x y)) → (a b : Got)
    → in_turn (got_or_code a) (got_or_code b) (λ x y. f x y) ≡ got_or_code (both (λ x y. g x y) a b)
both_are f g same (is a) (is b) = same a b
both_are f g same (is a) over = refl
both_are f g same (is a) missing = refl
both_are f g same over b = refl
both_are f g same missing b = refl

compared_are : (f : ℤ → ℤ → Bool) (a b : Got) → in_turn (got_or_code a) (got_or_code b) (λ x y. Ok (f x y)) ≡ test_or_code (compared f a b)
compared_are f (is a) (is b) = refl
compared_are f (is a) over = refl
compared_are f (is a) missing = refl
compared_are f over b = refl
compared_are f missing b = refl

found_is : (o : Option ℤ) → ok_or o 0 ≡ got_or_code (got o)
found_is None = refl
found_is (Some v) = refl

value_is : (t : ExprText) (args : List ℤ) (w : Workspace) → evaluate t args w ≡ got_or_code (value_of t args w.registers)
value_is (num n) args w = refl
value_is (arg n) args w = found_is (slice_get args n)
value_is (reg n) args w = found_is (slice_index_or w.registers n None)
value_is (sum a b) args w = rw (value_is a args w, value_is b args w)
    (both_are _ _ (λ x y. bounded_is (x +ℤ y)) (value_of a args w.registers) (value_of b args w.registers))
value_is (diff a b) args w = rw (value_is a args w, value_is b args w)
    (both_are _ _ (λ x y. bounded_is (x -ℤ y)) (value_of a args w.registers) (value_of b args w.registers))
value_is (product a b) args w = rw (value_is a args w, value_is b args w)
    (both_are _ _ (λ x y. bounded_is (x *ℤ y)) (value_of a args w.registers) (value_of b args w.registers))
value_is (quotient a b) args w = rw (value_is a args w, value_is b args w)
    (both_are _ _ divided_is (value_of a args w.registers) (value_of b args w.registers))

test_is : (t : CondText) (args : List ℤ) (w : Workspace) → decide t args w ≡ test_or_code (truth_of t args w.registers)
test_is (less a b) args w = rw (value_is a args w, value_is b args w) (compared_are int_lt (value_of a args w.registers)
    (value_of b args w.registers))
test_is (at_most a b) args w = rw (value_is a args w, value_is b args w) (compared_are int_le (value_of a args w.registers)
    (value_of b args w.registers))
test_is (equal a b) args w = rw (value_is a args w, value_is b args w) (compared_are int_eq (value_of a args w.registers)
    (value_of b args w.registers))

-- what comes after a part: its result goes on, and a code is raised
abbrev after : {A : Type 0} → OrCode A → (A → Outcome) → Outcome
after (Ok a) go = go a
after (Err code) go = Asked code

-- the tests of a run, one by one

value_step : (g : Got) (r : OrCode ℤ) (go : ℤ → Run) (m : Contents) (next : ℤ → OrCode Workspace) (rest : Workspace → Outcome)
    → r ≡ got_or_code g → ((v : ℤ) → serial (go v) m ≡ after (next v) rest) → serial (with_value g go) m ≡ after (and_then r next) rest
value_step (is v) r go m next rest e same = rw e (same v)
value_step over r go m next rest e same = rw e refl
value_step missing r go m next rest e same = rw e refl

key_step : (fits : Bool) (key : Key) (go : Run) (m : Contents) (next : Key → OrCode Workspace) (rest : Workspace → Outcome)
    → serial go m ≡ after (next key) rest → serial (cond fits go wrong) m ≡ after (and_then (provided fits key 0) next) rest
key_step true key go m next rest same = same
key_step false key go m next rest same = refl

found_step : (o : Option ℤ) (absent : ℕ) (go : ℤ → Run) (m : Contents) (next : ℤ → OrCode Workspace) (rest : Workspace → Outcome)
    → ((v : ℤ) → serial (go v) m ≡ after (next v) rest) → serial (if_found absent o go) m ≡ after (and_then (ok_or o absent) next) rest
found_step None absent go m next rest same = refl
found_step (Some v) absent go m next rest same = same v

last_step : (fits : Bool) (w : Workspace) (go : Run) (m : Contents) (rest : Workspace → Outcome) → serial go m ≡ rest w
    → serial (cond fits go wrong) m ≡ after (provided fits w 0) rest
last_step true w go m rest same = same
last_step false w go m rest same = refl

test_step : (h : Truth) (r : OrCode Bool) (ys ns : Run) (m : Contents) (next : Bool → OrCode Workspace) (rest : Workspace → Outcome)
    → r ≡ test_or_code h → serial ys m ≡ after (next true) rest → serial ns m ≡ after (next false) rest
    → serial (with_condition h ys ns) m ≡ after (and_then r next) rest
test_step (holds true) r ys ns m next rest e yes_same no_same = rw e yes_same
test_step (holds false) r ys ns m next rest e yes_same no_same = rw e no_same
test_step too_far r ys ns m next rest e yes_same no_same = rw e refl
test_step unknown r ys ns m next rest e yes_same no_same = rw e refl

-- statements

-- the outcome of the run along a way, from a workspace
abbrev along : List ℤ → Way → Workspace → Outcome
along args following w = serial (run args following w.registers w.answers) w.working

-- what the first statement does, and then what is after it
following_first : (args : List ℤ) (b : Block) (following : Way) (r : OrCode Workspace) (first : Outcome)
    → ((w : Workspace) → along args (onto b following) w ≡ after (execute args b w) (along args following))
    → first ≡ after r (along args (onto b following)) → first ≡ after (and_then r (λ next. execute args b next)) (along args following)
following_first args b following (Ok w) first same so = so ∙ same w
following_first args b following (Err code) first same so = so

block_is : (args : List ℤ) (b : Block) (following : Way) (w : Workspace) → along args (onto b following) w ≡ after (execute args b w)
    (along args following)
block_is args empty following w = refl
block_is args (look to table id absent b) following w =
    following_first args b following (look_at_record args to table id absent w) _ (block_is args b following)
    (value_step (value_of id args w.registers) (evaluate id args w) _ w.working _ (along args (onto b following)) (value_is id args w)
    (λ n. key_step (is_key table n) (table, n) _ w.working _ (along args (onto b following))
    (found_step (w.working (table, n)) absent _ w.working _ (along args (onto b following)) (λ v. refl))))
block_is args (find to table id absent b) following w =
    following_first args b following (find_record args to table id absent w) _ (block_is args b following)
    (value_step (value_of id args w.registers) (evaluate id args w) _ w.working _ (along args (onto b following)) (value_is id args w)
    (λ n. value_step (value_of absent args w.registers) (evaluate absent args w) _ w.working _ (along args (onto b following))
    (value_is absent args w)
    (λ v. key_step (is_key table n) (table, n) _ w.working _ (along args (onto b following)) refl)))
block_is args (put table id value b) following w =
    following_first args b following (put_record args table id value w) _ (block_is args b following)
    (value_step (value_of id args w.registers) (evaluate id args w) _ w.working _ (along args (onto b following)) (value_is id args w)
    (λ n. value_step (value_of value args w.registers) (evaluate value args w) _ w.working _ (along args (onto b following))
    (value_is value args w)
    (λ v. key_step (is_key table n) (table, n) _ w.working _ (along args (onto b following))
    (last_step (is_value v) _ _ w.working (along args (onto b following)) refl))))
block_is args (remove table id b) following w =
    following_first args b following (remove_record args table id w) _ (block_is args b following)
    (value_step (value_of id args w.registers) (evaluate id args w) _ w.working _ (along args (onto b following)) (value_is id args w)
    (λ n. key_step (is_key table n) (table, n) _ w.working _ (along args (onto b following)) refl))
block_is args (save to value b) following w =
    following_first args b following (let_register args to value w) _ (block_is args b following)
    (value_step (value_of value args w.registers) (evaluate value args w) _ w.working _ (along args (onto b following))
    (value_is value args w) (λ v. refl))
block_is args (ask code b) following w = refl
block_is args (choose test ys ns b) following w =
    test_step (truth_of test args w.registers) (decide test args w) _ _ w.working _ (along args following) (test_is test args w)
    (following_first args b following (execute args ys w) _ (block_is args b following) (block_is args ys (onto b following) w))
    (following_first args b following (execute args ns w) _ (block_is args b following) (block_is args ns (onto b following) w))
block_is args (answer value b) following w =
    following_first args b following (give_answer args value w) _ (block_is args b following)
    (value_step (value_of value args w.registers) (evaluate value args w) _ w.working _ (along args (onto b following))
    (value_is value args w)
    (λ v. last_step (nat_lt (length w.answers) 8) _ _ w.working (along args (onto b following)) refl))

-- procedures

ended : (args : List ℤ) (r : OrCode Workspace) → after r (along args way.end) ≡ outcome_of r
ended args (Ok w) = refl
ended args (Err code) = refl

-- the law
pub serial_is : SerialIsExecution
serial_is p args database = block_is args p.body way.end (workspace_of database) ∙ ended args (execute args p.body (workspace_of database))
