-- A small bank as a configuration for the examples: five procedures, without the refusals of a real bank, and some others.
use Rattle.std.specs.Prelude.{ℕ, ℤ, pos, cond, List, [], ◌∷◌, ◌++◌, Some, None}
use Rattle.sgt_model.specs.declared.event.Event.{Event}
use Rattle.sgt_model.specs.declared.reply.Reply.{Reply}
use Rattle.sgt_model.specs.declared.entry.Entry.{Entry}
use Rattle.sgt_model.specs.declared.limits.Asks.TheVariants.{AtStep}
use Rattle.sgt_model.specs.Contents.{Key, key_eq, Contents}
use Rattle.sgt_model.specs.Syntax.{ProcedureText, num, arg, reg, sum, diff, less, empty, look, put, save, choose, answer}
use Rattle.sgt_model.specs.Configurations.{Configuration, configuration}

-- what these records hold, and nothing elsewhere
abbrev pub found_in : List (Key × ℤ) → Contents
found_in [] k = None
found_in ((j, v) ∷ rest) k = cond (key_eq j k) (Some v) (found_in rest k)

-- the five procedures

-- the sum of both balances
abbrev pub balance : ProcedureText
balance = record {
  args = 1;
  body =
      look 0 0 (arg 0) 1 (
      look 1 1 (reg 0) 5 (
      look 2 2 (reg 0) 5 (
      answer (sum (reg 1) (reg 2))
      empty)));
}

-- an amount more in the balance of this table
abbrev pub deposit : ℕ → ProcedureText
deposit table = record {
  args = 2;
  body =
      look 0 0 (arg 0) 1 (
      look 1 table (reg 0) 5 (
      put table (reg 0) (sum (reg 1) (arg 1)) (
      answer (sum (reg 1) (arg 1))
      empty)));
}

-- all of the first into the checking of the second
abbrev pub amalgamate : ProcedureText
amalgamate = record {
  args = 2;
  body =
      look 0 0 (arg 0) 1 (
      look 1 0 (arg 1) 1 (
      look 2 1 (reg 0) 5 (
      look 3 2 (reg 0) 5 (
      put 1 (reg 0) (num (pos 0)) (
      put 2 (reg 0) (num (pos 0)) (
      look 4 2 (reg 1) 5 (
      put 2 (reg 1) (sum (reg 4) (sum (reg 2) (reg 3))) (
      answer (sum (reg 2) (reg 3))
      empty))))))));
}

-- an amount less in the checking, and 100 less still if both balances together are smaller than it
abbrev pub write_check : ProcedureText
write_check = record {
  args = 2;
  body =
      look 0 0 (arg 0) 1 (
      look 1 1 (reg 0) 5 (
      look 2 2 (reg 0) 5 (
      choose (less (sum (reg 1) (reg 2)) (arg 1)) (save 3 (diff (diff (reg 2) (arg 1)) (num (pos 100))) empty)
      (save 3 (diff (reg 2) (arg 1)) empty) (
      put 2 (reg 0) (reg 3) (
      answer (reg 3)
      empty)))));
}

-- what the other procedures of the examples do

-- write the argument
abbrev pub put_arg : ProcedureText
put_arg = record { args = 1; body = put 3 (num (pos 7)) (arg 0) empty }

-- read one checking and write its value to another
abbrev pub copy : ProcedureText
copy = record { args = 2; body = look 0 2 (arg 0) 5 (put 2 (arg 1) (reg 0) empty) }

-- write twice
abbrev pub put_twice : ProcedureText
put_twice = record { args = 0; body = put 3 (num (pos 7)) (num (pos 1)) (put 3 (num (pos 7)) (num (pos 2)) empty) }

-- answer the value there
abbrev pub read_and_answer : ProcedureText
read_and_answer = record { args = 0; body = look 0 3 (num (pos 7)) 6 (answer (reg 0) empty) }

-- read twice
abbrev pub look_twice : ProcedureText
look_twice = record { args = 0; body = look 0 2 (num (pos 101)) 5 (look 1 2 (num (pos 101)) 5 empty) }

-- write, and answer what is read then
abbrev pub put_and_read : ProcedureText
put_and_read = record { args = 0; body = put 3 (num (pos 7)) (num (pos 4)) (look 0 3 (num (pos 7)) 6 (answer (reg 0) empty)) }

-- the initial database, without a third customer
abbrev pub opening : Contents
opening = found_in (((0, pos 1), pos 101) ∷ ((0, pos 2), pos 102) ∷ ((1, pos 101), pos 500) ∷ ((1, pos 102), pos 0)
    ∷ ((2, pos 101), pos 1000) ∷ ((2, pos 102), pos 200) ∷ [])

-- with a third
abbrev pub opening_of_three : Contents
opening_of_three = found_in (((0, pos 1), pos 101) ∷ ((0, pos 2), pos 102) ∷ ((0, pos 3), pos 103) ∷ ((1, pos 101), pos 500)
    ∷ ((1, pos 102), pos 0) ∷ ((1, pos 103), pos 0) ∷ ((2, pos 101), pos 1000) ∷ ((2, pos 102), pos 200) ∷ ((2, pos 103), pos 300) ∷ [])

-- the five by number
abbrev pub five : List ProcedureText
five = balance ∷ deposit 2 ∷ deposit 1 ∷ amalgamate ∷ write_check ∷ []

-- the bank with these limits and no other procedures
abbrev pub small_bank : ℕ → ℕ → Configuration
small_bank most_live most_started = configuration opening five (record { live = most_live; begins = most_started; asks = AtStep })

-- the bank with others, from number 5 on
abbrev pub small_bank_with : Contents → List ProcedureText → Configuration
small_bank_with m others = configuration m (five ++ others) (record { live = 8; begins = 100; asks = AtStep })

abbrev pub entry : Event → Reply → Entry
entry event r = record { event = event; reply = r }

-- the banks of the examples
abbrev pub small_bank_put : Configuration
small_bank_put = small_bank_with opening (put_arg ∷ [])

abbrev pub small_bank_copy : Configuration
small_bank_copy = small_bank_with opening_of_three (copy ∷ [])

abbrev pub small_bank_twice : Configuration
small_bank_twice = small_bank_with opening (put_twice ∷ read_and_answer ∷ [])

abbrev pub small_bank_look_twice : Configuration
small_bank_look_twice = small_bank_with opening (look_twice ∷ [])

abbrev pub small_bank_put_and_read : Configuration
small_bank_put_and_read = small_bank_with opening (put_and_read ∷ [])

abbrev pub small_bank_read : Configuration
small_bank_read = small_bank_with opening (put_arg ∷ read_and_answer ∷ [])

abbrev pub small_bank_put_over : Configuration
small_bank_put_over = small_bank_with opening (put_arg ∷ put_and_read ∷ [])
