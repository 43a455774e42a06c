-- The texts of the five procedures. Tables are 0 (customers by name), 1 (savings by customer) and 2 (checkings by customer).
use Rattle.std.specs.Prelude.{pos, List, [], ◌∷◌}
use Rattle.sgt_model.specs.Syntax.{Block, ProcedureText, num, arg, reg, sum, diff, less, equal, empty, look, put, save, ask, choose, answer}

-- the sum of the saving and the checking of a name's customer. An unknown name raises 1, and a missing balance 5
abbrev pub balance : ProcedureText
balance = record {
  args = 1;
  body =
      look 0 0 (arg 0) 1 (
      look 1 1 (reg 0) 5 (
      look 2 2 (reg 0) 5 (
      answer (sum (reg 1) (reg 2))
      empty)));
}

-- an amount is added to the checking of a name's customer. A negative amount raises 2, first of all
abbrev pub deposit_checking : ProcedureText
deposit_checking = record {
  args = 2;
  body =
      choose (less (arg 1) (num (pos 0))) (ask 2 empty) empty (
      look 0 0 (arg 0) 1 (
      look 1 2 (reg 0) 5 (
      save 2 (sum (reg 1) (arg 1)) (
      put 2 (reg 0) (reg 2) (
      answer (reg 2)
      empty)))));
}

-- an amount is added to the saving of a name's customer. A saving that would be negative raises 3
abbrev pub transact_saving : ProcedureText
transact_saving = record {
  args = 2;
  body =
      look 0 0 (arg 0) 1 (
      look 1 1 (reg 0) 5 (
      save 2 (sum (reg 1) (arg 1)) (
      choose (less (reg 2) (num (pos 0))) (ask 3 empty) empty (
      put 1 (reg 0) (reg 2) (
      answer (reg 2)
      empty)))));
}

-- all that the first name's customer has goes to the checking of the second name's customer. A name with itself raises 4,
-- first of all
abbrev pub amalgamate : ProcedureText
amalgamate = record {
  args = 2;
  body =
      choose (equal (arg 0) (arg 1)) (ask 4 empty) empty (
      look 0 0 (arg 0) 1 (
      look 1 0 (arg 1) 1 (
      look 2 1 (reg 0) 5 (
      look 3 2 (reg 0) 5 (
      save 4 (sum (reg 2) (reg 3)) (
      put 1 (reg 0) (num (pos 0)) (
      put 2 (reg 0) (num (pos 0)) (
      look 5 2 (reg 1) 5 (
      save 6 (sum (reg 5) (reg 4)) (
      put 2 (reg 1) (reg 6) (
      answer (reg 4)
      empty)))))))))));
}

-- register 3 becomes the checking in register 2 minus the amount, and minus 100 more if the saving in register 1 and
-- the checking together are less than the amount
abbrev pub charge : Block → Block
charge =
    choose (less (sum (reg 1) (reg 2)) (arg 1))
    (save 3 (diff (diff (reg 2) (arg 1)) (num (pos 100))) empty)
    (save 3 (diff (reg 2) (arg 1)) empty)

-- an amount is taken from the checking of a name's customer, and 100 more if saving and checking together are less than
-- it. A negative amount raises 2, first of all
abbrev pub write_check : ProcedureText
write_check = record {
  args = 2;
  body =
      choose (less (arg 1) (num (pos 0))) (ask 2 empty) empty (
      look 0 0 (arg 0) 1 (
      look 1 1 (reg 0) 5 (
      look 2 2 (reg 0) 5 (
      charge (
      put 2 (reg 0) (reg 3) (
      answer (reg 3)
      empty))))));
}

-- the five procedures, by number
abbrev pub procedures : List ProcedureText
procedures = balance ∷ deposit_checking ∷ transact_saving ∷ amalgamate ∷ write_check ∷ []
