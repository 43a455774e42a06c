-- What a tree spells, or the position of its first shape error in reading order: from the top, a list before its
-- items, and items from left to right.
use Rattle.std.specs.Prelude.{ℕ, ◌+◌, take, Bool, false, cond, List, [], ◌∷◌, Option, Some, None, option_and_then, Result, Ok, Err, codes}
use Rattle.std.specs.Str.{bytes_eq}
use Rattle.serde_json.specs.Data.{Data, array, Items, no_items, item}
use Rattle.serde_json.specs.Find.{as_str}
use Rattle.sgt_model.specs.Syntax.{ExprText, num, arg, reg, sum, diff, product, quotient, CondText, less, at_most, equal, Block, empty, look, find, put, remove, save, ask, choose, answer, ProcedureText}
use Rattle.sgt_proc_json.specs.Trees.{whole, natural}

-- a value that is spelled, or the position of a shape error: indexes from the top, counted from 0
abbrev pub Reading : Type 0 → Type 0
Reading A = Result A (List ℕ)

-- a shape error of the tree itself
abbrev pub here : {A : Type 0} → Reading A
here = Err []

-- the reading of the item at an index; at most the first 128 indexes of a position are stored
abbrev pub at : {A : Type 0} → ℕ → Reading A → Reading A
at n (Ok a) = Ok a
at n (Err place) = Err (take 128 (n ∷ place))

-- a value made from one reading
abbrev pub one : {A B : Type 0} → (A → B) → Reading A → Reading B
one make (Ok a) = Ok (make a)
one make (Err place) = Err place

-- from two, with the first shape error of them
abbrev pub two : {A B C : Type 0} → (A → B → C) → Reading A → Reading B → Reading C
two make (Ok a) b = one (make a) b
two make (Err place) b = Err place

-- from three
abbrev pub three : {A B C D : Type 0} → (A → B → C → D) → Reading A → Reading B → Reading C → Reading D
three make (Ok a) b c = two (make a) b c
three make (Err place) b c = Err place

-- from four
abbrev pub four : {A B C D E : Type 0} → (A → B → C → D → E) → Reading A → Reading B → Reading C → Reading D → Reading E
four make (Ok a) b c d = three (make a) b c d
four make (Err place) b c d = Err place

-- the value, or a shape error if there is none
abbrev pub or_here : {A : Type 0} → Option A → Reading A
or_here None = here
or_here (Some a) = Ok a

-- a number from 0 to 255
abbrev pub byte : Data → Reading ℕ
byte tree = or_here (option_and_then (natural 8) (whole tree))

-- a number from 0 to 65,535
abbrev pub short : Data → Reading ℕ
short tree = or_here (option_and_then (natural 16) (whole tree))

-- a text that is this word
abbrev pub is_word : Option (List ℕ) → List ℕ → Bool
is_word None word = false
is_word (Some text) word = bytes_eq text word

-- the argument or register that a word and the number after it spell
abbrev pub arg_or_reg : Option (List ℕ) → Reading ℕ → Reading ExprText
arg_or_reg word n =
    cond (is_word word (codes "arg")) (one arg n)
    (cond (is_word word (codes "reg")) (one reg n) here)

-- the arithmetic that a word and the two expressions after it spell
abbrev pub arithmetic : Option (List ℕ) → Reading ExprText → Reading ExprText → Reading ExprText
arithmetic word a b =
    cond (is_word word (codes "sum")) (two sum a b)
    (cond (is_word word (codes "diff")) (two diff a b)
    (cond (is_word word (codes "product")) (two product a b)
    (cond (is_word word (codes "quotient")) (two quotient a b) here)))

-- the expression that a tree spells
abbrev pub expression : Data → Reading ExprText
expression (array (item w (item n no_items))) = arg_or_reg (as_str w) (at 1 (byte n))
expression (array (item w (item a (item b no_items)))) = arithmetic (as_str w) (at 1 (expression a)) (at 2 (expression b))
expression tree = one num (or_here (whole tree))

-- the comparison that a word and the two expressions after it spell
abbrev pub comparison : Option (List ℕ) → Reading ExprText → Reading ExprText → Reading CondText
comparison word a b =
    cond (is_word word (codes "less")) (two less a b)
    (cond (is_word word (codes "most")) (two at_most a b)
    (cond (is_word word (codes "same")) (two equal a b) here))

-- the condition that a tree spells
abbrev pub condition : Data → Reading CondText
condition (array (item w (item a (item b no_items)))) = comparison (as_str w) (at 1 (expression a)) (at 2 (expression b))
condition tree = here

-- the statement that a word and one item spell, which is prepended to others
abbrev pub one_item : Option (List ℕ) → Data → Reading (Block → Block)
one_item word a =
    cond (is_word word (codes "ask")) (one (λ code rest. ask code rest) (at 1 (short a)))
    (cond (is_word word (codes "answer")) (one (λ value rest. answer value rest) (at 1 (expression a))) here)

-- the same for two items
abbrev pub two_items : Option (List ℕ) → Data → Data → Reading (Block → Block)
two_items word a b =
    cond (is_word word (codes "let")) (two (λ to value rest. save to value rest) (at 1 (byte a)) (at 2 (expression b)))
    (cond (is_word word (codes "remove")) (two (λ table id rest. remove table id rest) (at 1 (byte a)) (at 2 (expression b))) here)

-- the same for three
abbrev pub three_items : Option (List ℕ) → Data → Data → Data → Reading (Block → Block)
three_items word a b c =
    cond (is_word word (codes "put")) (three (λ table id value rest. put table id value rest) (at 1 (byte a)) (at 2 (expression b)) (at 3 (expression c))) here

-- the same for four
abbrev pub four_items : Option (List ℕ) → Data → Data → Data → Data → Reading (Block → Block)
four_items word a b c d =
    cond (is_word word (codes "look")) (four (λ to table id absent rest. look to table id absent rest) (at 1 (byte a)) (at 2 (byte b)) (at 3 (expression c)) (at 4 (short d)))
    (cond (is_word word (codes "find")) (four (λ to table id absent rest. find to table id absent rest) (at 1 (byte a)) (at 2 (byte b)) (at 3 (expression c)) (at 4 (expression d))) here)

abbrev mutual
  -- the statement that a tree spells, which is prepended to others
  pub statement : Data → Reading (Block → Block)
  statement (array (item w (item a no_items))) = one_item (as_str w) a
  statement (array (item w (item a (item b no_items)))) = two_items (as_str w) a b
  statement (array (item w (item a (item b (item c no_items))))) =
      cond (is_word (as_str w) (codes "if")) (three (λ test ys ns rest. choose test ys ns rest) (at 1 (condition a)) (at 2 (block b)) (at 3 (block c)))
      (three_items (as_str w) a b c)
  statement (array (item w (item a (item b (item c (item d no_items)))))) = four_items (as_str w) a b c d
  statement tree = here

  -- the list of statements that a tree spells
  pub block : Data → Reading Block
  block (array items) = statements 0 items
  block tree = here

  -- the statements that items spell, the first item at this index
  pub statements : ℕ → Items → Reading Block
  statements n no_items = Ok empty
  statements n (item tree items) = two (λ first rest. first rest) (at n (statement tree)) (statements (n + 1) items)

-- the procedure that a tree spells
abbrev pub reading : Data → Reading ProcedureText
reading (array (item a (item b no_items))) = two (λ args body. record { args = args; body = body }) (at 0 (byte a)) (at 1 (block b))
reading tree = here
