-- The text of a procedure, without how it is stored: two procedures are equal here if their texts are.
use Rattle.std.specs.Prelude.{ℕ, ℤ}

-- an expression: a literal, an argument, a register, a sum, a difference, a product or a quotient
pub data ExprText : Type 0 where
  num : ℤ → ExprText
  arg : ℕ → ExprText
  reg : ℕ → ExprText
  sum : ExprText → ExprText → ExprText
  diff : ExprText → ExprText → ExprText
  product : ExprText → ExprText → ExprText
  quotient : ExprText → ExprText → ExprText

-- a condition
pub data CondText : Type 0 where
  less : ExprText → ExprText → CondText
  at_most : ExprText → ExprText → CondText
  equal : ExprText → ExprText → CondText

-- statements in a row: `empty` is none; each other constructor is one statement, whose last part is the statements after it
pub data Block : Type 0 where
  empty : Block
  look : (to table : ℕ) → (id : ExprText) → (absent : ℕ) → Block → Block
  find : (to table : ℕ) → (id absent : ExprText) → Block → Block
  put : (table : ℕ) → (id value : ExprText) → Block → Block
  remove : (table : ℕ) → (id : ExprText) → Block → Block
  save : (to : ℕ) → (value : ExprText) → Block → Block
  ask : (code : ℕ) → Block → Block
  choose : CondText → (ys ns : Block) → Block → Block
  answer : ExprText → Block → Block

-- how many arguments, and the statements
pub record ProcedureText : Type 0 where
  pub args : ℕ
  pub body : Block
