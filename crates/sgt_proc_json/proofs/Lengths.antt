-- Lists of a row's length and of another, and errors.
use Rattle.std.proofs.Common.{◌≡◌, ◌≢◌, refl, ◌∙◌, ◌<◌, ◌≤◌, ◌⊎◌, ℕ, List, [], ◌∷◌, length, get_or, arith}
use Rattle.serde_json.specs.Data.{array}
use Rattle.serde_json.specs.Find.{as_str}
use Rattle.serde_json.specs.View.{view, items_view}
use Rattle.serde_json.specs.declared.value.Value.{Value}
use Rattle.sgt_model.specs.Syntax.{Block, ProcedureText}
use Rattle.sgt_proc_json.specs.Readings.{Reading, here, at, two, byte, arg_or_reg, arithmetic, expression, block, comparison, condition, one_item, two_items, three_items, four_items, reading}
use Rattle.sgt_proc_json.specs.Refusals.{Says}
use Rattle.sgt_proc_json.specs.Rows.{other_row}
use Rattle.sgt_proc_json.specs.declared.errors.ReadError.{ReadError}
use Rattle.sgt_proc_json.specs.declared.errors.ReadError.TheVariants.{Shape}

-- a shape error of the tree itself has the empty position
pub reported_here : {A : Type 0} (r : Reading A) (e : ReadError) → e ≡ Shape [] → r ≡ here → Says r e
reported_here r e is none place e' = none ∙ (cc)

-- no expression is a list of another length
pub no_expression : (items : List Value) → length items ≢ 2 → length items ≢ 3 → expression (array (items_view items)) ≡ here
no_expression (a ∷ b ∷ []) not2 not3 = absurd (not2 refl)
no_expression (a ∷ b ∷ c ∷ []) not2 not3 = absurd (not3 refl)
no_expression _ not2 not3 = refl

-- nor is a condition
pub no_condition : (items : List Value) → length items ≢ 3 → condition (array (items_view items)) ≡ here
no_condition (a ∷ b ∷ c ∷ []) not3 = absurd (not3 refl)
no_condition _ not3 = refl

-- nor a statement without blocks
pub no_other_row : (items : List Value) → length items < 2 ⊎ 6 ≤ length items → other_row (items_view items) ≡ here
no_other_row [] other = refl
no_other_row (a ∷ []) other = refl
no_other_row (a ∷ b ∷ c ∷ d ∷ e ∷ f ∷ rest) other = refl
no_other_row _ other = absurd (omega arith)

-- the procedure of a count of arguments and statements
abbrev pub made_of : ℕ → Block → ProcedureText
made_of args body = record { args = args; body = body }

-- nor is a procedure
pub no_procedure : (items : List Value) → length items ≢ 2 → reading (array (items_view items)) ≡ here
no_procedure (a ∷ b ∷ []) other = absurd (other refl)
no_procedure _ other = refl

-- lists of as many items as a row has

-- an argument or a register
pub two_are : (items : List Value) (w n : Value) → 2 ≤ length items → length items < 3 → w ≡ get_or items 0 w → n ≡ get_or items 1 n
    → expression (array (items_view items)) ≡ arg_or_reg (as_str (view w)) (at 1 (byte (view n)))
two_are (x ∷ y ∷ []) w n most least is-w is-n = rw (is-w, is-n) refl
two_are _ w n most least is-w is-n = absurd (omega arith)

-- arithmetic
pub operands_are : (items : List Value) (w a b : Value) → 3 ≤ length items → length items < 4 → w ≡ get_or items 0 w → a ≡ get_or items 1 a
    → b ≡ get_or items 2 b
    → expression (array (items_view items)) ≡ arithmetic (as_str (view w)) (at 1 (expression (view a))) (at 2 (expression (view b)))
operands_are (x ∷ y ∷ z ∷ []) w a b most least is-w is-a is-b = rw (is-w, is-a, is-b) refl
operands_are _ w a b most least is-w is-a is-b = absurd (omega arith)

-- a procedure
pub procedure_are : (items : List Value) (a b : Value) → 2 ≤ length items → length items < 3 → a ≡ get_or items 0 a → b ≡ get_or items 1 b
    → reading (array (items_view items)) ≡ two made_of (at 0 (byte (view a))) (at 1 (block (view b)))
procedure_are (x ∷ y ∷ []) a b most least is-a is-b = rw (is-a, is-b) refl
procedure_are _ a b most least is-a is-b = absurd (omega arith)

-- a condition
pub three_are : (items : List Value) (w a b : Value) → 3 ≤ length items → length items < 4 → w ≡ get_or items 0 w → a ≡ get_or items 1 a
    → b ≡ get_or items 2 b
    → condition (array (items_view items)) ≡ comparison (as_str (view w)) (at 1 (expression (view a))) (at 2 (expression (view b)))
three_are (x ∷ y ∷ z ∷ []) w a b most least is-w is-a is-b = rw (is-w, is-a, is-b) refl
three_are _ w a b most least is-w is-a is-b = absurd (omega arith)

-- a statement of a word and one item
pub one_after : (items : List Value) (w a : Value) → 2 ≤ length items → length items < 3 → w ≡ get_or items 0 w → a ≡ get_or items 1 a
    → other_row (items_view items) ≡ one_item (as_str (view w)) (view a)
one_after (x ∷ y ∷ []) w a most least is-w is-a = rw (is-w, is-a) refl
one_after _ w a most least is-w is-a = absurd (omega arith)

-- of two
pub two_after : (items : List Value) (w a b : Value) → 3 ≤ length items → length items < 4 → w ≡ get_or items 0 w → a ≡ get_or items 1 a
    → b ≡ get_or items 2 b → other_row (items_view items) ≡ two_items (as_str (view w)) (view a) (view b)
two_after (x ∷ y ∷ z ∷ []) w a b most least is-w is-a is-b = rw (is-w, is-a, is-b) refl
two_after _ w a b most least is-w is-a is-b = absurd (omega arith)

-- of three
pub three_after : (items : List Value) (w a b c : Value) → 4 ≤ length items → length items < 5 → w ≡ get_or items 0 w
    → a ≡ get_or items 1 a → b ≡ get_or items 2 b → c ≡ get_or items 3 c
    → other_row (items_view items) ≡ three_items (as_str (view w)) (view a) (view b) (view c)
three_after (x ∷ y ∷ z ∷ v ∷ []) w a b c most least is-w is-a is-b is-c = rw (is-w, is-a, is-b, is-c) refl
three_after _ w a b c most least is-w is-a is-b is-c = absurd (omega arith)

-- of four
pub four_after : (items : List Value) (w a b c d : Value) → 5 ≤ length items → length items < 6 → w ≡ get_or items 0 w
    → a ≡ get_or items 1 a → b ≡ get_or items 2 b → c ≡ get_or items 3 c → d ≡ get_or items 4 d
    → other_row (items_view items) ≡ four_items (as_str (view w)) (view a) (view b) (view c) (view d)
four_after (x ∷ y ∷ z ∷ v ∷ u ∷ []) w a b c d most least is-w is-a is-b is-c is-d = rw (is-w, is-a, is-b, is-c, is-d) refl
four_after _ w a b c d most least is-w is-a is-b is-c is-d = absurd (omega arith)
