-- Which tree of JSON spells a procedure: the table of the formats, with a row for each kind of statement, condition
-- and expression.
use Rattle.std.specs.Prelude.{◌≡◌, ⊤, ℕ, ℤ, List, [], ◌∷◌, Some, option_and_then, codes}
use Rattle.serde_json.specs.Data.{Data, array, string, Items, no_items, item}
use Rattle.sgt_model.specs.Syntax.{ExprText, num, arg, reg, sum, diff, product, quotient, CondText, less, at_most, equal, Block, empty, look, find, put, remove, save, ask, choose, answer, ProcedureText}
use Rattle.sgt_proc_json.specs.Trees.{whole, natural}

-- a property of trees
abbrev pub Shape : Type 1
Shape = Data → Type 0

-- as many items as shapes, each of its shape
abbrev pub Each : List Shape → Items → Type 0
Each [] no_items = ⊤
Each [] (item tree items) = ⊥
Each (shape ∷ shapes) no_items = ⊥
Each (shape ∷ shapes) (item tree items) = shape tree × Each shapes items

-- a list of a word and then these
abbrev pub WordAnd : List ℕ → List Shape → Shape
WordAnd word shapes (array (item (string w) items)) = (w ≡ word) × Each shapes items
WordAnd word shapes tree = ⊥

-- a whole number
abbrev pub Whole : ℤ → Shape
Whole z tree = whole tree ≡ Some z

-- a whole number from 0 to 255
abbrev pub Byte : ℕ → Shape
Byte n tree = option_and_then (natural 8) (whole tree) ≡ Some n

-- a whole number from 0 to 65,535
abbrev pub Short : ℕ → Shape
Short n tree = option_and_then (natural 16) (whole tree) ≡ Some n

-- the tree spells the expression
abbrev pub SpellsTerm : ExprText → Shape
SpellsTerm (num z) = Whole z
SpellsTerm (arg n) = WordAnd (codes "arg") (Byte n ∷ [])
SpellsTerm (reg n) = WordAnd (codes "reg") (Byte n ∷ [])
SpellsTerm (sum a b) = WordAnd (codes "sum") (SpellsTerm a ∷ SpellsTerm b ∷ [])
SpellsTerm (diff a b) = WordAnd (codes "diff") (SpellsTerm a ∷ SpellsTerm b ∷ [])
SpellsTerm (product a b) = WordAnd (codes "product") (SpellsTerm a ∷ SpellsTerm b ∷ [])
SpellsTerm (quotient a b) = WordAnd (codes "quotient") (SpellsTerm a ∷ SpellsTerm b ∷ [])

-- the tree spells the condition
abbrev pub SpellsTest : CondText → Shape
SpellsTest (less a b) = WordAnd (codes "less") (SpellsTerm a ∷ SpellsTerm b ∷ [])
SpellsTest (at_most a b) = WordAnd (codes "most") (SpellsTerm a ∷ SpellsTerm b ∷ [])
SpellsTest (equal a b) = WordAnd (codes "same") (SpellsTerm a ∷ SpellsTerm b ∷ [])

-- a list whose items have the property
abbrev pub Listed : (Items → Type 0) → Shape
Listed so (array items) = so items
Listed so tree = ⊥

-- the first item spells a statement, and the others the statements after it
abbrev pub First : Shape → (Items → Type 0) → Items → Type 0
First shape rest no_items = ⊥
First shape rest (item tree items) = shape tree × rest items

-- the items spell the statements, in order
abbrev pub SpellsBlock : Block → Items → Type 0
SpellsBlock empty no_items = ⊤
SpellsBlock empty (item tree items) = ⊥
SpellsBlock (look to table id absent b) items = First (WordAnd (codes "look") (Byte to ∷ Byte table ∷ SpellsTerm id ∷ Short absent ∷ [])) (SpellsBlock b) items
SpellsBlock (find to table id absent b) items = First (WordAnd (codes "find") (Byte to ∷ Byte table ∷ SpellsTerm id ∷ SpellsTerm absent ∷ [])) (SpellsBlock b) items
SpellsBlock (put table id value b) items = First (WordAnd (codes "put") (Byte table ∷ SpellsTerm id ∷ SpellsTerm value ∷ [])) (SpellsBlock b) items
SpellsBlock (remove table id b) items = First (WordAnd (codes "remove") (Byte table ∷ SpellsTerm id ∷ [])) (SpellsBlock b) items
SpellsBlock (save to value b) items = First (WordAnd (codes "let") (Byte to ∷ SpellsTerm value ∷ [])) (SpellsBlock b) items
SpellsBlock (ask code b) items = First (WordAnd (codes "ask") (Short code ∷ [])) (SpellsBlock b) items
SpellsBlock (choose test ys ns b) items = First (WordAnd (codes "if") (SpellsTest test ∷ Listed (SpellsBlock ys) ∷ Listed (SpellsBlock ns) ∷ [])) (SpellsBlock b) items
SpellsBlock (answer value b) items = First (WordAnd (codes "answer") (SpellsTerm value ∷ [])) (SpellsBlock b) items

-- the tree spells the procedure: a list of the number of its arguments and the list of its statements
abbrev pub Spells : ProcedureText → Shape
Spells p = Listed (Each (Byte p.args ∷ Listed (SpellsBlock p.body) ∷ []))

-- the tree spells no procedure
abbrev pub SpellsNone : Shape
SpellsNone tree = (p : ProcedureText) → Spells p tree → ⊥
