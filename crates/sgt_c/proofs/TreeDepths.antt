-- The tree of a procedure without a flaw is not too deep to be read again.
use Rattle.std.proofs.Common.{◌≡◌, refl, ◌≤◌, ◌+◌, ◌*◌, ℕ, ℤ, max, List, [], ◌∷◌, Some, arith}
use Rattle.std.specs.Prelude.{⊤, Ok, option_and_then, codes, IsUtf8}
use Rattle.serde_json.specs.Data.{Data, number, string, array, Items, no_items, item, depth, items_depth}
use Rattle.serde_json.specs.Read.{read, max_depth}
use Rattle.sgt_model.specs.Syntax.{ExprText, num, arg, reg, sum, diff, product, quotient, CondText, less, at_most, equal, Block, empty, look, find, put, remove, save, ask, choose, answer, ProcedureText}
use Rattle.sgt_proc.specs.Flaws.{expr_depth, cond_depth, exprs_depth, depth as block_depth, IsFlawless}
use Rattle.sgt_proc.specs.declared.flaw.Flaw.TheVariants.{TooDeep}
use Rattle.sgt_proc_json.specs.Readings.{reading}
use Rattle.sgt_proc_json.specs.Spelling.{Shape, Each, WordAnd, Byte, Short, SpellsTerm, SpellsTest, Listed, First, SpellsBlock, Spells}
use Rattle.sgt_proc_json.specs.Trees.{whole, natural}
use Rattle.sgt_format.specs.ProcedureLines.{SpellsProcedure}
use Rattle.sgt_format.proofs.Views.{tree_of_read}

-- ---- numbers and rows

whole_flat : (tree : Data) (z : ℤ) → whole tree ≡ Some z → depth tree ≡ 0
whole_flat (number n) z e = refl
whole_flat _ z e = absurd cc

natural_flat : (bits n : ℕ) (tree : Data) → option_and_then (natural bits) (whole tree) ≡ Some n → depth tree ≡ 0
natural_flat bits n (number x) e = refl
natural_flat bits n _ e = absurd cc

-- trees of each of these shapes have at most this depth
abbrev Bounded : ℕ → List Shape → Type 0
Bounded n [] = ⊤
Bounded n (shape ∷ shapes) = ((tree : Data) → shape tree → depth tree ≤ n) × Bounded n shapes

each_depth : (n : ℕ) (shapes : List Shape) → Bounded n shapes → (items : Items) → Each shapes items → items_depth items ≤ n
each_depth n [] b no_items e = omega arith
each_depth n [] b (item tree items) e = absurd e
each_depth n (shape ∷ shapes) b no_items e = absurd e
each_depth n (shape ∷ shapes) b (item tree items) e = omega (arith, b.0 tree e.0, each_depth n shapes b.1 items e.1)

row_depth : (word : List ℕ) (shapes : List Shape) (n : ℕ) → Bounded n shapes → (tree : Data) → WordAnd word shapes tree → depth tree ≤ n + 1
row_depth word shapes n b (array (item (string w) items)) e = omega (arith, each_depth n shapes b items e.1)
row_depth word shapes n b _ e = absurd e

byte_depth : (n m : ℕ) (tree : Data) → Byte n tree → depth tree ≤ m
byte_depth n m tree e = omega (arith, natural_flat 8 n tree e)

short_depth : (n m : ℕ) (tree : Data) → Short n tree → depth tree ≤ m
short_depth n m tree e = omega (arith, natural_flat 16 n tree e)

two_depth : (word : List ℕ) (a b : Shape) (m n : ℕ) → ((tree : Data) → a tree → depth tree ≤ m) → ((tree : Data) → b tree → depth tree ≤ n)
    → (tree : Data) → WordAnd word (a ∷ b ∷ []) tree → depth tree ≤ max m n + 1
two_depth word a b m n first second =
    row_depth word (a ∷ b ∷ []) (max m n) ((λ tree e. omega (arith, first tree e)), ((λ tree e. omega (arith, second tree e)), tt))

-- ---- expressions and conditions

term_depth : (t : ExprText) (tree : Data) → SpellsTerm t tree → depth tree ≤ expr_depth t
term_depth (num z) tree e = omega (arith, whole_flat tree z e)
term_depth (arg n) tree e = omega (arith, row_depth (codes "arg") (Byte n ∷ []) 0 (byte_depth n 0, tt) tree e)
term_depth (reg n) tree e = omega (arith, row_depth (codes "reg") (Byte n ∷ []) 0 (byte_depth n 0, tt) tree e)
term_depth (sum a b) tree e =
    omega (arith, two_depth (codes "sum") (SpellsTerm a) (SpellsTerm b) _ _ (term_depth a) (term_depth b) tree e)
term_depth (diff a b) tree e =
    omega (arith, two_depth (codes "diff") (SpellsTerm a) (SpellsTerm b) _ _ (term_depth a) (term_depth b) tree e)
term_depth (product a b) tree e =
    omega (arith, two_depth (codes "product") (SpellsTerm a) (SpellsTerm b) _ _ (term_depth a) (term_depth b) tree e)
term_depth (quotient a b) tree e =
    omega (arith, two_depth (codes "quotient") (SpellsTerm a) (SpellsTerm b) _ _ (term_depth a) (term_depth b) tree e)

test_depth : (t : CondText) (tree : Data) → SpellsTest t tree → depth tree ≤ cond_depth t + 1
test_depth (less a b) tree e = two_depth (codes "less") (SpellsTerm a) (SpellsTerm b) _ _ (term_depth a) (term_depth b) tree e
test_depth (at_most a b) tree e = two_depth (codes "most") (SpellsTerm a) (SpellsTerm b) _ _ (term_depth a) (term_depth b) tree e
test_depth (equal a b) tree e = two_depth (codes "same") (SpellsTerm a) (SpellsTerm b) _ _ (term_depth a) (term_depth b) tree e

term_within : (t : ExprText) (n : ℕ) → expr_depth t ≤ n → (tree : Data) → SpellsTerm t tree → depth tree ≤ n
term_within t n small tree e = omega (arith, small, term_depth t tree e)

-- ---- statements

-- the greatest depth of the trees that spell statements
abbrev most_deep : Block → ℕ
most_deep b = 2 * block_depth b + exprs_depth b

first_depth : (n : ℕ) (shape : Shape) (rest : Items → Type 0) → ((tree : Data) → shape tree → depth tree ≤ n)
    → ((items : Items) → rest items → items_depth items ≤ n) → (items : Items) → First shape rest items → items_depth items ≤ n
first_depth n shape rest here following no_items e = absurd e
first_depth n shape rest here following (item tree items) e = omega (arith, here tree e.0, following items e.1)

listed_depth : (n : ℕ) (so : Items → Type 0) → ((items : Items) → so items → items_depth items ≤ n) → (tree : Data) → Listed so tree
    → depth tree ≤ n + 1
listed_depth n so each (array items) e = omega (arith, each items e)
listed_depth n so each _ e = absurd e

block_items : (b : Block) (items : Items) → SpellsBlock b items → items_depth items ≤ most_deep b
block_items empty no_items e = omega arith
block_items empty (item tree items) e = absurd e
block_items (look to table id absent b) items e =
    first_depth _ _ (SpellsBlock b)
    (λ tree e. omega (
      arith,
      row_depth (codes "look") (Byte to ∷ Byte table ∷ SpellsTerm id ∷ Short absent ∷ []) (expr_depth id)
          (byte_depth to _, (byte_depth table _, (term_within id _ (omega arith), (short_depth absent _, tt)))) tree e,
    ))
    (λ items e. omega (arith, block_items b items e)) items e
block_items (find to table id absent b) items e =
    first_depth _ _ (SpellsBlock b)
    (λ tree e. omega (
      arith,
      row_depth (codes "find") (Byte to ∷ Byte table ∷ SpellsTerm id ∷ SpellsTerm absent ∷ [])
          (max (expr_depth id) (expr_depth absent))
          (byte_depth to _, (byte_depth table _, (term_within id _ (omega arith), (term_within absent _ (omega arith), tt)))) tree e,
    ))
    (λ items e. omega (arith, block_items b items e)) items e
block_items (put table id value b) items e =
    first_depth _ _ (SpellsBlock b)
    (λ tree e. omega (
      arith,
      row_depth (codes "put") (Byte table ∷ SpellsTerm id ∷ SpellsTerm value ∷ [])
          (max (expr_depth id) (expr_depth value))
          (byte_depth table _, (term_within id _ (omega arith), (term_within value _ (omega arith), tt))) tree e,
    ))
    (λ items e. omega (arith, block_items b items e)) items e
block_items (remove table id b) items e =
    first_depth _ _ (SpellsBlock b)
    (λ tree e. omega (
      arith,
      row_depth (codes "remove") (Byte table ∷ SpellsTerm id ∷ []) (expr_depth id)
          (byte_depth table _, (term_within id _ (omega arith), tt)) tree e,
    ))
    (λ items e. omega (arith, block_items b items e)) items e
block_items (save to value b) items e =
    first_depth _ _ (SpellsBlock b)
    (λ tree e. omega (
      arith,
      row_depth (codes "let") (Byte to ∷ SpellsTerm value ∷ []) (expr_depth value)
          (byte_depth to _, (term_within value _ (omega arith), tt)) tree e,
    ))
    (λ items e. omega (arith, block_items b items e)) items e
block_items (ask code b) items e =
    first_depth _ _ (SpellsBlock b)
    (λ tree e. omega (
      arith,
      row_depth (codes "ask") (Short code ∷ []) (0)
          (short_depth code _, tt) tree e,
    ))
    (λ items e. omega (arith, block_items b items e)) items e
block_items (choose test ys ns b) items e =
    first_depth _ _ (SpellsBlock b)
    (λ tree e. omega (
      arith,
      row_depth (codes "if") (SpellsTest test ∷ Listed (SpellsBlock ys) ∷ Listed (SpellsBlock ns) ∷ [])
          (1 + max (cond_depth test) (max (most_deep ys) (most_deep ns))) (
            (λ tree e. omega (arith, test_depth test tree e)),
            (
              (λ tree e. omega (arith, listed_depth (most_deep ys) (SpellsBlock ys) (block_items ys) tree e)),
              ((λ tree e. omega (arith, listed_depth (most_deep ns) (SpellsBlock ns) (block_items ns) tree e)), tt),
            ),
          ) tree e,
    ))
    (λ items e. omega (arith, block_items b items e)) items e
block_items (answer value b) items e =
    first_depth _ _ (SpellsBlock b)
    (λ tree e. omega (
      arith,
      row_depth (codes "answer") (SpellsTerm value ∷ []) (expr_depth value)
          (term_within value _ (omega arith), tt) tree e,
    ))
    (λ items e. omega (arith, block_items b items e)) items e

-- ---- procedures

spelled_depth : (p : ProcedureText) (tree : Data) → Spells p tree → depth tree ≤ most_deep p.body + 2
spelled_depth p tree e =
    omega (
      arith,
      listed_depth (most_deep p.body + 1) (Each (Byte p.args ∷ Listed (SpellsBlock p.body) ∷ []))
          (each_depth (most_deep p.body + 1) (Byte p.args ∷ Listed (SpellsBlock p.body) ∷ [])
          (byte_depth p.args _, (listed_depth (most_deep p.body) (SpellsBlock p.body) (block_items p.body), tt))) tree e,
    )

-- a line whose tree spells the procedure, if it is not too deep, spells the procedure
pub spelled_line : (line : List ℕ) (p : ProcedureText) (tree : Data) → Spells p tree → reading tree ≡ Ok p → IsFlawless p → IsUtf8 line
    → (depth tree ≤ max_depth → read line ≡ Some tree) → SpellsProcedure line p
spelled_line line p tree spells reads flawless text found =
    (tree, tree_of_read line tree text (found (omega (arith, spelled_depth p tree spells, shallow))), (reads, flawless))
  where
    shallow : max (block_depth p.body) (exprs_depth p.body) ≤ 16
    shallow = omega (arith, flawless TooDeep)
