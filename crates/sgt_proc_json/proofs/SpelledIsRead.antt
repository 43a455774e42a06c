-- A tree that spells a procedure reads as it.
use Rattle.std.proofs.Common.{◌≡◌, refl, ap, ◌∙◌, ℕ, ◌+◌, List, [], ◌∷◌, Ok}
use Rattle.std.specs.Prelude.{codes}
use Rattle.serde_json.specs.Data.{Data, number, array, string, Items, no_items, item}
use Rattle.sgt_model.specs.Syntax.{ExprText, num, arg, reg, sum, diff, product, quotient, CondText, less, at_most, equal, Block, empty, look, find, put, remove, save, ask, choose, answer, ProcedureText}
use Rattle.sgt_proc_json.specs.Spelling.{Shape, Each, WordAnd, Byte, Short, SpellsTerm, SpellsTest, Listed, SpellsBlock, Spells}
use Rattle.sgt_proc_json.specs.Readings.{at, one, or_here, byte, short, expression, condition, statement, block, statements, reading}

read_byte : (n i : ℕ) (d : Data) → Byte n d → at i (byte d) ≡ Ok n
read_byte n i d is = ap (λ o. at i (or_here o)) is

read_short : (n i : ℕ) (d : Data) → Short n d → at i (short d) ≡ Ok n
read_short n i d is = ap (λ o. at i (or_here o)) is

-- a row is a list that starts with its word
row_is : (word : List ℕ) (shapes : List Shape) (d : Data) → WordAnd word shapes d
    → (items : Items) × (d ≡ array (item (string word) items)) × Each shapes items
row_is word shapes (array (item (string w) items)) is = (items, ap (λ v. array (item (string v) items)) is.0, is.1)
row_is word shapes _ is = absurd is

-- as many items as shapes
each_is : (shape : Shape) (shapes : List Shape) (items : Items) → Each (shape ∷ shapes) items
    → (d : Data) × (rest : Items) × (items ≡ item d rest) × shape d × Each shapes rest
each_is shape shapes no_items is = absurd is
each_is shape shapes (item d rest) is = (d, rest, refl, is.0, is.1)

none_is : (items : Items) → Each [] items → items ≡ no_items
none_is no_items is = refl
none_is (item d rest) is = absurd is

-- a list is its items
listed_is : (so : Items → Type 0) (d : Data) → Listed so d → (items : Items) × (d ≡ array items) × so items
listed_is so (array items) is = (items, refl, is)
listed_is so _ is = absurd is

-- a row of one item
one_is : (word : List ℕ) (s : Shape) (d : Data) → WordAnd word (s ∷ []) d
    → (a : Data) × (d ≡ array (item (string word) (item a no_items))) × s a
one_is word s d is =
    let r = row_is word (s ∷ []) d is in
    let x = each_is s [] r.0 r.2 in
    (x.0, r.1 ∙ ap (λ l. array (item (string word) l)) (x.2 ∙ ap (item x.0) (none_is x.1 x.4)), x.3)

-- of two
two_are : (word : List ℕ) (s t : Shape) (d : Data) → WordAnd word (s ∷ t ∷ []) d
    → (a b : Data) × (d ≡ array (item (string word) (item a (item b no_items)))) × s a × t b
two_are word s t d is =
    let r = row_is word (s ∷ t ∷ []) d is in
    let x = each_is s (t ∷ []) r.0 r.2 in
    let y = each_is t [] x.1 x.4 in
    (x.0, y.0, r.1 ∙ ap (λ l. array (item (string word) l)) (x.2 ∙ ap (item x.0) (y.2 ∙ ap (item y.0) (none_is y.1 y.4))), x.3, y.3)

-- of three
three_are : (word : List ℕ) (s t u : Shape) (d : Data) → WordAnd word (s ∷ t ∷ u ∷ []) d
    → (a b c : Data) × (d ≡ array (item (string word) (item a (item b (item c no_items))))) × s a × t b × u c
three_are word s t u d is =
    let r = row_is word (s ∷ t ∷ u ∷ []) d is in
    let x = each_is s (t ∷ u ∷ []) r.0 r.2 in
    let y = each_is t (u ∷ []) x.1 x.4 in
    let z = each_is u [] y.1 y.4 in (
      x.0,
      y.0,
      z.0,
      r.1 ∙ ap (λ l. array (item (string word) l))
          (x.2 ∙ ap (item x.0) (y.2 ∙ ap (item y.0) (z.2 ∙ ap (item z.0) (none_is z.1 z.4)))),
      x.3,
      y.3,
      z.3,
    )

-- of four
four_are : (word : List ℕ) (s t u v : Shape) (d : Data) → WordAnd word (s ∷ t ∷ u ∷ v ∷ []) d
    → (a b c e : Data) × (d ≡ array (item (string word) (item a (item b (item c (item e no_items)))))) × s a × t b × u c × v e
four_are word s t u v d is =
    let r = row_is word (s ∷ t ∷ u ∷ v ∷ []) d is in
    let x = each_is s (t ∷ u ∷ v ∷ []) r.0 r.2 in
    let y = each_is t (u ∷ v ∷ []) x.1 x.4 in
    let z = each_is u (v ∷ []) y.1 y.4 in
    let k = each_is v [] z.1 z.4 in (
      x.0,
      y.0,
      z.0,
      k.0,
      r.1 ∙ ap (λ l. array (item (string word) l))
          (x.2 ∙ ap (item x.0) (y.2 ∙ ap (item y.0) (z.2 ∙ ap (item z.0) (k.2 ∙ ap (item k.0) (none_is k.1 k.4))))),
      x.3,
      y.3,
      z.3,
      k.3,
    )

-- of two expressions
two_read : (word : List ℕ) (a b : ExprText) (d : Data) → ((x : Data) → SpellsTerm a x → expression x ≡ Ok a)
    → ((x : Data) → SpellsTerm b x → expression x ≡ Ok b) → WordAnd word (SpellsTerm a ∷ SpellsTerm b ∷ []) d
    → (x y : Data) × (d ≡ array (item (string word) (item x (item y no_items)))) × (expression x ≡ Ok a) × (expression y ≡ Ok b)
two_read word a b d read_a read_b is =
    let r = two_are word (SpellsTerm a) (SpellsTerm b) d is in (r.0, r.1, r.2, read_a r.0 r.3, read_b r.1 r.4)

-- an expression
read_term : (e : ExprText) (d : Data) → SpellsTerm e d → expression d ≡ Ok e
read_term (num z) (number n) is = ap (λ o. one num (or_here o)) is
read_term (arg n) d is =
    let r = one_is (codes "arg") (Byte n) d is in
    rw r.1 (ap (one arg) (read_byte n 1 r.0 r.2))
read_term (reg n) d is =
    let r = one_is (codes "reg") (Byte n) d is in
    rw r.1 (ap (one reg) (read_byte n 1 r.0 r.2))
read_term (sum a b) d is =
    let r = two_read (codes "sum") a b d (read_term a) (read_term b) is in rw r.2 (rw (r.3, r.4) refl)
read_term (diff a b) d is =
    let r = two_read (codes "diff") a b d (read_term a) (read_term b) is in rw r.2 (rw (r.3, r.4) refl)
read_term (product a b) d is =
    let r = two_read (codes "product") a b d (read_term a) (read_term b) is in rw r.2 (rw (r.3, r.4) refl)
read_term (quotient a b) d is =
    let r = two_read (codes "quotient") a b d (read_term a) (read_term b) is in rw r.2 (rw (r.3, r.4) refl)
read_term (num z) _ is = absurd (cc)

-- a condition
read_test : (t : CondText) (d : Data) → SpellsTest t d → condition d ≡ Ok t
read_test (less a b) d is =
    let r = two_read (codes "less") a b d (read_term a) (read_term b) is in rw r.2 (rw (r.3, r.4) refl)
read_test (at_most a b) d is =
    let r = two_read (codes "most") a b d (read_term a) (read_term b) is in rw r.2 (rw (r.3, r.4) refl)
read_test (equal a b) d is =
    let r = two_read (codes "same") a b d (read_term a) (read_term b) is in rw r.2 (rw (r.3, r.4) refl)

-- a list of statements
read_list : (b : Block) (d : Data) → ((items : Items) → SpellsBlock b items → statements 0 items ≡ Ok b) → Listed (SpellsBlock b) d
    → block d ≡ Ok b
read_list b d read is = let l = listed_is (SpellsBlock b) d is in rw l.1 (read l.0 l.2)

-- a statement, and those after it
read_first : (n : ℕ) (d : Data) (rest : Items) (f : Block → Block) (b : Block) → statement d ≡ Ok f → statements (n + 1) rest ≡ Ok b
    → statements n (item d rest) ≡ Ok (f b)
read_first n d rest f b is others = rw (is, others) refl

-- statements
read_block : (b : Block) (n : ℕ) (items : Items) → SpellsBlock b items → statements n items ≡ Ok b
read_block empty n no_items is = refl
read_block (look to table id absent b) n (item d rest) is =
    let r = four_are (codes "look") (Byte to) (Byte table) (SpellsTerm id) (Short absent) d is.0 in
    read_first n d rest (λ b. look to table id absent b) b
    (rw r.4 (rw (read_byte to 1 r.0 r.5, read_byte table 2 r.1 r.6, read_term id r.2 r.7, read_short absent 4 r.3 r.8) refl))
    (read_block b (n + 1) rest is.1)
read_block (find to table id absent b) n (item d rest) is =
    let r = four_are (codes "find") (Byte to) (Byte table) (SpellsTerm id) (SpellsTerm absent) d is.0 in
    read_first n d rest (λ b. find to table id absent b) b
    (rw r.4 (rw (read_byte to 1 r.0 r.5, read_byte table 2 r.1 r.6, read_term id r.2 r.7, read_term absent r.3 r.8) refl))
    (read_block b (n + 1) rest is.1)
read_block (put table id value b) n (item d rest) is =
    let r = three_are (codes "put") (Byte table) (SpellsTerm id) (SpellsTerm value) d is.0 in
    read_first n d rest (λ b. put table id value b) b (rw r.3
    (rw (read_byte table 1 r.0 r.4, read_term id r.1 r.5, read_term value r.2 r.6) refl)) (read_block b (n + 1) rest is.1)
read_block (remove table id b) n (item d rest) is =
    let r = two_are (codes "remove") (Byte table) (SpellsTerm id) d is.0 in
    read_first n d rest (λ b. remove table id b) b (rw r.2 (rw (read_byte table 1 r.0 r.3, read_term id r.1 r.4) refl))
    (read_block b (n + 1) rest is.1)
read_block (save to value b) n (item d rest) is =
    let r = two_are (codes "let") (Byte to) (SpellsTerm value) d is.0 in
    read_first n d rest (λ b. save to value b) b (rw r.2 (rw (read_byte to 1 r.0 r.3, read_term value r.1 r.4) refl))
    (read_block b (n + 1) rest is.1)
read_block (ask code b) n (item d rest) is =
    let r = one_is (codes "ask") (Short code) d is.0 in
    read_first n d rest (λ b. ask code b) b (rw r.1 (rw (read_short code 1 r.0 r.2) refl)) (read_block b (n + 1) rest is.1)
read_block (choose test ys ns b) n (item d rest) is =
    let r = three_are (codes "if") (SpellsTest test) (Listed (SpellsBlock ys)) (Listed (SpellsBlock ns)) d is.0 in
    read_first n d rest (λ b. choose test ys ns b) b (rw r.3
    (rw (read_test test r.0 r.4, read_list ys r.1 (read_block ys 0) r.5, read_list ns r.2 (read_block ns 0) r.6) refl))
    (read_block b (n + 1) rest is.1)
read_block (answer value b) n (item d rest) is =
    let r = one_is (codes "answer") (SpellsTerm value) d is.0 in
    read_first n d rest (λ b. answer value b) b (rw r.1 (rw (read_term value r.0 r.2) refl)) (read_block b (n + 1) rest is.1)
read_block _ n _ is = absurd is

-- a procedure
pub read_spelled : (p : ProcedureText) (d : Data) → Spells p d → reading d ≡ Ok p
read_spelled p d is =
    let l = listed_is (Each (Byte p.args ∷ Listed (SpellsBlock p.body) ∷ [])) d is in
    let x = each_is (Byte p.args) (Listed (SpellsBlock p.body) ∷ []) l.0 l.2 in
    let y = each_is (Listed (SpellsBlock p.body)) [] x.1 x.4 in
    rw (l.1 ∙ ap array (x.2 ∙ ap (item x.0) (y.2 ∙ ap (item y.0) (none_is y.1 y.4))))
    (rw (read_byte p.args 0 x.0 x.3, read_list p.body y.0 (read_block p.body 0) y.3) refl)
