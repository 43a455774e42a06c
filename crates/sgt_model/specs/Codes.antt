-- How the logic stores a program: as a tree of numbers, from which the same program is read back. A model's value has to
-- have such a form; nothing else uses it.
use Rattle.std.specs.Prelude.{◌≡◌, ℕ, zero, suc, ℤ, pos, negsuc}
use Rattle.std.proofs.Common.{refl}
use Rattle.std.specs.Coded.{Coded, code_by, coded×, coded_ℕ}
use base.Stored.{Gv, gnil, gnum, gcons}
use denote.Struct.Codes.{itself}
use Rattle.sgt_model.specs.Syntax.{ProcedureText, Block, empty, look, find, put, remove, save, ask, choose, answer, ExprText, num, arg, reg, sum, diff, product, quotient, CondText, less, at_most, equal}

-- a number with sign: 0 or 1 for the sign, and its size
abbrev pub int_tree : ℤ → Gv
int_tree (pos n) = gcons (gnum 0) (gnum n)
int_tree (negsuc n) = gcons (gnum 1) (gnum n)

-- the number that a tree is
abbrev pub int_in : Gv → ℤ
int_in (gcons (gnum (suc zero)) (gnum n)) = negsuc n
int_in (gcons _ (gnum n)) = pos n
int_in _ = pos 0

-- the same number is read back
pub int_back : (n : ℤ) → int_in (int_tree n) ≡ n
int_back (pos n) = refl
int_back (negsuc n) = refl

-- the number at a tree's leaf
abbrev pub num_in : Gv → ℕ
num_in (gnum n) = n
num_in _ = 0

-- an expression: the number of its form, and its parts
abbrev pub expr_tree : ExprText → Gv
expr_tree (num n) = gcons (gnum 0) (int_tree n)
expr_tree (arg n) = gcons (gnum 1) (gnum n)
expr_tree (reg n) = gcons (gnum 2) (gnum n)
expr_tree (sum a b) = gcons (gnum 3) (gcons (expr_tree a) (expr_tree b))
expr_tree (diff a b) = gcons (gnum 4) (gcons (expr_tree a) (expr_tree b))
expr_tree (product a b) = gcons (gnum 5) (gcons (expr_tree a) (expr_tree b))
expr_tree (quotient a b) = gcons (gnum 6) (gcons (expr_tree a) (expr_tree b))

-- the expression that a tree is
abbrev pub expr_in : Gv → ExprText
expr_in (gcons (gnum zero) n) = num (int_in n)
expr_in (gcons (gnum (suc zero)) n) = arg (num_in n)
expr_in (gcons (gnum (suc (suc zero))) n) = reg (num_in n)
expr_in (gcons (gnum (suc (suc (suc zero)))) (gcons a b)) = sum (expr_in a) (expr_in b)
expr_in (gcons (gnum (suc (suc (suc (suc zero))))) (gcons a b)) = diff (expr_in a) (expr_in b)
expr_in (gcons (gnum (suc (suc (suc (suc (suc zero)))))) (gcons a b)) = product (expr_in a) (expr_in b)
expr_in (gcons (gnum (suc (suc (suc (suc (suc (suc zero))))))) (gcons a b)) = quotient (expr_in a) (expr_in b)
expr_in _ = reg 0

-- the same expression is read back
pub expr_back : (t : ExprText) → expr_in (expr_tree t) ≡ t
expr_back (num n) = λ i. num (int_back n i)
expr_back (arg n) = refl
expr_back (reg n) = refl
expr_back (sum a b) = λ i. sum (expr_back a i) (expr_back b i)
expr_back (diff a b) = λ i. diff (expr_back a i) (expr_back b i)
expr_back (product a b) = λ i. product (expr_back a i) (expr_back b i)
expr_back (quotient a b) = λ i. quotient (expr_back a i) (expr_back b i)

-- a condition: the number of its form, and both sides
abbrev pub cond_tree : CondText → Gv
cond_tree (less a b) = gcons (gnum 0) (gcons (expr_tree a) (expr_tree b))
cond_tree (at_most a b) = gcons (gnum 1) (gcons (expr_tree a) (expr_tree b))
cond_tree (equal a b) = gcons (gnum 2) (gcons (expr_tree a) (expr_tree b))

-- the condition that a tree is
abbrev pub cond_in : Gv → CondText
cond_in (gcons (gnum zero) (gcons a b)) = less (expr_in a) (expr_in b)
cond_in (gcons (gnum (suc zero)) (gcons a b)) = at_most (expr_in a) (expr_in b)
cond_in (gcons (gnum (suc (suc zero))) (gcons a b)) = equal (expr_in a) (expr_in b)
cond_in _ = less (reg 0) (reg 0)

-- the same condition is read back
pub cond_back : (t : CondText) → cond_in (cond_tree t) ≡ t
cond_back (less a b) = λ i. less (expr_back a i) (expr_back b i)
cond_back (at_most a b) = λ i. at_most (expr_back a i) (expr_back b i)
cond_back (equal a b) = λ i. equal (expr_back a i) (expr_back b i)

-- statements in a row: the number of the first one's form with its parts, and the statements after it
abbrev pub block_tree : Block → Gv
block_tree empty = gnil
block_tree (look to table id absent b) = gcons (gnum 0) (gcons (gcons (gcons (gnum to) (gnum table)) (gcons (expr_tree id) (gnum absent))) (block_tree b))
block_tree (put table id value b) = gcons (gnum 1) (gcons (gcons (gnum table) (gcons (expr_tree id) (expr_tree value))) (block_tree b))
block_tree (remove table id b) = gcons (gnum 7) (gcons (gcons (gnum table) (expr_tree id)) (block_tree b))
block_tree (save to value b) = gcons (gnum 2) (gcons (gcons (gnum to) (expr_tree value)) (block_tree b))
block_tree (ask code b) = gcons (gnum 3) (gcons (gnum code) (block_tree b))
block_tree (choose test ys ns b) = gcons (gnum 4) (gcons (gcons (cond_tree test) (gcons (block_tree ys) (block_tree ns))) (block_tree b))
block_tree (answer value b) = gcons (gnum 5) (gcons (expr_tree value) (block_tree b))
block_tree (find to table id absent b) = gcons (gnum 6) (gcons (gcons (gcons (gnum to) (gnum table)) (gcons (expr_tree id) (expr_tree absent))) (block_tree b))

-- the statements that a tree is
abbrev pub block_in : Gv → Block
block_in (gcons (gnum zero) (gcons (gcons (gcons (gnum to) (gnum table)) (gcons id (gnum absent))) b)) = look to table (expr_in id) absent (block_in b)
block_in (gcons (gnum (suc zero)) (gcons (gcons (gnum table) (gcons id value)) b)) = put table (expr_in id) (expr_in value) (block_in b)
block_in (gcons (gnum (suc (suc zero))) (gcons (gcons (gnum to) value) b)) = save to (expr_in value) (block_in b)
block_in (gcons (gnum (suc (suc (suc zero)))) (gcons (gnum code) b)) = ask code (block_in b)
block_in (gcons (gnum (suc (suc (suc (suc zero))))) (gcons (gcons test (gcons ys ns)) b)) = choose (cond_in test) (block_in ys) (block_in ns) (block_in b)
block_in (gcons (gnum (suc (suc (suc (suc (suc zero)))))) (gcons value b)) = answer (expr_in value) (block_in b)
block_in (gcons (gnum (suc (suc (suc (suc (suc (suc zero))))))) (gcons (gcons (gcons (gnum to) (gnum table)) (gcons id absent)) b)) = find to table (expr_in id) (expr_in absent) (block_in b)
block_in (gcons (gnum (suc (suc (suc (suc (suc (suc (suc zero)))))))) (gcons (gcons (gnum table) id) b)) = remove table (expr_in id) (block_in b)
block_in _ = empty

-- the same statements are read back
pub block_back : (b : Block) → block_in (block_tree b) ≡ b
block_back empty = refl
block_back (look to table id absent b) = λ i. look to table (expr_back id i) absent (block_back b i)
block_back (put table id value b) = λ i. put table (expr_back id i) (expr_back value i) (block_back b i)
block_back (remove table id b) = λ i. remove table (expr_back id i) (block_back b i)
block_back (save to value b) = λ i. save to (expr_back value i) (block_back b i)
block_back (ask code b) = λ i. ask code (block_back b i)
block_back (choose test ys ns b) = λ i. choose (cond_back test i) (block_back ys i) (block_back ns i) (block_back b i)
block_back (answer value b) = λ i. answer (expr_back value i) (block_back b i)
block_back (find to table id absent b) = λ i. find to table (expr_back id i) (expr_back absent i) (block_back b i)

-- statements, stored and read back
abbrev pub coded_block : Coded Block
coded_block = code_by Gv itself block_tree block_in block_back

-- a program, stored and read back
abbrev pub coded_procedure : Coded ProcedureText
coded_procedure = code_by (ℕ × Block) (coded× coded_ℕ coded_block) (λ p. (p.args, p.body)) (λ q. record { args = q.0; body = q.1 }) (λ _. refl)
