-- Paths and the text that they lead through.
use Rattle.std.proofs.Common.{◌≡◌, refl, sym, ap, ◌∙◌, ℕ, zero, suc, ◌+◌, ◌<◌, ◌≤◌, Bool, true, false, cond, List, [], ◌∷◌, ◌++◌, length, get_or, drop, arith}
use Rattle.std.proofs.lemmas.List.{drop_all}
use Rattle.sgt_model.specs.declared.procedure.Statement.{Statement}
use Rattle.sgt_model.specs.declared.procedure.Statement.TheVariants.{Look, Find, Put, Remove, Let, Ask, If', Answer}
use Rattle.sgt_model.specs.Syntax.{Block, empty, look, find, put, remove, save, ask, choose, answer}
use Rattle.sgt_model.specs.ProcedureTexts.{in_front, block_of}
use Rattle.sgt_model.specs.Left.{followed_by}
use Rattle.sgt_proc.specs.declared.place.Turn.{Turn}
use Rattle.sgt_proc.specs.Flaws.{size, depth}
use Rattle.sgt_proc.specs.Paths.{following, IsIf, branch, IsPath, inner, outer}
use Rattle.sgt_proc.proofs.StatementTexts.{block_drop}
use Rattle.sgt_proc.proofs.StatementLists.{parts_before}
use Rattle.sgt_proc.proofs.Followed.{followed_empty, followed_twice}

-- a list of statements

following_before : (n : ℕ) (s : Statement) (b : Block) → following (suc n) (in_front s b) ≡ following n b
following_before n (Look to table id absent) b = refl
following_before n (Find to table id absent) b = refl
following_before n (Put table id value) b = refl
following_before n (Remove table id) b = refl
following_before n (Let to value) b = refl
following_before n (Ask code) b = refl
following_before n (If' cond p ys q ns) b = refl
following_before n (Answer value) b = refl

pub following_list : (n : ℕ) (list : List Statement) → following n (block_of list) ≡ block_of (drop n list)
following_list zero list = refl
following_list (suc n) [] = refl
following_list (suc n) (s ∷ list) = following_before n s (block_of list) ∙ following_list n list

before_size : (s : Statement) (b : Block) → size b + 1 ≤ size (in_front s b)
before_size s b = let it = parts_before s b in omega (arith, it.0, it.3)

pub before_depth : (s : Statement) (b : Block) → 1 ≤ depth (in_front s b)
before_depth s b = (parts_before s b).4

pub list_size : (list : List Statement) → length list ≤ size (block_of list)
list_size [] = omega arith
list_size (s ∷ list) = omega (arith, list_size list, before_size s (block_of list))

-- the one at a position
pub following_at : (list : List Statement) (n : ℕ) (s : Statement) → n < length list → s ≡ get_or list n s
    → following n (block_of list) ≡ in_front s (following (n + 1) (block_of list))
following_at list n s h e = following_list n list ∙ (block_drop list n s h e ∙ ap (in_front s) (sym (following_list (n + 1) list)))

-- none at the end
pub following_end : (list : List Statement) (n : ℕ) → length list ≤ n → following n (block_of list) ≡ empty
following_end list n h = following_list n list ∙ ap block_of (drop_all n list h)

-- sizes and depths

following_parts : (n : ℕ) (b : Block) → (size (following n b) ≤ size b) × (depth (following n b) ≤ depth b)
following_parts zero b = (omega arith, omega arith)
following_parts (suc n) empty = (omega arith, omega arith)
following_parts (suc n) (look to table id absent b) = let it = following_parts n b in (omega (arith, it.0), omega (arith, it.1))
following_parts (suc n) (find to table id absent b) = let it = following_parts n b in (omega (arith, it.0), omega (arith, it.1))
following_parts (suc n) (put table id value b) = let it = following_parts n b in (omega (arith, it.0), omega (arith, it.1))
following_parts (suc n) (remove table id b) = let it = following_parts n b in (omega (arith, it.0), omega (arith, it.1))
following_parts (suc n) (save to value b) = let it = following_parts n b in (omega (arith, it.0), omega (arith, it.1))
following_parts (suc n) (ask code b) = let it = following_parts n b in (omega (arith, it.0), omega (arith, it.1))
following_parts (suc n) (choose test ys ns b) = let it = following_parts n b in (omega (arith, it.0), omega (arith, it.1))
following_parts (suc n) (answer value b) = let it = following_parts n b in (omega (arith, it.0), omega (arith, it.1))

pub following_depth : (n : ℕ) (b : Block) → depth (following n b) ≤ depth b
following_depth n b = (following_parts n b).1

branch_size : (held : Bool) (b : Block) → size (branch held b) ≤ size b
branch_size held empty = omega arith
branch_size held (look to table id absent b) = omega arith
branch_size held (find to table id absent b) = omega arith
branch_size held (put table id value b) = omega arith
branch_size held (remove table id b) = omega arith
branch_size held (save to value b) = omega arith
branch_size held (ask code b) = omega arith
branch_size true (choose test ys ns b) = omega arith
branch_size false (choose test ys ns b) = omega arith
branch_size held (answer value b) = omega arith

pub inner_size : (path : List Turn) (b : Block) → size (inner path b) ≤ size b
inner_size [] b = omega arith
inner_size (t ∷ path) b =
    omega (arith, inner_size path (branch t.held (following t.at b)), branch_size t.held (following t.at b), (following_parts t.at b).0)

branch_depth : (held : Bool) (b : Block) → IsIf b → depth (branch held b) + 1 ≤ depth b
branch_depth held empty h = absurd h
branch_depth held (look to table id absent b) h = absurd h
branch_depth held (find to table id absent b) h = absurd h
branch_depth held (put table id value b) h = absurd h
branch_depth held (remove table id b) h = absurd h
branch_depth held (save to value b) h = absurd h
branch_depth held (ask code b) h = absurd h
branch_depth true (choose test ys ns b) h = omega arith
branch_depth false (choose test ys ns b) h = omega arith
branch_depth held (answer value b) h = absurd h

pub inner_depth : (path : List Turn) (b : Block) → IsPath path b → length path + depth (inner path b) ≤ depth b
inner_depth [] b h = omega arith
inner_depth (t ∷ path) b h =
    omega (arith, inner_depth path (branch t.held (following t.at b)) h.1.1, branch_depth t.held (following t.at b) h.1.0, following_depth t.at b)

-- one turn more

pub inner_last : (path : List Turn) (t : Turn) (b : Block) → inner (path ++ t ∷ []) b ≡ branch t.held (following t.at (inner path b))
inner_last [] t b = refl
inner_last (u ∷ path) t b = inner_last path t (branch u.held (following u.at b))

pub outer_last : (path : List Turn) (t : Turn) (b : Block)
    → outer (path ++ t ∷ []) b ≡ followed_by (following (t.at + 1) (inner path b)) (outer path b)
outer_last [] t b = sym (followed_empty (following (t.at + 1) b))
outer_last (u ∷ path) t b =
    let c = branch u.held (following u.at b) in
    ap (λ x. followed_by x (following (u.at + 1) b)) (outer_last path t c)
    ∙ followed_twice (following (t.at + 1) (inner path c)) (outer path c) (following (u.at + 1) b)

pub path_more : (path : List Turn) (t : Turn) (b : Block) → IsPath path b → t.at < 64 → IsIf (following t.at (inner path b))
    → IsPath (path ++ t ∷ []) b
path_more [] t b h few is = (few, (is, tt))
path_more (u ∷ path) t b h few is = (h.0, (h.1.0, path_more path t (branch u.held (following u.at b)) h.1.1 few is))

pub path_less : (path : List Turn) (t : Turn) (b : Block) → IsPath (path ++ t ∷ []) b → (t.at < 64) × IsPath path b
path_less [] t b h = (h.0, tt)
path_less (u ∷ path) t b h = let r = path_less path t (branch u.held (following u.at b)) h.1.1 in (r.0, (h.0, (h.1.0, r.1)))
