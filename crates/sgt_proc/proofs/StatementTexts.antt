-- Stored statements and the text that they are.
use Rattle.std.proofs.Common.{◌≡◌, refl, sym, ◌∙◌, ap, ℕ, zero, suc, ◌+◌, ◌<◌, ◌≤◌, length, get_or, take, drop, add-one, drop-cons, List, [], ◌∷◌, ◌++◌, arith}
use Rattle.std.proofs.Math.Seq.{take-suc}
use Rattle.std.proofs.lemmas.List.{take_all}
use Rattle.std.specs.declared.vec.Vec.{Vec}
use Rattle.std.specs.declared.alloc.Global.{Global}
use Rattle.sgt_model.specs.declared.procedure.Statement.{Statement}
use Rattle.sgt_model.specs.declared.procedure.Statement.TheVariants.{Look, Find, Put, Remove, Let, Ask, If', If, Answer}
use Rattle.sgt_model.specs.declared.procedure.Cond.{Cond}
use Rattle.sgt_model.specs.Syntax.{Block, empty}
use Rattle.sgt_model.specs.ProcedureTexts.{cond_text, in_front, block_of}
use Rattle.sgt_model.specs.Ways.{Way, fork, onto}
use Rattle.sgt_model.proofs.Texts.{before_if}

onto_before : (s : Statement) (b : Block) (rest : Way) → onto (in_front s b) rest ≡ onto (in_front s empty) (onto b rest)
onto_before (Look to table id absent) b rest = refl
onto_before (Find to table id absent) b rest = refl
onto_before (Put table id value) b rest = refl
onto_before (Remove table id) b rest = refl
onto_before (Let to value) b rest = refl
onto_before (Ask code) b rest = refl
onto_before (If' cond s ys t ns) b rest = refl
onto_before (Answer value) b rest = refl

-- the text from index i of a list starts with the statement there
pub block_drop : (list : List Statement) (i : ℕ) (s : Statement) → i < length list → s ≡ get_or list i s
    → block_of (drop i list) ≡ in_front s (block_of (drop (i + 1) list))
block_drop list i s h e =
    let d : drop i list ≡ s ∷ drop (i + 1) list = rw add-one (drop-cons list i s h ∙ ap (λ x. x ∷ drop (suc i) list) (sym e)) in
    ap block_of d

-- the last step of the paths through a list is its last statement
pub onto_last : (list : List Statement) (s : Statement) (rest : Way)
    → onto (block_of (list ++ s ∷ [])) rest ≡ onto (block_of list) (onto (in_front s empty) rest)
onto_last [] s rest = refl
onto_last (x ∷ xs) s rest = onto_before x (block_of (xs ++ s ∷ [])) rest
    ∙ (ap (onto (in_front x empty)) (onto_last xs s rest) ∙ sym (onto_before x (block_of xs) (onto (in_front s empty) rest)))

-- the last step of the paths through a list up to index a is the statement before it
pub onto_ahead : (list : List Statement) (a i : ℕ) (s : Statement) (rest : Way) → a ≡ i + 1 → i < length list → s ≡ get_or list i s
    → onto (block_of (take a list)) rest ≡ onto (block_of (take i list)) (onto (in_front s empty) rest)
onto_ahead list a i s rest next h e =
    let d : take a list ≡ take i list ++ s ∷ [] =
    rw (next, add-one) (take-suc list i s h ∙ ap (λ x. take i list ++ x ∷ []) (sym e)) in
    ap (λ l. onto (block_of l) rest) d ∙ onto_last (take i list) s rest

-- if nothing is left ahead, the paths are those after
pub onto_none : (list : List Statement) (a : ℕ) (rest following : Way) → a ≤ 0
    → onto (block_of list) rest ≡ onto (block_of (take a list)) following → onto (block_of list) rest ≡ following
onto_none list zero rest following h e = e
onto_none list (suc a) rest following h e = absurd (omega arith)

-- a loop from the last statement back has found the value of the paths along the statements from `ahead` on; `following`
-- is the value of what comes after all of them
abbrev pub IsFound : {A : Type 0} → (Way → A) → List Statement → ℕ → A → A → Type 0
IsFound value list ahead following found = (rest : Way) → following ≡ value rest
    → (after : Way) × ((onto (block_of list) rest ≡ onto (block_of (take ahead list)) after) × (found ≡ value after))

pub found_none : {A : Type 0} (value : Way → A) (list : List Statement) (a : ℕ) (following : A) → length list ≤ a
    → IsFound value list a following following
found_none value list a following all rest e = (rest, (ap (λ l. onto (block_of l) rest) (sym (take_all a list all)), e))

pub found_one : {A : Type 0} (value : Way → A) (list : List Statement) (a i : ℕ) (s : Statement) (following old new : A) → a ≡ i + 1
    → i < length list → s ≡ get_or list i s → IsFound value list a following old
    → ((rest : Way) → old ≡ value rest → new ≡ value (onto (in_front s empty) rest)) → IsFound value list i following new
found_one value list a i s following old new next within is found step rest e =
    let h = found rest e in
    (onto (in_front s empty) h.0, (h.1.0 ∙ onto_ahead list a i s h.0 next within is, step h.0 h.1.1))

pub found_all : {A : Type 0} (value : Way → A) (list : List Statement) (a : ℕ) (following found : A) → a ≤ 0
    → IsFound value list a following found → (rest : Way) → following ≡ value rest → found ≡ value (onto (block_of list) rest)
found_all value list a following found end is rest e =
    let h = is rest e in h.1.1 ∙ ap value (sym (onto_none list a rest h.0 end h.1.0))

-- an If is a fork, whose branches continue after it
pub onto_if : (c : Cond) (ys ns : Vec Statement Global) (rest : Way)
    → onto (in_front (If c ys ns) empty) rest ≡ fork (cond_text c) (onto (block_of ys.items) rest) (onto (block_of ns.items) rest)
onto_if c ys ns rest = ap (λ b. onto b rest) (before_if c ys ns empty)
