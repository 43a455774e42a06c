-- Statements that are written one after another.
use Rattle.std.proofs.Common.{◌≡◌, refl, ap, sym, ◌∙◌, subst, ℕ, ◌+◌, ◌<◌, length, get_or, take, List, [], ◌∷◌, ◌++◌, Ok, Err, Result}
use Rattle.std.proofs.lemmas.List.{take_more, map-append}
use Rattle.std.specs.Prelude.{codes, map, IfOk}
use Rattle.std.specs.declared.vec.Vec.{Vec}
use Rattle.std.specs.declared.alloc.Global.{Global}
use Rattle.serde_json.specs.Data.{Data, Items, no_items, item}
use Rattle.serde_json.specs.View.{view, items_of}
use Rattle.serde_json.proofs.Views.{view-Array}
use Rattle.serde_json.specs.declared.value.Value.{Value, Array}
use Rattle.sgt_model.specs.declared.procedure.Cond.{Cond}
use Rattle.sgt_model.specs.declared.procedure.Statement.{Statement}
use Rattle.sgt_model.specs.declared.procedure.Statement.TheVariants.{If}
use Rattle.sgt_model.specs.Syntax.{Block, empty, choose}
use Rattle.sgt_model.specs.ProcedureTexts.{cond_text, in_front, block_of}
use Rattle.sgt_model.proofs.Texts.{before_if}
use Rattle.sgt_proc_json.specs.Spelling.{WordAnd, SpellsTest, Listed, SpellsBlock}
use Rattle.sgt_proc_json.proofs.StatementsRead.{onto_block, onto_last, onto_all}

-- the tree of an If, in front of others
if_spelled : (s : Statement) (test : Cond) (ys ns : Vec Statement Global) (tree : Data) → s ≡ If test ys ns → WordAnd (codes "if")
    (SpellsTest (cond_text test) ∷ Listed (SpellsBlock (block_of ys.items)) ∷ Listed (SpellsBlock (block_of ns.items)) ∷ []) tree
    → (b : Block) (items : Items) → SpellsBlock b items → SpellsBlock (in_front s b) (item tree items)
if_spelled s test ys ns tree is spelled b items others =
    let text : in_front s b ≡ choose (cond_text test) (block_of ys.items) (block_of ns.items) b = ap (λ x. in_front x b) is
    ∙ before_if test ys ns b in
    subst (λ x. SpellsBlock x (item tree items)) (sym text) (spelled, others)

-- if it was written
pub if_written : {E : Type 0} (result : Result Value E) (s : Statement) (test : Cond) (ys ns : Vec Statement Global) (first second : Value)
    → s ≡ If test ys ns → Listed (SpellsBlock (block_of ys.items)) (view first) → Listed (SpellsBlock (block_of ns.items)) (view second)
    → IfOk result (λ v. (b c : Block) → Listed (SpellsBlock b) (view first) → Listed (SpellsBlock c) (view second)
    → WordAnd (codes "if") (SpellsTest (cond_text test) ∷ Listed (SpellsBlock b) ∷ Listed (SpellsBlock c) ∷ []) (view v))
    → IfOk result (λ v. (b : Block) (items : Items) → SpellsBlock b items → SpellsBlock (in_front s b) (item (view v) items))
if_written (Ok v) s test ys ns first second is spelled spelled' written =
    if_spelled s test ys ns (view v) is (written (block_of ys.items) (block_of ns.items) spelled spelled')
if_written (Err e) s test ys ns first second is spelled spelled' written = tt

-- what a tree that was written is, is so
pub ok_then : {T E : Type 0} (result : Result T E) (P Q : T → Type 0) → ((value : T) → P value → Q value) → IfOk result P → IfOk result Q
ok_then (Ok value) P Q step is = step value is
ok_then (Err error) P Q step is = tt

-- trees in front of items
abbrev pub onto_items : List Data → Items → Items
onto_items [] rest = rest
onto_items (d ∷ trees) rest = item d (onto_items trees rest)

onto_items-last : (trees : List Data) (d : Data) (rest : Items) → onto_items (trees ++ d ∷ []) rest ≡ onto_items trees (item d rest)
onto_items-last [] d rest = refl
onto_items-last (x ∷ trees) d rest = ap (item x) (onto_items-last trees d rest)

-- the trees spell these statements in front of others
abbrev pub Written : List Statement → List Value → Type 0
Written list trees = (b : Block) (rest : Items) → SpellsBlock b rest → SpellsBlock (onto_block list b) (onto_items (map view trees) rest)

written_last : (list : List Statement) (s : Statement) (trees : List Value) (v : Value) → Written list trees
    → ((b : Block) (rest : Items) → SpellsBlock b rest → SpellsBlock (in_front s b) (item (view v) rest))
    → Written (list ++ s ∷ []) (trees ++ v ∷ [])
written_last list s trees v so one b rest others =
    rw (onto_last list s b, ap (λ l. onto_items l rest) (map-append view trees (v ∷ [])) ∙ onto_items-last (map view trees) (view v) rest)
    (so (in_front s b) (item (view v) rest) (one b rest others))

-- one more
pub written_more : (list : List Statement) (i : ℕ) (s : Statement) (trees longer : List Value) (v : Value) → i < length list
    → s ≡ get_or list i s → longer ≡ trees ++ v ∷ [] → Written (take i list) trees
    → ((b : Block) (rest : Items) → SpellsBlock b rest → SpellsBlock (in_front s b) (item (view v) rest))
    → Written (take (i + 1) list) longer
written_more list i s trees longer v h e more so one =
    rw (more, take_more list i s h ∙ ap (λ x. take i list ++ x ∷ []) (sym e)) (written_last (take i list) s trees v so one)

onto_none : (trees : List Data) → onto_items trees no_items ≡ items_of trees
onto_none [] = refl
onto_none (d ∷ trees) = ap (item d) (onto_none trees)

all_spelled : (list : List Statement) (trees : List Value) → Written list trees → SpellsBlock (block_of list) (items_of (map view trees))
all_spelled list trees so = subst (λ b. SpellsBlock b (items_of (map view trees))) (onto_all list)
    (subst (SpellsBlock (onto_block list empty)) (onto_none (map view trees)) (so empty no_items tt))

-- all of them
pub written_all : (list : List Statement) (trees : Vec Value Global) → Written list trees.items
    → Listed (SpellsBlock (block_of list)) (view (Array trees))
written_all list trees so = subst (Listed (SpellsBlock (block_of list))) (sym (view-Array trees)) (all_spelled list trees.items so)
