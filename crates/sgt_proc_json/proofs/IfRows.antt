-- The list of an If, and its shape errors.
use Rattle.std.proofs.Common.{◌≡◌, refl, ap, sym, ◌∙◌, ◌≤◌, ◌<◌, ◌⊎◌, Bool, true, false, List, [], ◌∷◌, length, get_or, Ok, Err, arith}
use Rattle.std.proofs.Math.Path.{fun_ext}
use Rattle.std.specs.Prelude.{cond, codes}
use Rattle.serde_json.specs.Data.{array, Items, no_items, item}
use Rattle.serde_json.specs.Find.{as_str}
use Rattle.serde_json.specs.View.{view, items_view}
use Rattle.serde_json.specs.declared.value.Value.{Value}
use Rattle.std.specs.declared.vec.Vec.{Vec}
use Rattle.std.specs.declared.alloc.Global.{Global}
use Rattle.sgt_model.specs.declared.procedure.Cond.{Cond}
use Rattle.sgt_model.specs.declared.procedure.Statement.{Statement}
use Rattle.sgt_model.specs.declared.procedure.Statement.TheVariants.{If}
use Rattle.sgt_model.specs.Syntax.{CondText, Block, choose}
use Rattle.sgt_model.specs.ProcedureTexts.{cond_text, in_front, block_of}
use Rattle.sgt_model.proofs.Texts.{before_if}
use Rattle.sgt_proc_json.specs.Readings.{Reading, here, at, two, is_word, condition, block, statement}
use Rattle.sgt_proc_json.specs.Rows.{other_row, if_of, if_row, is_if, branches}

-- a row is that of an If or another
pub row_is : (items : Items) → statement (array items) ≡ cond (is_if items) (if_row items) (other_row items)
row_is no_items = refl
row_is (item w no_items) = refl
row_is (item w (item a no_items)) = refl
row_is (item w (item a (item b no_items))) = refl
row_is (item w (item a (item b (item c no_items)))) = refl
row_is (item w (item a (item b (item c (item d no_items))))) = refl
row_is (item w (item a (item b (item c (item d (item e items)))))) = refl

-- an If's row
pub row_of_if : (items : Items) (test : Bool) → test ≡ is_if items → test ≡ true → statement (array items) ≡ if_row items
row_of_if items test is so = row_is items ∙ ap (λ t. cond t (if_row items) (other_row items)) (sym is ∙ so)

-- another
pub row_of_other : (items : Items) (test : Bool) → test ≡ is_if items → test ≡ false → statement (array items) ≡ other_row items
row_of_other items test is so = row_is items ∙ ap (λ t. cond t (if_row items) (other_row items)) (sym is ∙ so)

-- an If of a condition and two branches
abbrev pub if_of_two : Reading CondText → Reading (Block × Block) → Reading (Block → Block)
if_of_two = two (λ test found rest. choose test found.0 found.1 rest)

by_two : (a : Reading CondText) (b c : Reading Block) → if_of a b c ≡ if_of_two a (two (λ ys ns. (ys, ns)) b c)
by_two (Err place) b c = refl
by_two (Ok test) (Err place) c = refl
by_two (Ok test) (Ok ys) (Err place) = refl
by_two (Ok test) (Ok ys) (Ok ns) = refl

-- the condition of these four items
pub four_are : (items : List Value) (a : Value) → 4 ≤ length items → length items < 5 → a ≡ get_or items 1 a
    → if_row (items_view items) ≡ if_of_two (at 1 (condition (view a))) (branches (items_view items))
four_are (x ∷ y ∷ z ∷ v ∷ []) a least most is-a =
    rw is-a (by_two (at 1 (condition (view y))) (at 2 (block (view z))) (at 3 (block (view v))))
four_are _ a least most is-a = absurd (omega arith)

-- and their branches
pub branches_are : (items : List Value) (b c : Value) → 4 ≤ length items → length items < 5 → b ≡ get_or items 2 b → c ≡ get_or items 3 c
    → branches (items_view items) ≡ two (λ ys ns. (ys, ns)) (at 2 (block (view b))) (at 3 (block (view c)))
branches_are (x ∷ y ∷ z ∷ v ∷ []) b c least most is-b is-c = rw (is-b, is-c) refl
branches_are _ b c least most is-b is-c = absurd (omega arith)

-- and the first of them is this word
pub word_is : (items : List Value) (w : Value) → 4 ≤ length items → length items < 5 → w ≡ get_or items 0 w
    → is_if (items_view items) ≡ is_word (as_str (view w)) (codes "if")
word_is (x ∷ y ∷ z ∷ v ∷ []) w least most is-w = rw is-w refl
word_is _ w least most is-w = absurd (omega arith)

-- a row of fewer or more
pub not_four : (items : List Value) → length items < 4 ⊎ 5 ≤ length items → false ≡ is_if (items_view items)
not_four (a ∷ b ∷ c ∷ d ∷ []) other = absurd (omega arith)
not_four _ other = refl

pub no_if_row : (items : List Value) → length items < 4 ⊎ 5 ≤ length items → if_row (items_view items) ≡ here
no_if_row (a ∷ b ∷ c ∷ d ∷ []) other = absurd (omega arith)
no_if_row _ other = refl

pub no_branches : (items : List Value) → length items < 4 ⊎ 5 ≤ length items → branches (items_view items) ≡ here
no_branches (a ∷ b ∷ c ∷ d ∷ []) other = absurd (omega arith)
no_branches _ other = refl

-- the statement of an If's row
pub if_made : (reading : Reading (Block → Block)) (a : Reading CondText) (found : Reading (Block × Block)) (test : Cond)
    (ys ns : Vec Statement Global) → reading ≡ if_of_two a found → a ≡ Ok (cond_text test)
    → found ≡ Ok (block_of ys.items, block_of ns.items) → reading ≡ Ok (in_front (If test ys ns))
if_made reading a found test ys ns is read read' =
    is ∙ (ap (λ r. if_of_two r found) read ∙ (ap (λ r. if_of_two (Ok (cond_text test)) r) read'
    ∙ ap Ok (fun_ext (λ rest. sym (before_if test ys ns rest)))))
