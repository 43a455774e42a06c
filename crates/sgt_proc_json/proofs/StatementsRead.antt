-- Statements that are read one after another.
use Rattle.std.proofs.Common.{◌≡◌, refl, ap, sym, ◌∙◌, ℕ, suc, ◌+◌, ◌<◌, length, get_or, drop, add-one, drop-cons, List, [], ◌∷◌, ◌++◌, Ok, Err}
use Rattle.serde_json.specs.View.{view, items_view}
use Rattle.serde_json.specs.declared.value.Value.{Value}
use Rattle.sgt_model.specs.declared.procedure.Statement.{Statement}
use Rattle.sgt_model.specs.Syntax.{Block, empty}
use Rattle.sgt_model.specs.ProcedureTexts.{in_front, block_of}
use Rattle.sgt_proc_json.specs.Refusals.{Says}
use Rattle.sgt_proc_json.specs.declared.errors.ReadError.{ReadError}
use Rattle.sgt_proc_json.specs.Readings.{Reading, at, one, two, statement, statements}

-- statements in front of others
abbrev pub onto_block : List Statement → Block → Block
onto_block [] rest = rest
onto_block (s ∷ list) rest = in_front s (onto_block list rest)

-- after all of them
pub onto_last : (list : List Statement) (s : Statement) (rest : Block)
    → onto_block (list ++ s ∷ []) rest ≡ onto_block list (in_front s rest)
onto_last [] s rest = refl
onto_last (x ∷ list) s rest = ap (in_front x) (onto_last list s rest)

one_last : (list : List Statement) (s : Statement) (r : Reading Block)
    → one (onto_block list) (one (in_front s) r) ≡ one (onto_block (list ++ s ∷ [])) r
one_last list s (Ok b) = ap Ok (sym (onto_last list s b))
one_last list s (Err place) = refl

items_next : (items : List Value) (i : ℕ) (v : Value) → i < length items → v ≡ get_or items i v
    → statements i (items_view (drop i items)) ≡ two (λ first rest. first rest) (at i (statement (view v)))
    (statements (i + 1) (items_view (drop (i + 1) items)))
items_next items i v h e =
    let d : drop i items ≡ v ∷ drop (i + 1) items = rw add-one (drop-cons items i v h ∙ ap (λ x. x ∷ drop (suc i) items) (sym e)) in
    ap (λ l. statements i (items_view l)) d

-- one more statement is read
pub one_more : (items : List Value) (i : ℕ) (v : Value) (list : List Statement) (s : Statement) (r : Reading Block)
    → r ≡ one (onto_block list) (statements i (items_view (drop i items))) → i < length items → v ≡ get_or items i v
    → at i (statement (view v)) ≡ Ok (in_front s) → r ≡ one (onto_block (list ++ s ∷ []))
    (statements (i + 1) (items_view (drop (i + 1) items)))
one_more items i v list s r so h e read =
    so ∙ ap (one (onto_block list)) (items_next items i v h e
    ∙ ap (λ f. two (λ first rest. first rest) f (statements (i + 1) (items_view (drop (i + 1) items)))) read)
    ∙ one_last list s (statements (i + 1) (items_view (drop (i + 1) items)))

-- the next is none
pub one_refused : (items : List Value) (i : ℕ) (v : Value) (list : List Statement) (error : ReadError) (r : Reading Block)
    → r ≡ one (onto_block list) (statements i (items_view (drop i items))) → i < length items → v ≡ get_or items i v
    → Says (at i (statement (view v))) error → Says r error
one_refused items i v list error r so h e reported place same =
    so ∙ ap (one (onto_block list)) (items_next items i v h e
    ∙ ap (λ f. two (λ first rest. first rest) f (statements (i + 1) (items_view (drop (i + 1) items)))) (reported place same))

-- in front of none
pub onto_all : (list : List Statement) → onto_block list empty ≡ block_of list
onto_all [] = refl
onto_all (s ∷ list) = ap (in_front s) (onto_all list)

-- all are read
pub all_read : (items : List Value) (i : ℕ) (list : List Statement) (r : Reading Block)
    → r ≡ one (onto_block list) (statements i (items_view (drop i items))) → drop i items ≡ [] → r ≡ Ok (block_of list)
all_read items i list r so none = so ∙ ap (λ l. one (onto_block list) (statements i (items_view l))) none ∙ ap Ok (onto_all list)
