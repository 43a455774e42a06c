use Rattle.std.proofs.Common.{◌≡◌, ℕ, ℤ, ◌<◌, ◌≤◌, List, [], ◌∷◌, Option, None, Some, length, map, refl, ◌∙◌, arith, rules}
use Rattle.std.specs.Prelude.{option_and_then}
use Rattle.serde_json.specs.Find.{as_str}
use Rattle.serde_json.specs.View.{view}
use Rattle.serde_json.specs.declared.value.Value.{Value}
use Rattle.sgt_proc_json.specs.Trees.{whole}
use Rattle.sgt_format.specs.RecordLines.{of_numbers, record_line_from}
use Rattle.sgt_format.specs.declared.record_line.RecordLine.{RecordLine}
use Rattle.sgt_format.proofs.Shapes.{four_values}
use Rattle.sgt_format.proofs.record_line.record_line_from.Goals as goal

fewer : (trees : List Value) → length trees < 4 → None ≡ record_line_from (map view trees)
fewer [] few = refl
fewer (a ∷ []) few = refl
fewer (a ∷ b ∷ []) few = refl
fewer (a ∷ b ∷ c ∷ []) few = refl
fewer (a ∷ b ∷ c ∷ d ∷ rest) few = absurd (omega arith)

more : (trees : List Value) → 5 ≤ length trees → None ≡ record_line_from (map view trees)
more [] many = absurd (omega arith)
more (a ∷ []) many = absurd (omega arith)
more (a ∷ b ∷ []) many = absurd (omega arith)
more (a ∷ b ∷ c ∷ []) many = absurd (omega arith)
more (a ∷ b ∷ c ∷ d ∷ []) many = absurd (omega arith)
more (a ∷ b ∷ c ∷ d ∷ e ∷ rest) many = refl

-- the line of a word and three numbers, if all four are there
abbrev line_of : Option (List ℕ) → Option ℤ → Option ℤ → Option ℤ → Option RecordLine
line_of word table number value =
    option_and_then (λ w. option_and_then (λ t. option_and_then (λ n. option_and_then (of_numbers w t n) value) number) table) word

-- the line of four trees, by what they are
line_at : (trees : List Value) (w t n v : Value) (word : Option (List ℕ)) (table number value : Option ℤ)
    → trees ≡ w ∷ t ∷ n ∷ v ∷ [] → word ≡ as_str (view w) → table ≡ whole (view t) → number ≡ whole (view n) → value ≡ whole (view v)
    → line_of word table number value ≡ record_line_from (map view trees)
line_at trees w t n v word table number value are is_w is_t is_n is_v = rw (are, is_w, is_t, is_n, is_v) refl

pub returns-in_default : goal.returns-in_default
returns-in_default c = fewer c.args.trees.now c.in_default.len_below

pub returns-in_default-2 : goal.returns-in_default-2
returns-in_default-2 c = more c.args.trees.now (omega arith)

pub returns-in_err-as_str-in-len4 : goal.returns-in_err-as_str-in-len4
returns-in_err-as_str-in-len4 c =
    let are = four_values c.args.trees.now _ _ _ _ c.in-len4.len_at_least c.in-len4.len_below c.word-item.is c.table-item.is
    c.number-item.is c.value-item.is in
    c.from_residual.ensures ∙ line_at c.args.trees.now _ _ _ _ None _ _ _ are c.in_err-as_str-in-len4.ensures refl refl refl

pub returns-in_err-as_i64-in-len4 : goal.returns-in_err-as_i64-in-len4
returns-in_err-as_i64-in-len4 c =
    let are = four_values c.args.trees.now _ _ _ _ c.in-len4.len_at_least c.in-len4.len_below c.word-item.is c.table-item.is
    c.number-item.is c.value-item.is in
    c.from_residual-in_err-as_i64-in-len4.ensures
    ∙ line_at c.args.trees.now _ _ _ _ (Some c.in_ok-as_str-in-len4.field-0.now) None _ _ are c.in_ok-as_str-in-len4.ensures
    c.in_err-as_i64-in-len4.ensures refl refl

pub returns-in_err-as_i64-in-len4-2 : goal.returns-in_err-as_i64-in-len4-2
returns-in_err-as_i64-in-len4-2 c =
    let are = four_values c.args.trees.now _ _ _ _ c.in-len4.len_at_least c.in-len4.len_below c.word-item.is c.table-item.is
    c.number-item.is c.value-item.is in
    c.from_residual-in_err-as_i64-in-len4-2.ensures
    ∙ line_at c.args.trees.now _ _ _ _ (Some c.in_ok-as_str-in-len4.field-0.now) (Some c.in_ok-as_i64-in-len4.field-0) None _ are
    c.in_ok-as_str-in-len4.ensures c.in_ok-as_i64-in-len4.ensures c.in_err-as_i64-in-len4-2.ensures refl

pub returns-in_err-as_i64-in-len4-3 : goal.returns-in_err-as_i64-in-len4-3
returns-in_err-as_i64-in-len4-3 c =
    let are = four_values c.args.trees.now _ _ _ _ c.in-len4.len_at_least c.in-len4.len_below c.word-item.is c.table-item.is
    c.number-item.is c.value-item.is in
    c.from_residual-in_err-as_i64-in-len4-3.ensures
    ∙ line_at c.args.trees.now _ _ _ _ (Some c.in_ok-as_str-in-len4.field-0.now) (Some c.in_ok-as_i64-in-len4.field-0)
    (Some c.in_ok-as_i64-in-len4-2.field-0) None are c.in_ok-as_str-in-len4.ensures c.in_ok-as_i64-in-len4.ensures
    c.in_ok-as_i64-in-len4-2.ensures c.in_err-as_i64-in-len4-3.ensures

pub returns-in_ok-as_i64-in-len4-3 : goal.returns-in_ok-as_i64-in-len4-3
returns-in_ok-as_i64-in-len4-3 c =
    let are = four_values c.args.trees.now _ _ _ _ c.in-len4.len_at_least c.in-len4.len_below c.word-item.is c.table-item.is
    c.number-item.is c.value-item.is in
    let made : c.of_numbers.result ≡ of_numbers c.in_ok-as_str-in-len4.field-0.now c.in_ok-as_i64-in-len4.field-0
    c.in_ok-as_i64-in-len4-2.field-0 c.in_ok-as_i64-in-len4-3.field-0 = search rules in
    made
    ∙ line_at c.args.trees.now _ _ _ _ (Some c.in_ok-as_str-in-len4.field-0.now) (Some c.in_ok-as_i64-in-len4.field-0)
    (Some c.in_ok-as_i64-in-len4-2.field-0) (Some c.in_ok-as_i64-in-len4-3.field-0) are c.in_ok-as_str-in-len4.ensures
    c.in_ok-as_i64-in-len4.ensures c.in_ok-as_i64-in-len4-2.ensures c.in_ok-as_i64-in-len4-3.ensures
