-- Rows: one more.
use Rattle.std.proofs.Common.{◌≡◌, ℕ, zero, suc, pos, ◌+◌, ◌-◌, ◌<◌, ◌≤◌, cond, List, [], ◌∷◌, ◌++◌, length, map, take, drop, set, get_or, Some, refl, sym, ap, ap₂, ◌∙◌, subst, arith}
use Rattle.std.specs.List.{All}
use Rattle.std.proofs.lemmas.List.Elements.{All-head, All-push, All-tail}
use Rattle.std.proofs.lemmas.List.{take_all, take_more, take_more_set, drop-set-lt, map-set, length-map, drop-drop}
use Rattle.sgt_model.specs.Contents.{Key, Contents, key_eq, put_in}
use Rattle.sgt_model.specs.Databases.{HasValues, IsRowIndex, Row}
use Rattle.sgt_c.specs.declared.row_struct.SgtRow.{SgtRow}
use Rattle.sgt_c.specs.Rows.{IsRow, row_of, rows_from, with_rows}

-- ---- rows put in

-- a row of zeros
abbrev pub none : SgtRow
none = record { table = 0; spare = 0; number = pos 0; value = pos 0 }

with_rows-append : (contents : Contents) (rows : List SgtRow) (s : SgtRow)
    → with_rows contents (rows ++ s ∷ []) ≡ put_in (with_rows contents rows) (row_of s).0 s.value
with_rows-append contents [] s = refl
with_rows-append contents (r ∷ rows) s = with_rows-append (put_in contents (row_of r).0 r.value) rows s

pub rows_next : (before after contents : Contents) (rows : List SgtRow) (i : ℕ) (d : SgtRow) → i < length rows
    → ((k : Key) → before k ≡ with_rows contents (take i rows) k)
    → ((k : Key) → after k ≡ put_in before (row_of (get_or rows i d)).0 (get_or rows i d).value k)
    → (k : Key) → after k ≡ with_rows contents (take (i + 1) rows) k
rows_next before after contents rows i d within same put k =
    put k
    ∙ ap (λ o. cond (key_eq (row_of (get_or rows i d)).0 k) (Some (get_or rows i d).value) o) (same k)
    ∙ ap (λ m. m k) (sym (with_rows-append contents (take i rows) (get_or rows i d)))
    ∙ ap (λ rows. with_rows contents rows k) (sym (take_more rows i d within))

-- ---- rows written

-- one more row is written
pub report_row : (to : List SgtRow) (rows : List Row) (i : ℕ) (d : Row) (x : SgtRow) → i < length to → i < length rows
    → row_of x ≡ get_or rows i d
    → take i (map row_of to) ≡ take i rows → take (i + 1) (map row_of (set to i x)) ≡ take (i + 1) rows
report_row to rows i d x capacity within is reported =
    ap (take (i + 1)) (map-set row_of to i x)
    ∙ take_more_set (map row_of to) i (row_of x) (omega (arith, length-map to row_of, capacity))
    ∙ ap₂ (λ reported r. reported ++ r ∷ []) reported is
    ∙ sym (take_more rows i d within)

-- and those after it are unchanged
pub rest_row : (to before : List SgtRow) (i : ℕ) (x : SgtRow) → drop i to ≡ drop i before → drop (i + 1) (set to i x) ≡ drop (i + 1) before
rest_row to before i x same =
    drop-set-lt (i + 1) to i x (omega arith) ∙ sym (drop-drop 1 i to) ∙ ap (drop 1) same ∙ drop-drop 1 i before

-- ---- rows from a key on

-- as many rows are skipped as come before the key
pub from_index : (k : Key) (rows : List Row) (n : ℕ) → IsRowIndex k rows n → take (length rows - n) (drop n rows) ≡ rows_from k rows
from_index k [] zero at = refl
from_index k [] (suc n) at = absurd at
from_index k (r ∷ rows) zero at = take_all (length (r ∷ rows) - 0) (r ∷ rows) (omega arith)
    ∙ ap (λ b. cond b (rows_from k rows) (r ∷ rows)) (sym at)
from_index k (r ∷ rows) (suc n) at =
    let fewer : length (r ∷ rows) - suc n ≡ length rows - n = omega arith in
    ap (λ m. take m (drop n rows)) fewer
    ∙ (from_index k rows n at.1 ∙ ap (λ b. cond b (rows_from k rows) (r ∷ rows)) (sym at.0))

-- ---- rows in their ranges

-- one more
pub ranged_next : (rows : List SgtRow) (i : ℕ) (d : SgtRow) → i < length rows → IsRow (get_or rows i d) → All IsRow (take i rows)
    → All IsRow (take (i + 1) rows)
ranged_next rows i d within good so_far = rw (take_more rows i d within) (All-push IsRow (take i rows) (get_or rows i d) so_far good)

-- all of them
pub all_ranged : (rows : List SgtRow) (i : ℕ) → length rows ≤ i → All IsRow (take i rows) → All IsRow rows
all_ranged rows i following so_far = subst (All IsRow) (take_all i rows following) so_far

-- their values are values
pub ranged_values : (rows : List SgtRow) → All IsRow rows → HasValues (map row_of rows)
ranged_values [] all = tt
ranged_values (s ∷ rows) all = ((All-head IsRow s rows all).1, ranged_values rows (All-tail IsRow s rows all))
