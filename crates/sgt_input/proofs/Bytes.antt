-- Laws of parts of lists of bytes.
use Rattle.std.proofs.Common.{◌≡◌, ℕ, ◌+◌, ◌-◌, ◌≤◌, List, ◌++◌, length, take, drop, ap, sym, ◌∙◌, append_assoc, arith}
use Rattle.std.proofs.lemmas.Grind.{common_steps}
use Rattle.std.proofs.lemmas.List.{drop-take, drop-drop}
use Rattle.std.proofs.Math.Seq.{take-add, take-append_seam}
use Rattle.std.specs.Io.KnownBytes.{Appends}
use Rattle.std.specs.Prelude.{Option, None, Some}

-- after the first n bytes of a window is the window that begins n later
pub window-drop : (start end n : ℕ) (bs : List ℕ) → n ≤ end - start → drop n (take (end - start) (drop start bs)) ≡ take
    (end - (start + n)) (drop (start + n) bs)
window-drop start end n bs fits =
    let size : end - start ≡ n + (end - (start + n)) = omega arith in
    ap (λ k. drop n (take k (drop start bs))) size ∙ drop-take n (end - (start + n)) (drop start bs)
    ∙ ap (λ xs. take (end - (start + n)) xs) (drop-drop n start bs)

-- a slice up to the end is the bytes after its start
pub rest_of : (bs : List ℕ) (at : ℕ) → take (length bs - at) (drop at bs) ≡ drop at bs
rest_of bs at = grind (arith, common_steps)

-- what was appended first, and the first n bytes of the rest
pub appends_more : (old mid new : Option (List ℕ)) (bs : List ℕ) (at n : ℕ) → Appends old mid (take at bs)
    → Appends mid new (take n (take (length bs - at) (drop at bs))) → Appends old new (take (at + n) bs)
appends_more None mid new bs at n first next = tt
appends_more (Some xs) None new bs at n first next = absurd first
appends_more (Some xs) (Some ys) None bs at n first next = next
appends_more (Some xs) (Some ys) (Some zs) bs at n first next =
    next ∙ ap (λ l. ys ++ take n l) (rest_of bs at) ∙ ap (λ l. l ++ take n (drop at bs)) first ∙ append_assoc xs (take at bs)
    (take n (drop at bs)) ∙ ap (λ l. xs ++ l) (sym (take-add at n bs))

-- of a whole list, the n bytes after the first h
pub after_held : (h n len : ℕ) (ys zs : List ℕ) → length ys ≡ len → h + n ≤ len
    → drop h (take (h + n - 0) (take len (ys ++ drop (length ys) zs))) ≡ take n (drop h ys)
after_held h n len ys zs whole fits =
    ap (λ k. drop h (take (h + n - 0) (take k (ys ++ drop (length ys) zs)))) (sym whole) ∙ ap (λ l. drop h (take (h + n - 0) l))
    (take-append_seam ys (drop (length ys) zs)) ∙ ap (λ k. drop h (take k ys)) (omega arith) ∙ drop-take h n ys
