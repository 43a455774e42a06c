-- Texts that grow by a line.
use Rattle.std.proofs.Common.{◌≡◌, ℕ, ◌≤◌, arith, length-append, List, [], ◌∷◌, ◌++◌, length, take, ap, sym, ◌∙◌, append_assoc}
use Rattle.std.proofs.lemmas.List.{append-nil}
use Rattle.std.proofs.lemmas.Grind.{common_steps}
use Rattle.std.proofs.Math.Seq.{take-append_seam}
use Rattle.std.specs.Prelude.{codes}
use Rattle.std.specs.Fmt.{decimal, signed_decimal}
use Rattle.sgt_model.specs.Contents.{Key}
use Rattle.sgt_notation.specs.Spellings.{bracketed}
use Rattle.sgt_format.specs.Decimals.{key_text}
use Rattle.sgt_notation.specs.Transcripts.{access_lines}

-- an item in brackets after a text, in pieces
item-pieces : (a lb tb sl id rb : List ℕ) → a ++ (lb ++ (tb ++ sl ++ id) ++ rb) ≡ a ++ lb ++ tb ++ sl ++ id ++ rb
item-pieces a lb tb sl id rb =
    sym (append_assoc a (lb ++ (tb ++ sl ++ id)) rb)
    ∙ ap (λ l. l ++ rb) (sym (append_assoc a lb (tb ++ sl ++ id))
    ∙ sym (append_assoc (a ++ lb) (tb ++ sl) id)
    ∙ ap (λ l. l ++ id) (sym (append_assoc (a ++ lb) tb sl)))

-- the line of an access in pieces
pub access_line : (letter : List ℕ) (t : ℕ) (k : Key) (a b c d e : List ℕ) → b ≡ a ++ letter ++ decimal t
    → c ≡ b ++ codes "[" ++ decimal k.0 → d ≡ c ++ codes "/" ++ signed_decimal k.1 → e ≡ d ++ codes "]\n"
    → e ≡ a ++ access_lines letter k (t ∷ [])
access_line letter t k a b c d e to_b to_c to_d to_e =
    let item = bracketed (key_text k) in
    let so_far = a ++ letter ++ decimal t in
    to_e
    ∙ ap (λ l. l ++ codes "]\n") (to_d
    ∙ ap (λ l. l ++ codes "/" ++ signed_decimal k.1) (to_c ∙ ap (λ l. l ++ codes "[" ++ decimal k.0) to_b))
    ∙ sym (append_assoc (so_far ++ codes "[" ++ decimal k.0 ++ codes "/" ++ signed_decimal k.1) (codes "]") (codes "\n"))
    ∙ ap (λ l. l ++ codes "\n") (sym (item-pieces so_far (codes "[") (decimal k.0) (codes "/") (signed_decimal k.1) (codes "]"))
    ∙ ap (λ l. l ++ item) (append_assoc a letter (decimal t))
    ∙ append_assoc a (letter ++ decimal t) item)
    ∙ append_assoc a (letter ++ decimal t ++ item) (codes "\n")
    ∙ ap (λ l. a ++ l) (sym (append-nil (letter ++ decimal t ++ item ++ codes "\n")))

-- what starts with more starts with less
pub still_begins : {A : Type 0} (old more mid new : List A) → mid ≡ old ++ more → take (length mid) new ≡ mid → take (length old) new ≡ old
still_begins old more mid new is kept =
    let longer : length old ≤ length mid = omega (arith, ap length is, length-append old more) in
    let same : take (length old) (take (length mid) new) ≡ take (length old) new = grind (arith, common_steps) in
    sym same ∙ ap (λ l. take (length old) l) (kept ∙ is) ∙ take-append_seam old more
