-- Texts, piece by piece.
use Rattle.std.proofs.Common.{◌≡◌, ℕ, List, ◌++◌, sym, ap, ap₂, ◌∙◌, append_assoc}
use Rattle.std.specs.Prelude.{codes}
use Rattle.std.specs.Fmt.{decimal}
use Rattle.sgt_format.specs.declared.errors.OpeningError.{OpeningError}
use Rattle.sgt_format.specs.declared.errors.OpeningError.TheVariants.{NotJson, BadLine, BadLimits, BadOpening, ProcShape, ProcFlaw, NoMemory}
use Rattle.sgt_c.specs.declared.fault_struct.SgtFault.{SgtFault}
use Rattle.sgt_c.specs.FaultStructs.{HoldsFault}
use Rattle.sgt_c.specs.BufferTexts.{fault_text, place_text, text_by}

-- the words of an account's fault, after the text so far
pub opening_words : (before after : List ℕ) (s : SgtFault) → s.kind ≡ 19 → after ≡ before ++ codes "bad opening " ++ decimal s.number
    → after ≡ before ++ text_by s.kind s
opening_words before after s kind is =
    is ∙ append_assoc before (codes "bad opening ") (decimal s.number) ∙ ap (λ k. before ++ text_by k s) (sym kind)

-- the words of a shape error, after the text so far
pub shape_words : (before after : List ℕ) (s : SgtFault) → s.kind ≡ 20 → after ≡ before ++ text_by 20 s → after ≡ before ++ text_by s.kind s
shape_words before after s kind is = is ∙ ap (λ k. before ++ text_by k s) (sym kind)

-- the fields of a fault that was written have its text
pub fault_words : (s : SgtFault) (e : OpeningError) → HoldsFault s e → text_by s.kind s ≡ fault_text e
fault_words s NotJson reported = ap (λ k. text_by k s) reported
fault_words s BadLine reported = ap (λ k. text_by k s) reported
fault_words s BadLimits reported = ap (λ k. text_by k s) reported
fault_words s (BadOpening fault) (kind, flaw) = ap (λ k. text_by k s) kind ∙ ap (λ n. codes "bad opening " ++ decimal n) flaw
fault_words s (ProcShape procedure place) (kind, of_procedure, of_place) =
    ap (λ k. text_by k s) kind
    ∙ ap₂ (λ p l. codes "procedure " ++ decimal p ++ codes " shape" ++ place_text l) of_procedure of_place
fault_words s (ProcFlaw procedure flaw) (kind, of_procedure, of_flaw) =
    ap (λ k. text_by k s) kind
    ∙ ap₂ (λ p n. codes "procedure " ++ decimal p ++ codes " flaw " ++ decimal n) of_procedure of_flaw
fault_words s NoMemory reported = ap (λ k. text_by k s) reported
