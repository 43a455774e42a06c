-- Procedures that are read one after another.
use Rattle.std.proofs.Common.{◌≡◌, ap, sym, ◌∙◌, subst, ℕ, zero, suc, ◌+◌, ◌<◌, length, get_or, take, List, [], ◌∷◌, ◌++◌, map, arith}
use Rattle.std.proofs.lemmas.List.{take_more, map-append}
use Rattle.serde_json.specs.Data.{Data}
use Rattle.serde_json.specs.View.{view}
use Rattle.serde_json.specs.declared.value.Value.{Value}
use Rattle.sgt_model.specs.Syntax.{ProcedureText}
use Rattle.sgt_format.specs.Procedures.{IsProcedure, AreProcedures, HasShapeError, HasLeastFlaw, NextIs}
use Rattle.sgt_format.specs.Openings.{first_number, ProcedureIsRefused, IsRefusedAs}
use Rattle.sgt_format.specs.declared.errors.OpeningError.{OpeningError}
use Rattle.sgt_format.specs.declared.errors.OpeningError.TheVariants.{NotJson, BadLine, BadLimits, BadOpening, ProcShape, ProcFlaw, NoMemory}

are_procedures-last : (trees : List Data) (programs : List ProcedureText) (tree : Data) (p : ProcedureText) → AreProcedures trees programs
    → IsProcedure tree p → AreProcedures (trees ++ tree ∷ []) (programs ++ p ∷ [])
are_procedures-last [] [] tree p are is = (is, tt)
are_procedures-last [] (q ∷ programs) tree p are is = absurd are
are_procedures-last (t ∷ trees) [] tree p are is = absurd are
are_procedures-last (t ∷ trees) (q ∷ programs) tree p are is = (are.0, are_procedures-last trees programs tree p are.1 is)

-- one more is read
pub one_more : (trees : List Value) (i : ℕ) (v : Value) (programs : List ProcedureText) (p : ProcedureText) → i < length trees
    → v ≡ get_or trees i v → AreProcedures (map view (take i trees)) programs → IsProcedure (view v) p
    → AreProcedures (map view (take (i + 1) trees)) (programs ++ p ∷ [])
one_more trees i v programs p h e are is =
    rw (take_more trees i v h ∙ ap (λ x. take i trees ++ x ∷ []) (sym e), map-append view (take i trees) (v ∷ []))
    (are_procedures-last (map view (take i trees)) programs (view v) p are is)

-- the next one has the property
next_is : (so : Data → Type 0) (trees : List Value) (i : ℕ) (v : Value) (programs : List ProcedureText) → i < length trees
    → v ≡ get_or trees i v → AreProcedures (map view (take i trees)) programs → so (view v) → NextIs so i (map view trees)
next_is so [] i v programs h e are is = absurd (omega arith)
next_is so (t ∷ trees) zero v programs h e are is = subst (λ x. so (view x)) e is
next_is so (t ∷ trees) (suc i) v [] h e are is = absurd are
next_is so (t ∷ trees) (suc i) v (p ∷ programs) h e are is = ((p, are.0), next_is so trees i v programs (omega arith) e are.1 is)

-- the next is refused
pub next_refused : (trees : List Value) (i number : ℕ) (v : Value) (programs : List ProcedureText) (error : OpeningError)
    → number ≡ first_number + i → i < length trees → v ≡ get_or trees i v → AreProcedures (map view (take i trees)) programs
    → IsRefusedAs number (view v) error → ProcedureIsRefused (map view trees) error
next_refused trees i number v programs NotJson same h e are is = absurd is
next_refused trees i number v programs BadLine same h e are is = absurd is
next_refused trees i number v programs BadLimits same h e are is = absurd is
next_refused trees i number v programs (BadOpening fault) same h e are is = absurd is
next_refused trees i number v programs (ProcShape n place) same h e are is =
    (i, is.0 ∙ same, next_is (HasShapeError place) trees i v programs h e are is.1)
next_refused trees i number v programs (ProcFlaw n flaw) same h e are is =
    (i, is.0 ∙ same, next_is (HasLeastFlaw flaw) trees i v programs h e are is.1)
next_refused trees i number v programs NoMemory same h e are is = tt
