-- Texts that grow piece by piece.
use Rattle.std.proofs.Common.{◌≡◌, ℕ, ◌+◌, List, ◌++◌, refl, ap, sym, ◌∙◌, append_assoc, append-nil, ◌∷◌, []}
use Rattle.std.specs.Prelude.{Option, Some, Result, Ok, Err, OnOk, slice_get, codes}
use Rattle.std.specs.Option.{option_map_or}
use Rattle.std.specs.Fmt.{decimal}
use Rattle.sgt_classes.specs.declared.operation.Operation.{Operation}
use Rattle.sgt_classes.specs.declared.operation.Violation.{Violation}
use Rattle.sgt_notation.specs.declared.history.History.{History}
use Rattle.sgt_notation.specs.Spellings.{spelling}
use Rattle.sgt_notation.specs.Readings.{texts}
use Rattle.sgt_check.specs.ReportText.{placed, class_text}

-- a piece after the text so far
pub grow : (start before after : List ℕ) (came piece : List ℕ) → before ≡ start ++ came → after ≡ before ++ piece
    → after ≡ start ++ (came ++ piece)
grow start before after came piece first second = second ∙ ap (λ l. l ++ piece) first ∙ append_assoc start came piece

-- words and a number after the text so far
pub grow_number : (start before after : List ℕ) (came words number : List ℕ) → before ≡ start ++ came
    → after ≡ (before ++ words) ++ number → after ≡ start ++ ((came ++ words) ++ number)
grow_number start before after came words number first second =
    second ∙ ap (λ l. (l ++ words) ++ number) first ∙ ap (λ l. l ++ number) (append_assoc start came words)
    ∙ append_assoc start (came ++ words) number

-- what follows from a good end
pub on_ok : {T E : Type 0} (r : Result T E) (P Q : Type 0) → (P → Q) → OnOk r P → OnOk r Q
on_ok (Ok x) P Q f p = f p
on_ok (Err e) P Q f p = tt

-- a class that is broken
pub reported_no : (name : List ℕ) (why : Violation → List ℕ) (o : Option Violation) (v : Violation) → o ≡ Some v
    → name ++ codes " no: " ++ why v ≡ class_text name why o
reported_no name why o v is = sym (ap (class_text name why) is)

-- the text of an operation that there is
pub placed_there : (h : History) (i : ℕ) (op : Operation) → slice_get h.operations.items i ≡ Some op
    → placed h i ≡ spelling (texts h) op ++ codes " (" ++ decimal (i + 1) ++ codes ")"
placed_there h i op is = ap (λ o. option_map_or (λ op. spelling (texts h) op ++ codes " (" ++ decimal (i + 1) ++ codes ")") o []) is
