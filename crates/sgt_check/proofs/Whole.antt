-- What a check of known bytes comes to.
use Rattle.std.proofs.Common.{◌≡◌, ◌≢◌, ◌<◌, length, take, ℕ, List, refl, sym, subst}
use Rattle.std.specs.Prelude.{Option, Some, None, IfSome}
use Rattle.std.specs.Io.KnownBytes.{Appends}
use Rattle.sgt_notation.specs.declared.fault.NotationFault.{NotationFault}
use Rattle.sgt_check.specs.Checks.{IsFaultOf}
use Rattle.sgt_check.specs.declared.fault.CheckFault.{CheckFault}
use Rattle.sgt_check.specs.declared.fault.CheckFault.TheVariants.{Notation, NoOperations, TooLong, Reading, Writing, NoMemory}

-- the lines of what was read are written
pub is_reported : {A : Type 0} (Says : List ℕ → List ℕ → A → Type 0) (rest held held' : Option (List ℕ)) (text lines : List ℕ) (v : A)
    → IfSome rest (λ bytes. bytes ≡ text) → Says text lines v → Appends held held' lines
    → IfSome rest (λ input. (output : List ℕ) × Appends held held' output × Says input output v)
is_reported Says None held held' text lines v same reported appended = tt
is_reported Says (Some bytes) held held' text lines v same reported appended =
    (lines, appended, subst (λ t. Says t lines v) (sym same) reported)

-- the first bytes of those lines are written
pub is_begun : {A : Type 0} (Says : List ℕ → List ℕ → A → Type 0) (rest held held' : Option (List ℕ)) (text lines : List ℕ) (v : A)
    → IfSome rest (λ bytes. bytes ≡ text) → Says text lines v → ((k : ℕ) × Appends held held' (take k lines))
    → IfSome rest (λ input. (output : List ℕ) × (v : A) × (k : ℕ) × Says input output v
    × Appends held held' (take k output))
is_begun Says None held held' text lines v same reported part = tt
is_begun Says (Some bytes) held held' text lines v same reported part =
    (lines, v, part.0, subst (λ t. Says t lines v) (sym same) reported, part.1)

-- an error of the text is an error of the input
pub text_fault : (rest : Option (List ℕ)) (text : List ℕ) (f : CheckFault) → IfSome rest (λ bytes. bytes ≡ text) → IsFaultOf text f
    → IfSome rest (λ input. IsFaultOf input f)
text_fault None text f same is = tt
text_fault (Some bytes) text f same is = subst (λ t. IsFaultOf t f) (sym same) is

-- an error of reading is an error of the input
pub input_fault : (rest : Option (List ℕ)) (f : CheckFault) → (f ≡ TooLong → IfSome rest (λ bytes. 268435456 < length bytes))
    → ((n : NotationFault) → f ≢ Notation n) → f ≢ NoOperations → IfSome rest (λ input. IsFaultOf input f)
input_fault None f long other some = tt
input_fault (Some bytes) (Notation n) long other some = absurd (other n refl)
input_fault (Some bytes) NoOperations long other some = absurd (some refl)
input_fault (Some bytes) TooLong long other some = long refl
input_fault (Some bytes) Reading long other some = tt
input_fault (Some bytes) Writing long other some = tt
input_fault (Some bytes) NoMemory long other some = tt
