-- What a check of known bytes comes to.
use Rattle.std.proofs.Common.{◌≡◌, take, ℕ, List, sym, subst}
use Rattle.std.specs.Prelude.{Option, Some, None, IfSome}
use Rattle.std.specs.Io.KnownBytes.{Appends}
use Rattle.sgt_clients.specs.declared.level.Answer.{Answer}

-- the lines of what was read are written
pub is_reported : (Says : List ℕ → List ℕ → Answer → Type 0) (rest held held' : Option (List ℕ)) (text lines : List ℕ) (answer : Answer)
    → IfSome rest (λ bytes. bytes ≡ text) → Says text lines answer → Appends held held' lines
    → IfSome rest (λ input. (output : List ℕ) × Appends held held' output × Says input output answer)
is_reported Says None held held' text lines answer same reported appended = tt
is_reported Says (Some bytes) held held' text lines answer same reported appended =
    (lines, appended, subst (λ t. Says t lines answer) (sym same) reported)

-- the first bytes of those lines are written
pub is_begun : (Says : List ℕ → List ℕ → Answer → Type 0) (rest held held' : Option (List ℕ)) (text lines : List ℕ) (answer : Answer)
    → IfSome rest (λ bytes. bytes ≡ text) → Says text lines answer → ((k : ℕ) × Appends held held' (take k lines))
    → IfSome rest (λ input. (output : List ℕ) × (answer : Answer) × (k : ℕ) × Says input output answer
    × Appends held held' (take k output))
is_begun Says None held held' text lines answer same reported part = tt
is_begun Says (Some bytes) held held' text lines answer same reported part =
    (lines, answer, part.0, subst (λ t. Says t lines answer) (sym same) reported, part.1)
