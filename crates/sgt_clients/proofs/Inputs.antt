-- An input in JSON, or the text in JSON of one in EDN.
use Rattle.std.proofs.Common.{◌≡◌, ◌∙◌, ℕ, Bool, true, false, List, refl, sym}
use Rattle.std.specs.Prelude.{if◌then◌else◌}
use Rattle.sgt_edn.specs.Scans.{is_edn, json_of_edn}
use Rattle.sgt_clients.specs.Checks.{as_json}

if_true : (b : Bool) (x y : List ℕ) → b ≡ true → (if b then x else y) ≡ x
if_true true x y is = refl
if_true false x y is = absurd (cc)

if_false : (b : Bool) (x y : List ℕ) → b ≡ false → (if b then x else y) ≡ y
if_false true x y is = absurd (cc)
if_false false x y is = refl

-- the text in JSON of an input in EDN
pub of_edn : (input json : List ℕ) → is_edn input ≡ true → json ≡ json_of_edn input → json ≡ as_json input
of_edn input json is same = same ∙ sym (if_true (is_edn input) (json_of_edn input) input is)

-- an input that is not in EDN
pub of_json : (input : List ℕ) → is_edn input ≡ false → input ≡ as_json input
of_json input is = sym (if_false (is_edn input) (json_of_edn input) input is)
