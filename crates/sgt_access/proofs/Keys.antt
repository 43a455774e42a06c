-- Keys that pass the test of equality are the same.
use Rattle.std.proofs.Common.{◌≡◌, true, nat_eq}
use Rattle.std.specs.Ordering.{int_eq}
use Rattle.std.proofs.lemmas.Bool.{and_parts, eqb-true}
use Rattle.std.proofs.lemmas.Bool.Decides.{Decides-int_eq}
use Rattle.sgt_model.specs.Contents.{Key, key_eq}

pub same_key : (a b : Key) → key_eq a b ≡ true → a ≡ b
same_key a b h =
    let both = and_parts (nat_eq a.0 b.0) (int_eq a.1 b.1) h in
    let first : a.0 ≡ b.0 = eqb-true a.0 b.0 both.0 in
    let second : a.1 ≡ b.1 = (Decides-int_eq a.1 b.1).0 both.1 in
    λ i. (first i, second i)
