-- Numbers that are counted up to a cap.
use Rattle.std.proofs.Common.{◌≡◌, ℕ, ◌+◌, max, min, arith}

pub most_of_both : (cap both a b x y : ℕ) → both ≡ max a b → a ≡ min cap x → b ≡ min cap y → both ≡ min cap (max x y)
most_of_both cap both a b x y e f g = omega arith

-- the deepest of a list, with one more item seen
pub deepest_with : (cap whole so_far now one item here following : ℕ) → whole ≡ max so_far (min cap here) → here ≡ max item following
    → now ≡ max one so_far → one ≡ min cap item → whole ≡ max now (min cap following)
deepest_with cap whole so_far now one item here following e f g h = omega arith

-- the total of a list, with one more item seen
pub total_with : (cap whole so_far now one item here following : ℕ) → whole ≡ min cap (so_far + here) → here ≡ item + following
    → now ≡ min (so_far + one) cap → one ≡ min cap item → whole ≡ min cap (now + following)
total_with cap whole so_far now one item here following e f g h = omega arith
