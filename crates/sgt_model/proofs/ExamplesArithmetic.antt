-- Worked arithmetic: products and quotients, on either side of 0 and at the ends of what is a value.
use Rattle.std.specs.Prelude.{◌≡◌, ℤ, pos, negsuc, [], Ok, Err, refl}
use Rattle.sgt_model.specs.Syntax.{num, product, quotient}
use Rattle.sgt_model.specs.Meaning.{Got, is, over, value_of, fresh}
use Rattle.sgt_model.specs.Executions.{evaluate, workspace_of}
use Rattle.sgt_model.proofs.ExampleConfigurations.{opening}

-- what two literals give
abbrev times : ℤ → ℤ → Got
times x y = value_of (product (num x) (num y)) [] fresh

abbrev by : ℤ → ℤ → Got
by x y = value_of (quotient (num x) (num y)) [] fresh

-- 7 times -6
product_of_signs : times (pos 7) (negsuc 5) ≡ is (negsuc 41)
product_of_signs = refl

product_of_negatives : times (negsuc 6) (negsuc 5) ≡ is (pos 42)
product_of_negatives = refl

-- the greatest value is three times 333,333,333,333,333; the least is that with its sign turned
product_at_most : times (pos 333333333333333) (pos 3) ≡ is (pos 999999999999999)
product_at_most = refl

product_at_least : times (pos 333333333333333) (negsuc 2) ≡ is (negsuc 999999999999998)
product_at_least = refl

-- one more is no value, on either side
product_above : times (pos 500000000000000) (pos 2) ≡ over
product_above = refl

product_below : times (pos 500000000000000) (negsuc 1) ≡ over
product_below = refl

-- a product that is 0 in 64 bits
product_past_64_bits : times (pos 4294967296) (pos 4294967296) ≡ over
product_past_64_bits = refl

-- 7 by 2 is 3, and -7 by 2 and 7 by -2 are -3: towards zero; -7 by -2 is 3
quotient_of_both : by (pos 7) (pos 2) ≡ is (pos 3)
quotient_of_both = refl

quotient_of_negative : by (negsuc 6) (pos 2) ≡ is (negsuc 2)
quotient_of_negative = refl

quotient_by_negative : by (pos 7) (negsuc 1) ≡ is (negsuc 2)
quotient_by_negative = refl

quotient_of_negatives : by (negsuc 6) (negsuc 1) ≡ is (pos 3)
quotient_of_negatives = refl

-- -1 by 2 is 0
quotient_of_less : by (negsuc 0) (pos 2) ≡ is (pos 0)
quotient_of_less = refl

-- by 0 there is none, of 0 neither
quotient_by_zero : by (pos 7) (pos 0) ≡ over
quotient_by_zero = refl

quotient_of_zeros : by (pos 0) (pos 0) ≡ over
quotient_of_zeros = refl

-- the plain meaning: a value, or code 1000
evaluated_quotient : evaluate (quotient (num (negsuc 6)) (num (pos 2))) [] (workspace_of opening) ≡ Ok (negsuc 2)
evaluated_quotient = refl

evaluated_by_zero : evaluate (quotient (num (pos 7)) (num (pos 0))) [] (workspace_of opening) ≡ Err 1000
evaluated_by_zero = refl

evaluated_product : evaluate (product (num (pos 500000000000000)) (num (pos 2))) [] (workspace_of opening) ≡ Err 1000
evaluated_product = refl
