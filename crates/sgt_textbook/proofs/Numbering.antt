-- A numbering of all keys: a number's parity says whether it ends here, once for each table below the key's, and then
-- the sign.
use Rattle.std.proofs.Common.{◌≡◌, ◌+◌, ℕ, zero, suc, ℤ, pos, negsuc, refl, sym, ap, arith}
use Rattle.sgt_textbook.specs.Textbook.{IsNumbering}
use Rattle.sgt_textbook.specs.Laws.{KeysCanBeNumbered}

twice : (m n : ℕ) → m + m ≡ n + n → m ≡ n
twice m n same = omega (arith, same)

twice_more : (m n : ℕ) → m + m + 1 ≡ n + n + 1 → m ≡ n
twice_more m n same = omega (arith, same)

odd : (m n : ℕ) → m + m ≡ n + n + 1 → ⊥
odd m n same = omega (arith, same)

-- the number of a record, with its sign
abbrev signed : ℤ → ℕ
signed (pos n) = n + n
signed (negsuc n) = n + n + 1

-- that number in a table
abbrev tabled : ℕ → ℕ → ℕ
tabled zero n = n + n
tabled (suc t) n = tabled t n + tabled t n + 1

signed_apart : (v w : ℤ) → signed v ≡ signed w → v ≡ w
signed_apart (pos m) (pos n) same = ap pos (twice m n same)
signed_apart (pos m) (negsuc n) same = absurd (odd m n same)
signed_apart (negsuc m) (pos n) same = absurd (odd n m (sym same))
signed_apart (negsuc m) (negsuc n) same = ap negsuc (twice_more m n same)

tabled_apart : (t u m n : ℕ) → tabled t m ≡ tabled u n → (t ≡ u) × (m ≡ n)
tabled_apart zero zero m n same = (refl, twice m n same)
tabled_apart zero (suc u) m n same = absurd (odd m (tabled u n) same)
tabled_apart (suc t) zero m n same = absurd (odd n (tabled t m) (sym same))
tabled_apart (suc t) (suc u) m n same = let below = tabled_apart t u m n (twice_more (tabled t m) (tabled u n) same) in
    (ap (λ v. suc v) below.0, below.1)

numbered_apart : IsNumbering (λ k. tabled k.0 (signed k.1))
numbered_apart j k same = let apart = tabled_apart j.0 k.0 (signed j.1) (signed k.1) same in
    let second = signed_apart j.1 k.1 apart.1 in λ i. (apart.0 i, second i)

pub numbering : KeysCanBeNumbered
numbering = ((λ k. tabled k.0 (signed k.1)), numbered_apart)
