-- The test of a value decides whether it is one.
use Rattle.std.proofs.Common.{◌≡◌, ℤ, pos, negsuc, ◌≤ℤ◌, Bool, true, false, refl, sym, subst, T}
use Rattle.std.specs.Prelude.{int_le}
use Rattle.std.specs.Bool.{Decides}
use Rattle.std.proofs.lemmas.Bool.Decides.{Decides-and}
use Rattle.sgt_model.specs.Numbers.{IsValue, is_value}

of_test : (b : Bool) → T b → b ≡ true
of_test true t = refl
of_test false t = absurd t

Decides-int_le : (a b : ℤ) → Decides (int_le a b) (a ≤ℤ b)
Decides-int_le a b = (λ e. record { le = subst T (sym e) tt }, λ below. of_test (int_le a b) below.le)

pub Decides-is_value : (v : ℤ) → Decides (is_value v) (IsValue v)
Decides-is_value v = Decides-and _ _ (Decides-int_le (negsuc 999999999999998) v) (Decides-int_le v (pos 999999999999999))
