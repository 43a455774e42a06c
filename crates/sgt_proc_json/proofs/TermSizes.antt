-- How large an expression is.
use Rattle.std.specs.Prelude.{ℕ, ◌+◌}
use Rattle.sgt_model.specs.Syntax.{ExprText, sum, diff, product, quotient}

-- how many parts it has
abbrev pub term_size : ExprText → ℕ
term_size (sum a b) = term_size a + term_size b + 2
term_size (diff a b) = term_size a + term_size b + 2
term_size (product a b) = term_size a + term_size b + 2
term_size (quotient a b) = term_size a + term_size b + 2
term_size _ = 1
