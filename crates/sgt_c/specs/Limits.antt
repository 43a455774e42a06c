-- The limits of an engine, as C reads them.
use Rattle.std.specs.Prelude.{ℕ, List, [], ◌∷◌}
use Rattle.sgt_model.specs.declared.limits.Limits.{Limits}
use Rattle.sgt_model.specs.declared.limits.Asks.{Asks}
use Rattle.sgt_model.specs.declared.limits.Asks.TheVariants.{AtStep, AtCommit}

-- 0: codes are reported at the step. 1: at the commit
abbrev pub code_time : Asks → ℕ
code_time AtStep = 0
code_time AtCommit = 1

-- the most live transactions, the most starts, and when codes are reported
abbrev pub limits_of : Limits → List ℕ
limits_of l = l.live ∷ l.begins ∷ code_time l.asks ∷ []
