-- The bound for procedures that passed the check.
use Rattle.std.specs.Prelude.{◌≡◌, ◌≤◌, ◌*◌, ℕ, Some}
use Rattle.sgt_model.specs.Syntax.{ProcedureText}
use Rattle.sgt_model.specs.Configurations.{Configuration}
use Rattle.sgt_model.specs.Laws.{InEach}
use Rattle.sgt_proc.specs.Flaws.{IsFlawless}
use Rattle.sgt_progress.specs.Drains.{events_left}

-- each procedure passed the check
abbrev pub AreChecked : Configuration → Type 0
AreChecked s = (n : ℕ) (p : ProcedureText) → s.rules.procedures n ≡ Some p → IsFlawless p

-- then 64 accesses at most and an end are left of each transaction that may be live
abbrev pub CheckedDrainSoon : Type 0
CheckedDrainSoon = InEach (λ s past. AreChecked s → events_left s past ≤ s.rules.limits.live * 65)
