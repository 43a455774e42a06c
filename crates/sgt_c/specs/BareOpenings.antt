-- The initial state of an engine that is opened with limits only.
use Rattle.std.specs.Prelude.{ℕ, ◌≤◌, cond, nat_eq}
use Rattle.sgt_model.specs.declared.limits.Asks.TheVariants.{AtStep, AtCommit}
use Rattle.sgt_model.specs.declared.limits.Limits.{Limits}
use Rattle.sgt_model.specs.Bounds.{AreInRange}

-- the limits that three numbers give; if the third is 1, codes are reported at commit
abbrev pub limits_by : ℕ → ℕ → ℕ → Limits
limits_by live begins asks = record { live = live; begins = begins; asks = cond (nat_eq asks 1) AtCommit AtStep }

-- the numbers are in their ranges
abbrev pub AreLimits : ℕ → ℕ → ℕ → Type 0
AreLimits live begins asks = AreInRange (limits_by live begins asks) × (asks ≤ 1)
