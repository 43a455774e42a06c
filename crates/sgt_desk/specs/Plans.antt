-- Cuts that a configuration asks for, and tries that are made alone.
use Rattle.std.specs.Prelude.{◌≡◌, ◌⊎◌, ◌↔◌, ℕ, ◌+◌, ◌≤◌, ◌<◌, Bool, true, false, not, ◌&&◌, ◌||◌, nat_le, nat_lt, min, Some, None}
use Rattle.sgt_desk.specs.declared.plan.Plan.{Plan}
use Rattle.sgt_desk.specs.declared.plan.Planned.{Planned}
use Rattle.sgt_desk.specs.declared.plan.Planned.TheVariants.{Nothing, Cut, Pause}
use Rattle.sgt_desk.specs.declared.alone.Solo.{Solo}

-- ---- cuts

-- a cut is due: the plan asks for cuts, and the history has enough entries
abbrev pub is_due : Plan → ℕ → Bool
is_due p entries = nat_lt 0 p.after && nat_le p.at entries

-- the sum, as far as a number can grow
abbrev pub sum : ℕ → ℕ → ℕ
sum a b = min (a + b) 18446744073709551615

-- starts wait until this time: as long as the plan says from now on, or as they do already, if this time has not come
abbrev pub CanRest : Plan → ℕ → ℕ → Type 0
CanRest p now until = ((p.pause ≡ None) × (0 < p.patience) × (until ≡ sum now p.patience)) ⊎ ((p.pause ≡ Some until) × (now < until))

-- the next cut is due after as many more entries as the plan says, and no start waits for it
abbrev pub IsPutOff : ℕ → Plan → Plan → Type 0
IsPutOff entries before after = (after.at ≡ sum entries before.after) × (after.pause ≡ None)

-- what the configuration asks for is the same
abbrev pub SamePlan : Plan → Plan → Type 0
SamePlan before after = (after.after ≡ before.after) × (after.patience ≡ before.patience)

-- starts have waited for a cut as long as the plan says
abbrev pub HasWaited : Plan → ℕ → Type 0
HasWaited p now = (until : ℕ) × (p.pause ≡ Some until) × (until ≤ now)

-- what a plan asks for next, and what it is then
pub record PlanTurn (entries : ℕ) (is_busy : Bool) (now : ℕ) (before : Plan) (planned : Planned) (after : Plan) (wakes : Bool) : Type 0 where
  pub cut : (planned ≡ Cut) ↔ ((is_due before entries ≡ true) × (is_busy ≡ false))
  pub pause : (until : ℕ) → (planned ≡ Pause until) ↔ ((is_due before entries ≡ true) × (is_busy ≡ true) × CanRest before now until)
  pub paused : (until : ℕ) → planned ≡ Pause until → after.pause ≡ Some until
  pub at : (after.at ≡ before.at) ⊎ HasWaited before now
  pub cut_next : planned ≡ Cut → after ≡ before
  pub nothing : planned ≡ Nothing → before.pause ≡ None → after ≡ before
  pub put_off : (until : ℕ) → is_due before entries ≡ true → is_busy ≡ true → before.pause ≡ Some until → until ≤ now
      → IsPutOff entries before after × (wakes ≡ true)
  pub not_due : is_due before entries ≡ false → after ≡ before
  pub same : SamePlan before after

-- ---- tries that are made alone

-- a start waits for others: for all that are live, if it is to be alone; else for one that is alone, and, unless its own thread has
-- something live, for one that is to be
abbrev pub waits_for_others : Solo → Bool → ℕ → Bool → Bool
waits_for_others s true live has_own = nat_lt 0 live
waits_for_others s false live has_own = (s.is_live && nat_lt 0 live) || (nat_lt 0 s.waiting && not has_own)
