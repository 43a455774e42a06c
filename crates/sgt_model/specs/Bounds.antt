-- Which limits an engine can have.
use Rattle.std.specs.Prelude.{◌≤◌}
use Rattle.sgt_model.specs.declared.limits.Limits.{Limits}

-- from 1 live transaction at once to as many as are served; and from 1 to 4,000,000,000 starts
pub record AreInRange (limits : Limits) : Type 0 where
  pub some_live : 1 ≤ limits.live
  pub few_live : limits.live ≤ 32
  pub some_begin : 1 ≤ limits.begins
  pub few_begin : limits.begins ≤ 4000000000
