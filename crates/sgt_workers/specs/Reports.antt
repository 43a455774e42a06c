-- What the report of a run claims.
use Rattle.std.specs.Prelude.{◌≡◌, ℕ, List, reverse}
use Rattle.sgt_model.specs.Aborts.{AbortsHaveCause}
use Rattle.sgt_model.specs.CommitOrder.{CommitsInOrder}
use Rattle.sgt_model.specs.Contents.{Key}
use Rattle.sgt_model.specs.Databases.{contents_of, IsByKey}
use Rattle.sgt_model.specs.Legality.{Legal}
use Rattle.sgt_model.specs.Pairs.{Pair}
use Rattle.sgt_model.specs.Replay.{folded, ReplayAgrees}
use Rattle.sgt_model.specs.Configurations.{Configuration}
use Rattle.sgt_model.specs.Values.{settled}
use Rattle.sgt_model.specs.Paths.{Acyclic}
use Rattle.sgt_audit.specs.declared.job.Job.{Job}
use Rattle.sgt_audit.specs.AllOutcomes.{AllEnded, OutcomesStand}
use Rattle.sgt_workers.specs.declared.report.Report.{Report}

-- what holds for the report of a run of these jobs, if the engine has this configuration: the history is legal, and
-- each outcome is true of it. Each part of what every legal history has holds too, with the resulting database
pub record IsReportOf {N : Type 0} (s : Configuration) (jobs : List Job) (workers tries : ℕ) (r : Report N) : Type 0 where
  pub opening : (k : Key) → contents_of r.opening k ≡ s.opening k
  pub legal : Legal s (reverse r.history.entries)
  pub outcomes : OutcomesStand r.history.entries jobs r.outcomes.items workers tries
  pub all_ended : AllEnded r.history.entries
  pub values : (k : Key) → contents_of r.database k ≡ settled s.opening (reverse r.history.entries) k
  pub replayed : (k : Key) → contents_of r.database k ≡ (folded s (reverse r.history.entries)).last k
  pub by_key : IsByKey r.database
  pub replay : ReplayAgrees s (reverse r.history.entries)
  pub no_cycle : Acyclic (Pair (reverse r.history.entries))
  pub causes : AbortsHaveCause s (reverse r.history.entries)
  pub order : CommitsInOrder (reverse r.history.entries)
