use Rattle.std.proofs.Common.{refl}
use Rattle.sgt_workers.specs.declared.errors.PoolError.TheVariants as error
use Rattle.sgt_workers.proofs.Pasts.{same_fault, no_fault}
use Rattle.sgt_workers.proofs.runs.run.Goals as goal

pub returns-in-Err-clause-bad_workers : goal.returns-in-Err-clause-bad_workers
returns-in-Err-clause-bad_workers g c = same_fault c.check.result _ error.BadWorkers _ c.in-Err.is refl c.check.ensures.bad_workers

pub returns-in-Err-clause-bad_tries : goal.returns-in-Err-clause-bad_tries
returns-in-Err-clause-bad_tries g c = same_fault c.check.result _ error.BadTries _ c.in-Err.is refl c.check.ensures.bad_tries

pub returns-in-Err-clause-bad_limits : goal.returns-in-Err-clause-bad_limits
returns-in-Err-clause-bad_limits g c = same_fault c.check.result _ error.BadLimits _ c.in-Err.is refl c.check.ensures.bad_limits

pub returns-in-Err-clause-bad_jobs : goal.returns-in-Err-clause-bad_jobs
returns-in-Err-clause-bad_jobs g c = same_fault c.check.result _ error.BadJobs _ c.in-Err.is refl c.check.ensures.bad_jobs

pub returns-clause-bad_workers : goal.returns-clause-bad_workers
returns-clause-bad_workers g c =
    no_fault c.check.result c.report_of.result error.BadWorkers _ c.in_default.is c.report_of.ensures.error
    (λ bad. bad) c.check.ensures.bad_workers

pub returns-clause-bad_tries : goal.returns-clause-bad_tries
returns-clause-bad_tries g c = no_fault c.check.result c.report_of.result error.BadTries _ c.in_default.is c.report_of.ensures.error
    (λ bad. bad) c.check.ensures.bad_tries

pub returns-clause-bad_limits : goal.returns-clause-bad_limits
returns-clause-bad_limits g c =
    no_fault c.check.result c.report_of.result error.BadLimits _ c.in_default.is c.report_of.ensures.error
    (λ bad. bad) c.check.ensures.bad_limits

pub returns-clause-bad_jobs : goal.returns-clause-bad_jobs
returns-clause-bad_jobs g c = no_fault c.check.result c.report_of.result error.BadJobs _ c.in_default.is c.report_of.ensures.error
    (λ bad. bad) c.check.ensures.bad_jobs
