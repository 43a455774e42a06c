use Rattle.std.proofs.Common.{◌≡◌, ◌<◌, [], length, drop, refl, sym, subst, ◌∙◌, arith}
use Rattle.std.proofs.lemmas.List.{drop_all}
use Rattle.std.proofs.lemmas.Bool.{false≢true}
use Rattle.sgt_audit.specs.Outcomes.{OutcomeStands}
use Rattle.sgt_audit.proofs.Zips.{same_length, zip_put, zip_cut}
use Rattle.sgt_audit.proofs.stands.all_stand.Goals as goal

pub returns-then-jobs-outcomes : goal.returns-then-jobs-outcomes
returns-then-jobs-outcomes g c = (
  (λ t. absurd (false≢true t)),
  λ all. absurd (c.if-jobs-outcomes.true (same_length _ _ _ all)),
)

pub returns-then-not-stands : goal.returns-then-not-stands
returns-then-not-stands g c =
    let in_jobs : c.loop-i.i < length c.args.jobs.now = c.loop-i-test.true in
    let in_outcomes : c.loop-i.i < length c.args.outcomes.now =
    subst (λ n. c.loop-i.i < n) c.if-jobs-outcomes.false in_jobs in (
      (λ t. absurd (false≢true t)),
      λ all. absurd (false≢true (sym c.if-not-stands.true ∙ c.stands.ensures.1 (zip_cut
          (OutcomeStands c.args.history.now.entries c.args.tries) c.args.jobs.now c.args.outcomes.now c.loop-i.i c.index-jobs-i.result
          c.index-outcomes-i.result in_jobs in_outcomes c.index-jobs-i.is c.index-outcomes-i.is (c.loop-i.invariant.1 all)).0)),
    )

pub loop-i-preserved : goal.loop-i-preserved
loop-i-preserved g c =
    let stand = OutcomeStands c.args.history.now.entries c.args.tries in
    let job = c.index-jobs-i.result in
    let outcome = c.index-outcomes-i.result in
    let in_jobs : c.loop-i.i < length c.args.jobs.now = c.loop-i-test.true in
    let in_outcomes : c.loop-i.i < length c.args.outcomes.now =
    subst (λ n. c.loop-i.i < n) c.if-jobs-outcomes.false in_jobs in (
      (λ rest. c.loop-i.invariant.0 (zip_put stand c.args.jobs.now c.args.outcomes.now c.loop-i.i job outcome in_jobs in_outcomes
          c.index-jobs-i.is c.index-outcomes-i.is (c.stands.ensures.0 c.if-not-stands.false) rest)),
      λ all. (zip_cut stand c.args.jobs.now c.args.outcomes.now c.loop-i.i job outcome in_jobs in_outcomes
          c.index-jobs-i.is c.index-outcomes-i.is (c.loop-i.invariant.1 all)).1,
    )

pub loop-i-init : goal.loop-i-init
loop-i-init g c = ((λ all. all), λ all. all)

pub returns : goal.returns
returns g c =
    let no_job : drop c.loop-i.i c.args.jobs.now ≡ [] = drop_all c.loop-i.i c.args.jobs.now (omega (arith, c.loop-i-test.false)) in
    let no_outcome : drop c.loop-i.i c.args.outcomes.now ≡ [] = drop_all c.loop-i.i c.args.outcomes.now
    (omega (arith, c.loop-i-test.false, c.if-jobs-outcomes.false)) in
    ((λ t. c.loop-i.invariant.0 (rw (no_job, no_outcome) tt)), λ all. refl)
