use Rattle.std.proofs.Common.{rules, ◌≡◌, ◌≤◌, ◌<◌, ◌+◌, ◌++◌, ◌∷◌, [], arith, length, sym, ◌∙◌, ap, subst, Err, Some, slice_get}
use Rattle.std.specs.Prelude.{IfErr, vec_len}
use Rattle.sgt_input.specs.Intake.{cut_left}
use Rattle.sgt_input.specs.Ends.{IsOfInput}
use Rattle.sgt_bank.specs.Taking.{TakesCall, EndsWith}
use Rattle.sgt_bank.proofs.JobsInTurn.{requested-none, requested-next, requested-many, requested-fault, numbered-snoc, length-snoc, length-numbered, numbered-at}
use Rattle.sgt_bank.proofs.jobs.read_jobs.Goals as goal

pub loop-jobs-init : goal.loop-jobs-init
loop-jobs-init g c = record {
  requested = (
    [],
    search rules,
    omega arith,
    omega arith,
    requested-none (c.args.lines.now.number + 1) (cut_left c.args.lines.now (g.S.Source.rest c.args.source.now)),
  );
  counted = search (rules, arith);
  few = search rules;
  reading = search rules;
}

pub returns-in_err-call-clause-fault : goal.returns-in_err-call-clause-fault
returns-in_err-call-clause-fault g c =
    let start = c.loop-jobs.invariant.requested in
    let failed : c.from_residual.result ≡ Err c.in_err-call.field-0.0 = search rules in
    subst (λ r. IfErr r (λ f. IsOfInput f → EndsWith (c.args.lines.now.number + 1) (c.args.lines.now.number + 1) (Err f)
    (cut_left c.args.lines.now (g.S.Source.rest c.args.source.now))))
    (sym failed)
    (λ exact. requested-fault (c.args.lines.now.number + 1) _ (cut_left c.loop-jobs.lines (g.S.Source.rest c.loop-jobs.source)) start.0
    (c.loop-jobs.lines.number + 1) _ (search (rules, arith)) start.4
    (c.in_err-call.ensures.fault exact (c.args.lines.now.number + 1)))

pub returns-then-len-eq-MOST_JOBS-clause-fault : goal.returns-then-len-eq-MOST_JOBS-clause-fault
returns-then-len-eq-MOST_JOBS-clause-fault g c =
    let start = c.loop-jobs.invariant.requested in
    let asks : TakesCall (cut_left c.loop-jobs.lines (g.S.Source.rest c.loop-jobs.source)) c.in-Some.call
    (cut_left c.next_call.new.lines (g.S.Source.rest c.next_call.new.source)) = search rules in
    let jobs : length c.loop-jobs.jobs.items ≡ length start.0 = ap length start.1 ∙ length-numbered 0 start.0 in
    let count : vec_len c.loop-jobs.jobs ≡ length start.0 = search (rules, jobs) in
    let many : length start.0 ≡ 1000000 = search (rules, arith) in
    λ exact. requested-many (c.args.lines.now.number + 1) _ _ _ start.0 c.in-Some.call many start.4 asks

pub overflow_cast-job : goal.overflow_cast-job
overflow_cast-job g c =
    let start = c.loop-jobs.invariant.requested in
    let jobs : length c.loop-jobs.jobs.items ≡ length start.0 = ap length start.1 ∙ length-numbered 0 start.0 in
    let count : vec_len c.loop-jobs.jobs ≡ length start.0 = search (rules, jobs) in
    search (rules, arith)

pub loop-jobs-preserved : goal.loop-jobs-preserved
loop-jobs-preserved g c =
    let start = c.loop-jobs.invariant.requested in
    let asks : TakesCall (cut_left c.loop-jobs.lines (g.S.Source.rest c.loop-jobs.source)) c.in-Some.call
    (cut_left c.next_call.new.lines (g.S.Source.rest c.next_call.new.source)) = search rules in
    let jobs : length c.loop-jobs.jobs.items ≡ length start.0 = ap length start.1 ∙ length-numbered 0 start.0 in
    let count : vec_len c.loop-jobs.jobs ≡ length start.0 = search (rules, jobs) in
    let few : length start.0 < 1000000 = search (rules, arith) in
    record {
      requested = (
        start.0 ++ c.in-Some.call ∷ [],
        search (rules, start.1, numbered-snoc 0 start.0 c.in-Some.call, count),
        search (rules, arith, length-snoc start.0 c.in-Some.call),
        grind (arith, length-snoc start.0 c.in-Some.call, few),
        requested-next (c.args.lines.now.number + 1) _ _ _ start.0 c.in-Some.call few start.4 asks,
      );
      counted = search (rules, arith);
      few = search rules;
      reading = search rules;
    }

pub returns-clause-numbered : goal.returns-clause-numbered
returns-clause-numbered g c =
    let start = c.loop-jobs.invariant.requested in
    let jobs : length c.loop-jobs.jobs.items ≡ length start.0 = ap length start.1 ∙ length-numbered 0 start.0 in (
      subst (λ n. n ≤ 1000000) (sym jobs) start.3,
      λ i job at.
          let from_zero : 0 + i ≡ i = omega arith in
          numbered-at 0 start.0 i job (subst (λ js. slice_get js i ≡ Some job) start.1 at) ∙ from_zero,
    )
