use Rattle.std.proofs.Common.{rules, ◌≡◌, Some, None, subst, arith}
use Rattle.std.proofs.lemmas.Grind.{common_steps}
use Rattle.std.proofs.lemmas.Option.{gets}
use Rattle.sgt_appends.specs.Runs.{MayRun}
use Rattle.sgt_appends.specs.Indexes.{position_of}
use Rattle.sgt_appends.proofs.Passed.{appender_is, appender_none, may_run, not_aborted, never_there}
use Rattle.sgt_appends.proofs.reads.written_by.Goals as goal

pub returns-in_err-by-clause-none : goal.returns-in_err-by-clause-none
returns-in_err-by-clause-none c = λ none u appends may.
    let nowhere : position_of c.args.appends.now c.args.key c.args.value ≡ None =
    grind (arith, common_steps, c.find.ensures, c.in_err-by.was, c.in_err-by.is) in
    appender_none c.args.history.now (position_of c.args.appends.now) c.args.key c.args.value u c.requires nowhere appends

pub returns-in_err-get-clause-none : goal.returns-in_err-get-clause-none
returns-in_err-get-clause-none c = λ none u appends may.
    let is : position_of c.args.appends.now c.args.key c.args.value ≡ Some (c.in_ok-by.by, c.in_ok-by.append) =
    grind (arith, common_steps, c.find.ensures, c.in_ok-by.was, c.in_ok-by.is) in
    never_there c.args.history.now c.in_ok-by.by (grind (arith, common_steps, gets, c.in_err-get.ensures.lookup))
    (subst (λ t. MayRun c.args.history.now t)
    (appender_is c.args.history.now (position_of c.args.appends.now) c.args.key c.args.value u (c.in_ok-by.by, c.in_ok-by.append) c.requires is
    appends) may)

pub returns-then-eq-clause-none : goal.returns-then-eq-clause-none
returns-then-eq-clause-none c = λ none u appends may.
    let is : position_of c.args.appends.now c.args.key c.args.value ≡ Some (c.in_ok-by.by, c.in_ok-by.append) =
    grind (arith, common_steps, c.find.ensures, c.in_ok-by.was, c.in_ok-by.is) in
    not_aborted c.args.history.now c.in_ok-by.by c.in_ok-get.field-0.now (grind (arith, common_steps, gets, c.in_ok-get.ensures.lookup))
    (search rules)
    (subst (λ t. MayRun c.args.history.now t)
    (appender_is c.args.history.now (position_of c.args.appends.now) c.args.key c.args.value u (c.in_ok-by.by, c.in_ok-by.append) c.requires is
    appends) may)

pub returns-clause-some : goal.returns-clause-some
returns-clause-some c = (
  grind (arith, common_steps, c.find.ensures, c.in_ok-by.was, c.in_ok-by.is),
  may_run c.args.history.now c.in_ok-by.by c.in_ok-get.field-0.now (grind (arith, common_steps, gets, c.in_ok-get.ensures.lookup))
      (λ aborted. grind (arith, common_steps, aborted, c.if-eq.ensures, c.if-eq.false)),
)
