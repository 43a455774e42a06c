use Rattle.sgt_appends.proofs.Exact.{exact_one}
use Rattle.sgt_appends.proofs.check.check_appends.Goals as goal

pub returns-clause-exact : goal.returns-clause-exact
returns-clause-exact c = exact_one c.args.history.now c.in_ok-verdict.verdict c.in_ok-verdict.ensures
