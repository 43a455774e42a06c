use Rattle.std.proofs.Common.{rules, ◌≡◌, [], refl}
use Rattle.sgt_smallbank.proofs.Forks.{before_branches}
use Rattle.sgt_smallbank.proofs.statements.only_where.Goals as goal

pub returns : goal.returns
returns c =
    let nothing : c.new.result.items ≡ [] = search rules in
    before_branches c.args.cond c.args.yes c.new.result _ _ refl nothing
