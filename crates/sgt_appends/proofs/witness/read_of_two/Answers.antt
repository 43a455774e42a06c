use Rattle.std.proofs.Common.{rules, ◌≡◌, sym, subst}
use Rattle.sgt_appends.specs.Indexes.{AppendAt}
use Rattle.sgt_appends.proofs.witness.read_of_two.Goals as goal

pub returns-clause-second : goal.returns-clause-second
returns-clause-second c =
    let same : c.in_ok-key.key ≡ c.in_ok-other_key.other_key = search rules in
    subst (λ k. AppendAt c.args.history.now c.args.to c.args.second k c.in_ok-other_key.other) (sym same) c.in_ok-other_key.ensures.at
