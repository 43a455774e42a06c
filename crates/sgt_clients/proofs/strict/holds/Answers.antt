use Rattle.std.proofs.Common.{refl, subst, sym}
use Rattle.sgt_clients.specs.Findings.{Shows}
use Rattle.sgt_clients.proofs.strict.holds.Goals as goal

pub returns-in-Some-Observed : goal.returns-in-Some-Observed
returns-in-Some-Observed c = λ yes.
    subst (λ w. Shows c.args.history.now c.args.spans.now c.args.step.now.from c.args.step.now.to w) (sym c.in-Some-Observed.is)
    (c.all_hold.ensures yes 0 _ refl)
