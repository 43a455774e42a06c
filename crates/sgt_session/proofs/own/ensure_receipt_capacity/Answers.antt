use Rattle.std.proofs.Common.{◌≡◌, arith}
use Rattle.sgt_session.specs.Own.{capacity_needed}
use Rattle.sgt_session.proofs.Owns.{capacity_needed-enough}
use Rattle.sgt_session.proofs.own.ensure_receipt_capacity.Goals as goal

pub returns-else-matches-clause-spare : goal.returns-else-matches-clause-spare
returns-else-matches-clause-spare c =
    let is : c.capacity_needed.result ≡ capacity_needed c.args.event.now c.args.own.now.items =
    rw c.as_slice.ensures.value at c.capacity_needed.ensures in
    λ r. omega (arith, capacity_needed-enough c.args.event.now c.args.own.now.items r, is, c.in_ok-ensure_capacity.ensures.spare)
