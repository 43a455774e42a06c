use Rattle.std.proofs.Common.{rules, ◌≡◌, Some, subst}
use Rattle.std.specs.Prelude.{slice_get}
use Rattle.std.proofs.lemmas.Result.{IfOk-weaker}
use Rattle.sgt_classes.proofs.cycles.cycle_back.Goals as goal

pub returns : goal.returns
returns c =
    IfOk-weaker c.closed_path.result _ _
    (λ cycle made h are. made h (λ n e at.
    let from = c.in_ok-path.ensures.among n e (subst (λ l. slice_get l n ≡ Some e) (search rules) at) in
    are from.0 e from.1))
    c.closed_path.ensures
