use mir.Facts.{to_z-of_z}
use Rattle.std.proofs.Common.{◌≤◌, ap, subst, ◌∙◌}
use Rattle.std.specs.Prelude.{IsNone}
use Rattle.sgt_model.specs.Numbers.{IsValue}
use Rattle.sgt_c.specs.DeskStructs.{asked_in}
use Rattle.sgt_c.proofs.DeskTurns.{none_requested}
use Rattle.sgt_c.proofs.shared.calls.asked_of.Goals as goal

pub returns-in-Some-clause-none : goal.returns-in-Some-clause-none
returns-in-Some-clause-none c =
    none_requested c.args.kind c.args.table c.args.number c.args.value c.read_asked.result
    (c.read_asked.ensures
    ∙ ap (λ z. asked_in c.args.kind c.in-Some.key z) (to_z-of_z c.ranges.value)
    ∙ ap (λ k. asked_in c.args.kind k c.args.value) c.in-Some.ensures.key
    ∙ ap (λ z. asked_in c.args.kind (c.args.table, z) c.args.value) (to_z-of_z c.ranges.number))
    (λ f. absurd (cc (subst IsNone c.in-Some.is
    (c.keyed.ensures.none.1 (λ r. f (subst (λ z. (c.args.table ≤ 7) × IsValue z) (to_z-of_z c.ranges.number) r))))))
