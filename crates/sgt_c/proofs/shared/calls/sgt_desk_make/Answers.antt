use mir.Facts.{to_z-of_z}
use Rattle.std.proofs.Common.{rules, subst}
use Rattle.std.specs.Prelude.{IsNone}
use Rattle.sgt_c.specs.DeskTurns.{IsRunnable}
use Rattle.sgt_c.proofs.DeskTurns.{no_status}
use Rattle.sgt_c.proofs.shared.calls.sgt_desk_make.Goals as goal

pub returns-clause-unchanged : goal.returns-clause-unchanged
returns-clause-unchanged c is = no_status c.make_lent-made.result c.make_lent-made.ensures.turns is

pub returns-clause-visits : goal.returns-clause-visits
returns-clause-visits c = (
  (
    λ e. absurd (c.make_lent-made.ensures.turns.1 e),
    λ f. absurd (cc (subst IsNone c.in-Some.is
        (c.asked_of.ensures.none.1 (λ a. f (subst (IsRunnable c.args.kind c.args.table) (to_z-of_z c.ranges.number) a))))),
  ),
  search rules,
  search rules,
  search rules,
)
