use Rattle.std.proofs.Common.{rules, refl}
use Rattle.sgt_model.specs.declared.kind.Kind.TheVariants.{Look, Store}
use Rattle.sgt_explain.proofs.Conflicts.{first_there, none_there}
use Rattle.sgt_explain.proofs.search.earlier.Goals as goal
use Rattle.sgt_explain.proofs.search.earlier.Goals.{else-is_none-via-then-is_none+else-is_none-2, else-is_none-via-else-is_none}

pub returns-then-is_none-2-clause-some : goal.returns-then-is_none-2-clause-some
returns-then-is_none-2-clause-some c = (
  λ h. absurd (cc),
  λ h. absurd (none_there c.args.history.now c.args.end c.args.by c.args.key c.args.kind c.requires _ _
      c.first_conflict-looked.ensures c.first_conflict-stored.ensures (search rules) (search rules) h),
)

pub returns-clause-some : goal.returns-clause-some
returns-clause-some c = (
  λ h. elim c.else-is_none.branch [
    | else-is_none-via-then-is_none+else-is_none-2 w ↦
        first_there c.args.history.now c.args.end c.args.by c.args.key Store c.args.kind c.requires _
        c.first_conflict-stored.ensures (search rules)
    | else-is_none-via-else-is_none w ↦
        first_there c.args.history.now c.args.end c.args.by c.args.key Look c.args.kind c.requires _ c.first_conflict-looked.ensures
        (search rules)
  ],
  λ h. refl,
)
