use Rattle.std.proofs.Common.{◌≡◌, ◌++◌, map, drop}
use Rattle.sgt_format.specs.Templates.{filled}
use Rattle.sgt_format.proofs.template.append_filled.Given as goal

abbrev pub invariant-loop-part : goal.invariant-loop-part
invariant-loop-part g l = l.text.items ++ filled l.left (map g.S.Spelled.spelled (drop l.part-index l.parts))
    ≡ l.fn.text.items ++ filled l.template (map g.S.Spelled.spelled l.parts)
