use Rattle.std.proofs.Common.{rules, ◌∙◌, sym}
use Rattle.std.proofs.lemmas.List.{take_all}
use Rattle.sgt_clients.proofs.Accesses.{same_more}
use Rattle.sgt_clients.proofs.access.are_same.Goals as goal

pub loop-place-preserved : goal.loop-place-preserved
loop-place-preserved c =
    same_more c.args.accesses.now c.args.others.now c.loop-place.place _ _ (search rules) (search rules)
    (c.is_same.ensures c.if-not-is_same.false) c.loop-place.invariant

pub returns : goal.returns
returns c = λ yes.
    sym (take_all c.loop-place.place c.args.accesses.now (search rules)) ∙ c.loop-place.invariant
    ∙ take_all c.loop-place.place c.args.others.now (search rules)
