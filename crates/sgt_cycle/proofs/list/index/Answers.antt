use Rattle.std.proofs.Common.{◌∙◌, sym, inl, inr, eq-eqb}
use Rattle.std.proofs.lemmas.Bool.{both_ways}
use Rattle.sgt_cycle.proofs.Members.{member_take}
use Rattle.sgt_cycle.proofs.list.index.Goals as goal

pub loop-i-preserved : goal.loop-i-preserved
loop-i-preserved c m = elim ((member_take c.args.t c.args.list.now c.loop-i.i c.index-list-i.result c.loop-i-test.true).0 m) [
  | inl early ↦ c.loop-i.invariant early
  | inr next ↦ both_ways _ (sym c.if-eq.ensures) (eq-eqb c.index-list-i.result c.args.t (c.index-list-i.is ∙ sym next))
]
