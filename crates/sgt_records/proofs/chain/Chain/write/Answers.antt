use Rattle.std.proofs.Common.{sym, ◌∙◌, arith, ap, subst, ◌<◌, length}
use Rattle.std.specs.Option.{is_some}
use Rattle.sgt_records.proofs.ChainIndices.{has_value, capacity_left}
use Rattle.sgt_records.proofs.chain.Chain.write.Goals as goal

pub push-requires : goal.push-requires
push-requires c = (
  omega arith,
  subst (λ l. length l < 32) (sym c.take_out-earlier.ensures.left)
      (capacity_left c.args.t c.args.self.now.writes.items c.requires.chain.few c.requires.capacity),
)

pub returns-clause-again : goal.returns-clause-again
returns-clause-again c = c.is_some.ensures ∙ (ap is_some c.take_out-earlier.ensures.value ∙ has_value c.args.t c.args.self.now.writes.items)
