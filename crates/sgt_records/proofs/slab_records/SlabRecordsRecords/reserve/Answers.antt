use Rattle.std.proofs.Common.{ap, sym, ◌∙◌}
use Rattle.sgt_model.specs.Chains.{writes_in}
use Rattle.sgt_records.specs.LiveWrites.{is_live}
use Rattle.sgt_records.specs.Tables.{index_in}
use Rattle.sgt_records.proofs.LiveWritesLeft.{agree_on}
use Rattle.sgt_records.proofs.slab_records.SlabRecordsRecords.reserve.Goals as goal

pub invariant_of-self : goal.invariant_of-self
invariant_of-self c = record {
  are_live = λ t k. ap (is_live t k) c.reserve.ensures.items ∙ c.args.self.now.are_live t k;
  indices_agree = agree_on (index_in c.args.self.now.index.table) (index_in c.args.self.now.index.table) c.args.self.now.live.items _
      (λ k p at. at) c.reserve.ensures.items c.args.self.now.indices_agree;
}

pub invariant_of-self-in-Break-branch-2 : goal.invariant_of-self-in-Break-branch-2
invariant_of-self-in-Break-branch-2 c = record {
  are_live = λ t k. ap (is_live t k) c.reserve.ensures.items
      ∙ (c.args.self.now.are_live t k ∙ ap (writes_in t) (sym (c.reserve-2.ensures.chain k)));
  indices_agree = agree_on (index_in c.args.self.now.index.table) (index_in c.reserve-2.new.self.table) c.args.self.now.live.items _
      c.reserve-2.ensures.stay c.reserve.ensures.items c.args.self.now.indices_agree;
}

pub invariant_of-self-2 : goal.invariant_of-self-2
invariant_of-self-2 c = record {
  are_live = λ t k. ap (is_live t k) c.reserve.ensures.items
      ∙ (c.args.self.now.are_live t k ∙ ap (writes_in t) (sym (c.reserve-2.ensures.chain k)));
  indices_agree = agree_on (index_in c.args.self.now.index.table) (index_in c.reserve-2.new.self.table) c.args.self.now.live.items _
      c.reserve-2.ensures.stay c.reserve.ensures.items c.args.self.now.indices_agree;
}
