use Rattle.std.proofs.Common.{rules}
use Rattle.sgt_levels.specs.Replays.{values_in, places_in}
use Rattle.sgt_levels.proofs.Grown.{grown_values, grown_places}
use Rattle.sgt_levels.proofs.columns.Columns.add_all.Goals as goal

pub loop-operation-preserved : goal.loop-operation-preserved
loop-operation-preserved c = record {
  values = grown_values c.args.operations.now c.loop-operation.operation-index c.operation-item.result
      (values_in c.args.self.now) (values_in c.loop-operation.self) (values_in c.add.new.self)
      (search rules) c.operation-item.is c.loop-operation.invariant.values c.in_ok-add.ensures.values;
  places = grown_places c.args.operations.now c.loop-operation.operation-index c.operation-item.result c.args.place
      (places_in c.args.self.now) (places_in c.loop-operation.self) (places_in c.add.new.self)
      (search rules) c.operation-item.is c.loop-operation.invariant.places c.in_ok-add.ensures.places;
}
