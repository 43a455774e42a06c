use Rattle.sgt_records.proofs.TableIndices.{put_returned}
use Rattle.sgt_records.proofs.table.Table.put.Goals as goal

pub returns-clause-put : goal.returns-clause-put
returns-clause-put c =
    let table = c.args.self.now in
    put_returned table.indices table.records.items table.are_indices c.args._key c.args.index c.requires c.args.given
