-- The content of a handle may move to another thread. Each part is proved up to its own fields, since one search
-- through the whole does not end.
use denote.RattleType.{RattleType}
use denote.Param.Send.{IsSend, sendable}
use Rattle.std.proofs.Crossing.{crosses}
use Rattle.sgt_model.proofs.procedure.Expr.TheLaws.TheKnot as expr
use Rattle.sgt_model.proofs.procedure.Statement.TheLaws.TheKnot as statement
use Rattle.sgt_log.proofs.history.History.TheSendSync as history
use Rattle.sgt_log.proofs.stored_entry.StoredEntry.TheSendSync as stored_entry
use Rattle.sgt_log.specs.contracts.history.History as History
use Rattle.sgt_model.specs.contracts.database.Database as Database
use Rattle.sgt_records.specs.declared.records.Records as records
use Rattle.sgt_access.specs.declared.accesses.Accesses as accesses
use Rattle.sgt_graph.specs.declared.graph.Graph as graph
use Rattle.sgt_records.proofs.slab_records.SlabRecords.TheSendSync as slabs
use Rattle.sgt_access.specs.contracts.per_key.PerKey as PerKey
use Rattle.sgt_graph.specs.contracts.bit_graph.BitGraph as BitGraph
use Rattle.sgt_sched.specs.contracts.fates.Fates as Fates
use Rattle.sgt_proc.specs.contracts.cursor.Cursor as Cursor
use Rattle.sgt_sched.specs.contracts.live.Live as Live
use Rattle.sgt_sched.specs.contracts.running.Running as Running
use Rattle.sgt_sched.specs.contracts.sched.Sched as Sched
use Rattle.sgt_engine.specs.contracts.engine.Engine as Engine
use Rattle.sgt_c.specs.contracts.held.Held as Held

cursor_send : IsSend (Cursor.the_field).row
cursor_send = search (sendable, crosses, expr.crosses, statement.crosses) depth 40

running_send : IsSend (Running.the_field).row
running_send = search (sendable, crosses, cursor_send) depth 40

live_send : IsSend (Live.the_field).row
live_send = search (sendable, crosses, running_send) depth 40

fates_send : IsSend (Fates.the_field).row
fates_send = search (sendable, crosses) depth 40

database_send : IsSend (Database.the_field).row
database_send = search (sendable, crosses) depth 40

history_send : IsSend (History.the_field).row
history_send = search (sendable, crosses, stored_entry.the_field_send, history.the_send) depth 40

module _ (R A G : RattleType) (r : records.Ghosts R.Denot) (a : accesses.Ghosts A.Denot) (g : graph.Ghosts G.Denot) where
  sched_send : IsSend R → IsSend A → IsSend G → IsSend (Sched.the_field R A G r a g).row
  sched_send sr sa sg = search (sendable, crosses, expr.crosses, statement.crosses, live_send, fates_send) depth 40

  engine_send : IsSend R → IsSend A → IsSend G → IsSend (Engine.the_field R A G r a g).row
  engine_send sr sa sg = let s = sched_send sr sa sg in search (sendable, crosses, history_send, database_send) depth 40 fits 8000

per_key_send : IsSend (PerKey.the_field).row
per_key_send = search (sendable, crosses) depth 40

bit_graph_send : IsSend (BitGraph.the_field).row
bit_graph_send = search (sendable, crosses) depth 40

pub held_send : IsSend Held.the_row
held_send = let e = engine_send in search (sendable, slabs.the_field_send, per_key_send, bit_graph_send, e) depth 40
