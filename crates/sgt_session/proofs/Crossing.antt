-- A `&Shared` may cross threads. It is proved part by part, each up to its own fields: one search through the whole
-- does not end.
use denote.RattleType.{RattleType}
use denote.Param.Send.{IsSend, IsSync, sendable}
use Rattle.std.proofs.Crossing.{crosses}
use Rattle.sgt_model.proofs.procedure.Expr.TheLaws.TheKnot as expr
use Rattle.sgt_model.proofs.procedure.Statement.TheLaws.TheKnot as statement
use Rattle.sgt_sched.specs.contracts.fates.Fates as Fates
use Rattle.sgt_proc.specs.contracts.cursor.Cursor as Cursor
use Rattle.sgt_sched.specs.contracts.live.Live as Live
use Rattle.sgt_sched.specs.contracts.running.Running as Running
use Rattle.sgt_sched.specs.contracts.sched.Sched as Sched
use Rattle.sgt_engine.specs.contracts.engine.Engine as Engine
use Rattle.sgt_session.specs.contracts.round.Round as Round
use Rattle.sgt_session.specs.contracts.shared.Shared as Shared
use Rattle.sgt_records.specs.declared.records.Records as records
use Rattle.sgt_access.specs.declared.accesses.Accesses as accesses
use Rattle.sgt_graph.specs.declared.graph.Graph as graph
use Rattle.sgt_session.specs.declared.named.Named as named
use Rattle.std.specs.declared.sync.ledger.Ledger as ledger
use Rattle.sgt_log.proofs.history.History.TheSendSync as history
use Rattle.std.proofs.sync.ledger.Book.TheSendSync as book
use Rattle.sgt_model.specs.contracts.database.Database as Database

cursor_send : IsSend (Cursor.the_field).row
cursor_send = search (sendable, crosses, expr.crosses, statement.crosses) depth 40

running_send : IsSend (Running.the_field).row
running_send = search (sendable, crosses, cursor_send) depth 40

live_send : IsSend (Live.the_field).row
live_send = search (sendable, crosses, running_send) depth 40

fates_send : IsSend (Fates.the_field).row
fates_send = search (sendable, crosses) depth 40

database_send : IsSend (Database.the_field).row
database_send = search (sendable, crosses) depth 40

module _ (R A G : RattleType) (r : records.Ghosts R.Denot) (a : accesses.Ghosts A.Denot) (g : graph.Ghosts G.Denot) where
  sched_send : IsSend R → IsSend A → IsSend G → IsSend (Sched.the_field R A G r a g).row
  sched_send sr sa sg = search (sendable, crosses, expr.crosses, statement.crosses, live_send, fates_send) depth 40

  engine_send : IsSend R → IsSend A → IsSend G → IsSend (Engine.the_field R A G r a g).row
  engine_send sr sa sg = let s = sched_send sr sa sg in search (
    sendable,
    crosses,
    history.the_send,
    database_send,
  ) depth 40 fits 8000

  module _ (N : RattleType) (n : named.Ghosts N.Denot) (l : ledger.Ghosts N.Denot) where
    round_send : IsSend N → IsSend R → IsSend A → IsSend G → IsSend (Round.the_field N R A G n l r a g).row
    round_send sn sr sa sg = let e = engine_send sr sa sg in search (sendable, crosses, book.the_send) depth 40

    pub shared_sync : IsSend N → IsSend R → IsSend A → IsSend G → IsSync (Shared.the_row N R A G n r a g l)
    shared_sync sn sr sa sg = let d = round_send sn sr sa sg in search (sendable, crosses) depth 40
