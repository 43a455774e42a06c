-- What the workers share may cross threads.
use denote.RattleType.{RattleType}
use denote.Param.Send.{IsSend, IsSync, sendable}
use Rattle.std.proofs.Crossing.{crosses}
use Rattle.std.specs.contracts.alloc.Global as Heap
use Rattle.std.specs.contracts.impls.GlobalAllocator.TheImpl.{ghosts}
use Rattle.std.specs.contracts.sync.Mutex as Mutex
use Rattle.std.specs.contracts.vec.Vec as Vec
use Rattle.sgt_audit.specs.contracts.outcome.Outcome as Outcome
use Rattle.sgt_audit.proofs.outcome.Outcome.TheSendSync as outcome

-- the outcomes under their lock, where a note may
pub outcomes_sync : (N : RattleType) → IsSend N → IsSync (Mutex.the_row (Vec.the_row (Outcome.the_row N) Heap.the_row ghosts))
outcomes_sync N s = let reported = outcome.the_send N s in search (sendable, crosses) depth 20
