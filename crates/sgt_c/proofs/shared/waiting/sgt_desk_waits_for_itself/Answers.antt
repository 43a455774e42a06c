use Rattle.std.proofs.Common.{length}
use Rattle.sgt_c.proofs.SelfWaits.{all_of_them}
use Rattle.sgt_c.proofs.shared.waiting.sgt_desk_waits_for_itself.Goals as goal

pub keep_deadlock-requires-clause-all : goal.keep_deadlock-requires-clause-all
keep_deadlock-requires-clause-all c = all_of_them (length c.args.notes.now)
