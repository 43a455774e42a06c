use Rattle.sgt_progress.proofs.RealTime.{replay_keeps_real_time}
use Rattle.sgt_progress.proofs.laws.replay_keeps_real_time.Goals as goal

pub returns : goal.returns
returns c = replay_keeps_real_time
