use Rattle.std.proofs.Common.{sym, ◌∙◌}
use Rattle.std.proofs.lemmas.List.{length-map}
use Rattle.sgt_sched.proofs.sched.Sched.live_count.Goals as goal

pub returns : goal.returns
returns g c = c.len.ensures ∙ (sym (length-map c.args.self.now.live _))
