use Rattle.std.proofs.Common.{rules}
use Rattle.sgt_explain.proofs.Endings.{ends_fallen, ends_no_other}
use Rattle.sgt_explain.proofs.writers.ending_at.Goals as goal

pub returns-then-is_among : goal.returns-then-is_among
returns-then-is_among c = ends_fallen c.args.entry.now.event c.args.entry.now.reply c.args.t (search rules)

pub returns : goal.returns
returns c = ends_no_other c.args.entry.now.event c.args.entry.now.reply c.args.t (search rules) (search rules)
