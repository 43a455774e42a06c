use Rattle.std.proofs.Common.{rules}
use Rattle.sgt_appends.proofs.More.{added_one}
use Rattle.sgt_appends.proofs.graph.add.Goals as goal

pub returns-in_ok-push : goal.returns-in_ok-push
returns-in_ok-push c = added_one c.args.links.now.items c.push.new.self.items c.args.link c.in_ok-push.ensures.items (search rules)
