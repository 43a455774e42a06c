use Rattle.std.proofs.Common.{rules}
use Rattle.std.specs.Cmp.Rules.{signed_items}
use Rattle.sgt_model.proofs.short_reply.ReplyLists.is_same.Goals as goal

pub returns : goal.returns
returns c = search (rules, signed_items)
