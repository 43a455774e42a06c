use Rattle.std.proofs.Common.{sym}
use Rattle.sgt_reply_json.proofs.reply_object.append_refused.Goals as goal

pub returns : goal.returns
returns c = rw (sym c.as_slice.ensures) c.append_pieces.ensures
