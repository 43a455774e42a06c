use Rattle.std.proofs.Common.{◌+◌, arith}
use Rattle.std.proofs.lemmas.Grind.{common_steps}
use Rattle.sgt_input.proofs.Bytes.{window-drop}
use Rattle.sgt_input.proofs.buffer.Buffer.take.Goals as goal

pub returns-clause-held : goal.returns-clause-held
returns-clause-held c =
    grind (arith, common_steps, window-drop c.self.inside.start c.self.inside.end (c.args.len + c.args.dropped) c.self.inside.bytes.items)
