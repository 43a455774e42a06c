use Rattle.std.proofs.Common.{◌≡◌, ◌+◌, ◌-◌, ◌≤◌, length, arith}
use Rattle.std.proofs.lemmas.Grind.{common_steps}
use Rattle.sgt_input.proofs.Bytes.{after_held}
use Rattle.sgt_input.proofs.buffer.Buffer.read.Goals as goal

pub returns-clause-bytes : goal.returns-clause-bytes
returns-clause-bytes g c =
    let h : length c.args.self.now.held ≡ c.self.inside.end - c.self.inside.start = grind (arith, common_steps) in
    let whole : length c.read_between.new.bytes ≡ c.copy_within.new.self.len = grind (arith, common_steps) in
    let fits : c.self.inside.end - c.self.inside.start + c.in_ok-n.n ≤ c.copy_within.new.self.len = grind (arith, common_steps) in
    rw (h, after_held _ _ _ c.read_between.new.bytes c.copy_within.new.self.items whole fits) c.in_ok-n.ensures.bytes
