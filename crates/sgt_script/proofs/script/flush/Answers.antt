use Rattle.std.proofs.Common.{rules}
use Rattle.sgt_script.proofs.Beginnings.{part-of}
use Rattle.sgt_script.proofs.script.flush.Goals as goal

pub returns-then-is_err-clause-part : goal.returns-then-is_err-clause-part
returns-then-is_err-clause-part g c =
    part-of c.write_all.result (g.T.Sink.held c.args.sink.now) (g.T.Sink.held c.write_all.new.sink) c.args.gathered.now.items
    c.as_slice.result.now (search rules) (search rules) c.write_all.ensures.part
