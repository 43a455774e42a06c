use Rattle.std.proofs.Common.{rules}
use Rattle.std.proofs.lemmas.Result.{on_ok_weaker}
use Rattle.sgt_c.proofs.Writings.{opening_words, shape_words}
use Rattle.sgt_c.proofs.buffer_text.append_fault.Goals as goal

pub returns-in-19 : goal.returns-in-19
returns-in-19 c =
    on_ok_weaker c.append_numbered.result
    (opening_words c.args.line.now.items c.append_numbered.new.line.items c.args.fault.now (search rules))
    c.append_numbered.ensures.ok

pub returns-in-20 : goal.returns-in-20
returns-in-20 c =
    on_ok_weaker c.append_shape.result
    (shape_words c.args.line.now.items c.append_shape.new.line.items c.args.fault.now (search rules))
    c.append_shape.ensures
