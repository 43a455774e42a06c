use Rattle.std.proofs.Common.{subst, take, ◌+◌}
use Rattle.std.specs.Option.{option_map_or}
use Rattle.sgt_input.specs.Lines.{AreWhole}
use Rattle.sgt_input.proofs.Breaks.{whole-within}
use Rattle.sgt_input.proofs.lines.whole_length.Goals as goal

pub returns-in-Some : goal.returns-in-Some
returns-in-Some c =
    subst (λ found. AreWhole (take c.args.within c.args.bytes.now) (option_map_or (λ n. c.args.from + n + 1) found 0)) c.in-Some.is
    (whole-within c.args.bytes.now c.args.from c.args.within c.min-stop.result c.memrchr.result c.min-stop.ensures c.requires.within
    c.requires.bounds c.requires.known c.memrchr.ensures)

pub returns-in-None : goal.returns-in-None
returns-in-None c =
    subst (λ found. AreWhole (take c.args.within c.args.bytes.now) (option_map_or (λ n. c.args.from + n + 1) found 0)) c.in-None.is
    (whole-within c.args.bytes.now c.args.from c.args.within c.min-stop.result c.memrchr.result c.min-stop.ensures c.requires.within
    c.requires.bounds c.requires.known c.memrchr.ensures)
