use Rattle.std.proofs.Common.{sym, subst}
use Rattle.sgt_classes.specs.Tables.{entry_of}
use Rattle.sgt_notation.specs.Numbering.{KnowsEnds}
use Rattle.sgt_notation.proofs.reader.HistoryReader.note.Goals as goal

pub returns-clause-ends : goal.returns-clause-ends
returns-clause-ends c = subst (λ l. KnowsEnds l (entry_of c.note_end.new.ended)) (sym c.in_ok-push.ensures.items)
    (c.in_ok-note_end.ensures c.args.self.now.operations.items c.requires.ends)
