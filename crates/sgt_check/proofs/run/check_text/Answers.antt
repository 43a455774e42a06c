use Rattle.std.proofs.Common.{rules}
use Rattle.sgt_notation.specs.Words.{words_of}
use Rattle.sgt_notation.specs.Readings.{AreRead, texts}
use Rattle.sgt_check.proofs.Empty.{no_words}
use Rattle.sgt_check.proofs.run.check_text.Goals as goal

pub returns-then-is_empty-clause-fault : goal.returns-then-is_empty-clause-fault
returns-then-is_empty-clause-fault c =
    let h = c.in_ok-history.history in
    let read : AreRead (words_of c.args.text.now) (texts h) h.operations.items = search rules in
    no_words (words_of c.args.text.now) (texts h) h.operations.items read (search rules)

pub returns-clause-checked : goal.returns-clause-checked
returns-clause-checked c =
    let h = c.in_ok-history.history in
    let read : AreRead (words_of c.args.text.now) (texts h) h.operations.items = search rules in record {
      history = h;
      read = read;
      some = search rules;
      lines = search rules;
      verdict = c.in_ok-check_for.ensures.verdict read.ends_are_last;
      counts = search rules;
    }
