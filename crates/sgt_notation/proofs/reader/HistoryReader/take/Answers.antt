use Rattle.std.proofs.Common.{◌++◌, ◌∷◌, [], sym, ap, subst, ◌∙◌, arith}
use Rattle.std.proofs.lemmas.Grind.{common_steps}
use Rattle.sgt_classes.specs.declared.operation.Operation.{Operation}
use Rattle.sgt_notation.specs.Spellings.{IsSpelled}
use Rattle.sgt_notation.specs.Numbering.{texts_of}
use Rattle.sgt_notation.proofs.reader.HistoryReader.take.Goals as goal

pub returns-clause-taken : goal.returns-clause-taken
returns-clause-taken c =
    let op : Operation = record { transaction = c.in-Some.spelled.operation.transaction; action = c.in_ok-action.action } in
    let e = c.in_ok-action.ensures in
    record {
      operation = op;
      more = e.kept.0;
      operations = c.in_ok-note.ensures.operations ∙ ap (λ o. o.items ++ op ∷ []) e.same.0;
      items = ap texts_of c.in_ok-note.ensures.items ∙ e.kept.1;
      spelled = subst (λ i. IsSpelled c.args.word.now (texts_of i) op) (sym c.in_ok-note.ensures.items)
          (e.spelled c.args.word.now c.in-Some.ensures.some);
      active = λ ended. let known = (c.requires.known.ends op.transaction).1 ended in grind
          (arith, common_steps, known, c.contains_key.ensures, c.if-contains_key.false);
    }
