use Rattle.std.proofs.Common.{rules, ◌++◌, ◌∷◌, [], ap, ◌∙◌}
use Rattle.sgt_appends.specs.Precedences.{appended}
use Rattle.sgt_appends.proofs.Added.{appended_more}
use Rattle.sgt_appends.proofs.contents.Contents.of.Goals as goal

pub loop-operation-preserved : goal.loop-operation-preserved
loop-operation-preserved c = λ k.
    c.in_ok-note.ensures k ∙ ap (λ xs. xs ++ appended k (c.operation-item.result ∷ [])) (c.loop-operation.invariant k)
    ∙ appended_more k c.loop-operation.operation-index c.args.operations.now c.operation-item.result (search rules) c.operation-item.is
