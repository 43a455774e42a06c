use Rattle.sgt_textbook.proofs.laws.legal_are_serializable.Goals as goal

pub returns : goal.returns
returns c = λ number injective s past h. (c.commit_ordered_are_serializable.ensures _
    (c.legal_are_commit_ordered.ensures number injective s past h)).1
