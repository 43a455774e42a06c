use Rattle.std.proofs.Common.{rules, ◌∷◌, [], ◌++◌, length, inl, refl, ap, ◌∙◌, arith}
use Rattle.sgt_format.proofs.EventsAhead.{no_newline-space}
use Rattle.sgt_format.proofs.Words.{one_then}
use Rattle.sgt_format.proofs.plain_line.item_index.Goals as goal

pub returns-then-line-at-eq32-clause-item : goal.returns-then-line-at-eq32-clause-item
returns-then-line-at-eq32-clause-item c = (
  32 ∷ [],
  (inl refl, tt),
  c.if-not-begins_with.ensures refl
      ∙ ap (λ rest. c.args.words.now ++ rest) (one_then c.args.line.now (length c.args.words.now) 32 (omega arith) (search rules)),
)

pub returns-then-line-at-eq32-clause-unbroken : goal.returns-then-line-at-eq32-clause-unbroken
returns-then-line-at-eq32-clause-unbroken c = λ none.
    no_newline-space c.args.line.now c.args.words.now (c.if-not-begins_with.ensures refl) (omega arith) (search rules) none
