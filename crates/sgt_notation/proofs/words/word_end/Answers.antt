use Rattle.std.proofs.Common.{arith, rules}
use Rattle.sgt_notation.proofs.WordPlaces.{word_between}
use Rattle.sgt_notation.proofs.words.word_end.Goals as goal

pub returns-else-not-parts_words-clause-word : goal.returns-else-not-parts_words-clause-word
returns-else-not-parts_words-clause-word c =
    let i = c.loop-end.invariant in
    word_between c.args.line c.args.from c.loop-end.end c.args.text.now i.onwards i.bounds i.inside (λ less. search rules)

pub returns-after-loop-end-clause-word : goal.returns-after-loop-end-clause-word
returns-after-loop-end-clause-word c =
    let i = c.loop-end.invariant in
    word_between c.args.line c.args.from c.loop-end.end c.args.text.now i.onwards i.bounds i.inside
    (λ less. absurd (omega (arith, less, c.loop-end-test.false)))
