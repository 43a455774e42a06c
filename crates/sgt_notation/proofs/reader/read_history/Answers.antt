use Rattle.std.proofs.Common.{◌≡◌, ◌∷◌, ◌++◌, [], Err, suc, length, drop, take, refl, sym, ap, subst, ◌∙◌, arith, rules, length-append}
use Rattle.std.proofs.lemmas.Grind.{common_steps}
use Rattle.std.specs.Prelude.{IfErr}
use Rattle.sgt_notation.specs.Words.{words_of, words}
use Rattle.sgt_notation.specs.Readings.{AreRead, IsFirstFault}
use Rattle.sgt_notation.specs.Numbering.{texts_of}
use Rattle.sgt_notation.proofs.Gets.{take_next, take_whole}
use Rattle.sgt_notation.proofs.OneMore.{read_more, first_fault, known_apart}
use Rattle.sgt_notation.proofs.reader.read_history.Goals as goal

pub returns-in_err-take-clause-err : goal.returns-in_err-take-clause-err
returns-in_err-take-clause-err c =
    let i = c.loop-place.invariant in
    let ops = c.loop-place.reader.operations.items in
    let fault = first_fault (words_of c.args.text.now) _ _ (length ops) (texts_of c.loop-place.reader.items) ops c.in_err-take.field-0.0
    refl
    (i.rest ∙ c.word_end-end.ensures.word) i.read c.in_err-take.ensures.fault in
    let given : Err c.in_err-take.field-0.0 ≡ c.from_residual.result = search rules in
    subst (λ r. IfErr r (IsFirstFault (words_of c.args.text.now))) given fault

pub loop-place-preserved : goal.loop-place-preserved
loop-place-preserved c =
    let i = c.loop-place.invariant in
    let ops = c.loop-place.reader.operations.items in
    let all = words_of c.args.text.now in
    let next = i.rest ∙ c.word_end-end.ensures.word in
    let taken = c.in_ok-take.ensures.taken in
    let one_more : length c.take.new.self.operations.items ≡ suc (length ops) =
    ap length taken.operations ∙ length-append ops (taken.operation ∷ []) ∙ (omega arith) in
    let read = read_more all _ _ (length ops) (texts_of c.loop-place.reader.items) taken.more (texts_of c.take.new.self.items) ops
    taken.operation refl next
    i.read taken.items taken.spelled taken.active (known_apart c.take.new.self.items c.in_ok-take.ensures.known.items) in
    let e = c.next_word-place-in-loop-place.ensures in
    record {
      known = c.in_ok-take.ensures.known;
      bounds = e.bounds;
      countable = e.countable;
      word = e.word;
      few = omega (arith, i.few, c.in_ok-take.ensures.few, c.word_end-end.ensures.onwards, e.onwards);
      rest = ap (λ n. drop n all) one_more ∙ (take_next (length ops) all _ _ next).1 ∙ e.same;
      read = subst (λ l. AreRead (take (length c.take.new.self.operations.items) all) (texts_of c.take.new.self.items) l)
          (sym taken.operations)
          (subst (λ n. AreRead (take n all) (texts_of c.take.new.self.items) (ops ++ taken.operation ∷ [])) (sym one_more) read);
    }

pub returns-clause-ok : goal.returns-clause-ok
returns-clause-ok c =
    let i = c.loop-place.invariant in
    let ops = c.loop-place.reader.operations.items in
    let nothing : drop c.loop-place.place.at c.args.text.now ≡ [] = grind (arith, common_steps, c.loop-place-test.false) in
    let no_words = i.rest ∙ ap (words _ c.loop-place.place.line) nothing in
    subst (λ l. AreRead l (texts_of c.loop-place.reader.items) ops) (take_whole (length ops) (words_of c.args.text.now) no_words) i.read
