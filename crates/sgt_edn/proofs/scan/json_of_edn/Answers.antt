use Rattle.std.proofs.Common.{rules, ◌≡◌, ◌++◌, ◌+◌, [], get_or, drop, sym, ap, ◌∙◌, drop_of_length-le}
use Rattle.std.proofs.lemmas.List.{at_drop_more}
use Rattle.sgt_edn.specs.Scans.{end_text, text_in, text_from, json_of_edn}
use Rattle.sgt_edn.proofs.Steps.{step}
use Rattle.sgt_edn.proofs.scan.json_of_edn.Goals as goal

pub loop-byte-preserved : goal.loop-byte-preserved
loop-byte-preserved c =
    let x = get_or c.args.text.now c.loop-byte.byte-index 0 in
    step c.loop-byte.json.items _ c.loop-byte.token.items _ c.loop-byte.scan _ x
    (drop (c.loop-byte.byte-index + 1) c.args.text.now) (json_of_edn c.args.text.now)
    (c.in_ok-append_one.ensures
    ∙ ap (λ ts. c.loop-byte.json.items ++ text_in c.loop-byte.scan.mode c.loop-byte.scan ts x) c.as_slice.ensures.value)
    c.in_ok-note.ensures c.after-scan.ensures
    (sym (at_drop_more (λ ys. c.loop-byte.json.items ++ text_from c.loop-byte.scan c.loop-byte.token.items ys) c.args.text.now
    c.loop-byte.byte-index 0 c.loop-byte-test.true) ∙ c.loop-byte.invariant)

pub returns : goal.returns
returns c =
    let whole : drop c.loop-byte.byte-index c.args.text.now ≡ [] = drop_of_length-le c.args.text.now (search rules) in
    c.in_ok-append_end.ensures
    ∙ ap (λ ts. c.loop-byte.json.items ++ end_text c.loop-byte.scan.mode c.loop-byte.scan ts) c.as_slice-2.ensures.value
    ∙ sym (ap (λ ys. c.loop-byte.json.items ++ text_from c.loop-byte.scan c.loop-byte.token.items ys) whole)
    ∙ c.loop-byte.invariant
