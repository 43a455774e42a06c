use Rattle.std.proofs.Common.{rules, ◌++◌, ◌+◌, suc, [], length, take, drop, get_or, ap, ◌∙◌}
use Rattle.std.proofs.lemmas.List.{at_drop_more}
use Rattle.sgt_edn.specs.Scans.{outside, size_from, size_of, text_in}
use Rattle.sgt_edn.proofs.Steps.{size_step, size_after, shift}
use Rattle.sgt_edn.proofs.place.edn_index.Goals as goal

pub loop-index-preserved : goal.loop-index-preserved
loop-index-preserved c =
    let text = c.args.text.now in
    let k = c.loop-index.index in
    let json = c.loop-index.json.items in
    let x = get_or text k 0 in
    let more = c.in_ok-append_one.ensures ∙ ap (λ ts. json ++ text_in c.loop-index.scan.mode c.loop-index.scan ts x) c.as_slice.ensures.value in record {
      sizes = λ j.
          shift (λ n. size_from outside [] (take n text)) k j _
          (size_step json _ c.loop-index.token.items _ c.loop-index.scan _ x (take j (drop (k + 1) text))
          (size_from outside [] (take (k + suc j) text))
          more c.in_ok-note.ensures c.after-scan.ensures
          (c.loop-index.invariant.sizes (suc j)
          ∙ at_drop_more (λ ys. length json + size_from c.loop-index.scan c.loop-index.token.items (take (suc j) ys)) text k 0 c.loop-index-test.true));
      here =
          size_after json _ c.loop-index.token.items c.loop-index.scan x (size_of text (k + 1)) more
          (c.loop-index.invariant.sizes 1
          ∙ at_drop_more (λ ys. length json + size_from c.loop-index.scan c.loop-index.token.items (take 1 ys)) text k 0 c.loop-index-test.true);
      short = search rules;
    }
