use Rattle.std.proofs.Common.{rules, ◌≡◌, ◌||◌, ◌==◌, ◌+◌, true, get_or, drop, sym, ap, ◌∙◌, drop_of_length-le}
use Rattle.std.proofs.lemmas.List.{at_drop_more}
use Rattle.sgt_edn.specs.Bytes.{is_space}
use Rattle.sgt_edn.specs.Scans.{starts_keyword}
use Rattle.sgt_edn.proofs.Steps.{if_true}
use Rattle.sgt_edn.proofs.format.starts_keyword.Goals as goal

pub loop-byte-preserved : goal.loop-byte-preserved
loop-byte-preserved c =
    let x = get_or c.args.text.now c.loop-byte.byte-index 0 in
    let is : (is_space x || x == 44) ≡ true = search rules in
    sym (if_true (is_space x || x == 44) (starts_keyword (drop (c.loop-byte.byte-index + 1) c.args.text.now)) (x == 58) is)
    ∙ sym (at_drop_more starts_keyword c.args.text.now c.loop-byte.byte-index 0 c.loop-byte-test.true) ∙ c.loop-byte.invariant

pub returns : goal.returns
returns c =
    sym (ap starts_keyword (drop_of_length-le c.args.text.now (search rules))) ∙ c.loop-byte.invariant
