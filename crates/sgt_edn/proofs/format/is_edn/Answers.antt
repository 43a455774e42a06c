use Rattle.std.proofs.Common.{rules, ◌≡◌, ◌+◌, true, get_or, drop, sym, ap, ◌∙◌, drop_of_length-le}
use Rattle.std.proofs.lemmas.List.{at_drop_more}
use Rattle.sgt_edn.specs.Scans.{stands_outside, starts_edn, is_edn}
use Rattle.sgt_edn.proofs.Steps.{if_true}
use Rattle.sgt_edn.proofs.format.is_edn.Goals as goal

pub loop-at-preserved : goal.loop-at-preserved
loop-at-preserved c =
    let x = get_or c.args.text.now c.loop-at.at 0 in
    let is : stands_outside x ≡ true = search rules in
    sym (if_true (stands_outside x) (is_edn (drop (c.loop-at.at + 1) c.args.text.now)) (starts_edn x (drop (c.loop-at.at + 1) c.args.text.now)) is)
    ∙ sym (at_drop_more is_edn c.args.text.now c.loop-at.at 0 c.loop-at-test.true) ∙ c.loop-at.invariant

pub returns : goal.returns
returns c =
    sym (ap is_edn (drop_of_length-le c.args.text.now (search rules))) ∙ c.loop-at.invariant
