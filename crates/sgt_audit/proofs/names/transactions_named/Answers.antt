use Rattle.std.proofs.Common.{◌++◌, sym, ap, ◌∙◌}
use Rattle.std.specs.List.{flat_map}
use Rattle.std.proofs.lemmas.List.{take_all}
use Rattle.sgt_audit.specs.AllOutcomes.{transactions_of}
use Rattle.sgt_audit.proofs.Nexts.{flat_map_next}
use Rattle.sgt_audit.proofs.names.transactions_named.Goals as goal

pub loop-outcome-preserved : goal.loop-outcome-preserved
loop-outcome-preserved g c =
    let names = transactions_of c.args.history.now.entries in
    let x = c.outcome-item.result in
    c.in_ok-add_named_by.ensures ∙ (ap (λ l. l ++ names x) c.loop-outcome.invariant
    ∙ sym (flat_map_next names c.args.outcomes.now c.loop-outcome.outcome-index x c.loop-outcome-test.true c.outcome-item.is))

pub returns : goal.returns
returns g c = c.loop-outcome.invariant
    ∙ ap (flat_map (transactions_of c.args.history.now.entries))
    (take_all c.loop-outcome.outcome-index c.args.outcomes.now c.loop-outcome-test.false)
