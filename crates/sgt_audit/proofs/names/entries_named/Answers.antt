use Rattle.std.proofs.Common.{◌≡◌, ◌++◌, take, sym, ap, ◌∙◌}
use Rattle.std.specs.List.{flat_map}
use Rattle.std.specs.Option.{option_to_list}
use Rattle.std.proofs.lemmas.List.{append-nil, take_all}
use Rattle.sgt_audit.specs.AllOutcomes.{entries_of}
use Rattle.sgt_audit.proofs.Nexts.{flat_map_next}
use Rattle.sgt_audit.proofs.names.entries_named.Goals.{in-Some+in_ok-push, in_default}
use Rattle.sgt_audit.proofs.names.entries_named.Goals as goal

pub loop-outcome-preserved : goal.loop-outcome-preserved
loop-outcome-preserved g c =
    let xs = c.args.outcomes.now in
    let i = c.loop-outcome.outcome-index in
    let added : c.match-entry_of.named.items ≡ c.loop-outcome.named.items ++ option_to_list c.entry_of.result =
    elim c.match-entry_of.branch [
      | in-Some+in_ok-push w ↦ rw w.in-Some.is (ap (λ v. v.items) w.named-is ∙ w.in_ok-push.ensures.items)
      | in_default w ↦ rw w.in_default.is (ap (λ v. v.items) w.named-is ∙ sym (append-nil c.loop-outcome.named.items))
    ] in
    added ∙ (ap (λ l. l ++ option_to_list c.entry_of.result) c.loop-outcome.invariant
    ∙ (ap (λ l. flat_map entries_of (take i xs) ++ l) c.entry_of.ensures
    ∙ sym (flat_map_next entries_of xs i c.outcome-item.result c.loop-outcome-test.true c.outcome-item.is)))

pub returns : goal.returns
returns g c = c.loop-outcome.invariant
    ∙ ap (flat_map entries_of) (take_all c.loop-outcome.outcome-index c.args.outcomes.now c.loop-outcome-test.false)
