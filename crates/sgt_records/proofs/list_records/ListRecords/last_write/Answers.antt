use Rattle.std.proofs.Common.{rules, ◌≡◌, Some, None, option_map, ap, sym, ◌∙◌}
use Rattle.std.proofs.lemmas.Iterator.Adapters.{YieldsList-from_rev_slice}
use Rattle.std.proofs.lemmas.Iterator.Search.{find_from_yields_List}
use Rattle.std.specs.List.{last_or}
use Rattle.sgt_records.specs.Pendings.{chain_in}
use Rattle.sgt_records.proofs.LastWrites.{is_of, last_found}
use Rattle.sgt_records.proofs.list_records.ListRecords.last_write.Goals as goal

pub returns-clause-last : goal.returns-clause-last
returns-clause-last c =
    let writes = c.args.self.now.pending.items in
    let found = find_from_yields_List (is_of c.args.key) _ _ c.find.result c.find.ensures.ran
    (YieldsList-from_rev_slice writes (search rules)) (λ x b q call. search rules) in
    let last : last_or None (chain_in writes c.args.key) ≡ Some (c.in_ok-write.write.now.by, c.in_ok-write.write.now.value) =
    last_found writes c.args.key _ (ap (λ o. option_map (λ x. x.now) o) (sym c.in_ok-write.was) ∙ found) in
    sym last

pub returns-in_err-write-clause-last : goal.returns-in_err-write-clause-last
returns-in_err-write-clause-last c =
    let writes = c.args.self.now.pending.items in
    let found = find_from_yields_List (is_of c.args.key) _ _ c.find.result c.find.ensures.ran
    (YieldsList-from_rev_slice writes (search rules)) (λ x b q call. search rules) in
    let last : last_or None (chain_in writes c.args.key) ≡ None =
    last_found writes c.args.key _ (ap (λ o. option_map (λ x. x.now) o) (sym c.in_err-write.was) ∙ found) in
    c.from_residual.ensures ∙ sym last
