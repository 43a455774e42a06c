use Rattle.std.proofs.Common.{◌≡◌, ◌++◌, drop}
use Rattle.std.specs.Prelude.{map, option_map}
use Rattle.serde_json.specs.View.{view}
use Rattle.sgt_format.specs.Trees.{each}
use Rattle.sgt_format.specs.Openings.{account_in}
use Rattle.sgt_format.proofs.sheet.read_accounts.Given as goal

abbrev pub invariant-loop-tree : goal.invariant-loop-tree
invariant-loop-tree l = option_map (λ rest. l.accounts.items ++ rest) (each account_in (map view (drop l.tree-index l.trees)))
    ≡ each account_in (map view l.trees)
