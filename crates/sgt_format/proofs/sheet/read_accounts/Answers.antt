use Rattle.std.proofs.Common.{ap, sym, ◌∙◌}
use Rattle.serde_json.specs.View.{view}
use Rattle.sgt_format.specs.Openings.{account_in}
use Rattle.sgt_format.proofs.ReadAccounts.{none_read, one_read, no_read, all_read}
use Rattle.sgt_format.proofs.sheet.read_accounts.Goals as goal

pub loop-tree-init : goal.loop-tree-init
loop-tree-init c = none_read c.args.trees.now c.new-accounts.result.items c.new-accounts.ensures.items

pub loop-tree-preserved : goal.loop-tree-preserved
loop-tree-preserved c =
    one_read c.args.trees.now c.loop-tree.tree-index c.tree-item.result c.loop-tree.accounts.items _ c.in-Some.account
    c.loop-tree-test.true (ap (λ tree. account_in (view tree)) (sym c.tree-item.is) ∙ sym c.account.ensures ∙ c.in-Some.is)
    c.in_ok-push-in-Some.ensures.items c.loop-tree.invariant

pub returns-in-None : goal.returns-in-None
returns-in-None c = no_read c.args.trees.now c.loop-tree.tree-index c.tree-item.result c.loop-tree.accounts.items c.loop-tree-test.true
    (ap (λ tree. account_in (view tree)) (sym c.tree-item.is) ∙ sym c.account.ensures ∙ c.in-None.is) c.loop-tree.invariant

pub returns : goal.returns
returns c = all_read c.args.trees.now c.loop-tree.tree-index c.loop-tree.accounts.items c.loop-tree-test.false c.loop-tree.invariant
