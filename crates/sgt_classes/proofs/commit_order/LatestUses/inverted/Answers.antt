use Rattle.std.proofs.Common.{rules, ℕ, sym, refl, ◌∙◌}
use Rattle.sgt_classes.proofs.Places.{there, does_at, item_uses}
use Rattle.sgt_classes.proofs.LatestUses.{after_write, after_read, ordered_here, ordered_unused, ordered_uncommitted, none_of}
use Rattle.sgt_classes.specs.declared.operation.Action.TheVariants.{Write}
use Rattle.sgt_classes.proofs.Sources.{same_action}
use Rattle.sgt_classes.proofs.commit_order.LatestUses.inverted.Goals as goal

pub returns-then-is_some-clause-some : goal.returns-then-is_some-clause-some
returns-then-is_some-clause-some c =
    let h = c.args.history.now in
    let p = c.args.place in
    let x : ℕ = c.in_ok-item.item in
    let does = does_at h p _ _ (there h p c.requires.within) refl in
    after_write h _ p _ x _ _ _ c.requires.uses.commits_are (sym c.in_ok-commit.ensures)
    (item_uses h p _ x _ (sym c.in_ok-item.ensures) does) (c.requires.uses.uses_are.writes_are x) c.committing_after-write.ensures

pub returns-in_default : goal.returns-in_default
returns-in_default c =
    let h = c.args.history.now in
    let p = c.args.place in
    let x : ℕ = c.in_ok-item.item in
    let does = does_at h p _ _ (there h p c.requires.within) refl in record {
      some = tt;
      none = λ _. ordered_here h _ p _ x _ _ _ _ c.requires.uses.commits_are (sym c.in_ok-commit.ensures)
          (item_uses h p _ x _ (sym c.in_ok-item.ensures) does) (c.requires.uses.uses_are.writes_are x)
          (c.requires.uses.uses_are.reads_are x) c.committing_after-write.ensures (search rules)
          (λ writes. absurd (c.in_default.not-Write x (same_action h p _ _ _ _ does writes)));
    }

pub returns-clause-some : goal.returns-clause-some
returns-clause-some c =
    let h = c.args.history.now in
    let p = c.args.place in
    let x : ℕ = c.in_ok-item.item in
    let writes = does_at h p _ (Write x) (there h p c.requires.within) (search rules) in
    after_read h _ p _ x _ _ _ c.requires.uses.commits_are (sym c.in_ok-commit.ensures) writes
    (c.requires.uses.uses_are.reads_are x) c.committing_after.ensures

pub returns-clause-none : goal.returns-clause-none
returns-clause-none c =
    let h = c.args.history.now in
    let p = c.args.place in
    let x : ℕ = c.in_ok-item.item in
    let does = does_at h p _ _ (there h p c.requires.within) refl in
    λ none. ordered_here h _ p _ x _ _ _ _ c.requires.uses.commits_are (sym c.in_ok-commit.ensures)
    (item_uses h p _ x _ (sym c.in_ok-item.ensures) does) (c.requires.uses.uses_are.writes_are x)
    (c.requires.uses.uses_are.reads_are x) c.committing_after-write.ensures (search rules)
    (λ writes. sym c.committing_after.ensures ∙ none_of _ none)

pub returns-in_err-item-clause-none : goal.returns-in_err-item-clause-none
returns-in_err-item-clause-none c = λ _ i broken. ordered_unused c.args.history.now i c.args.place _
    (there c.args.history.now c.args.place c.requires.within) (sym c.in_err-item.ensures) broken

pub returns-in_err-commit-clause-none : goal.returns-in_err-commit-clause-none
returns-in_err-commit-clause-none c = λ _ i broken. ordered_uncommitted c.args.history.now _ i c.args.place _
    (there c.args.history.now c.args.place c.requires.within) c.requires.uses.commits_are (sym c.in_err-commit.ensures) broken
