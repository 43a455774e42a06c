use Rattle.std.proofs.Common.{rules, ℕ, Some, sym, subst, inl, inr, arith}
use Rattle.sgt_classes.specs.Seen.{IsLastWrite}
use Rattle.sgt_classes.proofs.Places.{there}
use Rattle.sgt_classes.proofs.Strictness.{strict_no_item, strict_no_write, strict_ended, strict_broken}
use Rattle.sgt_classes.proofs.strict.Writes.unended.Goals as goal
use Rattle.sgt_classes.proofs.strict.Writes.unended.Goals.{then-writer-operation-via-then-writer-operation, then-writer-operation-via-else-writer-operation+then-has_ended}

pub returns-in_err-item-clause-none : goal.returns-in_err-item-clause-none
returns-in_err-item-clause-none c = λ _.
    strict_no_item _ _ _ (there c.args.history.now c.args.place c.requires.within) (sym c.in_err-item.ensures)

pub returns-in_err-earlier-clause-none : goal.returns-in_err-earlier-clause-none
returns-in_err-earlier-clause-none c = λ _.
    strict_no_write _ _ _ c.in_ok-item.item (there c.args.history.now c.args.place c.requires.within) (sym c.in_ok-item.ensures)
    (subst (λ o. IsLastWrite c.args.history.now c.args.place c.in_ok-item.item o) (sym c.in_err-earlier.ensures)
    (c.requires.last c.in_ok-item.item))

pub returns-then-writer-operation-clause-none : goal.returns-then-writer-operation-clause-none
returns-then-writer-operation-clause-none c =
    let h = c.args.history.now in
    let i : ℕ = c.in_ok-earlier.earlier in
    let last : IsLastWrite h c.args.place c.in_ok-item.item (Some i) =
    subst (λ o. IsLastWrite h c.args.place c.in_ok-item.item o) (sym c.in_ok-earlier.ensures) (c.requires.last c.in_ok-item.item) in
    λ _. strict_ended _ _ _ _ _ c.in_ok-item.item (there h c.args.place c.requires.within) (sym c.in_ok-item.ensures)
    (there h i (omega (arith, last.0, c.requires.within))) last
    (elim c.then-writer-operation.branch [
      | then-writer-operation-via-then-writer-operation w ↦ inl (search rules)
      | then-writer-operation-via-else-writer-operation+then-has_ended w ↦ inr ((c.requires.ends _).0 (search rules))
    ]) c.requires.strict

pub returns-clause-some : goal.returns-clause-some
returns-clause-some c =
    let h = c.args.history.now in
    let i : ℕ = c.in_ok-earlier.earlier in
    let last : IsLastWrite h c.args.place c.in_ok-item.item (Some i) =
    subst (λ o. IsLastWrite h c.args.place c.in_ok-item.item o) (sym c.in_ok-earlier.ensures) (c.requires.last c.in_ok-item.item) in
    strict_broken _ _ _ _ _ c.in_ok-item.item (there h c.args.place c.requires.within) (sym c.in_ok-item.ensures)
    (there h i (omega (arith, last.0, c.requires.within))) last
    (search rules)
    (λ ended. let key = (c.requires.ends _).1 ended in search rules)
