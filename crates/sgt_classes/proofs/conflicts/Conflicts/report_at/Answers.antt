use Rattle.std.proofs.Common.{ℕ, refl, sym, subst, ◌∙◌, ap, inl, inr}
use Rattle.std.specs.Prelude.{slice_index_or}
use Rattle.std.specs.Option.{unwrap_or}
use Rattle.std.specs.BTreeMap.{get}
use Rattle.sgt_classes.specs.declared.operation.Action.TheVariants.{Read, Write}
use Rattle.sgt_classes.specs.FirstAccesses.{pair_cmp, AreRivals, IsRepeated, IsSomeAccess}
use Rattle.sgt_classes.proofs.Places.{there, does_at}
use Rattle.sgt_classes.proofs.FirstConflicts.{rivals_read, rivals_write, repeated_read, repeated_write, conflicts_end}
use Rattle.sgt_classes.proofs.conflicts.Conflicts.report_at.Goals as goal

pub report_back-requires-clause-rivals : goal.report_back-requires-clause-rivals
report_back-requires-clause-rivals c =
    let q = c.args.operations.now in
    let p = c.args.place in
    let x : ℕ = c.in-Read.item in
    subst (λ k. AreRivals q p x k) (sym c.requires.writing)
    (rivals_read q p _ x (does_at q p _ (Read x) (there q p c.requires.within) c.in-Read.is))

pub report_back-requires-clause-repeated : goal.report_back-requires-clause-repeated
report_back-requires-clause-repeated c =
    let q = c.args.operations.now in
    let p = c.args.place in
    let x : ℕ = c.in-Read.item in
    let w : ℕ = (slice_index_or q p (record { transaction = 0; action = Read 0 })).transaction in
    let latest = get pair_cmp c.args.accesses.now.latest (w, x) in
    subst (λ k. IsRepeated q p x k c.unwrap_or-reported.result) (sym c.requires.writing)
    (repeated_read q p w x c.unwrap_or-reported.result latest (c.unwrap_or-reported.ensures ∙ ap (λ o. unwrap_or o 0) c.latest.ensures)
    (does_at q p _ (Read x) (there q p c.requires.within) c.in-Read.is)
    (subst (λ k. IsSomeAccess k q p w x latest) c.requires.any (c.requires.accesses.latest_are w x)))

pub report_back-requires-in-Write-clause-rivals : goal.report_back-requires-in-Write-clause-rivals
report_back-requires-in-Write-clause-rivals c =
    let q = c.args.operations.now in
    let p = c.args.place in
    let x : ℕ = c.in-Write.item in
    subst (λ k. AreRivals q p x k) (sym c.requires.any)
    (rivals_write q p _ x (does_at q p _ (Write x) (there q p c.requires.within) c.in-Write.is))

pub report_back-requires-in-Write-clause-repeated : goal.report_back-requires-in-Write-clause-repeated
report_back-requires-in-Write-clause-repeated c =
    let q = c.args.operations.now in
    let p = c.args.place in
    let x : ℕ = c.in-Write.item in
    let w : ℕ = (slice_index_or q p (record { transaction = 0; action = Read 0 })).transaction in
    let latest = get pair_cmp c.args.writes.now.latest (w, x) in
    subst (λ k. IsRepeated q p x k c.unwrap_or-reported-in-Write.result) (sym c.requires.any)
    (repeated_write q p w x c.unwrap_or-reported-in-Write.result latest
    (c.unwrap_or-reported-in-Write.ensures ∙ ap (λ o. unwrap_or o 0) c.latest-in-Write.ensures)
    (does_at q p _ (Write x) (there q p c.requires.within) c.in-Write.is)
    (subst (λ k. IsSomeAccess k q p w x latest) c.requires.writing (c.requires.writes.latest_are w x)))

pub returns-in-Commit : goal.returns-in-Commit
returns-in-Commit c =
    let q = c.args.operations.now in
    let p = c.args.place in
    let at = there q p c.requires.within in
    elim c.in-Commit.is [
      | inl is ↦ conflicts_end q p _ _ _ _ _ (does_at q p _ _ at is) refl c.requires.conflicts
      | inr is ↦ conflicts_end q p _ _ _ _ _ (does_at q p _ _ at is) refl c.requires.conflicts
    ]
