use Rattle.std.proofs.Common.{rules, ◌<◌, ℕ, Some, sym, ap, subst}
use Rattle.std.specs.Prelude.{slice_index_or}
use Rattle.std.specs.BTreeMap.{get}
use Rattle.sgt_classes.specs.Tables.{entry_of}
use Rattle.std.specs.Ordering.{nat_cmp}
use Rattle.sgt_classes.specs.declared.operation.Operation.{Operation}
use Rattle.sgt_classes.specs.declared.operation.Action.TheVariants.{Read, Commit}
use Rattle.sgt_classes.specs.Histories.{Does}
use Rattle.sgt_classes.specs.Seen.{IsLastDirtyRead, AreCleanAbove, height}
use Rattle.sgt_classes.proofs.Places.{doer_at, done_at, there, does_at, does_same}
use Rattle.sgt_classes.proofs.Sources.{same_doer}
use Rattle.sgt_classes.proofs.DirtyReads.{clean_above, clean_at, clean_below, clean_by, height_earlier, recoverable_clean, recoverable_broken}
use Rattle.sgt_classes.proofs.recoverable.DirtyReads.unrecoverable.Goals as goal

pub loop-read-init : goal.loop-read-init
loop-read-init c t does =
    let h = c.args.history.now in
    let p = c.args.place in
    let own = done_at h p Commit c.requires.within c.in-Commit.is in
    clean_above h p t _ (subst (λ o. IsLastDirtyRead h p t o) (sym c.find-read.ensures)
    (subst (λ u. IsLastDirtyRead h p t (entry_of c.args.self.now.lasts u)) (same_doer h p t _ _ _ does own)
    (c.requires.reads.1.lasts_are t)))

pub unreachable-requires : goal.unreachable-requires
unreachable-requires c =
    let h = c.args.history.now in
    let p = c.args.place in
    let top = clean_at h p c.in-Some.dirty _ c.requires.within c.in-Commit.is c.in-Some.is c.loop-read.invariant in
    let is = c.requires.reads.1.writers_are _ _ top.0 top.1.1.1 in search rules

pub returns-then-not-has_committed-clause-some : goal.returns-then-not-has_committed-clause-some
returns-then-not-has_committed-clause-some c =
    let h = c.args.history.now in
    let p = c.args.place in
    let top = clean_at h p c.in-Some.dirty _ c.requires.within c.in-Commit.is c.in-Some.is c.loop-read.invariant in
    recoverable_broken h p c.in-Some.dirty (doer_at h p) c.in-Some-get.writer.now (get nat_cmp c.args.self.now.writers c.in-Some.dirty)
    (done_at h p Commit c.requires.within c.in-Commit.is) top.0 top.1
    (λ i read. c.requires.reads.1.writers_are i _ top.0 read) (search rules)
    (λ committed. let key = (c.requires.reads.0.commits_are _).1 committed in search rules)

lower : (c : goal.After-get-read) (t : ℕ) → Does c.args.history.now c.args.place t Commit
    → IsLastDirtyRead c.args.history.now c.in-Some.dirty t c.get-read.result
lower c t does =
    let h = c.args.history.now in
    let top : AreCleanAbove h c.args.place t (Some c.in-Some.dirty) =
    subst (λ o. AreCleanAbove h c.args.place t o) c.in-Some.is (c.loop-read.invariant t does) in
    subst (λ o. IsLastDirtyRead h c.in-Some.dirty t o) (sym c.get-read.ensures)
    (c.requires.reads.1.earlier_are _ t top.0 top.1)

pub loop-read-preserved : goal.loop-read-preserved
loop-read-preserved c t does =
    let h = c.args.history.now in
    let p = c.args.place in
    let top : AreCleanAbove h p t (Some c.in-Some.dirty) =
    subst (λ o. AreCleanAbove h p t o) c.in-Some.is (c.loop-read.invariant t does) in
    clean_below h p t c.in-Some.dirty c.get-read.result top
    (clean_by h p c.in-Some.dirty c.in-Some-get.writer.now (get nat_cmp c.args.self.now.writers c.in-Some.dirty)
    (λ i read. c.requires.reads.1.writers_are i _ top.0 read) (search rules)
    ((c.requires.reads.0.commits_are _).0 (search rules))) (lower c t does)

pub loop-read-smaller : goal.loop-read-smaller
loop-read-smaller c =
    let h = c.args.history.now in
    let own = does_at h c.args.place _ Commit (there h c.args.place c.requires.within) c.in-Commit.is in
    subst (λ o. height c.get-read.result < height o) (sym c.in-Some.is)
    (height_earlier h c.in-Some.dirty _ c.get-read.result (lower c _ own))

pub returns-clause-none : goal.returns-clause-none
returns-clause-none c =
    let h = c.args.history.now in
    let p = c.args.place in
    let t : ℕ = (slice_index_or h p (record { transaction = 0; action = Read 0 })).transaction in
    let own : Does h p t Commit = does_at h p _ Commit (there h p c.requires.within) c.in-Commit.is in
    λ _. recoverable_clean h p t own (subst (λ o. AreCleanAbove h p t o) c.in_default-read.is (c.loop-read.invariant t own))

pub returns-in_default-clause-none : goal.returns-in_default-clause-none
returns-in_default-clause-none c = λ _ k broken. c.in_default.not-Commit (ap (λ (o : Operation). o.action)
    (does_same c.args.history.now c.args.place _ broken.reader Commit (there c.args.history.now c.args.place c.requires.within)
    broken.commits))
