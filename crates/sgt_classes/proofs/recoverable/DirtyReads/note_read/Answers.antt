use Rattle.std.proofs.Common.{rules, ◌≡◌, ℕ, Some, sym, ap, ◌∙◌, subst, arith}
use Rattle.std.specs.Prelude.{slice_index_or, IfSome}
use Rattle.std.specs.BTreeMap.{get}
use Rattle.std.specs.Ordering.{nat_cmp}
use Rattle.sgt_classes.specs.declared.operation.Operation.{Operation}
use Rattle.sgt_classes.specs.declared.operation.Action.TheVariants.{Read}
use Rattle.sgt_classes.specs.Histories.{Does}
use Rattle.sgt_classes.specs.Classes.{BreaksAvoidance}
use Rattle.sgt_classes.proofs.Places.{there, does_same}
use Rattle.sgt_classes.proofs.Sources.{writer_is}
use Rattle.sgt_classes.proofs.DirtyReads.{dirty_kept, dirty_noted}
use Rattle.sgt_classes.proofs.recoverable.DirtyReads.note_read.Goals as goal

pub returns-in_default-clause-reads : goal.returns-in_default-clause-reads
returns-in_default-clause-reads c =
    dirty_kept c.args.history.now c.args.place _ _ _ (c.in_ok-write.ensures.none (search rules)) c.requires.reads.1

pub returns-clause-reads : goal.returns-clause-reads
returns-clause-reads c =
    let h = c.args.history.now in
    let p = c.args.place in
    let i : ℕ = c.in-Some.write in
    let read : BreaksAvoidance h i p = subst (λ o. IfSome o (λ n. BreaksAvoidance h n p)) c.in-Some.is c.in_ok-write.ensures.some in
    let reader = ap (λ (o : Operation). o.transaction) (does_same h p _ read.reader _ (there h p c.requires.within) read.reads.read) in
    let writer = writer_is h i read.writer read.item _
    (there h i (omega (arith, read.reads.earlier, c.requires.within))) read.reads.written in
    let doer : ℕ = (slice_index_or h i (record { transaction = 0; action = Read 0 })).transaction in
    let wrote : get nat_cmp c.insert.new.self p ≡ Some doer = search rules in
    dirty_noted h p i _ read.item _ _ _ _ _ _ (subst (λ u. Does h p u (Read read.item)) (sym reader) read.reads.read) read
    c.requires.reads.1 c.in_ok-put_on_top.ensures.top c.in_ok-put_on_top.ensures.other_tops c.in_ok-put_on_top.ensures.lower
    c.in_ok-put_on_top.ensures.others_below
    (wrote ∙ ap Some writer)
    (λ k apart. search rules)
