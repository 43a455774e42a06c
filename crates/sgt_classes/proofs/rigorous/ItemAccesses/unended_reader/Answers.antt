use Rattle.std.proofs.Common.{rules, ◌≡◌, ◌<◌, ◌⊎◌, ℕ, sym, ap, subst, inl, inr, arith}
use Rattle.std.specs.Prelude.{length}
use Rattle.std.proofs.lemmas.Grind.{common_steps}
use Rattle.sgt_classes.specs.Tables.{entry_of}
use Rattle.sgt_classes.specs.declared.operation.Operation.{Operation}
use Rattle.sgt_classes.specs.declared.operation.Action.TheVariants.{Write}
use Rattle.sgt_classes.specs.Histories.{EndedBefore}
use Rattle.sgt_classes.specs.Seen.{IsLastRead, AreFineAbove, height}
use Rattle.sgt_classes.proofs.Places.{doer_at, done_at, there, does_same}
use Rattle.sgt_classes.proofs.Sources.{same_doer, same_action}
use Rattle.sgt_classes.proofs.Rigorousness.{fine_above, fine_at, fine_below, fine_overwrite, height_read, read_by}
use Rattle.sgt_classes.proofs.rigorous.ItemAccesses.unended_reader.Goals as goal
use Rattle.sgt_classes.proofs.rigorous.ItemAccesses.unended_reader.Goals.{else-reader-operation-via-then-reader-operation+else-not-has_ended, else-reader-operation-via-else-reader-operation}

pub loop-read-init : goal.loop-read-init
loop-read-init c u y does =
    let h = c.args.history.now in
    let p = c.args.place in
    let x : ℕ = c.in-Write.item in
    let own = done_at h p (Write x) c.requires.within c.in-Write.is in
    let item : x ≡ y = grind (arith, common_steps, same_action h p (doer_at h p) u _ _ own does) in
    fine_above h p y u _ (subst (λ o. IsLastRead h p y o) (sym c.find-read.ensures)
    (subst (λ z. IsLastRead h p z (entry_of c.args.self.now.lasts x)) item (c.requires.uses.reads.lasts_are x)))

pub offset_bounds-history-earlier : goal.offset_bounds-history-earlier
offset_bounds-history-earlier c =
    let h = c.args.history.now in
    let top = fine_at h c.args.place c.in-Write.item c.in-Some.earlier _ c.requires.within c.in-Write.is c.in-Some.is
    c.loop-read.invariant in
    let less : c.in-Some.earlier < length h = omega (arith, top.0, c.requires.within) in search rules

pub bounds-history-earlier : goal.bounds-history-earlier
bounds-history-earlier c =
    let top = fine_at c.args.history.now c.args.place c.in-Write.item c.in-Some.earlier _ c.requires.within c.in-Write.is c.in-Some.is
    c.loop-read.invariant in
    omega (arith, top.0, c.requires.within)

pub returns-then-not-has_ended-clause-some : goal.returns-then-not-has_ended-clause-some
returns-then-not-has_ended-clause-some c =
    let h = c.args.history.now in
    let p = c.args.place in
    let x : ℕ = c.in-Write.item in
    let i : ℕ = c.in-Some.earlier in
    let top = fine_at h p x i _ c.requires.within c.in-Write.is c.in-Some.is c.loop-read.invariant in
    record {
      item = x;
      reader = doer_at h i;
      writer = doer_at h p;
      differ = search rules;
      earlier = top.0;
      read = read_by h p x (doer_at h p) i c.requires.within top;
      written = done_at h p (Write x) c.requires.within c.in-Write.is;
      active = λ ended. let key = (c.requires.uses.ends _).1 ended in search rules;
    }

pub loop-read-smaller : goal.loop-read-smaller
loop-read-smaller c =
    let h = c.args.history.now in
    let x : ℕ = c.in-Write.item in
    let top = fine_at h c.args.place x c.in-Some.earlier _ c.requires.within c.in-Write.is c.in-Some.is c.loop-read.invariant in
    let lower : IsLastRead h c.in-Some.earlier x c.get-read.result = subst (λ o. IsLastRead h c.in-Some.earlier x o)
    (sym c.get-read.ensures) (c.requires.uses.reads.earlier_are _ top.1.0 x top.0 top.1.1) in
    subst (λ o. height c.get-read.result < height o) (sym c.in-Some.is) (height_read h c.in-Some.earlier x _ lower)

pub loop-read-preserved : goal.loop-read-preserved
loop-read-preserved c u y does =
    let h = c.args.history.now in
    let p = c.args.place in
    let x : ℕ = c.in-Write.item in
    let i : ℕ = c.in-Some.earlier in
    let own = done_at h p (Write x) c.requires.within c.in-Write.is in
    let top = fine_at h p x i _ c.requires.within c.in-Write.is c.in-Some.is c.loop-read.invariant in
    let lower : IsLastRead h i x c.get-read.result =
    subst (λ o. IsLastRead h i x o) (sym c.get-read.ensures) (c.requires.uses.reads.earlier_are _ top.1.0 x top.0 top.1.1) in
    let fine : (doer_at h i ≡ doer_at h p) ⊎ EndedBefore h (doer_at h i) p = elim c.else-reader-operation.branch [
      | else-reader-operation-via-then-reader-operation+else-not-has_ended w ↦ inr ((c.requires.uses.ends _).0 (search rules))
      | else-reader-operation-via-else-reader-operation w ↦ inl (search rules)
    ] in
    let item : x ≡ y = grind (arith, common_steps, same_action h p (doer_at h p) u _ _ own does) in
    subst (λ z. AreFineAbove h p z u c.get-read.result) item
    (subst (λ v. AreFineAbove h p x v c.get-read.result) (same_doer h p (doer_at h p) u _ _ own does)
    (fine_below h p x (doer_at h p) i (doer_at h i) c.get-read.result top (read_by h p x (doer_at h p) i c.requires.within top) fine
    lower))

pub returns-clause-none : goal.returns-clause-none
returns-clause-none c =
    let h = c.args.history.now in
    let p = c.args.place in
    let x : ℕ = c.in-Write.item in
    let own = done_at h p (Write x) c.requires.within c.in-Write.is in
    λ _. fine_overwrite h p (doer_at h p) x own
    (subst (λ o. AreFineAbove h p x (doer_at h p) o) c.in_default-read.is (c.loop-read.invariant _ x own))
    c.requires.rigorous c.requires.strict

pub returns-in_default-clause-none : goal.returns-in_default-clause-none
returns-in_default-clause-none c = λ _ i broken. c.in_default.not-Write broken.item (ap (λ (o : Operation). o.action)
    (does_same c.args.history.now c.args.place _ broken.writer (Write broken.item)
    (there c.args.history.now c.args.place c.requires.within) broken.written))
