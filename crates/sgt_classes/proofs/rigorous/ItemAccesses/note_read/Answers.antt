use Rattle.std.proofs.Common.{rules, ◌≡◌, ◌≢◌, ℕ, None, inl, inr, arith}
use Rattle.std.proofs.lemmas.Grind.{common_steps}
use Rattle.sgt_classes.specs.Tables.{entry_of}
use Rattle.sgt_classes.proofs.Places.{there, does_at}
use Rattle.sgt_classes.proofs.Rigorousness.{end_reads, write_reads, read_reads}
use Rattle.sgt_classes.proofs.rigorous.ItemAccesses.note_read.Goals as goal

pub returns-in_ok-put_on_top-in-Read-clause-reads : goal.returns-in_ok-put_on_top-in-Read-clause-reads
returns-in_ok-put_on_top-in-Read-clause-reads c =
    let does = does_at c.args.history.now c.args.place _ _ (there c.args.history.now c.args.place c.requires.within) c.in-Read.is in
    read_reads _ _ _ _ _ _ _ _ does c.requires.reads c.in_ok-put_on_top-in-Read.ensures.top
    c.in_ok-put_on_top-in-Read.ensures.other_tops c.in_ok-put_on_top-in-Read.ensures.lower
    c.in_ok-put_on_top-in-Read.ensures.others_below

pub returns-in-Write-clause-reads : goal.returns-in-Write-clause-reads
returns-in-Write-clause-reads c =
    let does = does_at c.args.history.now c.args.place _ _ (there c.args.history.now c.args.place c.requires.within) c.in-Write.is in
    let x : ℕ = c.in-Write.item in
    let none : entry_of c.remove.new.self x ≡ None = search rules in
    let others : (y : ℕ) → y ≢ x → entry_of c.remove.new.self y ≡ entry_of c.args.self.now.lasts y = (λ y apart. search rules) in
    write_reads _ _ _ _ _ _ _ does c.requires.reads none others

pub returns-in-Commit-clause-reads : goal.returns-in-Commit-clause-reads
returns-in-Commit-clause-reads c =
    let at = there c.args.history.now c.args.place c.requires.within in elim c.in-Commit.is [
      | inl is ↦ end_reads _ _ _ _ _ _ (does_at c.args.history.now c.args.place _ _ at is) (λ y e. grind (arith, common_steps, e))
          c.requires.reads
      | inr is ↦ end_reads _ _ _ _ _ _ (does_at c.args.history.now c.args.place _ _ at is) (λ y e. grind (arith, common_steps, e))
          c.requires.reads
    ]
