use Rattle.std.proofs.Common.{arith}
use Rattle.std.proofs.lemmas.Grind.{common_steps}
use Rattle.sgt_classes.proofs.Places.{there, does_at, ends_at}
use Rattle.sgt_classes.proofs.Strictness.{write_noted, end_writes_noted, end_noted, no_end_noted}
use Rattle.sgt_classes.proofs.strict.Writes.note.Goals as goal

pub returns-in_ok-set_place-in-Write-clause-last : goal.returns-in_ok-set_place-in-Write-clause-last
returns-in_ok-set_place-in-Write-clause-last c =
    let does = does_at c.args.history.now c.args.place _ _ (there c.args.history.now c.args.place c.requires.within) c.in-Write.is in
    write_noted _ _ _ _ _ _ does c.requires.last c.in_ok-set_place-in-Write.ensures.at c.in_ok-set_place-in-Write.ensures.others

pub returns-in_ok-set_place-in-Write-clause-ends : goal.returns-in_ok-set_place-in-Write-clause-ends
returns-in_ok-set_place-in-Write-clause-ends c =
    let does = does_at c.args.history.now c.args.place _ _ (there c.args.history.now c.args.place c.requires.within) c.in-Write.is in
    no_end_noted _ _ _ _ _ does (λ e. grind (arith, common_steps, e)) (λ e. grind (arith, common_steps, e)) c.requires.ends

pub returns-in_ok-set_place-in-Commit-clause-last : goal.returns-in_ok-set_place-in-Commit-clause-last
returns-in_ok-set_place-in-Commit-clause-last c =
    let ends = ends_at c.args.history.now c.args.place _ (there c.args.history.now c.args.place c.requires.within) c.in-Commit.is in
    end_writes_noted _ _ _ _ ends c.requires.last

pub returns-in_ok-set_place-in-Commit-clause-ends : goal.returns-in_ok-set_place-in-Commit-clause-ends
returns-in_ok-set_place-in-Commit-clause-ends c =
    let ends = ends_at c.args.history.now c.args.place _ (there c.args.history.now c.args.place c.requires.within) c.in-Commit.is in
    end_noted _ _ _ _ _ ends c.requires.ends c.in_ok-set_place-in-Commit.ensures.at c.in_ok-set_place-in-Commit.ensures.others
