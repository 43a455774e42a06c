use Rattle.sgt_classes.proofs.Places.{there, does_at}
use Rattle.sgt_classes.proofs.Sources.{read_sources, write_sources, commit_sources, abort_sources}
use Rattle.sgt_classes.proofs.avoiding.SourcesChecker.record.Goals as goal

pub returns-in-Read : goal.returns-in-Read
returns-in-Read c =
    let does = does_at c.args.history.now c.args.place _ _ (there c.args.history.now c.args.place c.requires.within) c.in-Read.is in
    read_sources _ _ _ _ _ _ _ _ does c.requires.state

pub returns-in_ok-put_on_top-in-Write : goal.returns-in_ok-put_on_top-in-Write
returns-in_ok-put_on_top-in-Write c =
    let does = does_at c.args.history.now c.args.place _ _ (there c.args.history.now c.args.place c.requires.within) c.in-Write.is in
    write_sources _ _ _ _ _ _ _ _ _ _ does c.requires.state c.in_ok-put_on_top-in-Write.ensures.top
    c.in_ok-put_on_top-in-Write.ensures.other_tops c.in_ok-put_on_top-in-Write.ensures.lower
    c.in_ok-put_on_top-in-Write.ensures.others_below

pub returns-in_ok-set_place-in-Commit : goal.returns-in_ok-set_place-in-Commit
returns-in_ok-set_place-in-Commit c =
    let does = does_at c.args.history.now c.args.place _ _ (there c.args.history.now c.args.place c.requires.within) c.in-Commit.is in
    commit_sources _ _ _ _ _ _ _ _ does c.requires.state c.in_ok-set_place-in-Commit.ensures.at
    c.in_ok-set_place-in-Commit.ensures.others

pub returns-in_ok-set_place-in-Abort : goal.returns-in_ok-set_place-in-Abort
returns-in_ok-set_place-in-Abort c =
    let does = does_at c.args.history.now c.args.place _ _ (there c.args.history.now c.args.place c.requires.within) c.in-Abort.is in
    abort_sources _ _ _ _ _ _ _ _ does c.requires.state c.in_ok-set_place-in-Abort.ensures.at
    c.in_ok-set_place-in-Abort.ensures.others
