use Rattle.std.proofs.Common.{rules, refl, inl, inr}
use Rattle.sgt_classes.proofs.Places.{there, does_at}
use Rattle.sgt_classes.proofs.LatestUses.{read_latest, write_latest, none_latest, end_latest}
use Rattle.sgt_classes.proofs.commit_order.LatestUsesChecker.record.Goals as goal

pub returns-in_default : goal.returns-in_default
returns-in_default c =
    let h = c.args.history.now in
    let p = c.args.place in
    let does = does_at h p _ _ (there h p c.requires.within) refl in record {
      commits_are = c.requires.state.commits_are;
      uses_are = none_latest h _ p _ _ _ _ does (search rules) c.requires.state.uses_are;
    }

pub returns-in_ok-keep_later-in-Read : goal.returns-in_ok-keep_later-in-Read
returns-in_ok-keep_later-in-Read c =
    let h = c.args.history.now in
    let p = c.args.place in
    let does = does_at h p _ _ (there h p c.requires.within) c.in-Read.is in record {
      commits_are = c.requires.state.commits_are;
      uses_are = read_latest h _ p _ _ _ _ _ _ does (search rules) c.in_ok-keep_later-in-Read.ensures.at
          c.in_ok-keep_later-in-Read.ensures.others c.requires.state.uses_are;
    }

pub returns-in_ok-keep_later-in-Write : goal.returns-in_ok-keep_later-in-Write
returns-in_ok-keep_later-in-Write c =
    let h = c.args.history.now in
    let p = c.args.place in
    let does = does_at h p _ _ (there h p c.requires.within) c.in-Write.is in record {
      commits_are = c.requires.state.commits_are;
      uses_are = write_latest h _ p _ _ _ _ _ _ does (search rules) c.in_ok-keep_later-in-Write.ensures.at
          c.in_ok-keep_later-in-Write.ensures.others c.requires.state.uses_are;
    }

pub returns-in-Commit : goal.returns-in-Commit
returns-in-Commit c =
    let h = c.args.history.now in
    let p = c.args.place in
    let at = there h p c.requires.within in record {
      commits_are = c.requires.state.commits_are;
      uses_are = elim c.in-Commit.is [
        | inl is ↦ end_latest h _ p _ _ _ _ (does_at h p _ _ at is) refl c.requires.state.uses_are
        | inr is ↦ end_latest h _ p _ _ _ _ (does_at h p _ _ at is) refl c.requires.state.uses_are
      ];
    }
