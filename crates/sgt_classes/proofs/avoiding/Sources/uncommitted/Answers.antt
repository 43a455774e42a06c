use Rattle.std.proofs.Common.{rules, refl, subst, inl, inr}
use Rattle.sgt_classes.specs.declared.operation.Action.TheVariants.{Read}
use Rattle.sgt_classes.specs.Seen.{IsTopWrite}
use Rattle.sgt_classes.proofs.Places.{there, does_at, done_at}
use Rattle.sgt_classes.proofs.Sources.{avoids_no_read, avoids_no_write, avoids_committed, avoidance_broken, top_done, sources_found}
use Rattle.sgt_classes.proofs.avoiding.Sources.uncommitted.Goals as goal
use Rattle.sgt_classes.proofs.avoiding.Sources.uncommitted.Goals.{then-writer-operation-via-then-writer-operation, then-writer-operation-via-else-writer-operation+then-has_committed}

pub returns-in_default : goal.returns-in_default
returns-in_default c =
    let h = c.args.history.now in
    let p = c.args.place in record {
      sources = c.requires.sources;
      some = tt;
      none = λ _. avoids_no_read h p _ _ (does_at h p _ _ (there h p c.requires.within) refl) c.in_default.not-Read;
    }

pub returns-in_default-source-clause-none : goal.returns-in_default-source-clause-none
returns-in_default-source-clause-none c =
    let h = c.args.history.now in
    let p = c.args.place in
    let x = c.in-Read.item in
    λ _. avoids_no_write h p _ x (does_at h p _ (Read x) (there h p c.requires.within) c.in-Read.is)
    (subst (λ o. IsTopWrite h p x o) c.in_default-source.is c.standing-source.ensures.top)

pub returns-then-writer-operation-clause-none : goal.returns-then-writer-operation-clause-none
returns-then-writer-operation-clause-none c =
    let h = c.args.history.now in
    let p = c.args.place in
    let x = c.in-Read.item in
    let written = top_done h p x c.in-Some.earlier c.requires.within c.in-Some.ensures.top in
    λ _. avoids_committed h p _ x c.in-Some.earlier _ (done_at h p (Read x) c.requires.within c.in-Read.is) c.in-Some.ensures.top written
    c.in-Some.ensures.standing
    (elim c.then-writer-operation.branch [
      | then-writer-operation-via-then-writer-operation w ↦ inl (search rules)
      | then-writer-operation-via-else-writer-operation+then-has_committed w ↦ inr ((c.requires.sources.commits_are _).0 (search rules))
    ])

pub returns-clause-some : goal.returns-clause-some
returns-clause-some c =
    let h = c.args.history.now in
    let p = c.args.place in
    let x = c.in-Read.item in
    let written = top_done h p x c.in-Some.earlier c.requires.within c.in-Some.ensures.top in
    avoidance_broken h p _ x c.in-Some.earlier _ (done_at h p (Read x) c.requires.within c.in-Read.is) c.in-Some.ensures.top written
    c.in-Some.ensures.standing
    (search rules)
    (λ committed. let key = (c.requires.sources.commits_are _).1 committed in search rules)

pub returns-in_default-source-clause-sources : goal.returns-in_default-source-clause-sources
returns-in_default-source-clause-sources c = sources_found _ _ c.in-Read.item _ _ _ _ _ c.standing-source.result c.requires.sources
    c.standing-source.ensures.top c.in_ok-set_top.ensures.at c.in_ok-set_top.ensures.others

pub returns-then-writer-operation-clause-sources : goal.returns-then-writer-operation-clause-sources
returns-then-writer-operation-clause-sources c = sources_found _ _ c.in-Read.item _ _ _ _ _ c.standing-source.result c.requires.sources
    c.standing-source.ensures.top c.in_ok-set_top.ensures.at c.in_ok-set_top.ensures.others

pub returns-clause-sources : goal.returns-clause-sources
returns-clause-sources c = sources_found _ _ c.in-Read.item _ _ _ _ _ c.standing-source.result c.requires.sources
    c.standing-source.ensures.top c.in_ok-set_top.ensures.at c.in_ok-set_top.ensures.others
