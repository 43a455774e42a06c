use Rattle.std.proofs.Common.{refl}
use Rattle.sgt_classes.specs.declared.operation.Action.TheVariants.{Read}
use Rattle.sgt_classes.proofs.Places.{there, does_at}
use Rattle.sgt_classes.proofs.Sources.{no_read_reads, some_source, no_source}
use Rattle.sgt_classes.proofs.avoiding.read_source.Goals as goal

pub returns-in_default : goal.returns-in_default
returns-in_default c =
    let h = c.args.history.now in
    let p = c.args.place in record {
      some = tt;
      none = λ _. no_read_reads h p _ _ (does_at h p _ _ (there h p c.requires) refl) c.in_default.not-Read;
    }

pub returns-clause-some : goal.returns-clause-some
returns-clause-some c =
    let h = c.args.history.now in
    let p = c.args.place in
    some_source h p _ c.in-Read.item c.standing.result (does_at h p _ (Read c.in-Read.item) (there h p c.requires) c.in-Read.is)
    c.standing.ensures.top c.standing.ensures.standing

pub returns-clause-none : goal.returns-clause-none
returns-clause-none c =
    let h = c.args.history.now in
    let p = c.args.place in
    no_source h p _ c.in-Read.item c.standing.result (does_at h p _ (Read c.in-Read.item) (there h p c.requires) c.in-Read.is)
    c.standing.ensures.top

pub standing-requires : goal.standing-requires
standing-requires c = record {
  within = c.requires;
  sources = c.in_ok-note_until.ensures;
}

pub note_until-requires-clause-sources : goal.note_until-requires-clause-sources
note_until-requires-clause-sources c = c.new-seen.ensures _
