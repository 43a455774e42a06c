use Rattle.std.proofs.Common.{ap, ◌∙◌}
use Rattle.std.proofs.lemmas.Result.{IfOk-weaker}
use Rattle.std.specs.BTreeMap.{get}
use Rattle.std.specs.Option.{option_or}
use Rattle.sgt_model.specs.Databases.{contents_of, key_cmp}
use Rattle.sgt_engine.specs.Writes.{is_written}
use Rattle.sgt_engine.proofs.KeysWritten.{newer_first}
use Rattle.sgt_engine.proofs.changes.changed.Goals as goal

pub returns-clause-values : goal.returns-clause-values
returns-clause-values g c = IfOk-weaker c.updated-2.result _ _ (λ d are k.
    let o = get key_cmp c.in_ok-written.written.values k in
    are k
    ∙ (ap (λ n. option_or n (contents_of c.args.opening.now k)) (c.in_ok-newer.ensures k)
    ∙ newer_first (g.R.Records.settled c.args.records.now) (contents_of c.args.opening.now) k (is_written k c.args.history.now.entries) o
    (c.in_ok-written.ensures.values k) (c.in_ok-written.ensures.removes c.if-written.false k))) c.updated-2.ensures.values
