use Rattle.std.proofs.Common.{rules, ◌≡◌, ◌≤◌, not, min, length, ap, sym, ◌∙◌}
use Rattle.sgt_model.specs.Fates.{aborted}
use Rattle.sgt_model.specs.Values.{newest_store}
use Rattle.sgt_explain.specs.Places.{entries_before}
use Rattle.sgt_explain.proofs.NewestStores.{by_of, writer_found, writer_skipped, no_writer}
use Rattle.sgt_explain.proofs.writers.newest_writer.Goals as goal

pub returns-then-not-is_aborted-clause-some : goal.returns-then-not-is_aborted-clause-some
returns-then-not-is_aborted-clause-some c =
    let within : c.loop-place.place ≤ length c.args.history.now = search rules in
    writer_found c.args.history.now c.loop-place.place c.args.key
    (λ v. not (aborted (entries_before c.args.history.now c.args.end) v)) c.in-Some.writer (search rules) within c.in-Some.ensures
    (search rules)
    ∙ ap by_of (sym c.loop-place.invariant.none_since)

pub loop-place-preserved-else-not-is_aborted : goal.loop-place-preserved-else-not-is_aborted
loop-place-preserved-else-not-is_aborted c =
    let within : c.loop-place.place ≤ length c.args.history.now = search rules in
    record {
      within = search rules;
      from = search rules;
      none_since = c.loop-place.invariant.none_since
          ∙ writer_skipped c.args.history.now c.loop-place.place c.args.key
          (λ v. not (aborted (entries_before c.args.history.now c.args.end) v)) c.in-Some.writer (search rules)
          within c.in-Some.ensures
          (search rules);
    }

pub loop-place-preserved : goal.loop-place-preserved
loop-place-preserved c =
    let within : c.loop-place.place ≤ length c.args.history.now = search rules in
    record {
      within = search rules;
      from = search rules;
      none_since = c.loop-place.invariant.none_since
          ∙ no_writer c.args.history.now c.loop-place.place c.args.key
          (λ v. not (aborted (entries_before c.args.history.now c.args.end) v)) (search rules) within (search rules);
    }

pub returns-clause-none : goal.returns-clause-none
returns-clause-none c =
    let same : c.loop-place.place ≡ min c.args.low c.args.end = search rules in
    c.loop-place.invariant.none_since
    ∙ ap (λ n. newest_store (λ v. not (aborted (entries_before c.args.history.now c.args.end) v)) c.args.key
    (entries_before c.args.history.now n)) same
