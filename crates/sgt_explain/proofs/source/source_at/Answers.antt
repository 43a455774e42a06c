use Rattle.std.proofs.Common.{rules, ◌≡◌, ◌∙◌, refl}
use Rattle.sgt_explain.specs.Places.{entries_before, placed_access}
use Rattle.sgt_model.specs.Accesses.{Access}
use Rattle.sgt_explain.proofs.FirstSources.{if_none, reads_below}
use Rattle.sgt_explain.proofs.NewestStores.{look_is, looks_from, looks_from_one}
use Rattle.sgt_explain.proofs.source.source_at.Goals as goal

pub returns-clause-reported : goal.returns-clause-reported
returns-clause-reported c =
    let entries = c.args.history.now in
    let made : Access = record { by = c.made.inside.by; key = c.made.inside.key; kind = c.made.inside.kind; value = c.made.inside.value } in
    record {
      reader = refl;
      place_is = refl;
      look = look_is (placed_access entries c.args.place) made
          c.args.reader (search rules) (search rules) (search rules);
      reads = (
        search rules,
        looks_from (entries_before entries c.args.place) (placed_access entries c.args.place)
            made
            c.args.reader c.in_ok-source.source (search rules) (search rules) (search rules) c.in_ok-source.ensures.some,
      );
    }

pub returns-clause-some : goal.returns-clause-some
returns-clause-some c =
    let entries = c.args.history.now in
    let made : Access = record { by = c.made.inside.by; key = c.made.inside.key; kind = c.made.inside.kind; value = c.made.inside.value } in
    λ v reads.
    looks_from_one (entries_before entries c.args.place) (placed_access entries c.args.place)
    made
    c.args.reader c.in_ok-source.source v (search rules) c.in_ok-source.ensures.some reads.1

pub returns-in_err-source-clause-none : goal.returns-in_err-source-clause-none
returns-in_err-source-clause-none c =
    let entries = c.args.history.now in
    let made : Access = record { by = c.made.inside.by; key = c.made.inside.key; kind = c.made.inside.kind; value = c.made.inside.value } in
    if_none c.from_residual-in_err-source.result
    (reads_below entries c.args.place c.args.low c.args.reader made (search rules) (search rules) c.in_err-source.ensures.none)

pub returns-then-eq-clause-none : goal.returns-then-eq-clause-none
returns-then-eq-clause-none c =
    let entries = c.args.history.now in
    let made : Access = record { by = c.made.inside.by; key = c.made.inside.key; kind = c.made.inside.kind; value = c.made.inside.value } in
    let same : c.args.reader ≡ c.in_ok-source.source = search rules in
    λ v reads. absurd (reads.0 (same
    ∙ looks_from_one (entries_before entries c.args.place) (placed_access entries c.args.place) made c.args.reader c.in_ok-source.source v
    (search rules) c.in_ok-source.ensures.some reads.1))
