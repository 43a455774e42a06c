use Rattle.std.proofs.Common.{rules, sym, subst, get_or}
use Rattle.std.proofs.lemmas.List.{take_all}
use Rattle.sgt_appends.specs.Lists.{Has}
use Rattle.sgt_appends.specs.Indexes.{position_of}
use Rattle.sgt_appends.specs.Links.{has_number}
use Rattle.sgt_appends.proofs.Unknown.{known_more, known_by, first_one}
use Rattle.sgt_appends.proofs.graph.first_in_set.Goals as goal

pub returns-in-Some-clause-some : goal.returns-in-Some-clause-some
returns-in-Some-clause-some c =
    first_one (position_of c.args.appends.now) c.args.read.reader c.args.read.key c.args.read.seen.now c.args.line.now c.loop-value.value-index
    c.in-Some.found c.loop-value-test.true c.loop-value.invariant (
      (λ has. c.in-Some.ensures.some.0 ((c.in_ok-seen.ensures (get_or c.args.line.now c.loop-value.value-index 0)).1 has)),
      c.in-Some.ensures.some.1,
      c.in-Some.ensures.some.2,
    )

pub loop-value-preserved : goal.loop-value-preserved
loop-value-preserved c =
    let w = get_or c.args.line.now c.loop-value.value-index 0 in
    known_more (position_of c.args.appends.now) c.args.read.reader c.args.read.key c.args.read.seen.now c.args.line.now
    c.loop-value.value-index c.loop-value-test.true c.loop-value.invariant
    (known_by (position_of c.args.appends.now) c.args.read.reader c.args.read.key c.args.read.seen.now c.args.line.now c.loop-value.value-index
    (has_number c.in_ok-seen.seen w) c.requires c.loop-value-test.true ((c.in_ok-seen.ensures w).0) (c.unknown_at.ensures.none (search rules)))

pub returns-clause-none : goal.returns-clause-none
returns-clause-none c = λ none v has.
    c.loop-value.invariant v (subst (λ vs. Has vs v) (sym (take_all c.loop-value.value-index c.args.line.now (search rules))) has)
