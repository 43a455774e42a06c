use Rattle.std.proofs.Common.{refl, arith}
use Rattle.std.proofs.lemmas.Grind.{common_steps}
use Rattle.sgt_appends.proofs.Filed.{at_appends}
use Rattle.sgt_appends.proofs.Passed.{has_seen_at}
use Rattle.sgt_levels.proofs.tie.saw_one.Goals as goal

pub returns-then-has : goal.returns-then-has
returns-then-has c = λ yes.
    let h = c.args.history.now in
    let it = c.in-Some.it in (
      record {
        reader = c.args.reader;
        key = it.key;
        first = it.first;
        second = it.second;
        seen = it.seen.now;
        appends_first = at_appends h c.args.from c.args.first it.key it.first c.in-Some.ensures.first;
        appends_second = at_appends h c.args.to c.args.second it.key it.second c.in-Some.ensures.second;
        has_seen = has_seen_at h c.args.reader c.args.read it.key it.seen.now c.in-Some.ensures.seen;
        has = c.has.ensures.0 c.if-has.true;
        has_not = λ there. grind (arith, common_steps, yes, c.has-then-has.ensures.1 there);
      },
      refl,
    )
