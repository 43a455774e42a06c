use Rattle.std.proofs.Common.{rules, ◌∷◌, [], get_or, refl, sym, subst, take}
use Rattle.std.specs.BTreeSet.{contains}
use Rattle.std.specs.Ordering.{nat_cmp}
use Rattle.std.proofs.lemmas.List.{take_more, take_all}
use Rattle.sgt_appends.specs.Lists.{IsOnce}
use Rattle.sgt_appends.specs.Links.{has_number}
use Rattle.sgt_appends.proofs.Unknown.{noted_number, numbers_one}
use Rattle.sgt_appends.proofs.Words.{IsOnce-append}
use Rattle.sgt_appends.proofs.Passed.{stands_at}
use Rattle.sgt_appends.proofs.reads.twice_in.Goals as goal

pub returns-then-not-branch-clause-some : goal.returns-then-not-branch-clause-some
returns-then-not-branch-clause-some c =
    let x = get_or c.args.seen.now c.loop-value.value-index 0 in
    stands_at c.args.seen.now c.loop-value.value-index x x ((c.loop-value.invariant.met x).0 (search rules)) c.loop-value-test.true refl

pub loop-value-preserved : goal.loop-value-preserved
loop-value-preserved c =
    let x = get_or c.args.seen.now c.loop-value.value-index 0 in
    record {
      met = λ v.
          numbers_one (has_number c.loop-value.met v) (has_number c.insert.new.self v) v c.loop-value.value-index c.args.seen.now
          c.loop-value-test.true
          (noted_number x v (contains nat_cmp c.loop-value.met v) (contains nat_cmp c.insert.new.self v) (c.in_ok-insert.ensures.updates.0 v))
          (c.loop-value.invariant.met v);
      once = subst (λ vs. IsOnce vs) (sym (take_more c.args.seen.now c.loop-value.value-index 0 c.loop-value-test.true))
          (IsOnce-append (take c.loop-value.value-index c.args.seen.now) (x ∷ []) c.loop-value.invariant.once ((λ none. none), tt)
          (λ v there here. absurd (search rules)));
    }

pub returns-clause-none : goal.returns-clause-none
returns-clause-none c = λ none.
    subst (λ vs. IsOnce vs) (take_all c.loop-value.value-index c.args.seen.now (search rules)) c.loop-value.invariant.once
