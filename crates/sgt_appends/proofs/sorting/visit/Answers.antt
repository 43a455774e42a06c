use Rattle.std.proofs.Common.{rules, ◌≡◌, ◌<◌, ◌+◌, ◌++◌, ◌∷◌, [], true, false, length, get_or, sym, subst, ◌∙◌, arith}
use Rattle.std.specs.Prelude.{slice_set}
use Rattle.std.proofs.Math.ListN.{length-set}
use Rattle.sgt_appends.specs.Graphs.{IsReached, unmet}
use Rattle.sgt_appends.proofs.Sortings.{push_one, pop_one, met_still, unmet_less}
use Rattle.sgt_appends.proofs.sorting.visit.Goals as goal

pub loop-link-smaller-in-Some : goal.loop-link-smaller-in-Some
loop-link-smaller-in-Some c =
    let s = c.loop-link in
    let l = c.in-Some.link in
    let marked : c.mark-in-Some.new.met ≡ slice_set s.met l.from true = search rules in
    let was : get_or s.met l.from false ≡ false = search rules in
    let is = push_one c.args.links.now c.args.root s.met s.ranks s.path.items s.at l s.invariant.is
    s.invariant.sorted.within (search rules) (search rules) in
    let within : l.from < length s.met = omega (arith, is.within, s.invariant.is.marks) in
    let less : unmet (slice_set s.met l.from true) + 1 ≡ unmet s.met = unmet_less s.met l.from within was in
    let longer : length c.push.new.self.items ≡ length s.path.items + 1 = search rules in
    rw marked (omega (arith, less, longer))

pub loop-link-preserved-in-Some : goal.loop-link-preserved-in-Some
loop-link-preserved-in-Some c =
    let s = c.loop-link in
    let l = c.in-Some.link in
    let inv = s.invariant in
    let marked : c.mark-in-Some.new.met ≡ slice_set s.met l.from true = search rules in
    let pushed : c.push.new.self.items ≡ s.path.items ++ l ∷ [] = c.in_ok-push.ensures.items in
    let is = push_one c.args.links.now c.args.root s.met s.ranks s.path.items s.at l inv.is inv.sorted.within (search rules)
    (search rules) in
    let within : l.from < length s.met = omega (arith, is.within, inv.is.marks) in
    record {
      sorted = search rules;
      ordered = search rules;
      nodes = search rules;
      marks = rw marked (length-set s.met l.from true ∙ inv.marks);
      is = subst (λ m. IsReached c.args.links.now c.args.root m s.ranks c.push.new.self.items l.from) (sym marked)
          (subst (λ p. IsReached c.args.links.now c.args.root (slice_set s.met l.from true) s.ranks p l.from) (sym pushed) is);
      others = λ v met. rw marked (met_still s.met l.from v within (inv.others v met));
    }

pub loop-link-preserved : goal.loop-link-preserved
loop-link-preserved c =
    let s = c.loop-link in
    let l = c.in-Some-pop.link in
    let popped : s.path.items ≡ c.pop.new.self.items ++ l ∷ [] = search rules in
    record {
      sorted = c.in_ok-place.ensures.sorted;
      ordered = c.in_ok-place.ensures.ordered;
      nodes = c.in_ok-place.ensures.nodes ∙ s.invariant.nodes;
      marks = s.invariant.marks;
      is = pop_one c.args.links.now c.args.root s.met s.ranks c.place.new.ranks c.pop.new.self.items s.at l
          (subst (λ p. IsReached c.args.links.now c.args.root s.met s.ranks p s.at) popped s.invariant.is) s.invariant.sorted.within
          c.in_ok-place.ensures.nodes c.in_ok-place.ensures.others c.in_ok-place.ensures.placed;
      others = s.invariant.others;
    }
