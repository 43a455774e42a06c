use Rattle.std.proofs.Common.{rules, ◌≡◌, ◌++◌, ◌∷◌, [], sym, subst, ◌∙◌}
use Rattle.sgt_appends.specs.Graphs.{LeadTo}
use Rattle.sgt_appends.proofs.Sortings.{round_one, round_on, among_one, never_empty}
use Rattle.sgt_appends.proofs.sorting.round.Goals as goal

pub loop-at-preserved : goal.loop-at-preserved
loop-at-preserved c =
    let popped : c.loop-at.path.items ≡ c.pop.new.self.items ++ c.in-Some.back ∷ [] = search rules in
    let pushed : c.push-in-loop-at.new.self.items ≡ c.loop-at.cycle.items ++ c.in-Some.back ∷ [] = c.in_ok-push-2.ensures.items in
    let inv = c.loop-at.invariant in
    let it = round_one c.loop-at.path.items c.pop.new.self.items inv.back.0 c.loop-at.at c.args.link.from c.in-Some.back popped inv.back.1
    inv.back.2 c.loop-at-test.true in
    record {
      back = (inv.back.0, it.0, it.1.0);
      leads = subst (λ ls. LeadTo c.args.link.from ls c.in-Some.back.to) (sym pushed)
          (round_on c.loop-at.cycle.items c.in-Some.back c.args.link.from c.loop-at.at inv.leads it.1.1);
      among = λ k has. inv.among k (among_one c.loop-at.cycle.items c.loop-at.path.items c.pop.new.self.items c.in-Some.back k popped
          (rw pushed at has));
      some = λ e. never_empty c.loop-at.cycle.items c.in-Some.back (sym pushed ∙ e);
    }
