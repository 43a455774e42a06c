use Rattle.std.proofs.Common.{◌≡◌, length, Result, Ok, Err, refl, sym, ap}
use Rattle.std.proofs.lemmas.Bool.{true≢false}
use Rattle.sgt_model.specs.declared.errors.MakeError.{MakeError}
use Rattle.sgt_model.specs.declared.errors.MakeError.TheVariants.{BadLimits}
use Rattle.sgt_sched.specs.LiveList.{numbers}
use Rattle.sgt_sched.specs.SchedulerView.{fate_at}
use Rattle.sgt_sched.proofs.sched.Sched.new.Goals as goal

pub returns-then-not-are_in_range : goal.returns-then-not-are_in_range
returns-then-not-are_in_range g c = record {
  new = tt;
  procedures = tt;
  limits = tt;
  bad_limits = ((λ _ r. true≢false (sym (c.if-not-are_in_range.ensures.1 r))), (λ _. refl));
}

not_bad : {X : Type 0} (x : X) (bad : Result X MakeError) → bad ≡ Err BadLimits → bad ≡ Ok x → ⊥
not_bad x bad e i = cc

pub returns : goal.returns
returns g c = record {
  new = record {
    live = ap numbers c.new-2.ensures;
    nodes = c.empty-2.ensures.nodes;
    pairs = c.empty-2.ensures.pairs;
    accesses = c.empty.ensures;
    chain = c.in_ok-build.ensures.chain;
    settled = c.in_ok-build.ensures.settled;
    read_from = c.new-3.ensures.items;
    fates = λ t. ap (λ l. fate_at l t) c.new-4.ensures;
    start_count = ap length c.new-4.ensures;
  };
  procedures = c.new.ensures;
  limits = refl;
  bad_limits = ((λ e. absurd (not_bad _ _ e refl)), (λ n. absurd (n (c.if-not-are_in_range.ensures.0 refl))));
}
