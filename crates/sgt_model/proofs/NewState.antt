-- The state of a new scheduler is the state after the empty history, and it is sound.
use Rattle.std.proofs.Common.{◌≡◌, ℕ, true, false, ◌&&◌, [], sym, ap, subst, ◌∙◌, arith}
use Rattle.std.proofs.lemmas.Bool.{both_ways, le-ltb}
use Rattle.sgt_model.specs.Fates.{live}
use Rattle.sgt_model.specs.Configurations.{Configuration}
use Rattle.sgt_model.specs.State.{Has, State}
use Rattle.sgt_model.specs.StateAfter.{IsStateAfter}
use Rattle.sgt_model.specs.NewState.{IsNew}

pub state_new : (s : Configuration) (c : State) → IsNew s.opening c → IsStateAfter s [] c
state_new s c n = record {
  lives = n.live;
  nodes = λ t. n.nodes t ∙ sym (none t);
  pairs = λ t u. ((λ q. absurd (both_ways (c.pairs t u) (n.pairs t u) q)), (λ p. absurd p.pair.precedes));
  accesses = n.accesses;
  chain = n.chain;
  settled = n.settled;
  read_from = λ u t. ((λ q. absurd (subst (λ l. Has l u t) n.read_from q)), (λ p. absurd p.read));
  fates = n.fates;
  start_count = n.start_count;
  left = λ t l. absurd (both_ways (live [] t) (none t) l);
}
  where
    none : (t : ℕ) → live [] t ≡ false
    none t = ap (λ b. b && true) (le-ltb t 0 (omega arith))
