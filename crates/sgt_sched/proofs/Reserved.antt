-- The invariant still holds after capacity was provided in the layers.
use Rattle.std.proofs.Common.{◌≡◌, ℕ, ℤ, Bool, List, Option, sym, ap, ◌∙◌, subst}
use Rattle.sgt_model.specs.declared.kind.Kind.TheVariants.{Store}
use Rattle.sgt_model.specs.Contents.{Key}
use Rattle.sgt_model.specs.AccessList.{ListedAccess, lists_conflicting}
use Rattle.sgt_model.specs.Chains.{writes_in}
use Rattle.sgt_model.specs.ChainOrder.{InOrder}
use Rattle.sgt_model.specs.State.{PairIn}
use Rattle.sgt_sched.specs.SchedulerView.{SchedulerView, state_of, IsKept}

module _ {R A G : Type 0} {chain : R → Key → List (ℕ × Option ℤ)} {settled : R → Key → Option ℤ} {list : A → List ListedAccess}
    {nodes : G → ℕ → Bool} {pairs : G → ℕ → ℕ → Bool} {before : SchedulerView R A G} (kept : IsKept chain settled list nodes pairs before)
    (records : R) (accesses : A) (same_chain : (k : Key) → chain records k ≡ chain before.records k)
    (same_list : list accesses ≡ list before.accesses) where
  -- the parts with the layers after they provided capacity
  abbrev pub with_capacity : SchedulerView R A G
  with_capacity = record before { records = records; accesses = accesses }

  pub kept_reserved : IsKept chain settled list nodes pairs with_capacity
  kept_reserved = record {
    in_range = kept.in_range;
    begun = kept.begun;
    sound = record {
      begun = kept.sound.begun;
      listed = kept.sound.listed;
      few = kept.sound.few;
      pair_nodes = kept.sound.pair_nodes;
      pair_apart = kept.sound.pair_apart;
      access_nodes = λ t k kind h. kept.sound.access_nodes t k kind (ap (λ l. lists_conflicting l t k kind) (sym same_list) ∙ h);
      read_nodes = kept.sound.read_nodes;
      writers = λ k t h. ap (λ l. lists_conflicting l t k Store) same_list
          ∙ kept.sound.writers k t (ap (writes_in t) (sym (same_chain k)) ∙ h);
      order = λ k. subst (InOrder (PairIn (state_of chain settled list nodes pairs before))) (sym (same_chain k)) (kept.sound.order k);
    };
    rising = kept.rising;
    unended = kept.unended;
    along = kept.along;
  }
