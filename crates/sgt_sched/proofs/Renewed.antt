-- What is left where nothing is live: the committed values alone.
use Rattle.std.proofs.Common.{◌≡◌, ℕ, ℤ, arith, Bool, true, nat_eq, inl, List, [], ◌∷◌, Option, refl, subst}
use Rattle.std.proofs.lemmas.Bool.{false≢true, false_from_ne_true, and_from, or_left, eq-eqb}
use Rattle.sgt_model.specs.declared.kind.Kind.{Kind}
use Rattle.sgt_model.specs.declared.kind.Kind.TheVariants.{Look, Store}
use Rattle.sgt_model.specs.Contents.{Key, Contents, key_eq}
use Rattle.sgt_model.specs.Paths.{Member}
use Rattle.sgt_model.specs.Pairs.{one_stores}
use Rattle.sgt_model.specs.AccessList.{ListedAccess, is_conflicting, lists_conflicting}
use Rattle.sgt_model.proofs.Stores.{key_eq-refl}
use Rattle.sgt_model.specs.Chains.{writes_in}
use Rattle.sgt_model.specs.NewState.{IsNew}
use Rattle.sgt_model.specs.State.{Has}
use Rattle.sgt_sched.specs.LiveList.{numbers}
use Rattle.sgt_sched.specs.SchedulerView.{SchedulerView, state_of, IsKept}

-- a write conflicts with each access of its key
conflicting : (a : ListedAccess) → is_conflicting a.by a.key Store a ≡ true
conflicting a = and_from (nat_eq a.by a.by) _ (eq-eqb a.by a.by refl)
    (and_from (key_eq a.key a.key) _ (key_eq-refl a.key) (stored a.kind)) where
      stored : (kind : Kind) → one_stores kind Store ≡ true
      stored Look = refl
      stored Store = refl

-- lists that hold nothing of anybody are empty
no_accesses : (list : List ListedAccess) → ((t : ℕ) (k : Key) (kind : Kind) → lists_conflicting list t k kind ≡ true → ⊥) → list ≡ []
no_accesses [] none = refl
no_accesses (a ∷ rest) none = absurd (none a.by a.key Store (or_left _ _ (conflicting a)))

no_writes : (chain : List (ℕ × Option ℤ)) → ((t : ℕ) → writes_in t chain ≡ true → ⊥) → chain ≡ []
no_writes [] none = refl
no_writes (w ∷ rest) none = absurd (none w.0 (or_left _ _ (eq-eqb w.0 w.0 refl)))

-- no transaction writes in an empty chain
no_writer : (t : ℕ) → writes_in t [] ≡ true → ⊥
no_writer t w = false≢true w

no_reads : (reads : List (ℕ × ℕ)) → ((u t : ℕ) → Has reads u t → ⊥) → reads ≡ []
no_reads [] none = refl
no_reads (p ∷ rest) none = absurd (none p.0 p.1 (inl (refl, refl)))

module _ {R A G : Type 0} {chain : R → Key → List (ℕ × Option ℤ)} {settled : R → Key → Option ℤ} {list : A → List ListedAccess}
    {nodes : G → ℕ → Bool} {pairs : G → ℕ → ℕ → Bool} {before : SchedulerView R A G} (kept : IsKept chain settled list nodes pairs before)
    (none : numbers before.live ≡ []) where
  -- the parts afterwards
  abbrev pub renewed : SchedulerView R A G
  renewed = record before { fates = [] }

  no_node : (t : ℕ) → nodes before.graph t ≡ true → ⊥
  no_node t n = subst (Member t) none ((kept.sound.listed t).0 n)

  -- what is kept holds of them
  pub renewed_kept : IsKept chain settled list nodes pairs renewed
  renewed_kept = record {
    in_range = kept.in_range;
    begun = omega arith;
    sound = record {
      begun = λ t n. absurd (no_node t n);
      listed = kept.sound.listed;
      few = kept.sound.few;
      pair_nodes = kept.sound.pair_nodes;
      pair_apart = kept.sound.pair_apart;
      access_nodes = kept.sound.access_nodes;
      read_nodes = kept.sound.read_nodes;
      writers = kept.sound.writers;
      order = kept.sound.order;
    };
    rising = kept.rising;
    unended = λ t. ((λ n. absurd (no_node t n)), (λ u. absurd (omega (arith, u.0))));
    along = kept.along;
  }

  -- and they are those of a new scheduler over the committed values
  pub renewed_new : IsNew (settled before.records) (state_of chain settled list nodes pairs renewed)
  renewed_new = record {
    live = none;
    nodes = λ t. false_from_ne_true (nodes before.graph t) (no_node t);
    pairs = λ t u. false_from_ne_true (pairs before.graph t u) (λ p. no_node t (kept.sound.pair_nodes t u p).0);
    accesses = no_accesses _ (λ t k kind c. no_node t (kept.sound.access_nodes t k kind c));
    chain = λ k. no_writes _ (λ t w. no_node t (kept.sound.access_nodes t k Store (kept.sound.writers k t w)));
    settled = λ k. refl;
    read_from = no_reads _ (λ u t r. no_node u (kept.sound.read_nodes u t r).0);
    fates = λ t. refl;
    start_count = refl;
  }

  -- the same with other records, in which no write is pending
  module _ (records : R) (no_chain : (k : Key) → chain records k ≡ []) where
    abbrev pub reopened : SchedulerView R A G
    reopened = record before { records = records; fates = [] }

    pub reopened_kept : IsKept chain settled list nodes pairs reopened
    reopened_kept = record {
      in_range = kept.in_range;
      begun = renewed_kept.begun;
      sound = record {
        begun = renewed_kept.sound.begun;
        listed = kept.sound.listed;
        few = kept.sound.few;
        pair_nodes = kept.sound.pair_nodes;
        pair_apart = kept.sound.pair_apart;
        access_nodes = kept.sound.access_nodes;
        read_nodes = kept.sound.read_nodes;
        writers = λ k t w. absurd (no_writer t (subst (λ c. writes_in t c ≡ true) (no_chain k) w));
        order = λ k. rw (no_chain k) tt;
      };
      rising = kept.rising;
      unended = renewed_kept.unended;
      along = kept.along;
    }

    pub reopened_new : (opening : Contents) → ((k : Key) → settled records k ≡ opening k)
        → IsNew opening (state_of chain settled list nodes pairs reopened)
    reopened_new opening is = record {
      live = renewed_new.live;
      nodes = renewed_new.nodes;
      pairs = renewed_new.pairs;
      accesses = renewed_new.accesses;
      chain = no_chain;
      settled = is;
      read_from = renewed_new.read_from;
      fates = renewed_new.fates;
      start_count = renewed_new.start_count;
    }
