-- What a read and a write do, where nothing blocks them.
use Rattle.std.proofs.Common.{◌≡◌, ◌≢◌, ℕ, ℤ, ◌<◌, arith, Bool, true, false, cond, ◌⊎◌, List, [], ◌∷◌, ◌++◌, length, Option, None, refl, sym, ap, ◌∙◌, subst}
use Rattle.std.specs.Prelude.{◌↔◌}
use Rattle.std.specs.List.{last_or}
use Rattle.sgt_model.specs.declared.kind.Kind.TheVariants.{Look, Store}
use Rattle.sgt_model.specs.declared.reply.Reply.TheVariants as reply
use Rattle.sgt_model.specs.Contents.{Key, key_eq}
use Rattle.sgt_model.specs.Paths.{Member}
use Rattle.sgt_model.specs.Chains.{write_last, writes_in}
use Rattle.sgt_model.specs.ChainOrder.{IsLastIn}
use Rattle.sgt_model.specs.AccessList.{ListedAccess, lists_conflicting}
use Rattle.sgt_sched.specs.LiveProgress.{Progress, left_kept}
use Rattle.sgt_model.specs.Left as left
use Rattle.sgt_model.specs.Found.{found}
use Rattle.sgt_model.specs.Changes.{LooksAt, StoresInto}
use Rattle.sgt_model.specs.CallEffects.{MakesLook, MakesStore}
use Rattle.sgt_model.proofs.Conditions.{may_write, chain_capacity}
use Rattle.sgt_model.proofs.SoundCalls.{sound_look, sound_store}
use Rattle.sgt_cycle.specs.Path.{NoPath}
use Rattle.sgt_records.specs.Tops.{top_from, value_of_top}
use Rattle.sgt_sched.specs.LiveList.{progress_at, changed, with_look, with_store}
use Rattle.sgt_sched.specs.SchedulerView.{SchedulerView, state_of, IsKept}
use Rattle.sgt_sched.specs.Steps.{with_source}
use Rattle.sgt_sched.proofs.Accessed.{not_blocked, notes, own_progress_is, kept_access, read_added, value_of_top-from}

module _ {R A G : Type 0} {chain : R → Key → List (ℕ × Option ℤ)} {settled : R → Key → Option ℤ} {list : A → List ListedAccess}
    {nodes : G → ℕ → Bool} {pairs : G → ℕ → ℕ → Bool} {before now : SchedulerView R A G} (seen : before ≡ now)
    (kept : IsKept chain settled list nodes pairs before) (t : ℕ) (live_t : nodes before.graph t ≡ true) (k : Key) (rivals : List ℕ)
    (free : NoPath (pairs before.graph) t rivals) where
  module _ (exact : (u : ℕ) → Member u rivals ↔ ((u ≢ t) × (lists_conflicting (list before.accesses) u k Look ≡ true))) (accesses : A)
      (graph : G) (live : List (ℕ × Progress)) (read_from : List (ℕ × ℕ)) (value : Option ℤ)
      (list_is : list accesses ≡ list before.accesses ++ record { by = t; key = k; kind = Look } ∷ [])
      (nodes_are : (u : ℕ) → nodes graph u ≡ nodes before.graph u)
      (pairs_are : (u v : ℕ) → (pairs graph u v ≡ true) ↔ ((pairs before.graph u v ≡ true) ⊎ ((v ≡ t) × Member u rivals)))
      (value_is : value ≡ value_of_top (top_from (last_or None (chain before.records k)) (settled before.records k)))
      (live_is : live ≡ changed t (with_look value) before.live)
      (reads_are : read_from ≡ with_source (top_from (last_or None (chain before.records k)) (settled before.records k)) t
      before.read_from) where
    -- the parts after the read
    abbrev pub after_look : SchedulerView R A G
    after_look = record before { accesses = accesses; graph = graph; live = live; read_from = read_from }

    is_after : record before {
      accesses = accesses;
      graph = graph;
      live = changed t (with_look value) before.live;
      read_from = with_source
          (top_from (last_or None (chain before.records k)) (settled before.records k)) t before.read_from;
    }
        ≡ after_look
    is_after = λ i. record before {
      accesses = accesses;
      graph = graph;
      live = sym live_is i;
      read_from = sym reads_are i;
    }

    found_is : value ≡ found (state_of chain settled list nodes pairs before) k
    found_is = value_is ∙ value_of_top-from (last_or None (chain before.records k)) (settled before.records k)

    looks : LooksAt t k (state_of chain settled list nodes pairs before)
        (state_of chain settled list nodes pairs (record before {
          accesses = accesses;
          graph = graph;
          live = changed t (with_look value) before.live;
          read_from = with_source
              (top_from (last_or None (chain before.records k)) (settled before.records k)) t before.read_from;
        }))
    looks = record {
      notes = notes kept t live_t k Look rivals exact before.records accesses graph (with_look value)
          (with_source (top_from (last_or None (chain before.records k)) (settled before.records k)) t before.read_from)
          (λ j. refl) list_is nodes_are pairs_are;
      chain = λ j. refl;
      read_from = λ u v. read_added (last_or None (chain before.records k)) (settled before.records k) t before.read_from u v;
      own_left = ap left_kept (own_progress_is kept t live_t k Look rivals exact before.records accesses graph (with_look value)
          (with_source (top_from (last_or None (chain before.records k)) (settled before.records k)) t before.read_from)
          (λ j. refl) list_is nodes_are pairs_are)
          ∙ ap (λ v. left.after_look v (left_kept (progress_at before.live t))) found_is;
    }

    -- what holds at every moment holds after it
    pub kept_look : IsKept chain settled list nodes pairs after_look
    kept_look = subst (IsKept chain settled list nodes pairs) is_after
        (kept_access kept t live_t k Look rivals exact before.records accesses graph (with_look value)
        (with_source (top_from (last_or None (chain before.records k)) (settled before.records k)) t before.read_from)
        (λ j. refl) list_is nodes_are pairs_are
        (kept.along t live_t)
        (sound_look before.limits.live _ _ kept.sound t k live_t looks))

    -- it is a read that nothing blocks
    pub makes_look : MakesLook t k (state_of chain settled list nodes pairs now) (reply.Looked k value)
        (state_of chain settled list nodes pairs after_look)
    makes_look = subst (λ (p : SchedulerView R A G). MakesLook t k (state_of chain settled list nodes pairs p) (reply.Looked k value)
        (state_of chain settled list nodes pairs after_look)) seen (record {
          free = not_blocked kept t live_t k Look rivals exact free;
          reply = ap (reply.Looked k) found_is;
          looks = subst (λ (p : SchedulerView R A G). LooksAt t k (state_of chain settled list nodes pairs before)
              (state_of chain settled list nodes pairs p)) is_after looks;
        })

  module _ (exact : (u : ℕ) → Member u rivals ↔ ((u ≢ t) × (lists_conflicting (list before.accesses) u k Store ≡ true))) where
    -- the value goes to the end of the chain, which has capacity for it
    pub store_last : IsLastIn t (chain before.records k)
    store_last = may_write before.limits.live _ kept.sound t k live_t (not_blocked kept t live_t k Store rivals exact free)

    -- t's chain has capacity
    pub store_capacity : writes_in t (chain before.records k) ≡ false → length (chain before.records k) < 32
    store_capacity h = let few = chain_capacity before.limits.live _ kept.sound t k live_t h in omega (arith, kept.in_range.few_live)

    module _ (v : Option ℤ) (records : R) (accesses : A) (graph : G) (live : List (ℕ × Progress))
        (chain_is : (j : Key) → chain records j ≡ cond (key_eq k j) (write_last t v (chain before.records j)) (chain before.records j))
        (settled_is : (j : Key) → settled records j ≡ settled before.records j)
        (list_is : list accesses ≡ list before.accesses ++ record { by = t; key = k; kind = Store } ∷ [])
        (nodes_are : (u : ℕ) → nodes graph u ≡ nodes before.graph u)
        (pairs_are : (u v : ℕ) → (pairs graph u v ≡ true) ↔ ((pairs before.graph u v ≡ true) ⊎ ((v ≡ t) × Member u rivals)))
        (live_is : live ≡ changed t with_store before.live) where
      -- the parts after the write
      abbrev pub after_store : SchedulerView R A G
      after_store = record before { records = records; accesses = accesses; graph = graph; live = live }

      store_is : record before {
        records = records;
        accesses = accesses;
        graph = graph;
        live = changed t with_store before.live;
      } ≡ after_store
      store_is = λ i. record before { records = records; accesses = accesses; graph = graph; live = sym live_is i }

      stores : StoresInto t k v (state_of chain settled list nodes pairs before)
          (state_of chain settled list nodes pairs (record before {
            records = records;
            accesses = accesses;
            graph = graph;
            live = changed t with_store before.live;
          }))
      stores = record {
        notes = notes kept t live_t k Store rivals exact records accesses graph with_store before.read_from settled_is list_is nodes_are
            pairs_are;
        chain = chain_is;
        read_from = λ u w. ((λ h. h), (λ h. h));
        own_left = ap left_kept (own_progress_is kept t live_t k Store rivals exact records accesses graph with_store before.read_from
            settled_is list_is nodes_are pairs_are);
      }

      -- what holds at every moment holds after it
      pub kept_store : IsKept chain settled list nodes pairs after_store
      kept_store = subst (IsKept chain settled list nodes pairs) store_is
          (kept_access kept t live_t k Store rivals exact records accesses graph with_store before.read_from settled_is list_is nodes_are
          pairs_are
          (kept.along t live_t)
          (sound_store before.limits.live _ _ kept.sound t k v live_t stores.notes stores.chain stores.read_from))

      -- it is a write that nothing blocks
      pub makes_store : MakesStore t k v (state_of chain settled list nodes pairs now) (reply.Wrote k v)
          (state_of chain settled list nodes pairs after_store)
      makes_store = subst (λ (p : SchedulerView R A G). MakesStore t k v (state_of chain settled list nodes pairs p)
          (reply.Wrote k v) (state_of chain settled list nodes pairs after_store)) seen (record {
            free = not_blocked kept t live_t k Store rivals exact free;
            reply = refl;
            stores = subst (λ (p : SchedulerView R A G). StoresInto t k v (state_of chain settled list nodes pairs before)
                (state_of chain settled list nodes pairs p)) store_is stores;
          })
