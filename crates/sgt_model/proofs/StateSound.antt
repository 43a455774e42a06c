-- The state after a legal history is sound.
use Rattle.std.proofs.Common.{◌≡◌, ℕ, ◌+◌, ◌<◌, ◌≤◌, Bool, true, false, cond, ◌⊎◌, List, [], ◌∷◌, ◌++◌, sym, ap, subst, inl, inr, ◌∙◌, arith}
use Rattle.std.specs.Prelude.{length}
use Rattle.std.proofs.lemmas.Bool.{cases_lt}
use Rattle.sgt_model.specs.declared.entry.Entry.{Entry}
use Rattle.sgt_model.specs.declared.kind.Kind.TheVariants.{Store}
use Rattle.sgt_model.specs.Contents.{Key}
use Rattle.sgt_model.specs.Paths.{Member}
use Rattle.sgt_model.specs.Fates.{is_start, start_count, live, started_ones}
use Rattle.sgt_model.specs.Configurations.{Configuration}
use Rattle.sgt_model.specs.Legality.{Legal}
use Rattle.sgt_model.specs.AccessList.{lists_conflicting}
use Rattle.sgt_model.specs.Chains.{chain_of, writes_in}
use Rattle.sgt_model.specs.ChainOrder.{InOrder}
use Rattle.sgt_model.specs.State.{State, PairIn}
use Rattle.sgt_model.specs.StateAfter.{IsStateAfter}
use Rattle.sgt_model.specs.Soundness.{Sound}
use Rattle.sgt_model.proofs.Facts.{live-started, live-stands}
use Rattle.sgt_model.proofs.ChainOrder.{Before, chain-ordered, chain-wrote, in_order-among}
use Rattle.sgt_model.proofs.Capacity.{limits_are_kept}
use Rattle.sgt_model.proofs.Listed.{member_added, kept_member, member_kept}
use Rattle.sgt_model.proofs.Verdict.{listed_in-state, listed_live}

pub order_from_state : (s : Configuration) (past : List Entry) → Legal s past → (c : State) → IsStateAfter s past c → (k : Key)
    → InOrder (PairIn c) (c.chain k)
order_from_state s past h c i k = subst (λ l. InOrder (PairIn c) l) (sym (i.chain k))
    (in_order-among (Before past) (PairIn c) (chain_of (live past) k past)
    (λ a b ma mb r. (i.pairs a b).1 (record {
      first_live = (chain-wrote (live past) k past a ma).counts;
      second_live = (chain-wrote (live past) k past b mb).counts;
      pair = record {
        apart = r.0;
        first_stands = live-stands past a
            (chain-wrote (live past) k past a ma).counts;
        second_stands = live-stands past b (chain-wrote (live past) k past b mb).counts;
        precedes = r.1;
      };
    })) (chain-ordered (live past) k past))

pub writers_from_state : (s : Configuration) (past : List Entry) (h : Legal s past) (c : State) (i : IsStateAfter s past c) (k : Key)
    (t : ℕ) → writes_in t (c.chain k) ≡ true → lists_conflicting c.accesses t k Store ≡ true
writers_from_state s past h c i k t m = let w = chain-wrote (live past) k past t (ap (writes_in t) (sym (i.chain k)) ∙ m) in
    listed_in-state s past h c i t k Store w.counts ∙ w.stored

-- the list of the live ones has each that is live, and no other

begun_has : (past : List Entry) (t : ℕ) → t < start_count past → Member t (started_ones past)
begun_has [] t lt = absurd (omega arith)
begun_has (e ∷ past) t lt = go (is_start e.reply) (begun_has past t) lt
  where
    now_or : t < start_count past + 1 → (t < start_count past → Member t (started_ones past))
        → Member t (started_ones past) ⊎ (t ≡ start_count past)
    now_or lt before = elim (cases_lt t (start_count past)) [ inl l ↦ inl (before l) | inr le ↦ inr (omega arith) ]

    go : (b : Bool) → (t < start_count past → Member t (started_ones past)) → t < cond b (start_count past + 1) (start_count past)
        → Member t (cond b (started_ones past ++ start_count past ∷ []) (started_ones past))
    go true before lt = member_added t (started_ones past) (start_count past) (now_or lt before)
    go false before lt = before lt

pub state_is_sound : (s : Configuration) (past : List Entry) → Legal s past → (c : State) → IsStateAfter s past c
    → Sound s.rules.limits.live c
state_is_sound s past h c i = record {
  begun = λ t q. subst (λ n. t < n) (sym i.start_count) (live-started past t (sym (i.nodes t) ∙ q));
  listed = λ t. (
    (λ q. subst (λ l. Member t l) (sym i.lives) (kept_member (live past) t (started_ones past) (sym (i.nodes t) ∙ q)
        (begun_has past t (live-started past t (sym (i.nodes t) ∙ q))))),
    (λ m. i.nodes t ∙ (member_kept (live past) t (started_ones past) (subst (λ l. Member t l) i.lives m)).0),
  );
  few = subst (λ l. length l ≤ s.rules.limits.live) (sym i.lives) (limits_are_kept s past h).1;
  pair_nodes = λ t u q. let p = (i.pairs t u).0 q in (i.nodes t ∙ p.first_live, i.nodes u ∙ p.second_live);
  pair_apart = λ t u q. ((i.pairs t u).0 q).pair.apart;
  access_nodes = λ t k kind q. i.nodes t ∙ listed_live s past h c i t k kind q;
  read_nodes = λ u t q. let p = (i.read_from u t).0 q in (i.nodes u ∙ p.source_live, i.nodes t ∙ p.reader_live);
  writers = λ k t m. writers_from_state s past h c i k t m;
  order = λ k. order_from_state s past h c i k;
}
