-- The one that is taken out of those that wait for none.
use Rattle.std.proofs.Common.{◌≡◌, ◌≢◌, ◌<◌, ℕ, List, [], ◌∷◌, Option, Some, None, IsSome, false, refl, sym, ◌∙◌, subst, inl, inr, arith}
use Rattle.std.specs.Prelude.{length}
use Rattle.std.specs.BTreeMap.{BTreeMap, get, is_at, btree_map_len}
use Rattle.sgt_classes.specs.Tables.{entry_of}
use Rattle.std.specs.Map.{lookup}
use Rattle.std.specs.Ordering.{nat_cmp, is_gt}
use Rattle.std.proofs.lemmas.Bool.{cases_eq}
use Rattle.std.proofs.lemmas.Grind.{common_steps}
use Rattle.std.proofs.lemmas.Map.Keys.{le_from_not_gt}
use Rattle.sgt_classes.specs.declared.graph.Edge.{Edge}
use Rattle.sgt_classes.specs.declared.serial.Waits.{Waits}
use Rattle.sgt_classes.specs.declared.watched.Watched.{Watched}
use Rattle.sgt_classes.specs.Sorting.{AreWaits, IsTopEdge, IsFree, IsFirstFree, KnowsWaits, AllReady, AllWait}

-- a map without entries has nothing at a key
nothing_at : (es : List (ℕ × ℕ)) (k : ℕ) → ¬ (0 < length es) → lookup (is_at (nat_cmp k)) es ≡ None
nothing_at [] k empty = refl
nothing_at (e ∷ es) k empty = absurd (empty (omega arith))

pub nothing_in : (m : BTreeMap ℕ ℕ) (k : ℕ) → ¬ (0 < btree_map_len m) → get nat_cmp m k ≡ None
nothing_in m k empty = nothing_at m.entries k empty

-- where none is ready, each that is left waits
pub all_wait_still : (w : Waits) → AllReady w → ((d : ℕ) → get nat_cmp w.ready d ≡ None) → (u : ℕ) → IsSome (entry_of w.left u)
    → IsSome (entry_of w.incoming.tops u)
all_wait_still w ready none u is = go (entry_of w.left u) (entry_of w.incoming.tops u) refl refl is
  where
    go : (l o : Option ℕ) → entry_of w.left u ≡ l → entry_of w.incoming.tops u ≡ o → IsSome l → IsSome o
    go None o left top some = absurd (grind (arith, common_steps, some))
    go (Some c) (Some k) left top some = refl
    go (Some c) None left top some = let here : None ≡ Some u = sym (none c) ∙ ready u c left top in
        absurd (grind (arith, common_steps, here))

-- what waits for an edge that leads from one that is left stays
top_stays : (es : List Edge) (left left' : ℕ → Option ℕ) (u : ℕ) (o : Option ℕ) → ((v : ℕ) → left v ≡ None → left' v ≡ None)
    → IsTopEdge es left u o → IsTopEdge es left' u o
top_stays es left left' u None gone top = λ k e at to. gone e.from (top k e at to)
top_stays es left left' u (Some i) gone top = (top.0, λ k e after at to. gone e.from (top.1 k e after at to))

-- what is kept without one that waits for none
pub waits_without : (es : List Edge) (left tops below ready left' ready' : ℕ → Option ℕ) (watched : Watched) (t c : ℕ)
    → AreWaits es left tops below ready watched → ready c ≡ Some t → left' t ≡ None → ((u : ℕ) → u ≢ t → left' u ≡ left u)
    → ready' c ≡ None → ((d : ℕ) → d ≢ c → ready' d ≡ ready d) → AreWaits es left' tops below ready' watched
waits_without es left tops below ready left' ready' watched t c waits is gone others gone_ready others_ready = record {
  apart = λ u v d a b. waits.apart u v d (before u d a) (before v d b);
  tops_are = λ u. top_stays es left left' u (tops u) stay (waits.tops_are u);
  tops_left = λ u some. grind (arith, common_steps, some, waits.tops_left u some, cases_eq u t, others u, waits.ready_are c t is);
  below_are = waits.below_are;
  ready_are = λ d u at. still d u at;
  watched_are = waits.watched_are;
}
  where
    before : (u d : ℕ) → left' u ≡ Some d → left u ≡ Some d
    before u d a = grind (arith, common_steps, a, gone, cases_eq u t, others u)

    stay : (v : ℕ) → left v ≡ None → left' v ≡ None
    stay v none = grind (arith, common_steps, none, gone, cases_eq v t, others v)

    still : (d u : ℕ) → ready' d ≡ Some u → (left' u ≡ Some d) × (tops u ≡ None)
    still d u at = elim (cases_eq d c) [
      | inl same ↦ absurd (grind (arith, common_steps, at, same, gone_ready))
      | inr apart ↦
          let mine = waits.ready_are d u (sym (others_ready d apart) ∙ at) in
          let first = waits.ready_are c t is in
          (grind (arith, common_steps, mine, first, apart, cases_eq u t, others u), mine.1)
    ]

-- it is the one that committed first
pub first_free : (w : Waits) (t c : ℕ) → KnowsWaits w → AllReady w → AllWait w → get nat_cmp w.ready c ≡ Some t
    → ((d : ℕ) → IsSome (get nat_cmp w.ready d) → is_gt (nat_cmp c d) ≡ false) → IsFirstFree w.edges.items (entry_of w.left) t
first_free w t c waits ready wait is least = record {
  commit = c;
  commits = (waits.ready_are c t is).0;
  free = subst (λ o. IsTopEdge w.edges.items (entry_of w.left) t o) (waits.ready_are c t is).1 (waits.tops_are t);
  first = λ u d left free.
      let waits_for_none = none u (entry_of w.incoming.tops u) refl free in
      le_from_not_gt c d (least d (subst (λ o. IsSome o) (sym (ready u d left waits_for_none)) refl));
}
  where
    none : (u : ℕ) (o : Option ℕ) → entry_of w.incoming.tops u ≡ o → IsFree w.edges.items (entry_of w.left) u
        → entry_of w.incoming.tops u ≡ None
    none u None top free = top
    none u (Some k) top free =
        let here = subst (λ o. IsTopEdge w.edges.items (entry_of w.left) u o) top (waits.tops_are u) in
        absurd (grind (arith, common_steps, wait u k here.0.0 top here.0.1, free k here.0.0 here.0.1 here.0.2))
