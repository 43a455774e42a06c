-- The path forward from the source: it goes on to numbers that were seen before.
use Rattle.std.specs.Prelude.{◌≡◌, ℕ, ◌<◌, ◌≤◌, ◌+◌, ◌↔◌, Bool, nat_eq, List, [], ◌∷◌, ◌++◌, length, slice_index, slice_index_or}
use Rattle.std.proofs.Common.{take, zero, suc, add-one, refl, sym, ◌∙◌, ap, subst, inl, inr, arith, length-take, get_or-take}
use Rattle.std.proofs.lemmas.Bool.{eq-eqb, or_left, or_right}
use Rattle.sgt_model.specs.Paths.{PathOf, last_of, Member, AtMost, Distinct}
use Rattle.sgt_model.proofs.Paths.{Within, path-append, last_of-append}
use Rattle.sgt_cycle.specs.Links.{is_link, occurs}
use Rattle.sgt_cycle.specs.Path.{Holds, Follows}
use Rattle.sgt_cycle.specs.Search.{LeadsBack}
use Rattle.sgt_model.proofs.Conditions.{distinct_fits}
use Rattle.sgt_cycle.proofs.Members.{at_member, any_default, member_push, distinct_apart, distinct_push}
use Rattle.sgt_cycle.proofs.Links.{link_ends}

-- a path from the source to the number at an index, all of it at that index or after
pub record Walked (test : ℕ → ℕ → Bool) (source : ℕ) (seen : List ℕ) (at : ℕ) (path : List ℕ) : Type 0 where
  pub rest : List ℕ
  pub is : path ≡ source ∷ rest
  pub goes : PathOf (Holds test) source rest
  pub distinct : Distinct (source ∷ rest)
  pub ends : last_of source rest ≡ slice_index seen at
  pub following : (x : ℕ) → Member x (source ∷ rest) → (i : ℕ) × (at ≤ i) × (i < length seen) × (slice_index seen i ≡ x)

module _ (test : ℕ → ℕ → Bool) (source : ℕ) (seen : List ℕ) where
  -- a step to an index before
  walked_push : (at : ℕ) (path : List ℕ) (i : ℕ) → Distinct seen → Walked test source seen at path → at < length seen → i < at
      → Holds test (slice_index seen at) (slice_index seen i) → Walked test source seen i (path ++ slice_index seen i ∷ [])
  walked_push at path i distinct w below less link =
      let u : ℕ = slice_index seen i in
      let new : Member u (source ∷ w.rest) → ⊥ = λ m.
      let (j, over, within, same) = w.following u m in
      distinct_apart seen distinct i j (omega arith) within (sym same) in
      record {
        rest = w.rest ++ u ∷ [];
        is = ap (λ p. p ++ u ∷ []) w.is;
        goes = path-append (Holds test) source w.rest (u ∷ []) w.goes (rw w.ends link, tt);
        distinct = distinct_push (source ∷ w.rest) u w.distinct new;
        ends = last_of-append source w.rest (u ∷ []);
        following = λ x m. elim ((member_push x (source ∷ w.rest) u).0 m) [
          | inl k ↦ let (j, over, within, same) = w.following x k in (j, omega arith, within, same)
          | inr e ↦ (i, omega arith, omega arith, sym e)
        ];
      }

  -- the path goes on to an index before
  pub walked_next : (at : ℕ) (path : List ℕ) (next r u : ℕ) → Distinct seen → Walked test source seen at path → at < length seen
      → r ≡ slice_index_or seen at r
      → next < length (take at seen) → Holds test r (slice_index (take at seen) next) → u ≡ slice_index_or seen next u
      → (next < length seen) × Walked test source seen next (path ++ u ∷ [])
  walked_next at path next r u distinct w below is within link to =
      let less : next < at = omega (arith, length-take at seen) in
      let inside : next < length seen = omega (arith, length-take at seen) in
      let here : r ≡ slice_index seen at = is ∙ any_default seen at r 0 below in
      let there : slice_index (take at seen) next ≡ slice_index seen next = get_or-take at seen next 0 less in
      let on : Holds test (slice_index seen at) (slice_index seen next) = rw (← here, ← there) link in
      let u_is : u ≡ slice_index seen next = to ∙ any_default seen next u 0 inside in
      (inside, subst (λ x. Walked test source seen next (path ++ x ∷ [])) (sym u_is) (walked_push at path next distinct w below less on))

  -- and it never stops short of one
  pub walked_stops : (targets : List ℕ) (at r s : ℕ) → LeadsBack test targets seen → at < length seen
      → r ≡ slice_index_or seen at r → (Member r targets → ⊥) → s ≡ slice_index_or seen at s
      → ((b : ℕ) → Member b (take at seen) → Holds test s b → ⊥) → ⊥
  walked_stops targets at r s back below r_is no_target s_is none = elim (back at below) [
    | inl m ↦ no_target (subst (λ x. Member x targets) (sym (r_is ∙ any_default seen at r 0 below)) m)
    | inr (i, less, link) ↦
        let within : i < length (take at seen) = omega (arith, length-take at seen) in
        let s_here : s ≡ slice_index seen at = s_is ∙ any_default seen at s 0 below in
        none (slice_index (take at seen) i) (at_member (take at seen) i 0 within) (rw (s_here, get_or-take at seen i 0 less) link)
  ]

-- a path passes no more numbers than occur
pub walked_fits : (links : List (ℕ × ℕ)) (source : ℕ) (seen : List ℕ) (at : ℕ) (path : List ℕ) (few : AtMost 32 (occurs links source))
    → Walked (is_link links) source seen at path → length path ≤ 32
walked_fits links source seen at path few w =
    let fits : length (source ∷ w.rest) ≤ length few.among = distinct_fits (source ∷ w.rest) few.among w.distinct within in
    omega (arith, ap length w.is, few.few)
  where
    along : (t : ℕ) (rest : List ℕ) → PathOf (Holds (is_link links)) t rest → Within rest few.among
    along t [] p x m = elim m [ ]
    along t (u ∷ rest) p x (inl e) =
        subst (λ y. Member y few.among) (sym e) (few.all u (or_right (nat_eq source u) _ (link_ends links t u p.0).1))
    along t (u ∷ rest) p x (inr m) = along u rest p.1 x m

    within : Within (source ∷ w.rest) few.among
    within x (inl e) = subst (λ y. Member y few.among) (sym e) (few.all source (or_left _ _ (eq-eqb source source refl)))
    within x (inr m) = along source w.rest w.goes x m

-- in a path whose neighbours are related each number is related to the next, and only in such a path
pub follows_iff : (test : ℕ → ℕ → Bool) (path : List ℕ)
    → Follows test path ↔ ((k : ℕ) → k + 1 < length path → Holds test (slice_index path k) (slice_index path (k + 1)))
follows_iff test [] = ((λ p k below. absurd (omega arith)), λ each. tt)
follows_iff test (t ∷ rest) = (
  (λ p k below. rw (add-one k) (each t rest p k (omega arith))),
  (λ f. path t rest (λ k below. rw (add-one k) at (f k (omega arith)))),
)
  where
    each : (t : ℕ) (rest : List ℕ) → PathOf (Holds test) t rest → (k : ℕ) → k < length rest
        → Holds test (slice_index (t ∷ rest) k) (slice_index rest k)
    each t [] p k below = absurd (omega arith)
    each t (u ∷ rest) p zero below = p.0
    each t (u ∷ rest) p (suc k) below = each u rest p.1 k (omega arith)

    path : (t : ℕ) (rest : List ℕ) → ((k : ℕ) → k < length rest → Holds test (slice_index (t ∷ rest) k) (slice_index rest k))
        → PathOf (Holds test) t rest
    path t [] f = tt
    path t (u ∷ rest) f = (f 0 (omega arith), path u rest (λ k below. f (suc k) (omega arith)))
