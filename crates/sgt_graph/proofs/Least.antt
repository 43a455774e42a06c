-- The least of the numbers with an edge to t, over edges one after another.
use Rattle.std.specs.Prelude.{◌≡◌, ◌≢◌, ℕ, ◌<◌, ◌+◌, min, unwrap_or, true, false, List, [], ◌∷◌, ◌++◌, length, slice_index_or, Option, Some, None}
use Rattle.std.proofs.Common.{take, refl, sym, ◌∙◌, ap, subst, inl, inr, arith, add-one}
use Rattle.std.proofs.Math.Seq.{take-suc}
use Rattle.std.proofs.lemmas.Bool.{eq-eqb, and_from, or_left, or_right, both_ways, false_from_ne_true, cases_lt}
use Rattle.sgt_cycle.specs.Links.{is_link}
use Rattle.sgt_graph.specs.Graphs.{IsLeastPred}
use Rattle.sgt_graph.proofs.Lists.{pair_push, pushed_cases}

-- the least one, or none where there is none
abbrev pub LeastAmong : List (ℕ × ℕ) → ℕ → Option ℕ → Type 0
LeastAmong pairs t None = (u : ℕ) → is_link pairs u t ≡ false
LeastAmong pairs t (Some u) = IsLeastPred (is_link pairs) t u

module _ (pairs : List (ℕ × ℕ)) (a b t : ℕ) where
  old_pair : (u : ℕ) → is_link pairs u t ≡ true → is_link (pairs ++ (a, b) ∷ []) u t ≡ true
  old_pair u h = pair_push pairs a b u t ∙ or_left (is_link pairs u t) _ h

  new_pair : b ≡ t → is_link (pairs ++ (a, b) ∷ []) a t ≡ true
  new_pair e = pair_push pairs a b a t ∙ or_right (is_link pairs a t) _ (and_from _ _ (eq-eqb a a refl) (eq-eqb b t e))

  -- an edge to t
  least_push : (least : Option ℕ) → LeastAmong pairs t least → b ≡ t
      → LeastAmong (pairs ++ (a, b) ∷ []) t (Some (min (unwrap_or least a) a))
  least_push None none e = record {
    pair = subst (λ x. is_link (pairs ++ (a, b) ∷ []) x t ≡ true) (omega arith) (new_pair e);
    least = λ v h. elim (pushed_cases pairs a b v t (sym (pair_push pairs a b v t) ∙ h)) [
      | inl old ↦ absurd (both_ways _ (none v) old)
      | inr here ↦ let same : v ≡ a = here.0 in omega arith
    ];
  }
  least_push (Some u) least e = record {
    pair = elim (cases_lt u a) [
      | inl less ↦ subst (λ x. is_link (pairs ++ (a, b) ∷ []) x t ≡ true) (omega arith) (old_pair u least.pair)
      | inr more ↦ subst (λ x. is_link (pairs ++ (a, b) ∷ []) x t ≡ true) (omega arith) (new_pair e)
    ];
    least = λ v h. elim (pushed_cases pairs a b v t (sym (pair_push pairs a b v t) ∙ h)) [
      | inl old ↦ omega (arith, least.least v old)
      | inr here ↦ let same : v ≡ a = here.0 in omega arith
    ];
  }

  -- an edge to another
  least_skip : (least : Option ℕ) → LeastAmong pairs t least → b ≢ t → LeastAmong (pairs ++ (a, b) ∷ []) t least
  least_skip None none other = λ u. false_from_ne_true (is_link (pairs ++ (a, b) ∷ []) u t)
      (λ h. elim (pushed_cases pairs a b u t (sym (pair_push pairs a b u t) ∙ h)) [
        | inl old ↦ both_ways _ (none u) old
        | inr here ↦ other (sym here.1)
      ])
  least_skip (Some u) least other = record {
    pair = old_pair u least.pair;
    least = λ v h. elim (pushed_cases pairs a b v t (sym (pair_push pairs a b v t) ∙ h)) [
      | inl old ↦ least.least v old
      | inr here ↦ absurd (other (sym here.1))
    ];
  }

-- the next edge leads to t
pub least_next : (pairs : List (ℕ × ℕ)) (i : ℕ) (p : ℕ × ℕ) (t : ℕ) (least : Option ℕ) → i < length pairs → p ≡ slice_index_or pairs i p
    → LeastAmong (take i pairs) t least → p.1 ≡ t → LeastAmong (take (i + 1) pairs) t (Some (min (unwrap_or least p.0) p.0))
least_next pairs i p t least below is among e =
    subst (λ l. LeastAmong l t (Some (min (unwrap_or least p.0) p.0)))
    (sym (rw (add-one i) (take-suc pairs i p below ∙ ap (λ x. take i pairs ++ x ∷ []) (sym is))))
    (least_push (take i pairs) p.0 p.1 t least among e)

-- or to another
pub least_same : (pairs : List (ℕ × ℕ)) (i : ℕ) (p : ℕ × ℕ) (t : ℕ) (least : Option ℕ) → i < length pairs → p ≡ slice_index_or pairs i p
    → LeastAmong (take i pairs) t least → p.1 ≢ t → LeastAmong (take (i + 1) pairs) t least
least_same pairs i p t least below is among other =
    subst (λ l. LeastAmong l t least) (sym (rw (add-one i) (take-suc pairs i p below ∙ ap (λ x. take i pairs ++ x ∷ []) (sym is))))
    (least_skip (take i pairs) p.0 p.1 t least among other)
