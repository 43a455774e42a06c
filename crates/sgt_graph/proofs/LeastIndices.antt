-- The least transaction at some indices, one index after another.
use Rattle.std.specs.Prelude.{◌≡◌, ℕ, ◌<◌, ◌≤◌, min, unwrap_or, true, false, not, ◌&&◌, nat_eq, List, [], ◌∷◌, length, slice_index, slice_index_or, Option, Some, None, IfSome, IsNone}
use Rattle.std.proofs.Common.{zero, suc, refl, sym, ◌∙◌, ap, inl, inr, arith}
use Rattle.std.proofs.lemmas.Bool.{both_ways, false_from_ne_true, cases_lt, cases_eq}
use Rattle.sgt_cycle.specs.Indices.{is_set}
use Rattle.sgt_graph.specs.BitGraphs.{IsLeastAt}
use Rattle.sgt_graph.proofs.RowSteps.{is_left}

-- u is the least at those of these indices that are no longer left
pub record LeastOf (tids : List ℕ) (set left u : ℕ) : Type 0 where
  pub index : ℕ
  pub set_there : is_set set index ≡ true
  pub there : slice_index tids index ≡ u
  pub least : (i : ℕ) → is_set set i ≡ true → is_set left i ≡ false → u ≤ slice_index tids i

-- the least one, or none where there is none
abbrev pub LeastPassed : List ℕ → ℕ → ℕ → Option ℕ → Type 0
LeastPassed tids set left None = (i : ℕ) → is_set set i ≡ true → is_set left i ≡ false → ⊥
LeastPassed tids set left (Some u) = LeastOf tids set left u

pub least_first : (tids : List ℕ) (set : ℕ) → LeastPassed tids set set None
least_first tids set i there gone = both_ways _ gone there

module _ (tids : List ℕ) (set left left' k r : ℕ) (there : is_set set k ≡ true)
    (less : (i : ℕ) → is_set left' i ≡ (is_set left i && not (nat_eq i k))) (is : slice_index tids k ≡ r) where
  pub least_more : (least : Option ℕ) → LeastPassed tids set left least → LeastPassed tids set left' (Some (min (unwrap_or least r) r))
  least_more None none = record {
    index = k;
    set_there = there;
    there = is ∙ omega arith;
    least = λ i h gone. elim (cases_eq i k) [
      | inl e ↦ let same : slice_index tids i ≡ r = ap (λ x. slice_index tids x) e ∙ is in omega arith
      | inr other ↦ absurd (none i h (sym (is_left left left' k less i other) ∙ gone))
    ];
  }
  least_more (Some u) l = elim (cases_lt u r) [
    | inl lower ↦ record {
      index = l.index;
      set_there = l.set_there;
      there = l.there ∙ omega arith;
      least = λ i h gone. elim (cases_eq i k) [
        | inl e ↦ let same : slice_index tids i ≡ r = ap (λ x. slice_index tids x) e ∙ is in omega arith
        | inr other ↦ omega (arith, l.least i h (sym (is_left left left' k less i other) ∙ gone))
      ];
    }
    | inr more ↦ record {
      index = k;
      set_there = there;
      there = is ∙ omega arith;
      least = λ i h gone. elim (cases_eq i k) [
        | inl e ↦ let same : slice_index tids i ≡ r = ap (λ x. slice_index tids x) e ∙ is in omega arith
        | inr other ↦ omega (arith, l.least i h (sym (is_left left left' k less i other) ∙ gone))
      ];
    }
  ]

-- none is left
module _ (tids : List ℕ) (set left : ℕ) (none_left : (i : ℕ) → is_set left i ≡ false) where
  pub least_some : (least : Option ℕ) → LeastPassed tids set left least → IfSome least (IsLeastAt tids set)
  least_some None l = tt
  least_some (Some u) l = record
      { index = l.index; set_there = l.set_there; there = l.there; least = λ i h. l.least i h (none_left i) }

  pub least_none : (least : Option ℕ) → LeastPassed tids set left least → IsNone least → (i : ℕ) → is_set set i ≡ false
  least_none None l none i = false_from_ne_true (is_set set i) (λ h. l i h (none_left i))
  least_none (Some u) l none i = cc

-- within the list the default does not matter
pub any_default : (xs : List ℕ) (k d : ℕ) → k < length xs → slice_index xs k ≡ slice_index_or xs k d
any_default [] k d below = absurd (omega arith)
any_default (x ∷ xs) zero d below = refl
any_default (x ∷ xs) (suc k) d below = any_default xs k d (omega arith)
