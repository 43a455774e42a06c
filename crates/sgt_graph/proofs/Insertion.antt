-- Edges into one node, added one after another.
use Rattle.std.specs.Prelude.{◌≡◌, ℕ, ◌<◌, ◌+◌, Bool, true, ◌||◌, ◌&&◌, ◌⊎◌, ◌↔◌, nat_eq, List, [], ◌∷◌, ◌++◌, length, slice_index_or}
use Rattle.std.proofs.Common.{take, sym, ◌∙◌, ap, subst, inl, inr, add-one}
use Rattle.std.proofs.Math.Seq.{take-suc}
use Rattle.std.proofs.lemmas.Bool.{eq-eqb, and_from, or_left, or_right}
use Rattle.sgt_model.specs.Paths.{Member, Reaches}
use Rattle.sgt_model.proofs.Paths.{Simple, simple, last_new, Grows}
use Rattle.sgt_model.proofs.Capacity.{member_append}
use Rattle.sgt_model.proofs.Listed.{member_added}
use Rattle.sgt_cycle.specs.Links.{is_link}
use Rattle.sgt_cycle.specs.Path.{Holds, NoPath}
use Rattle.sgt_graph.proofs.Lists.{pushed_cases}

-- where no path leads to a target, no `Path` does
pub no_path : (test : ℕ → ℕ → Bool) (t : ℕ) (targets : List ℕ) → NoPath test t targets → (u : ℕ) → Member u targets
    → Reaches (Holds test) t u → ⊥
no_path test t targets none u m (path, goes, ends) =
    let s : Simple (Holds test) t path = simple (Holds test) t path goes in
    none s.rest (record { distinct = s.distinct; goes = s.goes; ends = subst (λ x. Member x targets) (sym (s.ends ∙ ends)) m })

-- the new edges are the old ones and those from the preds to t
abbrev pub Adds : List (ℕ × ℕ) → List (ℕ × ℕ) → ℕ → List ℕ → Type 0
Adds old new t preds = (a b : ℕ) → (is_link new a b ≡ true) ↔ ((is_link old a b ≡ true) ⊎ ((b ≡ t) × Member a preds))

-- no path leads from t to a node to which none led before
pub still_no_path : (old new : List (ℕ × ℕ)) (t : ℕ) (preds : List ℕ) → Adds old new t preds → (u : ℕ)
    → (Reaches (Holds (is_link old)) t u → ⊥) → Reaches (Holds (is_link new)) t u → ⊥
still_no_path old new t preds adds u free (path, goes, ends) =
    elim (last_new (Holds (is_link old)) (Holds (is_link new)) t (λ x. Member x preds) grows t path goes) [
      | inl early ↦ free (path, early, ends)
      | inr reaches ↦ free (subst (λ x. Reaches (Holds (is_link old)) t x) ends reaches)
    ]
  where
    grows : Grows (Holds (is_link old)) (Holds (is_link new)) t (λ x. Member x preds)
    grows = record { each = λ a b h. elim ((adds a b).0 h) [ inl o ↦ inl o | inr n ↦ inr (n.1, n.0) ] }

-- one edge more
pub adds_next : (old mid new : List (ℕ × ℕ)) (t : ℕ) (preds : List ℕ) (i u : ℕ) → i < length preds → u ≡ slice_index_or preds i u
    → Adds old mid t (take i preds)
    → ((a b : ℕ) → is_link new a b ≡ (is_link mid a b || (nat_eq u a && nat_eq t b))) → Adds old new t (take (i + 1) preds)
adds_next old mid new t preds i u below is adds more a b = (to, from)
  where
    next : take (i + 1) preds ≡ take i preds ++ u ∷ []
    next = rw (add-one i) (take-suc preds i u below ∙ ap (λ x. take i preds ++ x ∷ []) (sym is))

    to : is_link new a b ≡ true → (is_link old a b ≡ true) ⊎ ((b ≡ t) × Member a (take (i + 1) preds))
    to h = elim (pushed_cases mid u t a b (sym (more a b) ∙ h)) [
      | inl was ↦ elim ((adds a b).0 was) [ inl o ↦ inl o | inr n ↦ inr (n.0, rw next (member_added a (take i preds) u (inl n.1))) ]
      | inr here ↦ inr (here.1, rw next (member_added a (take i preds) u (inr here.0)))
    ]

    from : (is_link old a b ≡ true) ⊎ ((b ≡ t) × Member a (take (i + 1) preds)) → is_link new a b ≡ true
    from (inl o) = more a b ∙ or_left (is_link mid a b) _ ((adds a b).1 (inl o))
    from (inr n) = elim (member_append a (take i preds) u (subst (λ l. Member a l) next n.1)) [
      | inl m ↦ more a b ∙ or_left (is_link mid a b) _ ((adds a b).1 (inr (n.0, m)))
      | inr e ↦ more a b ∙ or_right (is_link mid a b) _ (and_from _ _ (eq-eqb u a (sym e)) (eq-eqb t b (sym n.0)))
    ]
