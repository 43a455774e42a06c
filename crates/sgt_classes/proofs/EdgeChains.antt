-- Edges by their ends, one further.
use Rattle.std.proofs.Common.{◌≡◌, ◌≢◌, ◌<◌, ◌+◌, ℕ, List, Option, Some, None, refl, sym, ◌∙◌, subst, inl, inr, arith}
use Rattle.std.specs.Prelude.{slice_get}
use Rattle.std.proofs.lemmas.Bool.{cases_eq, cases_lt}
use Rattle.std.proofs.lemmas.Grind.{common_steps}
use Rattle.sgt_classes.specs.declared.graph.Edge.{Edge}
use Rattle.sgt_classes.specs.declared.chains.EdgeEnd.{EdgeEnd}
use Rattle.sgt_classes.specs.Seen.{height}
use Rattle.sgt_classes.specs.Sorting.{end_of, IsLastEdge, AreChains}
use Rattle.sgt_classes.proofs.Places.{before_next}

-- one thing stands at a place
pub same_at : {X : Type 0} (xs : List X) (k : ℕ) (x y : X) → slice_get xs k ≡ Some x → slice_get xs k ≡ Some y → x ≡ y
same_at xs k x y at other = grind (arith, common_steps, at, other)

-- an edge at the transaction is not after the last
pub not_after_last : (end : EdgeEnd) (es : List Edge) (j t k : ℕ) (e : Edge) (o : Option ℕ) → IsLastEdge end es j t o → k < j
    → slice_get es k ≡ Some e → end_of end e ≡ t → k < height o
not_after_last end es j t k e None none less at mine = absurd (none k e less at mine)
not_after_last end es j t k e (Some i) last less at mine = elim (cases_lt i k) [
  | inl after ↦ absurd (last.2 k e after less at mine)
  | inr most ↦ omega (arith, most)
]

-- the last edge is lower than the place
pub edge_lower : (end : EdgeEnd) (es : List Edge) (i t : ℕ) (o : Option ℕ) → IsLastEdge end es i t o → height o < height (Some i)
edge_lower end es i t None last = omega arith
edge_lower end es i t (Some n) last = omega (arith, last.0)

-- the last edge stays where the next is at another transaction
last_kept : (end : EdgeEnd) (es : List Edge) (p t : ℕ) (e : Edge) (o : Option ℕ) → slice_get es p ≡ Some e → end_of end e ≢ t
    → IsLastEdge end es p t o → IsLastEdge end es (p + 1) t o
last_kept end es p t e None at apart none = λ k f less there. elim (before_next k p less) [
  | inl before ↦ none k f before there
  | inr here ↦ subst (λ g. end_of end g ≢ t) (same_at es p e f at (subst (λ n. slice_get es n ≡ Some f) here there)) apart
]
last_kept end es p t e (Some i) at apart last = (
  omega (arith, last.0),
  last.1,
  λ k f after less there. elim (before_next k p less) [
    | inl before ↦ last.2 k f after before there
    | inr here ↦ subst (λ g. end_of end g ≢ t) (same_at es p e f at (subst (λ n. slice_get es n ≡ Some f) here there)) apart
  ],
)

-- one edge more by its end
pub chain_longer : (end : EdgeEnd) (es : List Edge) (p : ℕ) (e : Edge) (tops below tops' below' : ℕ → Option ℕ) → slice_get es p ≡ Some e
    → AreChains end es p tops below → tops' (end_of end e) ≡ Some p → ((t : ℕ) → t ≢ end_of end e → tops' t ≡ tops t)
    → below' p ≡ tops (end_of end e) → ((k : ℕ) → k ≢ p → below' k ≡ below k) → AreChains end es (p + 1) tops' below'
chain_longer end es p e tops below tops' below' at are top others lower others_below = record {
  tops_are = λ t. elim (cases_eq t (end_of end e)) [
    | inl same ↦ subst (λ u. IsLastEdge end es (p + 1) u (tops' u)) (sym same)
        (subst (λ o. IsLastEdge end es (p + 1) (end_of end e) o) (sym top)
        (omega arith, (e, at, refl), λ k f after less there. absurd (omega (arith, after, less))))
    | inr apart ↦ subst (λ o. IsLastEdge end es (p + 1) t o) (sym (others t apart))
        (last_kept end es p t e (tops t) at (λ same. apart (sym same)) (are.tops_are t))
  ];
  below_are = λ k f less there. elim (before_next k p less) [
    | inl before ↦ subst (λ o. IsLastEdge end es k (end_of end f) o) (sym (others_below k (λ same. omega (arith, before, same))))
        (are.below_are k f before there)
    | inr here ↦
        let one : e ≡ f = same_at es p e f at (subst (λ n. slice_get es n ≡ Some f) here there) in
        subst (λ n. IsLastEdge end es n (end_of end f) (below' n)) (sym here)
        (subst (λ g. IsLastEdge end es p (end_of end g) (below' p)) one
        (subst (λ o. IsLastEdge end es p (end_of end e) o) (sym lower) (are.tops_are (end_of end e))))
  ];
  fresh = λ k most. others_below k (λ same. omega (arith, most, same)) ∙ are.fresh k (omega (arith, most));
}
