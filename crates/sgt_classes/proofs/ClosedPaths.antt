-- A path back along edges, and the cycle that it closes.
use Rattle.std.proofs.Common.{◌≡◌, ◌≢◌, ◌<◌, ◌≤◌, ◌+◌, ◌-◌, ℕ, zero, suc, List, [], ◌∷◌, ◌++◌, Option, Some, None, IsSome, refl, sym, ap, ◌∙◌, subst, inl, inr, arith}
use Rattle.std.specs.Prelude.{length, slice_get}
use Rattle.std.proofs.lemmas.Bool.{cases_eq}
use Rattle.std.proofs.lemmas.Grind.{common_steps}
use Rattle.std.proofs.lemmas.Option.{slice_get_within}
use Rattle.sgt_classes.specs.declared.operation.Operation.{Operation}
use Rattle.sgt_classes.specs.declared.graph.Edge.{Edge}
use Rattle.sgt_classes.specs.Serializability.{IsCycle, IsEdgeBy}
use Rattle.sgt_classes.specs.Sorting.{LeadBack, AreAmong, Passes, IsPathBack}
use Rattle.sgt_classes.proofs.Edges.{pushed, kept_pushed, at_end, longer}
use Rattle.sgt_classes.proofs.EdgeChains.{same_at}

-- the invariant of a path that goes back from transaction to transaction: the chosen edges that are left, and t, where
-- it is now
pub record GoesBack (es path : List Edge) (first left : ℕ → Option ℕ) (t : ℕ) : Type 0 where
  pub among : AreAmong path es
  pub path_back : IsPathBack path t
  pub same : (u k : ℕ) → left u ≡ Some k → first u ≡ Some k
  pub gone : (u : ℕ) → IsSome (first u) → left u ≡ None → Passes path u
  pub passed : (i : ℕ) (e : Edge) → slice_get path i ≡ Some e → left e.to ≡ None
  pub chosen : IsSome (first t)

-- nothing stands in the empty list
pub nothing_there : {X : Type 0} (i : ℕ) (x : X) → slice_get [] i ≡ Some x → ⊥
nothing_there i x at = grind (arith, common_steps, at)

-- one edge further back
pub goes_back : (es path : List Edge) (first left left' : ℕ → Option ℕ) (t k : ℕ) (e : Edge) → LeadBack es first
    → GoesBack es path first left t → left t ≡ Some k → slice_get es k ≡ Some e → left' t ≡ None
    → ((u : ℕ) → u ≢ t → left' u ≡ left u) → GoesBack es (path ++ e ∷ []) first left' e.from
goes_back es path first left left' t k e back goes is at none others = record {
  among = among;
  path_back = record {
    follow = follow;
    ends = ends;
    once = once;
  };
  same = same;
  gone = gone;
  passed = passed;
  chosen = subst (λ (f : Edge). IsSome (first f.from)) one chosen.3;
}
  where
    chosen : (f : Edge) × (slice_get es k ≡ Some f) × (f.to ≡ t) × IsSome (first f.from)
    chosen = back t k (goes.same t k is)

    one : chosen.0 ≡ e
    one = same_at es k chosen.0 e chosen.1 at

    leads : e.to ≡ t
    leads = subst (λ (f : Edge). f.to ≡ t) one chosen.2

    among : AreAmong (path ++ e ∷ []) es
    among i f there = elim (pushed path e f i there) [
      | inl w ↦ goes.among i f w.1
      | inr w ↦ (k, subst (λ g. slice_get es k ≡ Some g) w.1 at)
    ]

    follow : (i : ℕ) (f g : Edge) → slice_get (path ++ e ∷ []) i ≡ Some f → slice_get (path ++ e ∷ []) (i + 1) ≡ Some g
        → f.from ≡ g.to
    follow i f g there next = elim (pushed path e f i there) [
      | inl w ↦ elim (pushed path e g (i + 1) next) [
        | inl v ↦ goes.path_back.follow i f g w.1 v.1
        | inr v ↦ goes.path_back.ends i f w.1 (sym v.0) ∙ sym leads ∙ ap (λ (h : Edge). h.to) v.1
      ]
      | inr w ↦ elim (pushed path e g (i + 1) next) [
        | inl v ↦ absurd (omega (arith, w.0, v.0))
        | inr v ↦ absurd (omega (arith, w.0, v.0))
      ]
    ]

    ends : (i : ℕ) (f : Edge) → slice_get (path ++ e ∷ []) i ≡ Some f → length (path ++ e ∷ []) ≡ i + 1 → f.from ≡ e.from
    ends i f there is = elim (pushed path e f i there) [
      | inl w ↦ absurd (omega (arith, w.0, is, longer path e))
      | inr w ↦ ap (λ (h : Edge). h.from) (sym w.1)
    ]

    apart : (i : ℕ) (f : Edge) → slice_get path i ≡ Some f → f.to ≢ t
    apart i f there same =
        let out : left t ≡ None = subst (λ u. left u ≡ None) same (goes.passed i f there) in
        grind (arith, common_steps, is, out)

    once : (i j : ℕ) (f g : Edge) → slice_get (path ++ e ∷ []) i ≡ Some f → slice_get (path ++ e ∷ []) j ≡ Some g → f.to ≡ g.to
        → i ≡ j
    once i j f g there other same = elim (pushed path e f i there) [
      | inl w ↦ elim (pushed path e g j other) [
        | inl v ↦ goes.path_back.once i j f g w.1 v.1 same
        | inr v ↦ absurd (apart i f w.1 (same ∙ ap (λ (h : Edge). h.to) (sym v.1) ∙ leads))
      ]
      | inr w ↦ elim (pushed path e g j other) [
        | inl v ↦ absurd (apart j g v.1 (sym same ∙ ap (λ (h : Edge). h.to) (sym w.1) ∙ leads))
        | inr v ↦ w.0 ∙ sym v.0
      ]
    ]

    same : (u n : ℕ) → left' u ≡ Some n → first u ≡ Some n
    same u n there = elim (cases_eq u t) [
      | inl it ↦ absurd (grind (arith, common_steps, there, it, none))
      | inr other ↦ goes.same u n (sym (others u other) ∙ there)
    ]

    gone : (u : ℕ) → IsSome (first u) → left' u ≡ None → Passes (path ++ e ∷ []) u
    gone u some out = elim (cases_eq u t) [
      | inl it ↦ (length path, e, at_end path e, leads ∙ sym it)
      | inr other ↦
          let before = goes.gone u some (sym (others u other) ∙ out) in
          (before.0, before.1, kept_pushed path e before.1 before.0 before.2, before.3)
    ]

    passed : (i : ℕ) (f : Edge) → slice_get (path ++ e ∷ []) i ≡ Some f → left' f.to ≡ None
    passed i f there = elim (pushed path e f i there) [
      | inl w ↦ others f.to (apart i f w.1) ∙ goes.passed i f w.1
      | inr w ↦ subst (λ (h : Edge). left' h.to ≡ None) w.1 (subst (λ u. left' u ≡ None) (sym leads) none)
    ]

-- the invariant while the path is passed from its end: the edges passed, the last one first, of which none leads to t
pub record Closes (path cycle : List Edge) (t passed : ℕ) : Type 0 where
  pub count : length cycle ≡ passed
  pub turned : (i k : ℕ) (e : Edge) → slice_get cycle i ≡ Some e → i + k + 1 ≡ length path → slice_get path k ≡ Some e
  pub elsewhere : (k : ℕ) (e : Edge) → slice_get path k ≡ Some e → length path ≤ k + passed → e.to ≢ t

-- the reversed path has one more
turned_more : (path cycle : List Edge) (t p k : ℕ) (new : Edge) → Closes path cycle t p → p + k + 1 ≡ length path
    → slice_get path k ≡ Some new → (i n : ℕ) (e : Edge) → slice_get (cycle ++ new ∷ []) i ≡ Some e → i + n + 1 ≡ length path
    → slice_get path n ≡ Some e
turned_more path cycle t p k new closes is at i n e there same = elim (pushed cycle new e i there) [
  | inl w ↦ closes.turned i n e w.1 same
  | inr w ↦
      let place : k ≡ n = omega (arith, is, same, w.0, closes.count) in
      subst (λ m. slice_get path m ≡ Some e) place (at ∙ ap Some w.1)
]

-- one more, which leads elsewhere
pub closes_more : (path cycle : List Edge) (t p k : ℕ) (new : Edge) → Closes path cycle t p → p + k + 1 ≡ length path
    → slice_get path k ≡ Some new → new.to ≢ t → Closes path (cycle ++ new ∷ []) t (p + 1)
closes_more path cycle t p k new closes is at apart = record {
  count = longer cycle new ∙ ap (λ n. n + 1) closes.count;
  turned = turned_more path cycle t p k new closes is at;
  elsewhere = λ n e there most. elim (cases_eq n k) [
    | inl same ↦ subst (λ (f : Edge). f.to ≢ t)
        (same_at path k new e at (subst (λ m. slice_get path m ≡ Some e) same there)) apart
    | inr other ↦ closes.elsewhere n e there (omega (arith, most, other, is))
  ];
}

-- one more, which leads to t, closes the cycle
pub closes_cycle : (path cycle : List Edge) (t p k : ℕ) (new : Edge) → IsPathBack path t → Closes path cycle t p
    → p + k + 1 ≡ length path → slice_get path k ≡ Some new → new.to ≡ t → (h : List Operation)
    → ((n : ℕ) (e : Edge) → slice_get path n ≡ Some e → IsEdgeBy h e) → IsCycle h (cycle ++ new ∷ [])
closes_cycle path cycle t p k new back closes is at meets h are = record {
  some = omega (arith, longer cycle new);
  are_edges = λ i e there. are (length path - 1 - i) e (turned i _ e there (omega (arith, within i e there, is)));
  follow = follow;
  closes = λ e f first last. closing e f first last;
  once = once;
}
  where
    all : List Edge
    all = cycle ++ new ∷ []

    within : (i : ℕ) (e : Edge) → slice_get (cycle ++ new ∷ []) i ≡ Some e → i < p + 1
    within i e there = omega (arith, slice_get_within (cycle ++ new ∷ []) i e there, longer cycle new, closes.count)

    turned : (i n : ℕ) (e : Edge) → slice_get (cycle ++ new ∷ []) i ≡ Some e → i + n + 1 ≡ length path → slice_get path n ≡ Some e
    turned = turned_more path cycle t p k new closes is at

    follow : (i : ℕ) (e f : Edge) → slice_get (cycle ++ new ∷ []) i ≡ Some e → slice_get (cycle ++ new ∷ []) (i + 1) ≡ Some f
        → e.to ≡ f.from
    follow i e f there next =
        let n : ℕ = length path - 2 - i in
        sym (back.follow n f e (turned (i + 1) n f next (omega (arith, within (i + 1) f next, is)))
        (turned i (n + 1) e there (omega (arith, within (i + 1) f next, is))))

    begins : (e : Edge) → slice_get (cycle ++ new ∷ []) 0 ≡ Some e → e.from ≡ t
    begins e first = back.ends (length path - 1) e (turned 0 _ e first (omega (arith, is))) (omega (arith, is))

    closing : (e f : Edge) → slice_get (cycle ++ new ∷ []) 0 ≡ Some e
        → slice_get (cycle ++ new ∷ []) (length (cycle ++ new ∷ []) - 1) ≡ Some f → f.to ≡ e.from
    closing e f first last =
        let place : length (cycle ++ new ∷ []) - 1 ≡ length cycle = omega (arith, longer cycle new) in
        let one : new ≡ f = same_at (cycle ++ new ∷ []) (length cycle) new f (at_end cycle new)
        (subst (λ n. slice_get (cycle ++ new ∷ []) n ≡ Some f) place last) in
        ap (λ (g : Edge). g.to) (sym one) ∙ meets ∙ sym (begins e first)

    -- the edges of the reversed path without the last
    there : (xs : List Edge) (n : ℕ) → n < length xs → (e : Edge) × (slice_get xs n ≡ Some e)
    there [] n less = absurd (omega (arith, less))
    there (x ∷ xs) zero less = (x, refl)
    there (x ∷ xs) (suc n) less = there xs n (omega (arith, less))

    -- it leads elsewhere
    leads_elsewhere : (i : ℕ) (e : Edge) → slice_get cycle i ≡ Some e → e.to ≢ t
    leads_elsewhere i e at =
        let less : i < p = omega (arith, slice_get_within cycle i e at, closes.count) in
        closes.elsewhere (length path - 1 - i) e (closes.turned i _ e at (omega (arith, less, is))) (omega (arith, less, is))

    -- the edge before one that is not the first
    before : (i : ℕ) (e : Edge) → slice_get (cycle ++ new ∷ []) i ≡ Some e → i ≢ 0
        → (d : Edge) × (slice_get cycle (i - 1) ≡ Some d) × (d.to ≡ e.from)
    before i e at some =
        let d = there cycle (i - 1) (omega (arith, within i e at, some, closes.count)) in
        let place : i ≡ i - 1 + 1 = omega (arith, some) in (
          d.0,
          d.1,
          follow (i - 1) d.0 e (kept_pushed cycle new d.0 (i - 1) d.1)
              (subst (λ n. slice_get (cycle ++ new ∷ []) n ≡ Some e) place at),
        )

    -- the first and another do not begin at one transaction
    apart : (i j : ℕ) (e f : Edge) → slice_get (cycle ++ new ∷ []) i ≡ Some e → slice_get (cycle ++ new ∷ []) j ≡ Some f → i ≡ 0
        → j ≢ 0 → e.from ≢ f.from
    apart i j e f at other first some same =
        let d = before j f other some in
        leads_elsewhere (j - 1) d.0 d.1 (d.2 ∙ sym same ∙ begins e (subst (λ n. slice_get (cycle ++ new ∷ []) n ≡ Some e) first at))

    once : (i j : ℕ) (e f : Edge) → slice_get (cycle ++ new ∷ []) i ≡ Some e → slice_get (cycle ++ new ∷ []) j ≡ Some f
        → e.from ≡ f.from → i ≡ j
    once i j e f at other same = elim (cases_eq i 0) [
      | inl first ↦ elim (cases_eq j 0) [
        | inl second ↦ first ∙ sym second
        | inr some ↦ absurd (apart i j e f at other first some same)
      ]
      | inr some ↦ elim (cases_eq j 0) [
        | inl second ↦ absurd (apart j i f e other at second some (sym same))
        | inr others ↦
            let c = before i e at some in
            let d = before j f other others in
            let less : i - 1 < p = omega (arith, slice_get_within cycle (i - 1) c.0 c.1, closes.count) in
            let less' : j - 1 < p = omega (arith, slice_get_within cycle (j - 1) d.0 d.1, closes.count) in
            let one = back.once (length path - 1 - (i - 1)) (length path - 1 - (j - 1)) c.0 d.0
            (closes.turned (i - 1) _ c.0 c.1 (omega (arith, less, is)))
            (closes.turned (j - 1) _ d.0 d.1 (omega (arith, less', is))) (c.2 ∙ same ∙ sym d.2) in
            omega (arith, one, less, less', is, some, others)
      ]
    ]
