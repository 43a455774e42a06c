-- The search back from the targets: what it has seen, one number after another.
use Rattle.std.specs.Prelude.{◌≡◌, ℕ, ◌<◌, ◌≤◌, ◌+◌, ◌⊎◌, ◌↔◌, Bool, true, List, [], ◌∷◌, ◌++◌, length, slice_index, slice_index_or}
use Rattle.std.proofs.Common.{take, sym, ◌∙◌, ap, subst, inl, inr, arith, length-append}
use Rattle.std.proofs.lemmas.Bool.{cases_lt}
use Rattle.std.proofs.lemmas.List.{take-append-le}
use Rattle.std.proofs.Math.ListN.{get_or-append}
use Rattle.std.proofs.Math.Seq.{get_or-append_seam}
use Rattle.sgt_model.specs.Paths.{PathOf, last_of, Member, AtMost, Distinct}
use Rattle.sgt_model.proofs.Paths.{Within}
use Rattle.sgt_cycle.specs.Links.{is_link, is_end}
use Rattle.sgt_cycle.specs.Path.{Holds, NoPath}
use Rattle.sgt_cycle.specs.Search.{LeadsBack}
use Rattle.sgt_model.proofs.Conditions.{distinct_fits}
use Rattle.sgt_cycle.proofs.Members.{member_at, at_member, any_default, member_append, member_push, member_take, distinct_push}
use Rattle.sgt_cycle.proofs.Links.{link_ends}

-- the first i targets, each once
pub record Collected (targets : List ℕ) (i : ℕ) (seen : List ℕ) : Type 0 where
  pub distinct : Distinct seen
  pub exact : (t : ℕ) → Member t seen ↔ Member t (take i targets)
  pub short : length seen ≤ i

module _ (targets : List ℕ) (i : ℕ) (seen : List ℕ) (r : ℕ) (below : i < length targets) (is : r ≡ slice_index_or targets i r)
    (c : Collected targets i seen) where
  -- the next one is new
  pub collected_push : (Member r seen → ⊥) → Collected targets (i + 1) (seen ++ r ∷ [])
  collected_push new = record {
    distinct = distinct_push seen r c.distinct new;
    exact = λ t. (
      (λ m. (member_take t targets i r below).1 (elim ((member_push t seen r).0 m)
          [ inl old ↦ inl ((c.exact t).0 old) | inr e ↦ inr (e ∙ is) ])),
      (λ m. (member_push t seen r).1 (elim ((member_take t targets i r below).0 m)
          [ inl old ↦ inl ((c.exact t).1 old) | inr e ↦ inr (e ∙ sym is) ])),
    );
    short = omega (arith, length-append seen (r ∷ []), c.short);
  }

  -- or it is there
  pub collected_skip : Member r seen → Collected targets (i + 1) seen
  collected_skip old = record {
    distinct = c.distinct;
    exact = λ t. (
      (λ m. (member_take t targets i r below).1 (inl ((c.exact t).0 m))),
      (λ m. elim ((member_take t targets i r below).0 m)
          [ inl early ↦ (c.exact t).1 early | inr e ↦ subst (λ x. Member x seen) (sym (e ∙ sym is)) old ]),
    );
    short = omega (arith, c.short);
  }

-- a number that may be pushed: a target, or one related to a number of the list
abbrev pub Leads : (ℕ → ℕ → Bool) → List ℕ → List ℕ → ℕ → Type 0
Leads test targets seen a = Member a targets ⊎ ((i : ℕ) × (i < length seen) × Holds test a (slice_index seen i))

module _ (test : ℕ → ℕ → Bool) (targets seen : List ℕ) (a : ℕ) where
  old_index : (i : ℕ) → i < length seen → slice_index (seen ++ a ∷ []) i ≡ slice_index seen i
  old_index i below = get_or-append seen (a ∷ []) 0 i below

  pub leads_push : LeadsBack test targets seen → Leads test targets seen a → LeadsBack test targets (seen ++ a ∷ [])
  leads_push leads here j below = elim (cases_lt j (length seen)) [
    | inl old ↦ elim (leads j old) [
      | inl m ↦ inl (subst (λ x. Member x targets) (sym (old_index j old)) m)
      | inr (i, less, link) ↦ inr (i, less, rw (old_index j old, old_index i (omega arith)) link)
    ]
    | inr more ↦
        let same : j ≡ length seen = omega (arith, length-append seen (a ∷ [])) in
        let at : slice_index (seen ++ a ∷ []) j ≡ a = ap (λ k. slice_index (seen ++ a ∷ []) k) same ∙ get_or-append_seam seen a [] 0 in
        elim here [
          | inl m ↦ inl (subst (λ x. Member x targets) (sym at) m)
          | inr (i, less, link) ↦ inr (i, omega arith, rw (at, old_index i less) link)
        ]
  ]

-- what the search keeps, when it has asked for the sources of the first `at` numbers
pub record Searched (links : List (ℕ × ℕ)) (targets : List ℕ) (at : ℕ) (seen : List ℕ) : Type 0 where
  pub back : LeadsBack (is_link links) targets seen
  pub distinct : Distinct seen
  pub targets_in : Within targets seen
  pub within : at ≤ length seen
  pub closed : (a b : ℕ) → is_link links a b ≡ true → Member b (take at seen) → Member a seen

module _ (links : List (ℕ × ℕ)) (targets : List ℕ) where
  pub searched_start : (seen : List ℕ) → Distinct seen → ((t : ℕ) → Member t seen ↔ Member t targets) → Searched links targets 0 seen
  searched_start seen distinct exact = record {
    back = λ j below. inl ((exact (slice_index seen j)).0 (at_member seen j 0 below));
    distinct = distinct;
    targets_in = λ t m. (exact t).1 m;
    within = omega arith;
    closed = λ a b link none. absurd none;
  }

  -- all that was seen are targets and ends of links
  seen_within : (few : AtMost 32 (is_end links)) (first seen : List ℕ) → Within targets first → LeadsBack (is_link links) targets seen
      → Within seen (first ++ few.among)
  seen_within few first seen known leads x m =
      let (j, below, at) = member_at x seen m in
      subst (λ y. Member y (first ++ few.among)) (at 0) (elim (leads j below) [
        | inl target ↦ (member_append (slice_index seen j) first few.among).1 (inl (known _ target))
        | inr (i, less, link) ↦ (member_append (slice_index seen j) first few.among).1 (inr (few.all _ (link_ends links _ _ link).0))
      ])

  -- so there is capacity for one more
  pub searched_capacity : (few : AtMost 32 (is_end links)) (first seen : List ℕ) (at a to : ℕ) → Within targets first → length first ≤ 32
      → Searched links targets at seen → is_link links a to ≡ true → (Member a seen → ⊥) → length seen < 64
  searched_capacity few first seen at a to known short s link new =
      let fits : length (a ∷ seen) ≤ length (first ++ few.among) = distinct_fits (a ∷ seen) (first ++ few.among) (new, s.distinct) within in
      omega (arith, length-append first few.among, few.few)
    where
      within : Within (a ∷ seen) (first ++ few.among)
      within x (inl e) = subst (λ y. Member y (first ++ few.among)) (sym e)
          ((member_append a first few.among).1 (inr (few.all a (link_ends links a to link).0)))
      within x (inr m) = seen_within few first seen known s.back x m

  -- a source is pushed
  pub searched_push : (seen : List ℕ) (at a r : ℕ) → Searched links targets at seen → at < length seen → r ≡ slice_index_or seen at r
      → is_link links a r ≡ true → (Member a seen → ⊥) → Searched links targets at (seen ++ a ∷ [])
  searched_push seen at a r s below is link new =
      let here : r ≡ slice_index seen at = is ∙ any_default seen at r 0 below in
      record {
        back = leads_push (is_link links) targets seen a s.back (inr (at, below, subst (λ x. is_link links a x ≡ true) here link));
        distinct = distinct_push seen a s.distinct new;
        targets_in = λ t m. (member_push t seen a).1 (inl (s.targets_in t m));
        within = omega (arith, length-append seen (a ∷ []));
        closed =
            λ x y link m. (member_push x seen a).1 (inl (s.closed x y link
            (subst (λ l. Member y l) (take-append-le at seen (a ∷ []) s.within) m)));
      }

  -- or all sources of this number were seen
  pub searched_next : (seen : List ℕ) (at r : ℕ) → Searched links targets at seen → at < length seen → r ≡ slice_index_or seen at r
      → ((a : ℕ) → is_link links a r ≡ true → Member a seen) → Searched links targets (at + 1) seen
  searched_next seen at r s below is none = record {
    back = s.back;
    distinct = s.distinct;
    targets_in = s.targets_in;
    within = omega arith;
    closed = λ x y link m. elim ((member_take y seen at r below).0 m) [
      | inl early ↦ s.closed x y link early
      | inr next ↦ none x (subst (λ z. is_link links x z ≡ true) (next ∙ sym is) link)
    ];
  }

-- what is closed under the steps and holds of the first number of a path, holds of its last
pub closed_path : (step : ℕ → ℕ → Type 0) (inside : ℕ → Type 0) → ((a b : ℕ) → inside a → step a b → inside b)
    → (t : ℕ) (path : List ℕ) → inside t → PathOf step t path → inside (last_of t path)
closed_path step inside closed t [] i p = i
closed_path step inside closed t (u ∷ path) i p = closed_path step inside closed u path (closed t u i p.0) p.1

-- no path leads from outside a list that has the targets and each source of its numbers
pub no_path : (test : ℕ → ℕ → Bool) (source : ℕ) (targets seen : List ℕ) → Within targets seen
    → ((a b : ℕ) → Holds test a b → Member b seen → Member a seen) → (Member source seen → ⊥) → NoPath test source targets
no_path test source targets seen known closed out rest w =
    closed_path (Holds test) (λ x. Member x seen → ⊥) (λ a b off link m. off (closed a b link m)) source rest out w.goes (known _ w.ends)
