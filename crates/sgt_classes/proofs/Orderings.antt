-- The committed transactions in an order that grows, and why it is a serial one when none is left.
use Rattle.std.proofs.Common.{◌≡◌, ◌≢◌, ◌<◌, ◌≤◌, ◌+◌, ℕ, zero, suc, Bool, true, false, cond, nat_eq, List, [], ◌∷◌, ◌++◌, Option, Some, None, refl, sym, ap, ◌∙◌, subst, inl, inr, arith}
use Rattle.std.specs.Prelude.{length, slice_get}
use Rattle.std.proofs.lemmas.Bool.{cases_eq, cases_lt, eqb-true}
use Rattle.std.proofs.lemmas.Grind.{common_steps}
use Rattle.std.proofs.lemmas.Option.{slice_get_within}
use Rattle.sgt_classes.specs.declared.operation.Operation.{Operation}
use Rattle.sgt_classes.specs.declared.operation.Action.TheVariants.{Commit}
use Rattle.sgt_classes.specs.declared.graph.Edge.{Edge}
use Rattle.sgt_classes.specs.Histories.{Does, CommittedBefore}
use Rattle.sgt_classes.specs.Serializability.{Commits, IsEdge, IsEdgeBy, IsSerialOrder, ReachAll, Rises}
use Rattle.sgt_classes.specs.SerialOrders.{MayComeAt, TakesFirst}
use Rattle.sgt_classes.specs.Seen.{IsFirstCommit, AreFirstCommits}
use Rattle.sgt_classes.specs.Sorting.{IsFree, IsFirstFree}
use Rattle.sgt_classes.proofs.Edges.{pushed, kept_pushed, at_end}
use Rattle.sgt_classes.proofs.ClosedPaths.{nothing_there}

-- what is kept of the order so far, and of those that are left, with where they commit
pub record AreOrdered (h : List Operation) (es : List Edge) (order : List ℕ) (left : ℕ → Option ℕ) : Type 0 where
  pub first_commits : (t c : ℕ) → left t ≡ Some c → IsFirstCommit h (length h) t (Some c)
  pub placed : (i t : ℕ) → slice_get order i ≡ Some t → (left t ≡ None) × Commits h t
  pub all : (t : ℕ) → Commits h t → left t ≡ None → (i : ℕ) × (slice_get order i ≡ Some t)
  pub once : (i j t : ℕ) → slice_get order i ≡ Some t → slice_get order j ≡ Some t → i ≡ j
  pub rises : (k : ℕ) (e : Edge) (j : ℕ) → slice_get es k ≡ Some e → slice_get order j ≡ Some e.to
      → (i : ℕ) × (i < j) × (slice_get order i ≡ Some e.from)
  pub takes_first : TakesFirst h order

-- who commits does so within the history
commit_within : (h : List Operation) (t : ℕ) → Commits h t → CommittedBefore h t (length h)
commit_within h t commits = (commits.0, slice_get_within h commits.0 _ commits.1, commits.1)

-- before the first one all that commit are left
pub none_ordered : (h : List Operation) (es : List Edge) (left : ℕ → Option ℕ) → AreFirstCommits h (length h) left
    → AreOrdered h es [] left
none_ordered h es left are = record {
  first_commits = λ t c is. subst (λ o. IsFirstCommit h (length h) t o) is (are t);
  placed = λ i t at. absurd (nothing_there i t at);
  all = λ t commits out. absurd (subst (λ o. IsFirstCommit h (length h) t o) out (are t) (commit_within h t commits));
  once = λ i j t at other. absurd (nothing_there i t at);
  rises = λ k e j at there. absurd (nothing_there j e.to there);
  takes_first = λ i t u d at may does. absurd (nothing_there i t at);
}

-- of the longer order, who may come at a place of the shorter one could come there
may_come : (h : List Operation) (order : List ℕ) (t i u : ℕ) → i < length order → MayComeAt h (order ++ t ∷ []) i u
    → MayComeAt h order i u
may_come h order t i u within may = record {
  commits = may.commits;
  not_before = λ j less at. may.not_before j less (kept_pushed order t u j at);
  others_before = λ v edge.
      let before = may.others_before v edge in
      elim (pushed order t v before.0 before.2) [
        | inl w ↦ (before.0, before.1, w.1)
        | inr w ↦ absurd (omega (arith, w.0, before.1, within))
      ];
}

-- one more has its place
pub one_ordered : (h : List Operation) (es : List Edge) (order : List ℕ) (left left' : ℕ → Option ℕ) (t : ℕ)
    → ((k : ℕ) (e : Edge) → slice_get es k ≡ Some e → IsEdgeBy h e) → AreOrdered h es order left → IsFirstFree es left t
    → left' t ≡ None → ((u : ℕ) → u ≢ t → left' u ≡ left u) → AreOrdered h es (order ++ t ∷ []) left'
one_ordered h es order left left' t are ordered free none others = record {
  first_commits = first_commits;
  placed = placed;
  all = all;
  once = once;
  rises = rises;
  takes_first = takes_first;
}
  where
    -- who is not left now is t, or was not left
    apart : (u : ℕ) → left u ≡ None → u ≢ t
    apart u out same =
        let is : left u ≡ Some free.commit = subst (λ v. left v ≡ Some free.commit) (sym same) free.commits in
        grind (arith, common_steps, is, out)

    first_commits : (u c : ℕ) → left' u ≡ Some c → IsFirstCommit h (length h) u (Some c)
    first_commits u c is = elim (cases_eq u t) [
      | inl same ↦ absurd (grind (arith, common_steps, is, same, none))
      | inr other ↦ ordered.first_commits u c (sym (others u other) ∙ is)
    ]

    own : IsFirstCommit h (length h) t (Some free.commit)
    own = ordered.first_commits t free.commit free.commits

    placed : (i u : ℕ) → slice_get (order ++ t ∷ []) i ≡ Some u → (left' u ≡ None) × Commits h u
    placed i u at = elim (pushed order t u i at) [
      | inl w ↦ let old = ordered.placed i u w.1 in (others u (apart u old.0) ∙ old.0, old.1)
      | inr w ↦ subst (λ v. (left' v ≡ None) × Commits h v) w.1 (none, (free.commit, own.1))
    ]

    all : (u : ℕ) → Commits h u → left' u ≡ None → (i : ℕ) × (slice_get (order ++ t ∷ []) i ≡ Some u)
    all u commits out = elim (cases_eq u t) [
      | inl same ↦ (length order, subst (λ v. slice_get (order ++ t ∷ []) (length order) ≡ Some v) (sym same) (at_end order t))
      | inr other ↦
          let old = ordered.all u commits (sym (others u other) ∙ out) in (old.0, kept_pushed order t u old.0 old.1)
    ]

    once : (i j u : ℕ) → slice_get (order ++ t ∷ []) i ≡ Some u → slice_get (order ++ t ∷ []) j ≡ Some u → i ≡ j
    once i j u at other = elim (pushed order t u i at) [
      | inl w ↦ elim (pushed order t u j other) [
        | inl v ↦ ordered.once i j u w.1 v.1
        | inr v ↦ absurd (apart u (ordered.placed i u w.1).0 (sym v.1))
      ]
      | inr w ↦ elim (pushed order t u j other) [
        | inl v ↦ absurd (apart u (ordered.placed j u v.1).0 (sym w.1))
        | inr v ↦ w.0 ∙ sym v.0
      ]
    ]

    rises : (k : ℕ) (e : Edge) (j : ℕ) → slice_get es k ≡ Some e → slice_get (order ++ t ∷ []) j ≡ Some e.to
        → (i : ℕ) × (i < j) × (slice_get (order ++ t ∷ []) i ≡ Some e.from)
    rises k e j at there = elim (pushed order t e.to j there) [
      | inl w ↦ let old = ordered.rises k e j at w.1 in (old.0, old.1, kept_pushed order t e.from old.0 old.2)
      | inr w ↦
          let old = ordered.all e.from (are k e at).commits_first (free.free k e at (sym w.1)) in
          (old.0, omega (arith, slice_get_within order old.0 e.from old.1, w.0), kept_pushed order t e.from old.0 old.1)
    ]

    -- who may come at the end is left
    is_left : (u : ℕ) (o : Option ℕ) → left u ≡ o → MayComeAt h (order ++ t ∷ []) (length order) u → (d : ℕ) × (left u ≡ Some d)
    is_left u None is may =
        let old = ordered.all u may.commits is in
        absurd (may.not_before old.0 (slice_get_within order old.0 u old.1) (kept_pushed order t u old.0 old.1))
    is_left u (Some d) is may = (d, is)

    -- and waits for none
    is_free : (u : ℕ) → MayComeAt h (order ++ t ∷ []) (length order) u → IsFree es left u
    is_free u may k e at same =
        let edge = are k e at in
        let before = may.others_before e.from (subst (λ v. IsEdge h e.from v) same (record {
          differ = edge.differ;
          commits_first = edge.commits_first;
          commits_second = edge.commits_second;
          place = e.earlier;
          later = e.later;
          order = edge.order;
          conflict = edge.conflict;
        })) in
        elim (pushed order t e.from before.0 before.2) [
          | inl w ↦ (ordered.placed before.0 e.from w.1).0
          | inr w ↦ absurd (omega (arith, w.0, before.1))
        ]

    -- the one that has come commits before it
    before_it : (u d : ℕ) → MayComeAt h (order ++ t ∷ []) (length order) u → Does h d u Commit → CommittedBefore h t (d + 1)
    before_it u d may does =
        let l = is_left u (left u) refl may in
        let least : free.commit ≤ l.0 = free.first u l.0 l.1 (is_free u may) in
        elim (cases_lt d l.0) [
          | inl less ↦ absurd ((ordered.first_commits u l.0 l.1).2 (d, less, does))
          | inr most ↦ (free.commit, omega (arith, least, most), own.1)
        ]

    takes_first : TakesFirst h (order ++ t ∷ [])
    takes_first i v u d at may does = elim (pushed order t v i at) [
      | inl w ↦ ordered.takes_first i v u d w.1 (may_come h order t i u w.0 may) does
      | inr w ↦ subst (λ x. CommittedBefore h x (d + 1)) w.1
          (before_it u d (subst (λ n. MayComeAt h (order ++ t ∷ []) n u) w.0 may) does)
    ]

-- the place of a transaction in an order
place_of : List ℕ → ℕ → ℕ
place_of [] t = 0
place_of (u ∷ order) t = cond (nat_eq u t) 0 (suc (place_of order t))

-- there it stands
place_there : (order : List ℕ) (i t : ℕ) → slice_get order i ≡ Some t → slice_get order (place_of order t) ≡ Some t
unfolding place_of
place_there [] i t at = absurd (nothing_there i t at)
place_there (u ∷ order) i t at = go (nat_eq u t) refl i at (λ n there. place_there order n t there)
  where
    go : (b : Bool) → nat_eq u t ≡ b → (n : ℕ) → slice_get (u ∷ order) n ≡ Some t
        → ((m : ℕ) → slice_get order m ≡ Some t → slice_get order (place_of order t) ≡ Some t)
        → slice_get (u ∷ order) (cond b 0 (suc (place_of order t))) ≡ Some t
    go true is n there further = ap Some (eqb-true u t is)
    go false is zero there further = absurd (grind (arith, common_steps, is, there))
    go false is (suc n) there further = further n there

-- when none is left the order is a serial one
pub all_ordered : (h : List Operation) (es : List Edge) (order : List ℕ) (left : ℕ → Option ℕ) → ReachAll h es
    → AreOrdered h es order left → ((t : ℕ) → left t ≡ None) → IsSerialOrder h order
all_ordered h es order left reach ordered none = record {
  once = ordered.once;
  are_committed = λ t. (λ commits. ordered.all t commits (none t), λ at. (ordered.placed at.0 t at.1).1);
  leads_on = leads_on;
}
  where
    place_is : (i t : ℕ) → slice_get order i ≡ Some t → place_of order t ≡ i
    place_is i t at = ordered.once (place_of order t) i t (place_there order i t at) at

    rises : Rises (place_of order) es
    rises k e at =
        let to = ordered.all e.to (reach.are_edges k e at).commits_second (none e.to) in
        let from = ordered.rises k e to.0 at to.1 in
        omega (arith, from.1, place_is to.0 e.to to.1, place_is from.0 e.from from.2)

    leads_on : (i j t u : ℕ) → IsEdge h t u → slice_get order i ≡ Some t → slice_get order j ≡ Some u → i < j
    leads_on i j t u edge first second =
        let less = reach.are_enough (place_of order) rises t u edge in
        omega (arith, less, place_is i t first, place_is j u second)
