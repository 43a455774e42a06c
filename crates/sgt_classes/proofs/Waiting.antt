-- Who waits for whom, after one has been looked at again.
use Rattle.std.proofs.Common.{◌≡◌, ◌≢◌, ◌≤◌, ◌+◌, ◌++◌, ◌∷◌, [], ◌⊎◌, ℕ, List, Option, Some, None, IsSome, refl, sym, ap, ◌∙◌, subst, inl, inr, arith, length-append}
use Rattle.std.specs.Prelude.{slice_get}
use Rattle.std.specs.BTreeMap.{get}
use Rattle.sgt_classes.specs.Tables.{entry_of}
use Rattle.std.specs.Ordering.{nat_cmp}
use Rattle.std.proofs.lemmas.Bool.{cases_eq, cases_lt, true≢false}
use Rattle.std.proofs.lemmas.Option.{slice_get_within, slice_get-get_or, get_or_from_slice_get}
use Rattle.std.proofs.Math.ListN.{get_or-append}
use Rattle.sgt_classes.specs.declared.graph.Edge.{Edge}
use Rattle.sgt_classes.specs.declared.chains.EdgeEnd.TheVariants.{From, To}
use Rattle.sgt_classes.specs.declared.serial.Waits.{Waits}
use Rattle.sgt_classes.specs.declared.links.Links.{Links}
use Rattle.sgt_classes.specs.declared.watched.Watched.{Watched}
use Rattle.sgt_classes.specs.Links.{link_of}
use Rattle.sgt_classes.specs.Seen.{height}
use Rattle.sgt_classes.specs.Sorting.{IsLastEdge, IsTopEdge, AreWaits, KnowsWatched, KnowsWaits, IsReady, IsWatched, HasBefore, AllWait, AllWaitBut, WaitsForLeft}
use Rattle.sgt_classes.proofs.EdgeChains.{same_at, not_after_last}

-- one that waits for none stays ready, after another is looked at
pub ready_still : (w w' : Waits) (t u : ℕ) → w'.left ≡ w.left
    → ((v : ℕ) → v ≢ t → entry_of w'.incoming.tops v ≡ entry_of w.incoming.tops v)
    → ((c v : ℕ) → get nat_cmp w.ready c ≡ Some v → get nat_cmp w'.ready c ≡ Some v) → IsReady w u → IsReady w' t → IsReady w' u
ready_still w w' t u left tops ready before here = elim (cases_eq u t) [
  | inl same ↦ subst (λ v. IsReady w' v) (sym same) here
  | inr apart ↦ λ c is none. ready c u (before c (ap (λ m. entry_of m u) (sym left) ∙ is) (sym (tops u apart) ∙ none))
]

-- each that waits waits for one that is left, after another is looked at
pub wait_still : (w w' : Waits) (t : ℕ) → w'.edges ≡ w.edges → w'.left ≡ w.left
    → ((u : ℕ) → u ≢ t → entry_of w'.incoming.tops u ≡ entry_of w.incoming.tops u) → AllWait w → WaitsForLeft w' t → AllWait w'
wait_still w w' t edges left tops before here u = elim (cases_eq u t) [
  | inl same ↦ subst (λ v. WaitsForLeft w' v) (sym same) here
  | inr apart ↦ λ k e top at. subst (λ m. IsSome (entry_of m e.from)) (sym left)
      (before u k e (sym (tops u apart) ∙ top) (subst (λ v. slice_get v.items k ≡ Some e) edges at))
]

-- the edge by which one waits leads to it
leads_to : (w : Waits) (u k : ℕ) (e : Edge) → KnowsWaits w → entry_of w.incoming.tops u ≡ Some k
    → slice_get w.edges.items k ≡ Some e → e.to ≡ u
leads_to w u k e waits top at =
    let here = subst (λ o. IsTopEdge w.edges.items (entry_of w.left) u o) top (waits.tops_are u) in
    ap (λ (f : Edge). f.to) (same_at w.edges.items k e here.0.0 at here.0.1) ∙ here.0.2

-- the edge by which one waits stays watched, after another is looked at
pub watched_still : (w w' : Waits) (t u : ℕ) → w'.edges ≡ w.edges
    → ((v : ℕ) → v ≢ t → entry_of w'.incoming.tops v ≡ entry_of w.incoming.tops v)
    → ((k : ℕ) (f : Edge) → slice_get w.watched.edges.items k ≡ Some f → slice_get w'.watched.edges.items k ≡ Some f)
    → IsWatched w u → IsWatched w' t → IsWatched w' u
watched_still w w' t u edges tops kept before here = elim (cases_eq u t) [
  | inl same ↦ subst (λ v. IsWatched w' v) (sym same) here
  | inr apart ↦ λ k e top at.
      let has = before k e (sym (tops u apart) ∙ top) (subst (λ v. slice_get v.items k ≡ Some e) edges at) in
      let still = kept has.0 e has.2 in
      (has.0, slice_get_within w'.watched.edges.items has.0 e still, still)
]

-- after the one is looked at to which a watched edge leads, the others wait but for t by a lower one
pub wait_below : (w w' : Waits) (t i : ℕ) (e : Edge) → w'.edges ≡ w.edges → w'.left ≡ w.left
    → ((u : ℕ) → u ≢ e.to → entry_of w'.incoming.tops u ≡ entry_of w.incoming.tops u) → KnowsWaits w
    → ((k : ℕ) (f : Edge) → slice_get w.watched.edges.items k ≡ Some f → slice_get w'.watched.edges.items k ≡ Some f)
    → slice_get w.watched.edges.items i ≡ Some e → WaitsForLeft w' e.to → AllWaitBut w t (i + 1) → AllWaitBut w' t i
wait_below w w' t i e edges left tops waits kept here looked before u k f top at = elim (cases_eq u e.to) [
  | inl same ↦ inl (looked k f (ap (λ v. entry_of w'.incoming.tops v) (sym same) ∙ top) at)
  | inr apart ↦ other apart
]
  where
    at_old : slice_get w.edges.items k ≡ Some f
    at_old = subst (λ v. slice_get v.items k ≡ Some f) edges at

    other : u ≢ e.to → IsSome (entry_of w'.left f.from) ⊎ ((f.from ≡ t) × HasBefore w'.watched.edges.items i f)
    other apart =
        let old = sym (tops u apart) ∙ top in
        elim (before u k f old at_old) [
          | inl is ↦ inl (subst (λ m. IsSome (entry_of m f.from)) (sym left) is)
          | inr out ↦ elim (cases_eq out.1.0 i) [
            | inl same ↦ absurd (apart (sym (leads_to w u k f waits old at_old)
                ∙ ap (λ (g : Edge). g.to)
                (same_at w.watched.edges.items i f e (subst (λ n. slice_get w.watched.edges.items n ≡ Some f) same out.1.2) here)))
            | inr differ ↦ inr (out.0, (out.1.0, omega (arith, out.1.1, differ), kept out.1.0 f out.1.2))
          ]
        ]

-- what waits for t by a watched edge before place i does so by none after the last of those
pub wait_lower : (w : Waits) (t i : ℕ) (o : Option ℕ) → IsLastEdge From w.watched.edges.items i t o → AllWaitBut w t i
    → AllWaitBut w t (height o)
wait_lower w t i o last before u k f top at = elim (before u k f top at) [
  | inl is ↦ inl is
  | inr out ↦ inr (out.0, (out.1.0, not_after_last From w.watched.edges.items i t out.1.0 f o last out.1.1 out.1.2 out.0, out.1.2))
]

-- the last edge from the transaction leads from it
pub last_from : (es : List Edge) (i t : ℕ) (o : Option ℕ) → IsLastEdge From es i t o → (k : ℕ) → o ≡ Some k
    → (e : Edge) × (slice_get es k ≡ Some e) × (e.from ≡ t)
last_from es i t o last k is = (subst (λ p. IsLastEdge From es i t p) is last).1

-- an edge to u that is not below one from what is not left, which all above it are
not_under : (es : List Edge) (left : ℕ → Option ℕ) (u i k : ℕ) (e f : Edge) → slice_get es i ≡ Some e → left e.from ≡ None
    → IsTopEdge es left u (Some i) → i ≤ k → slice_get es k ≡ Some f → f.to ≡ u → left f.from ≡ None
not_under es left u i k e f at gone top most here to = elim (cases_eq k i) [
  | inl same ↦ subst (λ (g : Edge). left g.from ≡ None)
      (same_at es i e f at (subst (λ n. slice_get es n ≡ Some f) same here)) gone
  | inr differ ↦ top.1 k f (omega (arith, most, differ)) here to
]

-- an edge from one that is not left gives way to the next lower one
pub below_passed : (es : List Edge) (left : ℕ → Option ℕ) (u i : ℕ) (e : Edge) (o : Option ℕ) → slice_get es i ≡ Some e
    → left e.from ≡ None → IsTopEdge es left u (Some i) → IsLastEdge To es i u o → IsTopEdge es left u o
below_passed es left u i e None at gone top last = λ k f here to. elim (cases_lt k i) [
  | inl under ↦ absurd (last k f under here to)
  | inr most ↦ not_under es left u i k e f at gone top (omega (arith, most)) here to
]
below_passed es left u i e (Some j) at gone top last = (
  last.1,
  λ k f after here to. elim (cases_lt k i) [
    | inl under ↦ absurd (last.2 k f after under here to)
    | inr most ↦ not_under es left u i k e f at gone top (omega (arith, most)) here to
  ],
)

-- what is kept, after it is found for what a transaction that is left waits
pub waits_still : (es : List Edge) (left tops tops' : ℕ → Option ℕ) (below below' : Links) (ready ready' : ℕ → Option ℕ)
    (watched watched' : Watched) (t c : ℕ) (top : Option ℕ) → AreWaits es left tops (link_of below) ready watched → left t ≡ Some c
    → IsTopEdge es left t top → (tops t ≡ None → top ≡ None) → tops' t ≡ top → ((u : ℕ) → u ≢ t → tops' u ≡ tops u) → below' ≡ below
    → ((d u : ℕ) → ready' d ≡ Some u → (ready d ≡ Some u) ⊎ ((d ≡ c) × (u ≡ t) × (top ≡ None))) → KnowsWatched watched'
    → AreWaits es left tops' (link_of below') ready' watched'
waits_still es left tops tops' below below' ready ready' watched watched' t c top waits is found stays here others same reported knows =
    record {
      apart = waits.apart;
      tops_are = λ u. elim (cases_eq u t) [
        | inl mine ↦ subst (λ v. IsTopEdge es left v (tops' v)) (sym mine) (subst (λ o. IsTopEdge es left t o) (sym here) found)
        | inr apart ↦ subst (λ o. IsTopEdge es left u o) (sym (others u apart)) (waits.tops_are u)
      ];
      tops_left = λ u some. elim (cases_eq u t) [
        | inl mine ↦ subst (λ o. IsSome o) (sym (ap left mine ∙ is)) refl
        | inr apart ↦ waits.tops_left u (subst (λ o. IsSome o) (others u apart) some)
      ];
      below_are = subst (λ b. (k : ℕ) (e : Edge) → slice_get es k ≡ Some e → IsLastEdge To es k e.to (link_of b k)) (sym same)
          waits.below_are;
      ready_are = λ d u at. elim (reported d u at) [
        | inl old ↦ let before = waits.ready_are d u old in (
          before.0,
          elim (cases_eq u t) [
            | inl mine ↦ ap tops' mine ∙ here ∙ stays (ap tops (sym mine) ∙ before.1)
            | inr apart ↦ others u apart ∙ before.1
          ],
        )
        | inr new ↦ (ap left new.1 ∙ is ∙ ap (λ n. Some n) (sym new.0), ap tops' new.1 ∙ here ∙ new.2)
      ];
      watched_are = knows;
    }

-- who is not left waits for none
pub none_awaited : (w : Waits) (t k : ℕ) → KnowsWaits w → entry_of w.left t ≡ None → entry_of w.incoming.tops t ≢ Some k
none_awaited w t k waits gone top = true≢false (sym (subst (λ o. IsSome o) gone (waits.tops_left t (subst (λ o. IsSome o) (sym top) refl))))

-- an edge stays where it is when one is added
pub kept_more : (es : List Edge) (e f : Edge) (k : ℕ) → slice_get es k ≡ Some e → slice_get (es ++ f ∷ []) k ≡ Some e
kept_more es e f k at =
    let within = slice_get_within es k e at in
    slice_get-get_or (es ++ f ∷ []) k e (omega (arith, within, length-append es (f ∷ [])))
    ∙ ap (λ (g : Edge). Some g) (get_or-append es (f ∷ []) e k within ∙ get_or_from_slice_get es k e e at)
