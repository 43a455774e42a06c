-- Steps of real time and of what was observed, in an order that keeps real time.
use Rattle.std.proofs.Common.{◌≡◌, ◌≢◌, ◌<◌, ◌≤◌, ◌+◌, ◌∙◌, ℕ, true, false, List, [], ◌∷◌, ◌++◌, sym, ap, subst, inl, inr, arith, Option, Some, None, slice_get}
use Rattle.std.specs.Prelude.{◌⊎◌}
use Rattle.std.proofs.lemmas.Bool.{cases_eq}
use Rattle.sgt_appends.specs.declared.transaction.Transaction.{Transaction}
use Rattle.sgt_appends.specs.Lists.{Has, IsOnce, StandsBefore}
use Rattle.sgt_appends.specs.Precedences.{AppendsOnce}
use Rattle.sgt_appends.proofs.Words.{Has-append_cases, StandsBefore-cases, StandsBefore-has, stand_somehow, last_stands}
use Rattle.sgt_appends.proofs.Orders.{place_of, here, further, precedes_first}
use Rattle.sgt_levels.specs.declared.tie.Ground.{Ground}
use Rattle.sgt_clients.specs.declared.clients.Span.{Span}
use Rattle.sgt_clients.specs.Findings.{EndedBefore, KeepsTime, IsOrder, HasOrder, Shows}
use Rattle.sgt_clients.specs.Times.{ComesAfter}

-- a transaction before u in the order has a smaller index
time_first : (order : List ℕ) (t u : ℕ) → IsOnce order → Has order t → t ≢ u → (Has order u → StandsBefore order t u)
    → place_of order t < place_of order u
time_first [] t u once has differ stands = absurd has
time_first (x ∷ xs) t u once has differ stands = elim (cases_eq x u) [
  | inl e ↦ elim (StandsBefore-cases x xs t u (stands (inl e))) [
    | inl w ↦ absurd (differ (sym w.0 ∙ e))
    | inr w ↦ absurd (once.0 (subst (λ n. Has xs n) (sym e) (StandsBefore-has xs t u w).1))
  ]
  | inr other ↦ elim (cases_eq x t) [
    | inl e ↦ omega (arith, here xs x t e, further xs x u other)
    | inr apart ↦
        let rest : Has xs t = elim has [
          | inl e ↦ absurd (apart e)
          | inr h ↦ h
        ] in
        let less : place_of xs t < place_of xs u =
        time_first xs t u once.1 rest differ (λ there. elim (StandsBefore-cases x xs t u (stands (inr there))) [
          | inl w ↦ absurd (apart w.0)
          | inr w ↦ w
        ]) in
        omega (arith, less, further xs x t apart, further xs x u other)
  ]
]

-- what a step shows comes first
shown_first : (h : List Transaction) (spans : List Span) (order : List ℕ) (t u : ℕ) (ground : Option Ground) → AppendsOnce h
    → IsOrder true h spans order → Shows h spans t u ground → place_of order t < place_of order u
shown_first h spans order t u (Some ground) once is shows = precedes_first h order t u once is.0 shows
shown_first h spans order t u None once is shows =
    let has : Has order t = is.0.committed t shows.1 in
    time_first order t u is.0.once has shows.0 (λ there. is.1 t u has there shows.2)

-- i steps lead from a to b: in each order that keeps real time b has a greater index
abbrev pub Climbs : List Transaction → List Span → ℕ → ℕ → ℕ → Type 0
Climbs h spans i a b = (order : List ℕ) → AppendsOnce h → IsOrder true h spans order
    → ((i ≡ 0) × (a ≡ b)) ⊎ ((0 < i) × (place_of order a < place_of order b))

pub climb_one : (h : List Transaction) (spans : List Span) (i a m t u : ℕ) (ground : Option Ground) → Climbs h spans i a m → t ≡ m
    → Shows h spans t u ground → Climbs h spans (i + 1) a u
climb_one h spans i a m t u ground climbs same shows = λ order once is.
    let less : place_of order t < place_of order u = shown_first h spans order t u ground once is shows in
    elim (climbs order once is) [
      | inl w ↦ inr (omega arith, subst (λ n. place_of order n < place_of order u) (same ∙ sym w.1) less)
      | inr w ↦ inr (omega arith, omega (arith, w.1, less, ap (λ n. place_of order n) same))
    ]

-- a cycle
pub no_order : (h : List Transaction) (spans : List Span) (i a b : ℕ) → Climbs h spans i a b → a ≡ b → 0 < i → AppendsOnce h
    → ¬ HasOrder true h spans
no_order h spans i a b climbs same some once found = elim (climbs found.0 once found.1) [
  | inl w ↦ absurd (omega (arith, w.0, some))
  | inr w ↦ absurd (omega (arith, w.1, ap (λ n. place_of found.0 n) same))
]

-- who keeps real time is serializable
pub not_strictly : (h : List Transaction) (spans : List Span) → ¬ HasOrder false h spans → ¬ HasOrder true h spans
not_strictly h spans none found = none (found.0, found.1.0)

-- the transactions began by this time, and none of them ended before itself or one that stands before it began
pub record IsKept (spans : List Span) (xs : List ℕ) (latest : ℕ) : Type 0 where
  pub began : (u : ℕ) (s : Span) → Has xs u → slice_get spans u ≡ Some s → s.began ≤ latest
  pub own : (t : ℕ) → Has xs t → ¬ EndedBefore spans t t
  pub later : (t u : ℕ) → StandsBefore xs u t → ¬ EndedBefore spans t u

pub none_kept : (spans : List Span) (latest : ℕ) → IsKept spans [] latest
none_kept spans latest = record {
  began = λ u s has is. absurd has;
  own = λ t has. absurd has;
  later = λ t u stands. absurd (StandsBefore-has [] u t stands).0;
}

same_span : (spans : List Span) (t : ℕ) (s r : Span) → slice_get spans t ≡ Some s → slice_get spans t ≡ Some r → s ≡ r
same_span spans t s r one other = grind (arith, one, other)

pub kept_one : (spans : List Span) (xs : List ℕ) (t old new : ℕ) → IsKept spans xs old → ComesAfter spans t old new
    → IsKept spans (xs ++ t ∷ []) new
kept_one spans xs t old new kept after = record {
  began = λ u s has is. elim (Has-append_cases xs (t ∷ []) u has) [
    | inl there ↦ omega (arith, kept.began u s there is, after.2)
    | inr last ↦ began_here u s last is
  ];
  own = λ u has. elim (Has-append_cases xs (t ∷ []) u has) [
    | inl there ↦ kept.own u there
    | inr last ↦ λ ended. not_before u u ended (is_here u last) (began_here u ended.second last ended.second_is)
  ];
  later = λ u v stands. elim (last_stands xs t v u stands) [
    | inl there ↦ kept.later u v there
    | inr last ↦ λ ended. not_before u v ended last.1 (omega (arith, kept.began v ended.second last.0 ended.second_is, after.2))
  ];
}
  where
    is_here : (u : ℕ) → Has (t ∷ []) u → t ≡ u
    is_here u has = elim has [
      | inl e ↦ e
      | inr none ↦ absurd none
    ]

    began_here : (u : ℕ) (s : Span) → Has (t ∷ []) u → slice_get spans u ≡ Some s → s.began ≤ new
    began_here u s has is =
        subst (λ r. r.began ≤ new) (same_span spans t after.0 s after.1
        (subst (λ n. slice_get spans n ≡ Some s) (sym (is_here u has)) is)) after.3

    not_before : (u v : ℕ) (ended : EndedBefore spans u v) → t ≡ u → ended.second.began ≤ new → ⊥
    not_before u v ended same began =
        let mine : after.0 ≡ ended.first = same_span spans t after.0 ended.first after.1
        (subst (λ n. slice_get spans n ≡ Some ended.first) (sym same) ended.first_is) in
        let late : new ≤ ended.ended = after.4 ended.ended (ap (λ r. r.ended) mine ∙ ended.ended_is) in
        omega (arith, late, began, ended.before)

pub keeps_time : (spans : List Span) (xs : List ℕ) (latest : ℕ) → IsKept spans xs latest → KeepsTime spans xs
keeps_time spans xs latest kept = λ t u one other ended. elim (cases_eq t u) [
  | inl e ↦ absurd (kept.own t one (subst (λ n. EndedBefore spans t n) (sym e) ended))
  | inr differ ↦ elim (stand_somehow xs t u one other differ) [
    | inl w ↦ w
    | inr w ↦ absurd (kept.later t u w ended)
  ]
]
