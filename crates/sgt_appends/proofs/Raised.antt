-- Why few edges are enough.
use Rattle.std.proofs.Common.{◌≡◌, ◌≢◌, ◌<◌, ◌⊎◌, ◌++◌, ℕ, List, [], ◌∷◌, refl, sym, ap, ◌∙◌, subst, inl, inr, arith}
use Rattle.std.proofs.lemmas.Bool.{cases_eq}
use Rattle.sgt_appends.specs.declared.transaction.Transaction.{Transaction}
use Rattle.sgt_appends.specs.declared.transaction.Status.TheVariants.{Committed}
use Rattle.sgt_appends.specs.Lists.{Has, StandsBefore}
use Rattle.sgt_appends.specs.Runs.{operations_of, Ended}
use Rattle.sgt_appends.specs.Precedences.{Appends, Reads, AppendsOnce, Precedes}
use Rattle.sgt_appends.specs.Orders.{IsClean, AllClean}
use Rattle.sgt_appends.specs.Linear.{ClimbsFrom, Climbs, IsKnown, IsLine, IsRaised}
use Rattle.sgt_appends.proofs.Words.{Has-append_left, Has-append_right, Has-append_cases, StandsBefore-cons, StandsBefore-back}
use Rattle.sgt_appends.proofs.Along.{has_or_not, read_own}

-- the appenders of a list's values
abbrev pub AreWritten : List Transaction → ℕ → List ℕ → Type 0
AreWritten h k xs = (v : ℕ) → Has xs v → (t : ℕ) × Appends h t k v

pub climb_on : (h : List Transaction) (rank : ℕ → ℕ) (k x : ℕ) (ys : List ℕ) (w t u : ℕ) → AppendsOnce h → ClimbsFrom h rank k x ys
    → AreWritten h k ys → Has ys w → Appends h t k x → Appends h u k w → (t ≡ u) ⊎ (rank t < rank u)
climb_on h rank k x [] w t u once climbs written has one other = absurd has
climb_on h rank k x (y ∷ ys) w t u once climbs written has one other =
    end has (λ s appends later. climb_on h rank k y ys w s u once climbs.1 (λ v there. written v (inr there)) later appends other)
  where
    a : (s : ℕ) × Appends h s k y
    a = written y (inl refl)

    step : (s : ℕ) → Appends h s k y → (t ≡ s) ⊎ (rank t < rank s)
    step s appends = elim (cases_eq t s) [
      | inl same ↦ inl same
      | inr differ ↦ inr (climbs.0 t s one appends differ)
    ]

    join : (s : ℕ) → (t ≡ s) ⊎ (rank t < rank s) → (s ≡ u) ⊎ (rank s < rank u) → (t ≡ u) ⊎ (rank t < rank u)
    join s (inl p) (inl q) = inl (p ∙ q)
    join s (inl p) (inr q) = inr (omega (arith, ap rank p, q))
    join s (inr p) (inl q) = inr (omega (arith, p, ap rank q))
    join s (inr p) (inr q) = inr (omega (arith, p, q))

    end : Has (y ∷ ys) w → ((s : ℕ) → Appends h s k y → Has ys w → (s ≡ u) ⊎ (rank s < rank u)) → (t ≡ u) ⊎ (rank t < rank u)
    end (inl same) rest = step u (subst (λ v. Appends h u k v) (sym same) other)
    end (inr later) rest = join a.0 (step a.0 a.1) (rest a.0 a.1 later)

climbs_after : (h : List Transaction) (rank : ℕ → ℕ) (k : ℕ) (xs : List ℕ) (y : ℕ) (ys : List ℕ) → Climbs h rank k (xs ++ y ∷ ys)
    → ClimbsFrom h rank k y ys
climbs_after h rank k [] y ys climbs = climbs
climbs_after h rank k (x ∷ []) y ys climbs = climbs.1
climbs_after h rank k (x ∷ z ∷ zs) y ys climbs = climbs_after h rank k (z ∷ zs) y ys climbs.1

-- of two values of a list that climbs
pub stand_climb : (h : List Transaction) (rank : ℕ → ℕ) (k : ℕ) (xs : List ℕ) (v w t u : ℕ) → AppendsOnce h → Climbs h rank k xs
    → AreWritten h k xs → StandsBefore xs v w → Appends h t k v → Appends h u k w → (t ≡ u) ⊎ (rank t < rank u)
stand_climb h rank k xs v w t u once climbs written stand one other =
    climb_on h rank k v stand.1 w t u once
    (climbs_after h rank k stand.0 v stand.1 (subst (λ zs. Climbs h rank k zs) stand.2 climbs))
    (λ z has. written z (subst (λ zs. Has zs z) (sym stand.2) (Has-append_right stand.0 (v ∷ stand.1) z (inr has)))) stand.3 one other

-- the last of a list that is not empty
pub last_of : (xs : List ℕ) (v : ℕ) → Has xs v → (front : List ℕ) × (x : ℕ) × (xs ≡ front ++ x ∷ []) × ((v ≡ x) ⊎ StandsBefore xs v x)
last_of [] v has = absurd has
last_of (y ∷ []) v has = ([], y, refl, inl (only has))
  where
    only : Has (y ∷ []) v → v ≡ y
    only (inl same) = sym same
    only (inr none) = absurd none
last_of (y ∷ z ∷ zs) v has = go has (last_of (z ∷ zs) z (inl refl)) (λ there. last_of (z ∷ zs) v there)
  where
    go : Has (y ∷ z ∷ zs) v → ((front : List ℕ) × (x : ℕ) × (z ∷ zs ≡ front ++ x ∷ []) × ((z ≡ x) ⊎ StandsBefore (z ∷ zs) z x))
        → (Has (z ∷ zs) v → (front : List ℕ) × (x : ℕ) × (z ∷ zs ≡ front ++ x ∷ []) × ((v ≡ x) ⊎ StandsBefore (z ∷ zs) v x))
        → (front : List ℕ) × (x : ℕ) × (y ∷ z ∷ zs ≡ front ++ x ∷ []) × ((v ≡ x) ⊎ StandsBefore (y ∷ z ∷ zs) v x)
    go (inl same) it all = (
      y ∷ it.0,
      it.1,
      ap (λ ws. y ∷ ws) it.2,
      inr ([], z ∷ zs, ap (λ w. w ∷ z ∷ zs) same, subst (λ ws. Has ws it.1) (sym it.2) (Has-append_right it.0 (it.1 ∷ []) it.1 (inl refl))),
    )
    go (inr there) it all =
        let at = all there in
        (y ∷ at.0, at.1, ap (λ ws. y ∷ ws) at.2, more at.1 at.3)
      where
        more : (x : ℕ) → (v ≡ x) ⊎ StandsBefore (z ∷ zs) v x → (v ≡ x) ⊎ StandsBefore (y ∷ z ∷ zs) v x
        more x (inl same) = inl same
        more x (inr stand) = inr (StandsBefore-cons y (z ∷ zs) v x stand)

-- the last value of others that a reader saw; what appends a value that it saw appends this one, or one before it
pub last_seen : (h : List Transaction) (r k : ℕ) (own seen : List ℕ) (t v : ℕ) → AppendsOnce h → IsClean h r k own seen
    → Reads h r k own seen → Has seen v → Appends h t k v → t ≢ r
    → (front : List ℕ) × (x : ℕ) × (who : ℕ) × (seen ≡ (front ++ x ∷ []) ++ own) × Appends h who k x × ((v ≡ x) ⊎ StandsBefore seen v x)
last_seen h r k own seen t v once is reads has appends differ =
    elim (Has-append_cases is.base own v (subst (λ xs. Has xs v) is.ends has)) [
      | inl w ↦ by_last (last_of is.base v w)
      | inr w ↦ absurd (differ (once.by_one t r k v appends (mine w)))
    ]
  where
    mine : Has own v → Appends h r k v
    mine there =
        let it = read_own (operations_of h r) k [] own seen reads in
        subst (λ xs. Has xs v) (sym it.1) (Has-append_left own it.0 v there)

    in_seen : (x : ℕ) → (v ≡ x) ⊎ StandsBefore is.base v x → (v ≡ x) ⊎ StandsBefore seen v x
    in_seen x (inl e) = inl e
    in_seen x (inr stand) = inr (subst (λ xs. StandsBefore xs v x) (sym is.ends) (StandsBefore-back is.base own v x stand))

    by_last : ((front : List ℕ) × (x : ℕ) × (is.base ≡ front ++ x ∷ []) × ((v ≡ x) ⊎ StandsBefore is.base v x))
        → (front : List ℕ) × (x : ℕ) × (who : ℕ) × (seen ≡ (front ++ x ∷ []) ++ own) × Appends h who k x × ((v ≡ x) ⊎ StandsBefore seen v x)
    by_last (front, x, same, either) =
        let there : Has seen x = subst (λ xs. Has xs x) (sym is.ends)
        (Has-append_left is.base own x (subst (λ xs. Has xs x) (sym same) (Has-append_right front (x ∷ []) x (inl refl)))) in
        let who = is.written x there in
        (front, x, who.0, is.ends ∙ ap (λ xs. xs ++ own) same, who.1, in_seen x either)

-- a writer whose value was seen is below the reader
pub seen_under : (h : List Transaction) (rank : ℕ → ℕ) → AppendsOnce h → AllClean h
    → ((r k : ℕ) (own seen : List ℕ) → Ended h r Committed → Reads h r k own seen → Climbs h rank k seen)
    → ((r k : ℕ) (own seen front : List ℕ) (x t : ℕ) → Ended h r Committed → Reads h r k own seen
    → seen ≡ (front ++ x ∷ []) ++ own → Appends h t k x → rank t < rank r)
    → (t r k v : ℕ) (own seen : List ℕ) → Ended h r Committed → Reads h r k own seen → Has seen v
    → Appends h t k v → t ≢ r → rank t < rank r
seen_under h rank once clean climbs last t r k v own seen committed reads has appends differ =
    let is = clean r k own seen committed reads in
    let it = last_seen h r k own seen t v once is reads has appends differ in
    let below : rank it.2 < rank r = last r k own seen it.0 it.1 it.2 committed reads it.3 it.4 in
    elim it.5 [
      | inl e ↦ omega (arith, below, ap rank (once.by_one t it.2 k it.1 (subst (λ y. Appends h t k y) e appends) it.4))
      | inr stand ↦ elim (stand_climb h rank k seen v it.1 t it.2 once (climbs r k own seen committed reads)
          (λ x there. let who = is.written x there in (who.0, who.1)) stand appends it.4) [
            | inl e ↦ omega (arith, below, ap rank e)
            | inr less ↦ omega (arith, below, less)
          ]
    ]

pub seen_below : (h : List Transaction) (order : List ℕ) (rank end : ℕ → ℕ) (line : ℕ → List ℕ) → AppendsOnce h → AllClean h
    → IsRaised h order rank end line → (t r k v : ℕ) (own seen : List ℕ) → Ended h r Committed → Reads h r k own seen → Has seen v
    → Appends h t k v → t ≢ r → rank t < rank r
seen_below h order rank end line once clean raised = seen_under h rank once clean raised.climbs raised.last

-- the line of a key: its appenders, and that they are below its end
pub line_written : (h : List Transaction) (k : ℕ) (line : List ℕ) → AllClean h → IsLine h k line → AreWritten h k line
line_written h k line clean is v has = elim (is.known v has) [
  | inl w ↦ let who = (clean is.reader k is.own is.seen is.committed is.reads).written v w in (who.0, who.1)
  | inr w ↦ (is.reader, w)
]

line_below : (h : List Transaction) (order : List ℕ) (rank end : ℕ → ℕ) (line : ℕ → List ℕ) → AppendsOnce h → AllClean h
    → IsRaised h order rank end line → (k : ℕ) → IsLine h k (line k) → (w a : ℕ) → Has (line k) w → Appends h a k w → rank a < end k
line_below h order rank end line once clean raised k is w a has appends =
    elim (is.known w has) [
      | inl seen ↦ elim (cases_eq a is.reader) [
        | inl same ↦ omega (arith, reader_below, ap rank same)
        | inr differ ↦ omega (
          arith,
          reader_below,
          seen_below h order rank end line once clean raised a is.reader k w is.own is.seen is.committed is.reads seen appends differ,
        )
      ]
      | inr own ↦ omega (arith, reader_below, ap rank (once.by_one a is.reader k w appends own))
    ]
  where
    reader_below : rank is.reader < end k
    reader_below = elim (raised.next is.reader k is.own is.seen is.committed is.reads) [
      | inl all ↦ all.1
      | inr some ↦ absurd (some.5 (is.known some.1
          (subst (λ xs. Has xs some.1) (sym some.3) (Has-append_right some.0 (some.1 ∷ some.2) some.1 (inl refl)))))
    ]

-- a writer whose value was missed is above the reader
pub missed_above : (h : List Transaction) (order : List ℕ) (rank end : ℕ → ℕ) (line : ℕ → List ℕ) → AppendsOnce h → AllClean h
    → IsRaised h order rank end line → (t u k v : ℕ) (own seen : List ℕ) → Has order u → Ended h t Committed → Reads h t k own seen
    → ¬ Has seen v → Appends h u k v → t ≢ u → rank t < rank u
missed_above h order rank end line once clean raised t u k v own seen has committed reads missed appends differ =
    elim (raised.next t k own seen committed reads) [
      | inl all ↦ elim (has_or_not (line k) v) [
        | inl there ↦ absurd (unknown (all.0 v there))
        | inr not_there ↦ omega (arith, all.1, raised.unseen u k v has appends not_there)
      ]
      | inr some ↦ first some.0 some.1 some.2 some.3 some.4 some.6
    ]
  where
    unknown : ¬ IsKnown h t k seen v
    unknown (inl there) = missed there
    unknown (inr mine) = differ (once.by_one t u k v mine appends)

    is : IsLine h k (line k)
    is = raised.lines t k own seen committed reads

    first : (front : List ℕ) (w : ℕ) (back : List ℕ) → line k ≡ front ++ w ∷ back → ((x : ℕ) → Has front x → IsKnown h t k seen x)
        → ((a : ℕ) → Appends h a k w → rank t < rank a) → rank t < rank u
    first front w back same known below =
        let in_line : Has (line k) w = subst (λ xs. Has xs w) (sym same) (Has-append_right front (w ∷ back) w (inl refl)) in
        let who = line_written h k (line k) clean is w in_line in
        let less : rank t < rank who.0 = below who.0 who.1 in
        elim (has_or_not (line k) v) [
          | inr not_there ↦ omega (
            arith,
            less,
            line_below h order rank end line once clean raised k is w who.0 in_line who.1,
            raised.unseen u k v has appends not_there,
          )
          | inl there ↦ elim (Has-append_cases front (w ∷ back) v (subst (λ xs. Has xs v) same there)) [
            | inl before ↦ absurd (unknown (known v before))
            | inr after ↦ elim after [
              | inl e ↦ omega (arith, less, ap rank (once.by_one who.0 u k v (subst (λ x. Appends h who.0 k x) e who.1) appends))
              | inr following ↦ elim (stand_climb h rank k (line k) w v who.0 u once (raised.line_climbs k)
                  (line_written h k (line k) clean is) (front, back, same, following) who.1 appends) [
                    | inl e ↦ omega (arith, less, ap rank e)
                    | inr more ↦ omega (arith, less, more)
                  ]
            ]
          ]
        ]

pub few_enough : (h : List Transaction) (order : List ℕ) (rank end : ℕ → ℕ) (line : ℕ → List ℕ) → AppendsOnce h → AllClean h
    → IsRaised h order rank end line → (t u : ℕ) → Has order u → Precedes h t u → rank t < rank u
few_enough h order rank end line once clean raised t u has precedes = elim precedes.1 [
  | inl w ↦ seen_below h order rank end line once clean raised t u w.key w.value w.has_seen.1.0 w.seen w.has_seen.0 w.has_seen.1.1
      w.has w.appends precedes.0
  | inr v ↦ elim v [
    | inl w ↦ missed_above h order rank end line once clean raised t u w.key w.value w.has_seen.1.0 w.seen has w.has_seen.0
        w.has_seen.1.1 w.has_not w.appends precedes.0
    | inr w ↦ elim (stand_climb h rank w.key w.seen w.first w.second t u once
        (raised.climbs w.reader w.key w.has_seen.1.0 w.seen w.has_seen.0 w.has_seen.1.1)
        (λ x there. let who = (clean w.reader w.key w.has_seen.1.0 w.seen w.has_seen.0 w.has_seen.1.1).written x there in (who.0, who.1))
        w.before w.appends_first w.appends_second) [
          | inl e ↦ absurd (precedes.0 e)
          | inr less ↦ less
        ]
  ]
]
