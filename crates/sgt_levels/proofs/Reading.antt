-- An order of commits along the edges is a run of committed reads.
use Rattle.std.proofs.Common.{◌≡◌, ◌≢◌, ◌⊎◌, ℕ, List, [], ◌∷◌, ◌++◌, refl, sym, ap, subst, inl, inr}
use Rattle.std.proofs.lemmas.Bool.{cases_eq}
use Rattle.sgt_appends.specs.declared.transaction.Transaction.{Transaction}
use Rattle.sgt_appends.specs.declared.transaction.Status.TheVariants.{Committed}
use Rattle.sgt_appends.specs.Lists.{Has, IsOnce, StandsBefore}
use Rattle.sgt_appends.specs.Runs.{operations_of, Ended, MayRun}
use Rattle.sgt_appends.specs.Precedences.{appended, Appends, Reads, AppendsOnce, WereSeen}
use Rattle.sgt_appends.specs.Orders.{UnknownOnlyAppend, AllClean}
use Rattle.sgt_appends.proofs.Words.{Has-append_left, Has-append_right, Has-append_cases, StandsBefore-cons, StandsBefore-cases, StandsBefore-back, StandsBefore-has, IsOnce-front, not_both, stand_somehow}
use Rattle.sgt_appends.proofs.Along.{read_own, has_or_not, apart, IsBase, saw_base, saw_value, saw_both}
use Rattle.sgt_levels.specs.Commits.{IsCommittedRead, IsCommittedRun, AllWhole, IsAlongCommits}
use Rattle.sgt_levels.proofs.Chosen.{saw_first}
use Rattle.sgt_levels.proofs.Commits.{joins}

is_before : (before ts : List ℕ) (t u : ℕ) → IsOnce (before ++ t ∷ ts) → StandsBefore (before ++ t ∷ ts) u t → Has before u
is_before [] ts t u once stand = elim (StandsBefore-cases t ts u t stand) [
  | inl w ↦ absurd (once.0 w.1)
  | inr w ↦ absurd (once.0 (StandsBefore-has ts u t w).1)
]
is_before (v ∷ before) ts t u once stand = elim (StandsBefore-cases v (before ++ t ∷ ts) u t stand) [
  | inl w ↦ inl w.0
  | inr w ↦ inr (is_before before ts t u once.1 w)
]

split_at : (xs : List ℕ) (x : ℕ) → Has xs x → (front : List ℕ) × (back : List ℕ) × (xs ≡ front ++ x ∷ back)
split_at [] x has = absurd has
split_at (y ∷ xs) x (inl same) = ([], xs, ap (λ w. w ∷ xs) same)
split_at (y ∷ xs) x (inr later) = let it = split_at xs x later in (y ∷ it.0, it.1, ap (λ ws. y ∷ ws) it.2)

-- a value of the one list is in the other, or none is
shares : (xs ys : List ℕ) → ((v : ℕ) × Has xs v × Has ys v) ⊎ ((v : ℕ) → Has xs v → ¬ Has ys v)
shares [] ys = inr (λ v has. absurd has)
shares (x ∷ xs) ys = elim (has_or_not ys x) [
  | inl w ↦ inl (x, inl refl, w)
  | inr w ↦ elim (shares xs ys) [
    | inl v ↦ inl (v.0, inr v.1, v.2)
    | inr v ↦ inr (λ z has. neither w v z has)
  ]
]
  where
    neither : ¬ Has ys x → ((v : ℕ) → Has xs v → ¬ Has ys v) → (z : ℕ) → Has (x ∷ xs) z → ¬ Has ys z
    neither one rest z (inl same) = λ has. one (subst (λ v. Has ys v) (sym same) has)
    neither one rest z (inr later) = rest z later

-- the front of the list that ends with the last one with the property
record IsUpTo (P : ℕ → Type 0) (xs front back : List ℕ) : Type 0 where
  splits : xs ≡ front ++ back
  none : (u : ℕ) → Has back u → ¬ P u
  some : (u : ℕ) → Has front u → (w : ℕ) × P w × ((u ≡ w) ⊎ StandsBefore xs u w)

one_more : (P : ℕ → Type 0) (x : ℕ) (xs front back : List ℕ) → P x ⊎ (¬ P x) → IsUpTo P xs front back
    → (front' : List ℕ) × (back' : List ℕ) × IsUpTo P (x ∷ xs) front' back'
one_more P x xs [] back (inl it) is = (
  x ∷ [],
  back,
  record {
    splits = ap (λ ws. x ∷ ws) is.splits;
    none = is.none;
    some = λ u has. (x, it, inl (only u has));
  },
)
  where
    only : (u : ℕ) → Has (x ∷ []) u → u ≡ x
    only u (inl same) = sym same
    only u (inr never) = absurd never
one_more P x xs [] back (inr it) is = (
  [],
  x ∷ back,
  record {
    splits = ap (λ ws. x ∷ ws) is.splits;
    none = λ u has. nor u has;
    some = λ u has. absurd has;
  },
)
  where
    nor : (u : ℕ) → Has (x ∷ back) u → ¬ P u
    nor u (inl same) = λ p. it (subst (λ w. P w) (sym same) p)
    nor u (inr later) = is.none u later
one_more P x xs (y ∷ front) back which is = (
  x ∷ y ∷ front,
  back,
  record {
    splits = ap (λ ws. x ∷ ws) is.splits;
    none = is.none;
    some = λ u has. those u has;
  },
)
  where
    those : (u : ℕ) → Has (x ∷ y ∷ front) u → (w : ℕ) × P w × ((u ≡ w) ⊎ StandsBefore (x ∷ xs) u w)
    those u (inl same) =
        let it = is.some y (inl refl) in
        (it.0, it.1, inr ([], xs, ap (λ w. w ∷ xs) same, in_xs it.0 it.2))
      where
        in_xs : (w : ℕ) → (y ≡ w) ⊎ StandsBefore xs y w → Has xs w
        in_xs w (inl e) = subst (λ zs. Has zs w) (sym is.splits) (inl e)
        in_xs w (inr s) = (StandsBefore-has xs y w s).1
    those u (inr later) = let it = is.some u later in (it.0, it.1, further it.0 it.2)
      where
        further : (w : ℕ) → (u ≡ w) ⊎ StandsBefore xs u w → (u ≡ w) ⊎ StandsBefore (x ∷ xs) u w
        further w (inl e) = inl e
        further w (inr s) = inr (StandsBefore-cons x xs u w s)

up_to : (P : ℕ → Type 0) → ((u : ℕ) → P u ⊎ (¬ P u)) → (xs : List ℕ) → (front : List ℕ) × (back : List ℕ) × IsUpTo P xs front back
up_to P which [] = ([], [], record { splits = refl; none = λ u has. absurd has; some = λ u has. absurd has })
up_to P which (x ∷ xs) = let it = up_to P which xs in one_more P x xs it.0 it.1 (which x) it.2

-- u appends a value that was seen
abbrev WasShown : List Transaction → ℕ → List ℕ → ℕ → Type 0
WasShown h k seen u = (v : ℕ) × Appends h u k v × Has seen v

was_shown : (h : List Transaction) (k : ℕ) (seen : List ℕ) (u : ℕ) → WasShown h k seen u ⊎ (¬ WasShown h k seen u)
was_shown h k seen u = elim (shares (appended k (operations_of h u)) seen) [
  | inl w ↦ inl w
  | inr w ↦ inr (λ it. w it.0 it.1 it.2)
]

module _ (h : List Transaction) (order : List ℕ) (t k : ℕ) (once : AppendsOnce h) (clean : AllClean h) (whole : AllWhole h)
    (is : IsAlongCommits h order) (committed : Ended h t Committed) (has_t : Has order t) where
  saw : (own seen : List ℕ) → Reads h t k own seen → (u value : ℕ) → MayRun h u → u ≢ t → Appends h u k value → Has seen value → StandsBefore order u t
  saw own seen reads u value may differ appends has =
      is.along u t may has_t (differ, inl (saw_value h t k u value seen (committed, (own, reads)) appends has))

  late : (own seen : List ℕ) → Reads h t k own seen → (w u first second : ℕ) → w ≢ u → MayRun h w → Has order u → Appends h w k first → Appends h u k second
      → Has seen first → ¬ Has seen second → StandsBefore order w u
  late own seen reads w u first second differ may has_u one other has has_not =
      is.along w u may has_u (differ, inr (inr (saw_first h t k w u first second seen (committed, (own, reads)) one other has has_not)))

  turn : (own seen front back : List ℕ) → Reads h t k own seen → order ≡ front ++ back → (u w first second : ℕ) → Has front u → Has front w → u ≢ w → Appends h u k first → Appends h w k second
      → StandsBefore seen first second → StandsBefore front u w
  turn own seen front back reads splits u w first second has_u has_w differ one other stand =
      let it : WereSeen h u w = saw_both h t k u w first second seen (committed, (own, reads)) one other stand in
      let in_u : Has order u = subst (λ xs. Has xs u) (sym splits) (Has-append_left front back u has_u) in
      let in_w : Has order w = subst (λ xs. Has xs w) (sym splits) (Has-append_left front back w has_w) in
      let stands : StandsBefore order u w = is.along u w (is.may_run u in_u) in_w (differ, inr (inl it)) in
      elim (stand_somehow front u w has_u has_w differ) [
        | inl x ↦ x
        | inr x ↦ absurd (not_both order u w is.once stands (subst (λ xs. StandsBefore xs w u) (sym splits) (StandsBefore-back front back w u x)))
      ]

  -- t has not yet appended to the key
  fresh : (seen : List ℕ) → Reads h t k [] seen → IsCommittedRead h order t k [] seen
  fresh seen reads =
      let it = up_to (WasShown h k seen) (was_shown h k seen) order in
      record {
        front = it.0;
        back = it.1;
        splits = it.2.splits;
        sees = saw_base h it.0 t k [] seen once reads (clean t k [] seen committed reads) (base it.0 it.1 it.2);
        not_yet = not_t it.0 it.1 it.2;
        locked = λ u value some. absurd (some refl);
      }
    where
      not_own : ¬ WasShown h k seen t
      not_own shown = (clean t k [] seen committed reads).not_ahead shown.0 shown.2 shown.1

      not_t : (front back : List ℕ) → IsUpTo (WasShown h k seen) order front back → ¬ Has front t
      not_t front back upto has =
          let it = upto.some t has in
          let differ : it.0 ≢ t = λ e. not_own (subst (λ w. WasShown h k seen w) e it.1) in
          case it.0 differ it.1 it.2
        where
          case : (w : ℕ) → w ≢ t → WasShown h k seen w → ¬ ((t ≡ w) ⊎ StandsBefore order t w)
          case w differ shown (inl e) = differ (sym e)
          case w differ shown (inr s) = not_both order t w is.once s
              (saw [] seen reads w shown.0 (is.may_run w (StandsBefore-has order t w s).1) differ shown.1 shown.2)

      base : (front back : List ℕ) → IsUpTo (WasShown h k seen) order front back → IsBase h front t k [] seen
      base front back upto = record {
        once = IsOnce-front front back (subst (λ xs. IsOnce xs) upto.splits is.once);
        not_t = not_t front back upto;
        seen_in = λ u value may differ appends has.
            elim (Has-append_cases front back u (subst (λ xs. Has xs u) upto.splits (StandsBefore-has order u t (saw [] seen reads u value may differ appends has)).0)) [
              | inl x ↦ x
              | inr x ↦ absurd (upto.none u x (value, appends, has))
            ];
        missed_out = λ u value there appends has_not.
            let in_u : Has order u = subst (λ xs. Has xs u) (sym upto.splits) (Has-append_left front back u there) in
            let it = upto.some u there in
            missed u value in_u appends has_not it.0 it.1 it.2;
        in_order = turn [] seen front back reads upto.splits;
      }
        where
          missed : (u value : ℕ) → Has order u → Appends h u k value → ¬ Has seen value → (w : ℕ) → WasShown h k seen w
              → ¬ ((u ≡ w) ⊎ StandsBefore order u w)
          missed u value in_u appends has_not w shown (inl e) =
              let shown_u : WasShown h k seen u = subst (λ z. WasShown h k seen z) (sym e) shown in
              whole t k [] seen committed reads
              (u, shown_u.0, value, (λ f. not_own (subst (λ z. WasShown h k seen z) f shown_u)), shown_u.1, appends, shown_u.2, has_not)
          missed u value in_u appends has_not w shown (inr s) = elim (cases_eq w u) [
            | inl e ↦ let self : StandsBefore order u u = subst (λ z. StandsBefore order u z) e s in not_both order u u is.once self self
            | inr differ ↦ not_both order u w is.once s
                (late [] seen reads w u shown.0 value differ (is.may_run w (StandsBefore-has order u w s).1) in_u shown.1 appends shown.2 has_not)
          ]

  -- t has appended to the key
  held : (o : ℕ) (os seen : List ℕ) → Reads h t k (o ∷ os) seen → IsCommittedRead h order t k (o ∷ os) seen
  held o os seen reads =
      let it = split_at order t has_t in
      record {
        front = it.0;
        back = t ∷ it.1;
        splits = it.2;
        sees = saw_base h it.0 t k (o ∷ os) seen once reads (clean t k (o ∷ os) seen committed reads) (base it.0 it.1 it.2);
        not_yet = apart_t it.0 it.1 it.2;
        locked = λ u value some stand appends. comes it.0 it.1 it.2 u stand;
      }
    where
      apart_t : (front back : List ℕ) → order ≡ front ++ t ∷ back → ¬ Has front t
      apart_t front back splits there = apart front (t ∷ back) t (subst (λ xs. IsOnce xs) splits is.once) there (inl refl)

      comes : (front back : List ℕ) → order ≡ front ++ t ∷ back → (u : ℕ) → StandsBefore order u t → Has front u
      comes front back splits u stand =
          is_before front back t u (subst (λ xs. IsOnce xs) splits is.once) (subst (λ xs. StandsBefore xs u t) splits stand)

      own_seen : Has seen o
      own_seen =
          let c = clean t k (o ∷ os) seen committed reads in
          subst (λ xs. Has xs o) (sym c.ends) (Has-append_right c.base (o ∷ os) o (inl refl))

      own_mine : Appends h t k o
      own_mine =
          let it = read_own (operations_of h t) k [] (o ∷ os) seen reads in
          subst (λ xs. Has xs o) (sym it.1) (inl refl)

      base : (front back : List ℕ) → order ≡ front ++ t ∷ back → IsBase h front t k (o ∷ os) seen
      base front back splits = record {
        once = IsOnce-front front (t ∷ back) (subst (λ xs. IsOnce xs) splits is.once);
        not_t = apart_t front back splits;
        seen_in = λ u value may differ appends has. comes front back splits u (saw (o ∷ os) seen reads u value may differ appends has);
        missed_out = λ u value there appends has_not.
            let stands : StandsBefore order u t =
            subst (λ xs. StandsBefore xs u t) (sym splits) (joins front (t ∷ back) u t there (inl refl)) in
            let in_u : Has order u = (StandsBefore-has order u t stands).0 in
            let differ : t ≢ u = λ e. apart_t front back splits (subst (λ z. Has front z) (sym e) there) in
            not_both order u t is.once stands
            (late (o ∷ os) seen reads t u o value differ (inl committed) in_u own_mine appends own_seen has_not);
        in_order = turn (o ∷ os) seen front (t ∷ back) reads splits;
      }

  read_right : (own seen : List ℕ) → Reads h t k own seen → IsCommittedRead h order t k own seen
  read_right [] seen reads = fresh seen reads
  read_right (o ∷ os) seen reads = held o os seen reads

pub commit_orders : (h : List Transaction) (order : List ℕ) → AppendsOnce h → UnknownOnlyAppend h → AllClean h → AllWhole h
    → IsAlongCommits h order → IsCommittedRun h order
commit_orders h order once unknown clean whole is = record {
  once = is.once;
  committed = is.committed;
  may_run = is.may_run;
  reads = λ t k own seen has reads. elim (is.may_run t has) [
    | inl committed ↦ read_right h order t k once clean whole is committed has own seen reads
    | inr other ↦ absurd (unknown t k own seen other reads)
  ];
}
