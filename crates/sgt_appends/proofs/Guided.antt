-- A guided order is a serial run.
use Rattle.std.proofs.Common.{◌≡◌, ◌≢◌, ◌<◌, ℕ, List, [], ◌∷◌, ◌++◌, refl, sym, ap, ◌∙◌, subst, inl, inr, arith, append_assoc, append-nil}
use Rattle.std.proofs.lemmas.Bool.{cases_eq}
use Rattle.sgt_appends.specs.declared.transaction.Transaction.{Transaction}
use Rattle.sgt_appends.specs.Lists.{Has, IsOnce, Rises}
use Rattle.sgt_appends.specs.Runs.{Contents, nothing, after_all, operations_of, IsRun, IsSerialRun}
use Rattle.sgt_appends.specs.Precedences.{appended, Appends}
use Rattle.sgt_appends.specs.Guides.{appended_by, SawThese, IsGuided}
use Rattle.sgt_appends.proofs.Words.{Has-append_left, Has-append_right, Has-append_cases}
use Rattle.sgt_appends.proofs.Running.{left_by, sees_all}

-- a list that rises has no number twice
pub rises_once : (rank : ℕ → ℕ) (xs : List ℕ) → Rises rank xs → IsOnce xs
rises_once rank [] rises = tt
rises_once rank (x ∷ xs) rises = ((λ has. omega (arith, rises.0 x has)), rises_once rank xs rises.1)

-- the front of a list that rises does so too, and is below what comes after it
pub front_rises : (rank : ℕ → ℕ) (xs ys : List ℕ) → Rises rank (xs ++ ys) → Rises rank xs
front_rises rank [] ys rises = tt
front_rises rank (x ∷ xs) ys rises =
    ((λ y has. rises.0 y (Has-append_left xs ys y has)), front_rises rank xs ys rises.1)

pub front_below : (rank : ℕ → ℕ) (xs ys : List ℕ) (x y : ℕ) → Rises rank (xs ++ ys) → Has xs x → Has ys y → rank x < rank y
front_below rank [] ys x y rises has other = absurd has
front_below rank (z ∷ xs) ys x y rises (inl same) other =
    subst (λ w. rank w < rank y) same (rises.0 y (Has-append_right xs ys y other))
front_below rank (z ∷ xs) ys x y rises (inr later) other = front_below rank xs ys x y rises.1 later other

none_is : (xs : List ℕ) → ((x : ℕ) → ¬ Has xs x) → xs ≡ []
none_is [] none = refl
none_is (x ∷ xs) none = absurd (none x (inl refl))

-- two lists that rise append the same, if one has all those of the other that append
pub same_appended : (h : List Transaction) (rank : ℕ → ℕ) (k : ℕ) (before those : List ℕ) → Rises rank before → Rises rank those
    → ((u : ℕ) → Has those u → Has before u) → ((u value : ℕ) → Has before u → Appends h u k value → Has those u)
    → appended_by h k before ≡ appended_by h k those
same_appended h rank k [] [] rises rise are all = refl
same_appended h rank k [] (y ∷ those) rises rise are all = absurd (are y (inl refl))
same_appended h rank k (x ∷ before) [] rises rise are all =
    ap (λ xs. xs ++ appended_by h k before) (none_is (appended k (operations_of h x)) (λ value has. all x value (inl refl) has))
    ∙ same_appended h rank k before [] rises.1 tt (λ u has. absurd has) (λ u value has appends. all u value (inr has) appends)
same_appended h rank k (x ∷ before) (y ∷ those) rises rise are all = elim (cases_eq x y) [
  | inl same ↦
      ap (λ xs. xs ++ appended_by h k before) (ap (λ w. appended k (operations_of h w)) same)
      ∙ ap (λ xs. appended k (operations_of h y) ++ xs)
      (same_appended h rank k before those rises.1 rise.1
      (λ u has. rest_before x before u (are u (inr has)) (λ e. omega (arith, rise.0 u has, ap rank (sym same ∙ e))))
      (λ u value has appends. rest_before y those u (all u value (inr has) appends)
      (λ e. omega (arith, rises.0 u has, ap rank (same ∙ e)))))
  | inr other ↦
      let less : rank x < rank y = rises.0 y (rest_before x before y (are y (inl refl)) other) in
      ap (λ xs. xs ++ appended_by h k before)
      (none_is (appended k (operations_of h x)) (λ value has. not_in rank x y those rise.0 less (all x value (inl refl) has)))
      ∙ same_appended h rank k before (y ∷ those) rises.1 rise
      (λ u has. rest_before x before u (are u has) (λ e. not_in rank x y those rise.0 less (subst (λ w. Has (y ∷ those) w) (sym e) has)))
      (λ u value has appends. all u value (inr has) appends)
]
  where
    rest_before : (a : ℕ) (as' : List ℕ) (u : ℕ) → Has (a ∷ as') u → a ≢ u → Has as' u
    rest_before a as' u (inl same) other = absurd (other same)
    rest_before a as' u (inr later) other = later

    not_in : (r : ℕ → ℕ) (a b : ℕ) (bs : List ℕ) → ((c : ℕ) → Has bs c → r b < r c) → r a < r b → ¬ Has (b ∷ bs) a
    not_in r a b bs above less (inl same) = omega (arith, ap r same)
    not_in r a b bs above less (inr later) = omega (arith, above a later)

-- the rest of a guided order runs
pub rest_runs : (h : List Transaction) (order : List ℕ) (rank : ℕ → ℕ) (before ts : List ℕ) (c : Contents) → IsGuided h order rank
    → order ≡ before ++ ts → ((k : ℕ) → c k ≡ appended_by h k before) → IsRun h c ts
rest_runs h order rank before [] c guided same stands = tt
rest_runs h order rank before (t ∷ ts) c guided same stands = (
  sees_all (operations_of h t) c (λ k. appended_by h k before) (λ k. []) (λ k. stands k ∙ sym (append-nil (appended_by h k before)))
      (λ k own seen reads.
      let saw = guided.reads t k own seen (subst (λ xs. Has xs t) (sym same) (Has-append_right before (t ∷ ts) t (inl refl))) reads in
      saw.are ∙ ap (λ xs. xs ++ own) (sym (those_are k own seen saw))),
  rest_runs h order rank (before ++ t ∷ []) ts (after_all (operations_of h t) c) guided
      (same ∙ sym (append_assoc before (t ∷ []) ts))
      (λ k. left_by (operations_of h t) c k ∙ ap (λ xs. xs ++ appended k (operations_of h t)) (stands k) ∙ sym (one_more k before)),
)
  where
    rises : Rises rank (before ++ t ∷ ts)
    rises = subst (λ xs. Rises rank xs) same guided.rises

    one_more : (k : ℕ) (us : List ℕ) → appended_by h k (us ++ t ∷ []) ≡ appended_by h k us ++ appended k (operations_of h t)
    one_more k [] = append-nil (appended k (operations_of h t))
    one_more k (u ∷ us) = ap (λ xs. appended k (operations_of h u) ++ xs) (one_more k us)
        ∙ sym (append_assoc (appended k (operations_of h u)) (appended_by h k us) (appended k (operations_of h t)))

    those_are : (k : ℕ) (own seen : List ℕ) (saw : SawThese h order rank t k seen own)
        → appended_by h k before ≡ appended_by h k saw.those
    those_are k own seen saw = same_appended h rank k before saw.those (front_rises rank before (t ∷ ts) rises) saw.rises
        (λ u has. comes_before u (saw.before u has))
        (λ u value has appends.
        let less : rank u < rank t = front_below rank before (t ∷ ts) u t rises has (inl refl) in
        elim (saw.others u value (subst (λ xs. Has xs u) (sym same) (Has-append_left before (t ∷ ts) u has))
        (λ e. omega (arith, less, ap rank e)) appends) [
          | inl w ↦ w
          | inr w ↦ absurd (omega (arith, w, less))
        ])
      where
        comes_before : (u : ℕ) → Has order u × (rank u < rank t) → Has before u
        comes_before u is = elim (Has-append_cases before (t ∷ ts) u (subst (λ xs. Has xs u) same is.0)) [
          | inl w ↦ w
          | inr w ↦ absurd (not_later w)
        ]
          where
            back_rises : (us : List ℕ) → Rises rank (us ++ t ∷ ts) → Rises rank (t ∷ ts)
            back_rises [] all = all
            back_rises (v ∷ us) all = back_rises us all.1

            not_later : ¬ Has (t ∷ ts) u
            not_later (inl e) = omega (arith, is.1, ap rank e)
            not_later (inr later) = omega (arith, is.1, (back_rises before rises).0 u later)

pub guide_enough : (h : List Transaction) (order : List ℕ) (rank : ℕ → ℕ) → IsGuided h order rank → IsSerialRun h order
guide_enough h order rank guided = record {
  once = rises_once rank order guided.rises;
  committed = guided.committed;
  may_run = guided.may_run;
  run = rest_runs h order rank [] order nothing guided refl (λ k. refl);
}
