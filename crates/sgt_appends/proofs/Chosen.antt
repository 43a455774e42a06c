-- The transactions of the order, and the premise on those with an unknown end.
use Rattle.std.proofs.Common.{◌≡◌, ◌⊎◌, ◌<◌, ◌≤◌, ◌+◌, ◌++◌, ℕ, List, [], ◌∷◌, length, take, get_or, refl, sym, subst, inl, inr, arith}
use Rattle.std.proofs.lemmas.Bool.{cases_eq}
use Rattle.std.proofs.lemmas.List.{take_more}
use Rattle.sgt_appends.specs.declared.transaction.Operation.TheVariants.{Read}
use Rattle.sgt_appends.specs.declared.transaction.Transaction.{Transaction}
use Rattle.sgt_appends.specs.Lists.{Has, Rises}
use Rattle.sgt_appends.specs.Runs.{operations_of, MayRun}
use Rattle.sgt_appends.specs.Orders.{UnknownOnlyAppend}
use Rattle.sgt_appends.specs.Graphs.{AreOrdered}
use Rattle.sgt_appends.specs.Linear.{IsByRank}
use Rattle.sgt_appends.specs.Reads.{IsReadAt, HasNoUnknownRead}
use Rattle.sgt_appends.specs.Tables.{AreNotAborted, IsNodeAdded}
use Rattle.sgt_appends.proofs.Words.{Has-append_left, Has-append_right, Has-append_cases}
use Rattle.sgt_appends.proofs.Guided.{front_rises, front_below}
use Rattle.sgt_appends.proofs.Passed.{at_reads, stands_within, ended_within}

only : (t u : ℕ) → Has (t ∷ []) u → t ≡ u
only t u (inl same) = same
only t u (inr none) = absurd none

rises_last : (rank : ℕ → ℕ) (xs : List ℕ) (t : ℕ) → Rises rank xs → ((u : ℕ) → Has xs u → rank u < rank t) → Rises rank (xs ++ t ∷ [])
rises_last rank [] t rises below = ((λ y none. absurd none), tt)
rises_last rank (x ∷ xs) t rises below =
    ((λ y has. first y (Has-append_cases xs (t ∷ []) y has)), rises_last rank xs t rises.1 (λ u has. below u (inr has)))
  where
    first : (y : ℕ) → Has xs y ⊎ Has (t ∷ []) y → rank x < rank y
    first y (inl has) = rises.0 y has
    first y (inr last) = subst (λ z. rank x < rank z) (only t y last) (below x (inl refl))

-- one node more, which takes part
chosen_one : (h : List Transaction) (nodes order new : List ℕ) (i : ℕ) → i < length nodes → AreNotAborted h (take i nodes) order
    → MayRun h (get_or nodes i 0) → new ≡ order ++ get_or nodes i 0 ∷ [] → AreNotAborted h (take (i + 1) nodes) new
chosen_one h nodes order new i within are may longer =
    subst (λ ns. AreNotAborted h ns new) (sym (take_more nodes i 0 within))
    (subst (λ ts. AreNotAborted h (take i nodes ++ t ∷ []) ts) (sym longer) all)
  where
    t : ℕ
    t = get_or nodes i 0

    all : AreNotAborted h (take i nodes ++ t ∷ []) (order ++ t ∷ [])
    all = record {
      may_run = λ u has. elim (Has-append_cases order (t ∷ []) u has) [
        | inl there ↦ are.may_run u there
        | inr last ↦ subst (λ w. MayRun h w) (only t u last) may
      ];
      among = λ u has. elim (Has-append_cases order (t ∷ []) u has) [
        | inl there ↦ Has-append_left (take i nodes) (t ∷ []) u (are.among u there)
        | inr last ↦ Has-append_right (take i nodes) (t ∷ []) u last
      ];
      all = λ u has runs. elim (Has-append_cases (take i nodes) (t ∷ []) u has) [
        | inl there ↦ Has-append_left order (t ∷ []) u (are.all u there runs)
        | inr last ↦ Has-append_right order (t ∷ []) u last
      ];
      rises = λ rank rises.
          rises_last rank order t (are.rises rank (front_rises rank (take i nodes) (t ∷ []) rises))
          (λ u has. front_below rank (take i nodes) (t ∷ []) u t rises (are.among u has) (inl refl));
    }

-- one node more, which does not
chosen_none : (h : List Transaction) (nodes order : List ℕ) (i : ℕ) → i < length nodes → AreNotAborted h (take i nodes) order
    → ¬ MayRun h (get_or nodes i 0) → AreNotAborted h (take (i + 1) nodes) order
chosen_none h nodes order i within are not = subst (λ ns. AreNotAborted h ns order) (sym (take_more nodes i 0 within)) (record {
  may_run = are.may_run;
  among = λ u has. Has-append_left (take i nodes) (t ∷ []) u (are.among u has);
  all = λ u has runs. elim (Has-append_cases (take i nodes) (t ∷ []) u has) [
    | inl there ↦ are.all u there runs
    | inr last ↦ absurd (not (subst (λ w. MayRun h w) (sym (only t u last)) runs))
  ];
  rises = λ rank rises. are.rises rank (front_rises rank (take i nodes) (t ∷ []) rises);
})
  where
    t : ℕ
    t = get_or nodes i 0

pub chosen_next : (h : List Transaction) (nodes order new : List ℕ) (i : ℕ) → i < length nodes → AreNotAborted h (take i nodes) order
    → IsNodeAdded h order new (get_or nodes i 0) → AreNotAborted h (take (i + 1) nodes) new
chosen_next h nodes order new i within are (inl it) = chosen_one h nodes order new i within are it.0 it.1
chosen_next h nodes order new i within are (inr it) =
    subst (λ ts. AreNotAborted h (take (i + 1) nodes) ts) (sym it.1) (chosen_none h nodes order i within are it.0)

-- the ranks of the sort are an order by rank
pub by_rank : (h : List Transaction) (ranks nodes order : List ℕ) → AreOrdered ranks nodes → AreNotAborted h nodes order
    → ((t : ℕ) → t < length h → 0 < get_or ranks t 0) → IsByRank h order (λ t. get_or ranks t 0)
by_rank h ranks nodes order ordered are some = record {
  rises = are.rises (λ t. get_or ranks t 0) ordered.rises;
  committed = λ t ended. runs t (inl ended);
  observed = λ t may seen. runs t may;
  may_run = are.may_run;
}
  where
    within : (t : ℕ) → MayRun h t → t < length h
    within t (inl it) = ended_within h t it.0 it.1
    within t (inr it) = ended_within h t it.0 it.1

    runs : (t : ℕ) → MayRun h t → Has order t
    runs t may = are.all t (ordered.all t (some t (within t may))) may

-- the premise: one transaction more, and all
pub unread_one : (h : List Transaction) (i : ℕ) → ((t : ℕ) → t < i → HasNoUnknownRead h t) → HasNoUnknownRead h i
    → (t : ℕ) → t < i + 1 → HasNoUnknownRead h t
unread_one h i before here t less = elim (cases_eq t i) [
  | inl same ↦ subst (λ u. HasNoUnknownRead h u) (sym same) here
  | inr differ ↦ before t (omega (arith, less, differ))
]

pub unread_all : (h : List Transaction) (i : ℕ) → ((t : ℕ) → t < i → HasNoUnknownRead h t) → length h ≤ i → UnknownOnlyAppend h
unread_all h i before whole t k own seen ended reads =
    let at = at_reads h t k own seen reads in
    before t (omega (arith, whole, ended_within h t ended.0 ended.1)) at.0 k seen ended at.1

-- one position more
pub unread_more : (h : List Transaction) (t i : ℕ) → ((p k : ℕ) (seen : List ℕ) → p < i → ¬ IsReadAt h t p k seen)
    → ((k : ℕ) (seen : List ℕ) → ¬ IsReadAt h t i k seen) → (p k : ℕ) (seen : List ℕ) → p < i + 1 → ¬ IsReadAt h t p k seen
unread_more h t i before here p k seen less is = elim (cases_eq p i) [
  | inl same ↦ here k seen (subst (λ q. IsReadAt h t q k seen) same is)
  | inr differ ↦ before p k seen (omega (arith, less, differ)) is
]

pub unread_in : (h : List Transaction) (t i : ℕ) → ((p k : ℕ) (seen : List ℕ) → p < i → ¬ IsReadAt h t p k seen)
    → length (operations_of h t) ≤ i → HasNoUnknownRead h t
unread_in h t i before whole p k seen ended is =
    before p k seen (omega (arith, whole, stands_within (operations_of h t) p (Read k is.0) is.1)) is
