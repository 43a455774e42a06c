-- What a read of a run of committed reads sees is a prefix of what the whole order leaves.
use Rattle.std.proofs.Common.{◌≡◌, ◌≢◌, ℕ, List, [], ◌∷◌, ◌++◌, refl, sym, ap, ◌∙◌, subst, inl, inr, append_assoc, append-nil}
use Rattle.sgt_appends.specs.declared.transaction.Transaction.{Transaction}
use Rattle.sgt_appends.specs.Lists.{Has, IsOnce, StandsBefore}
use Rattle.sgt_appends.specs.Runs.{operations_of}
use Rattle.sgt_appends.specs.Precedences.{appended, Appends}
use Rattle.sgt_appends.specs.Guides.{appended_by}
use Rattle.sgt_appends.proofs.Words.{Has-append_left, Has-append_cases, StandsBefore-front}
use Rattle.sgt_appends.proofs.Along.{apart}
use Rattle.sgt_levels.specs.Commits.{IsCommittedRead}
use Rattle.sgt_levels.proofs.Split.{IsSnapshotRead}

pub appended_by-append : (h : List Transaction) (k : ℕ) (xs ys : List ℕ) → appended_by h k (xs ++ ys) ≡ appended_by h k xs ++ appended_by h k ys
appended_by-append h k [] ys = refl
appended_by-append h k (x ∷ xs) ys = ap (λ l. appended k (operations_of h x) ++ l) (appended_by-append h k xs ys)
    ∙ sym (append_assoc (appended k (operations_of h x)) (appended_by h k xs) (appended_by h k ys))

no_member : (xs : List ℕ) → ((v : ℕ) → ¬ Has xs v) → xs ≡ []
no_member [] none = refl
no_member (x ∷ xs) none = absurd (none x (inl refl))

-- those that append nothing to the key leave nothing there
appended_none : (h : List Transaction) (k : ℕ) (ts : List ℕ) → ((u v : ℕ) → Has ts u → ¬ Appends h u k v) → appended_by h k ts ≡ []
appended_none h k [] none = refl
appended_none h k (t ∷ ts) none =
    ap (λ l. l ++ appended_by h k ts) (no_member (appended k (operations_of h t)) (λ v has. none t v (inl refl) has))
    ∙ appended_none h k ts (λ u v has. none u v (inr has))

pub split_at : (xs : List ℕ) (x : ℕ) → Has xs x → (front : List ℕ) × (back : List ℕ) × (xs ≡ front ++ x ∷ back)
split_at [] x has = absurd has
split_at (y ∷ xs) x (inl same) = ([], xs, ap (λ z. z ∷ xs) same)
split_at (y ∷ xs) x (inr later) = let it = split_at xs x later in (y ∷ it.0, it.1, ap (λ l. y ∷ l) it.2)

front_before : (front back : List ℕ) (x u : ℕ) → Has front u → StandsBefore (front ++ x ∷ back) u x
front_before [] back x u has = absurd has
front_before (y ∷ front) back x u (inl same) = ([], front ++ x ∷ back, ap (λ z. z ∷ (front ++ x ∷ back)) same, there front)
  where
    there : (ys : List ℕ) → Has (ys ++ x ∷ back) x
    there [] = inl refl
    there (z ∷ ys) = inr (there ys)
front_before (y ∷ front) back x u (inr later) = StandsBefore-front (y ∷ []) (front ++ x ∷ back) u x (front_before front back x u later)

pub committed_prefix : (h : List Transaction) (order : List ℕ) (r k : ℕ) (own seen : List ℕ) → IsOnce order → Has order r
    → (it : IsCommittedRead h order r k own seen) → IsSnapshotRead h it.front r k own seen
    → (rest : List ℕ) × (appended_by h k order ≡ seen ++ rest)
committed_prefix h order r k [] seen once has it sees = (
  appended_by h k it.back,
  ap (appended_by h k) it.splits ∙ appended_by-append h k it.front it.back
      ∙ ap (λ l. l ++ appended_by h k it.back) (sym (sees.are ∙ append-nil (appended_by h k it.front))),
)
committed_prefix h order r k (y ∷ own) seen once has it sees = (
  sees.more ++ appended_by h k at.1,
  ap (appended_by h k) it.splits ∙ appended_by-append h k it.front it.back ∙ ap (λ l. appended_by h k it.front ++ l) following
      ∙ sym (append_assoc (appended_by h k it.front) (y ∷ own) (sees.more ++ appended_by h k at.1))
      ∙ ap (λ l. l ++ (sees.more ++ appended_by h k at.1)) (sym sees.are),
)
  where
    some : (y ∷ own) ≢ []
    some e = cc

    in_back : Has it.back r
    in_back = elim (Has-append_cases it.front it.back r (subst (λ xs. Has xs r) it.splits has)) [
      | inl w ↦ absurd (it.not_yet w)
      | inr w ↦ w
    ]

    at : (front : List ℕ) × (back : List ℕ) × (it.back ≡ front ++ r ∷ back)
    at = split_at it.back r in_back

    none : (u v : ℕ) → Has at.0 u → ¬ Appends h u k v
    none u v there appends =
        let before : StandsBefore order u r =
        subst (λ xs. StandsBefore xs u r) (sym (it.splits ∙ ap (λ l. it.front ++ l) at.2))
        (StandsBefore-front it.front (at.0 ++ r ∷ at.1) u r (front_before at.0 at.1 r u there)) in
        apart it.front it.back u (subst (λ xs. IsOnce xs) it.splits once) (it.locked u v some before appends)
        (subst (λ xs. Has xs u) (sym at.2) (Has-append_left at.0 (r ∷ at.1) u there))

    following : appended_by h k it.back ≡ (y ∷ own) ++ (sees.more ++ appended_by h k at.1)
    following = ap (appended_by h k) at.2 ∙ appended_by-append h k at.0 (r ∷ at.1)
        ∙ ap (λ l. l ++ appended_by h k (r ∷ at.1)) (appended_none h k at.0 none)
        ∙ ap (λ l. l ++ appended_by h k at.1) sees.whole_is
        ∙ append_assoc (y ∷ own) sees.more (appended_by h k at.1)
