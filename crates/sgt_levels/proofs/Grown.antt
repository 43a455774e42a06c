-- What one operation more appends.
use Rattle.std.proofs.Common.{◌≡◌, ◌<◌, ◌+◌, ◌==◌, ◌++◌, ℕ, Bool, true, false, cond, List, [], ◌∷◌, length, take, get_or, refl, sym, ap, ◌∙◌, append_assoc}
use Rattle.std.specs.Prelude.{map}
use Rattle.std.proofs.lemmas.Bool.{eqb-true}
use Rattle.std.proofs.lemmas.List.{take_more}
use Rattle.sgt_appends.specs.declared.transaction.Operation.{Operation}
use Rattle.sgt_appends.specs.declared.transaction.Operation.TheVariants.{Append}
use Rattle.sgt_appends.specs.Lists.{Has}
use Rattle.sgt_appends.specs.Precedences.{appended}
use Rattle.sgt_appends.proofs.Added.{appended-append}

pub one_longer : (os : List Operation) (i : ℕ) (o : Operation) (k : ℕ) → i < length os → o ≡ get_or os i o
    → appended k (take (i + 1) os) ≡ appended k (take i os) ++ appended k (o ∷ [])
one_longer os i o k within is = ap (appended k) (take_more os i o within ∙ ap (λ x. take i os ++ x ∷ []) (sym is))
    ∙ appended-append k (take i os) (o ∷ [])

map-const : (xs ys : List ℕ) (n : ℕ) → map (λ v. n) (xs ++ ys) ≡ map (λ v. n) xs ++ map (λ v. n) ys
map-const [] ys n = refl
map-const (x ∷ xs) ys n = ap (λ l. n ∷ l) (map-const xs ys n)

pub grown_values : (os : List Operation) (i : ℕ) (o : Operation) (first old new : ℕ → List ℕ) → i < length os → o ≡ get_or os i o
    → ((k : ℕ) → old k ≡ first k ++ appended k (take i os)) → ((k : ℕ) → new k ≡ old k ++ appended k (o ∷ []))
    → (k : ℕ) → new k ≡ first k ++ appended k (take (i + 1) os)
grown_values os i o first old new within is before more k =
    more k ∙ ap (λ l. l ++ appended k (o ∷ [])) (before k) ∙ append_assoc (first k) (appended k (take i os)) (appended k (o ∷ []))
    ∙ ap (λ l. first k ++ l) (sym (one_longer os i o k within is))

pub grown_places : (os : List Operation) (i : ℕ) (o : Operation) (n : ℕ) (first old new : ℕ → List ℕ) → i < length os → o ≡ get_or os i o
    → ((k : ℕ) → old k ≡ first k ++ map (λ v. n) (appended k (take i os)))
    → ((k : ℕ) → new k ≡ old k ++ map (λ v. n) (appended k (o ∷ [])))
    → (k : ℕ) → new k ≡ first k ++ map (λ v. n) (appended k (take (i + 1) os))
grown_places os i o n first old new within is before more k =
    more k ∙ ap (λ l. l ++ map (λ v. n) (appended k (o ∷ []))) (before k)
    ∙ append_assoc (first k) (map (λ v. n) (appended k (take i os))) (map (λ v. n) (appended k (o ∷ [])))
    ∙ ap (λ l. first k ++ l) (sym (ap (map (λ v. n)) (one_longer os i o k within is)
    ∙ map-const (appended k (take i os)) (appended k (o ∷ [])) n))

-- the key of an append
pub only_key : (k key value v : ℕ) → Has (appended k (Append key value ∷ [])) v → k ≡ key
only_key k key value v has = go (k == key) refl has
  where
    go : (b : Bool) → k == key ≡ b → Has (cond b (value ∷ []) []) v → k ≡ key
    go true is there = eqb-true k key is
    go false is there = absurd there
