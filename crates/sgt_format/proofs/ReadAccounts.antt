-- The accounts of an opening, read one after another.
use Rattle.std.proofs.Common.{◌≡◌, ℕ, suc, ◌+◌, ◌<◌, ◌≤◌, List, [], ◌∷◌, ◌++◌, Option, Some, None, length, drop, get_or, drop-cons, map, refl, ap, sym, subst, ◌∙◌, append_assoc, arith}
use Rattle.std.specs.Prelude.{option_map, option_and_then}
use Rattle.std.proofs.lemmas.List.{append-nil, drop_all}
use Rattle.serde_json.specs.View.{view}
use Rattle.serde_json.specs.declared.value.Value.{Value}
use Rattle.sgt_smallbank.specs.declared.account.Account.{Account}
use Rattle.sgt_format.specs.Trees.{each}
use Rattle.sgt_format.specs.Openings.{account_in}

-- the accounts of the trees from index i on, after those that are read
abbrev pub rest_read : List Value → ℕ → List Account → Option (List Account)
rest_read trees i accounts = option_map (λ rest. accounts ++ rest) (each account_in (map view (drop i trees)))

begin : (accounts : Option (List Account)) → option_map (λ rest. [] ++ rest) accounts ≡ accounts
begin None = refl
begin (Some rest) = refl

-- before the first one is read
pub none_read : (trees : List Value) (accounts : List Account) → accounts ≡ []
    → rest_read trees 0 accounts ≡ each account_in (map view trees)
none_read trees accounts none = ap (λ l. rest_read trees 0 l) none ∙ begin (each account_in (map view trees))

-- the tree at an index comes before the others
next_tree : (trees : List Value) (i : ℕ) (d : Value) → i < length trees → drop i trees ≡ get_or trees i d ∷ drop (i + 1) trees
next_tree trees i d within =
    let next : suc i ≡ i + 1 = omega arith in
    subst (λ n. drop i trees ≡ get_or trees i d ∷ drop n trees) next (drop-cons trees i d within)

pushed : (before : List Account) (a : Account) (rest : Option (List Account))
    → option_map (λ others. (before ++ a ∷ []) ++ others) rest
    ≡ option_map (λ others. before ++ others) (option_and_then (λ b. option_map (λ others. b ∷ others) rest) (Some a))
pushed before a None = refl
pushed before a (Some others) = ap Some (append_assoc before (a ∷ []) others)

-- one more account
pub one_read : (trees : List Value) (i : ℕ) (d : Value) (before after : List Account) (a : Account) → i < length trees
    → account_in (view (get_or trees i d)) ≡ Some a → after ≡ before ++ a ∷ []
    → rest_read trees i before ≡ each account_in (map view trees) → rest_read trees (i + 1) after ≡ each account_in (map view trees)
one_read trees i d before after a within found more so_far =
    let rest = each account_in (map view (drop (i + 1) trees)) in
    ap (λ l. rest_read trees (i + 1) l) more
    ∙ pushed before a rest
    ∙ sym (ap (λ o. option_map (λ others. before ++ others) (option_and_then (λ b. option_map (λ others. b ∷ others) rest) o)) found)
    ∙ sym (ap (λ l. option_map (λ others. before ++ others) (each account_in (map view l))) (next_tree trees i d within))
    ∙ so_far

-- a tree that is no account
pub no_read : (trees : List Value) (i : ℕ) (d : Value) (before : List Account) → i < length trees
    → account_in (view (get_or trees i d)) ≡ None → rest_read trees i before ≡ each account_in (map view trees)
    → None ≡ each account_in (map view trees)
no_read trees i d before within none so_far =
    let rest = each account_in (map view (drop (i + 1) trees)) in
    sym (ap (λ o. option_map (λ others. before ++ others) (option_and_then (λ b. option_map (λ others. b ∷ others) rest) o)) none)
    ∙ sym (ap (λ l. option_map (λ others. before ++ others) (each account_in (map view l))) (next_tree trees i d within))
    ∙ so_far

-- once all are read
pub all_read : (trees : List Value) (i : ℕ) (accounts : List Account) → length trees ≤ i
    → rest_read trees i accounts ≡ each account_in (map view trees) → Some accounts ≡ each account_in (map view trees)
all_read trees i accounts past so_far =
    ap Some (sym (append-nil accounts))
    ∙ sym (ap (λ l. option_map (λ others. accounts ++ others) (each account_in (map view l))) (drop_all i trees past))
    ∙ so_far
