-- The last of a key's chain is the first of the key's writes from the back.
use Rattle.std.proofs.Common.{◌≡◌, ℕ, ℤ, Bool, true, false, cond, List, [], ◌∷◌, reverse, Option, Some, None, option_map, refl, sym, ap, ◌∙◌}
use Rattle.std.proofs.lemmas.Grind.{reverse_onto}
use Rattle.std.proofs.lemmas.List.Folds.{find-append}
use Rattle.std.specs.List.{find, last_or}
use Rattle.std.specs.Option.{option_or}
use Rattle.sgt_model.specs.Contents.{Key, key_eq}
use Rattle.sgt_records.specs.declared.write.Write.{Write}
use Rattle.sgt_records.specs.Pendings.{chain_in}

-- who wrote, and what
abbrev pub written_by : Write → ℕ × Option ℤ
written_by w = (w.by, w.value)

-- the write is of the key
abbrev pub is_of : Key → Write → Bool
is_of k w = key_eq w.key k

-- the last of a chain, or what came before it
last_or_found : (d : Option (ℕ × Option ℤ)) (writes : List Write) (k : Key)
    → last_or d (chain_in writes k) ≡ option_or (option_map written_by (find (is_of k) (reverse writes))) d
last_or_found d [] k = refl
last_or_found d (w ∷ writes) k = go (key_eq w.key k) (λ e. last_or_found e writes k)
    ∙ sym (ap (λ l. option_or (option_map written_by (find (is_of k) l)) d) (reverse_onto writes w [])
    ∙ ap (λ o. option_or (option_map written_by o) d) (find-append (is_of k) (reverse writes) (w ∷ [])))
  where
    choose : (b : Bool) (found : Option Write) → option_or (option_map written_by found) (cond b (Some (written_by w)) d) ≡ option_or
        (option_map written_by (option_or found (cond b (Some w) None))) d
    choose true None = refl
    choose false None = refl
    choose b (Some x) = refl

    go : (b : Bool) → ((e : Option (ℕ × Option ℤ)) → last_or e (chain_in writes k) ≡ option_or
        (option_map written_by (find (is_of k) (reverse writes))) e)
        → last_or d (cond b (written_by w ∷ chain_in writes k) (chain_in writes k)) ≡ option_or
        (option_map written_by (option_or (find (is_of k) (reverse writes)) (cond b (Some w) None))) d
    go true rest = rest (Some (written_by w)) ∙ choose true (find (is_of k) (reverse writes))
    go false rest = rest d ∙ choose false (find (is_of k) (reverse writes))

-- the last of a key's chain, by the write that a search from the back found
pub last_found : (writes : List Write) (k : Key) (found : Option Write) → found ≡ find (is_of k) (reverse writes)
    → last_or None (chain_in writes k) ≡ option_map written_by found
last_found writes k found is = last_or_found None writes k
    ∙ (ap (λ o. option_or (option_map written_by o) None) (sym is) ∙ or_none (option_map written_by found))
  where
    or_none : (o : Option (ℕ × Option ℤ)) → option_or o None ≡ o
    or_none None = refl
    or_none (Some x) = refl
