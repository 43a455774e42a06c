-- What a transaction is before the first position that its index names: it has no fate.
use Rattle.std.proofs.Common.{◌≡◌, ℕ, zero, suc, ◌+◌, ◌<◌, ◌≤◌, ◌⊎◌, Bool, true, false, cond, List, [], ◌∷◌, ◌++◌, take, get_or, Option, Some, None, length, refl, sym, ap, subst, inl, inr, ◌∙◌, arith}
use Rattle.std.specs.Option.{option_and_then, option_or}
use Rattle.std.proofs.lemmas.List.{take_more}
use Rattle.sgt_model.specs.declared.entry.Entry.{Entry}
use Rattle.sgt_model.specs.Contents.{Key}
use Rattle.sgt_model.specs.Accesses.{Access, access_of}
use Rattle.sgt_model.specs.Fates.{ending_in, fate_of}
use Rattle.sgt_model.specs.ReadFrom.{IsBy}
use Rattle.sgt_model.specs.Paths.{Member}
use Rattle.sgt_model.specs.Values.{stores, newest_store}
use Rattle.sgt_explain.specs.Places.{entries_before, placed_access}
use Rattle.sgt_explain.specs.Indexes.{IsUntouched}
use Rattle.sgt_explain.proofs.Prefixes.{entry_there, before_next, access_there}

pub no_fate : (entries : List Entry) (t low : ℕ) → low ≤ length entries → ((n : ℕ) → n < low → IsUntouched entries t n)
    → fate_of (entries_before entries low) t ≡ None
no_fate entries t zero within none = refl
no_fate entries t (suc low) within none =
    let (e, is) = entry_there entries low (omega (arith, within)) in
    let one : suc low ≡ low + 1 = omega arith in
    let other : ending_in e.event e.reply t ≡ None =
    subst (λ o. option_and_then (λ (x : Entry). ending_in x.event x.reply t) o ≡ None) is (none low (omega arith)).1 in
    ap (λ n. fate_of (entries_before entries n) t) one
    ∙ ap (λ past. fate_of past t) (before_next entries low e is)
    ∙ ap (λ o. option_or o (fate_of (entries_before entries low) t)) other
    ∙ no_fate entries t low (omega (arith, within)) (λ n below. none n (omega (arith, below)))

-- the newest write of a key is an access of its transaction

store_here : (o rest : Option Access) (k : Key) (counts : ℕ → Bool) (v : ℕ) → IsBy (option_or (stores counts k o) rest) v
    → IsBy o v ⊎ IsBy rest v
store_here None rest k counts v by = inr by
store_here (Some a) rest k counts v by = by_test _ by
  where
    by_test : (b : Bool) → IsBy (option_or (cond b (Some a) None) rest) v → IsBy (Some a) v ⊎ IsBy rest v
    by_test true by = inl by
    by_test false by = inr by

pub store_placed : (entries : List Entry) (k : Key) (counts : ℕ → Bool) (v low : ℕ) → low ≤ length entries
    → IsBy (newest_store counts k (entries_before entries low)) v → (n : ℕ) × (n < low) × IsBy (placed_access entries n) v
store_placed entries k counts v zero within by = absurd by
store_placed entries k counts v (suc low) within by =
    let (e, is) = entry_there entries low (omega (arith, within)) in
    let one : suc low ≡ low + 1 = omega arith in
    let next : entries_before entries (suc low) ≡ e ∷ entries_before entries low =
    ap (entries_before entries) one ∙ before_next entries low e is in
    elim (store_here (access_of e) (newest_store counts k (entries_before entries low)) k counts v
    (subst (λ past. IsBy (newest_store counts k past) v) next by)) [
      | inl here ↦ (low, omega arith, subst (λ o. IsBy o v) (sym (access_there entries low e is)) here)
      | inr before ↦
          let (n, below, at) = store_placed entries k counts v low (omega (arith, within)) before in
          (n, omega (arith, below), at)
    ]

-- a member of a list with one item more

member_push : (v : ℕ) (l : List ℕ) (x : ℕ) → Member v (l ++ x ∷ []) → Member v l ⊎ (v ≡ x)
member_push v [] x m = elim m [ inl same ↦ inr same | inr none ↦ absurd none ]
member_push v (y ∷ l) x m = elim m [
  | inl same ↦ inl (inl same)
  | inr rest ↦ elim (member_push v l x rest) [ inl early ↦ inl (inr early) | inr next ↦ inr next ]
]

pub member_next : (v : ℕ) (l : List ℕ) (i d : ℕ) → i < length l → Member v (take (i + 1) l) → Member v (take i l) ⊎ (v ≡ get_or l i d)
member_next v l i d within m = member_push v (take i l) (get_or l i d) (subst (Member v) (take_more l i d within) m)
