-- The accesses of a transaction's caller, written one after another.
use Rattle.std.proofs.Common.{◌≡◌, ℕ, ◌+◌, ◌-◌, ◌<◌, ◌≤◌, List, [], ◌∷◌, ◌++◌, length, map, take, drop, set, reverse, Option, Some, None, refl, sym, ap, subst, ◌∙◌, arith, length-append}
use Rattle.std.proofs.lemmas.List.{append-nil, drop-drop, length-map, length-set, map-append, map-set, reverse-append, take_all, take-append-le, take_more_set}
use Rattle.sgt_model.specs.declared.entry.Entry.{Entry}
use Rattle.sgt_model.specs.Progress.{caller_access_in, caller_accesses}
use Rattle.sgt_model.specs.Runs.{CallerAccess}
use Rattle.sgt_c.specs.declared.access_struct.SgtAccess.{SgtAccess}
use Rattle.sgt_c.specs.AccessStructs.{AddsAccess, HoldAccesses, accesses_of, kinded, listed, said}
use Rattle.sgt_c.specs.ReplayedCalls.{past_at}
use Rattle.sgt_c.proofs.CallerAccesses.{past_next}

-- ---- the lists

-- none
nothing : (ys : List CallerAccess) → map kinded ys ≡ [] → ys ≡ []
nothing [] e = refl
nothing (y ∷ ys) e = absurd cc

-- one at most
turned : (ys : List CallerAccess) (access : Option SgtAccess) → map kinded ys ≡ listed said access → reverse ys ≡ ys
turned [] access e = refl
turned (y ∷ []) access e = refl
turned (y ∷ z ∷ ys) None e = absurd cc
turned (y ∷ z ∷ ys) (Some a) e = absurd cc

-- one entry more
pub next_accesses : (entries : List Entry) (place t : ℕ) (e : Entry) (access : Option SgtAccess) → take (place + 1) entries ≡ take place entries ++ e ∷ []
    → map kinded (caller_access_in e.event e.reply t) ≡ listed said access
    → accesses_of (past_at entries (place + 1)) t ≡ accesses_of (past_at entries place) t ++ caller_access_in e.event e.reply t
next_accesses entries place t e access next is =
    ap (λ l. accesses_of l t) (past_next entries place e next)
    ∙ reverse-append (caller_access_in e.event e.reply t) (caller_accesses (past_at entries place) t)
    ∙ ap (λ l. accesses_of (past_at entries place) t ++ l) (turned (caller_access_in e.event e.reply t) access is)

-- ---- the structs

pub adds_none : (to : List SgtAccess) (count : ℕ) → AddsAccess None count to count to
adds_none to count xs ys long holds is =
    let same : xs ++ ys ≡ xs = ap (λ l. xs ++ l) (nothing ys is) ∙ append-nil xs in
    (subst (HoldAccesses to) (sym same) holds, sym long ∙ ap length (sym same))

-- one
alone : (ys : List CallerAccess) (a : SgtAccess) → map kinded ys ≡ said a ∷ [] → length ys ≡ 1
alone [] a e = absurd cc
alone (y ∷ []) a e = refl
alone (y ∷ z ∷ ys) a e = absurd cc

module _ (to : List SgtAccess) (count : ℕ) (a : SgtAccess) (xs ys : List CallerAccess) (long : length xs ≡ count)
    (holds : HoldAccesses to xs) (is : map kinded ys ≡ said a ∷ []) where
  more : length (xs ++ ys) ≡ count + 1
  more = let l = length-append xs ys in let o = alone ys a is in omega (arith, l, o, long)

  both : map kinded (xs ++ ys) ≡ map kinded xs ++ said a ∷ []
  both = map-append kinded xs ys ∙ ap (λ l. map kinded xs ++ l) is

  so_many : length (map kinded xs) ≡ count
  so_many = length-map xs kinded ∙ long

  holds_next : count < length to → HoldAccesses (set to count a) (xs ++ ys)
  holds_next fits =
      ap (λ n. take n (map said (set to count a))) more
      ∙ ap (take (count + 1)) (map-set said to count a)
      ∙ take_more_set (map said to) count (said a) (omega (arith, fits, length-map to said))
      ∙ ap (λ l. l ++ said a ∷ []) (ap (λ n. take n (map said to)) (sym long) ∙ holds
      ∙ take_all (length to) (map kinded xs) (omega (arith, fits, so_many)))
      ∙ sym both
      ∙ sym (take_all (length (set to count a)) (map kinded (xs ++ ys))
      (omega (arith, fits, length-set to count a, length-map (xs ++ ys) kinded, more)))

  holds_still : length to ≤ count → HoldAccesses to (xs ++ ys)
  holds_still full =
      take_all (length (xs ++ ys)) (map said to) (omega (arith, full, more, length-map to said))
      ∙ sym (take_all (length xs) (map said to) (omega (arith, full, long, length-map to said)))
      ∙ holds
      ∙ sym (ap (take (length to)) both ∙ take-append-le (length to) (map kinded xs) (said a ∷ []) (omega (arith, full, so_many)))

pub adds_within : (to : List SgtAccess) (count : ℕ) (a : SgtAccess) → count < length to → AddsAccess (Some a) count to (count + 1) (set to count a)
adds_within to count a fits xs ys long holds is = (holds_next to count a xs ys long holds is fits, sym (more to count a xs ys long holds is))

pub adds_beyond : (to : List SgtAccess) (count : ℕ) (a : SgtAccess) → length to ≤ count → AddsAccess (Some a) count to (count + 1) to
adds_beyond to count a full xs ys long holds is = (holds_still to count a xs ys long holds is full, sym (more to count a xs ys long holds is))

-- what is unchanged from an index on is so from a later one on
pub rest_later : (to before : List SgtAccess) (i j : ℕ) → i ≤ j → drop i to ≡ drop i before → drop j to ≡ drop j before
rest_later to before i j later same =
    let back : i + (j - i) ≡ j = omega (arith, later) in
    ap (λ n. drop n to) (sym back) ∙ sym (drop-drop (j - i) i to) ∙ ap (drop (j - i)) same ∙ drop-drop (j - i) i before
    ∙ ap (λ n. drop n before) back
