-- Receipts as numbers beside entries.
use Rattle.std.proofs.Common.{◌≡◌, ℕ, zero, suc, ◌+◌, ◌<◌, List, [], ◌∷◌, ◌++◌, length, Some, slice_get, reverse, refl, sym, ap, ◌∙◌, arith}
use Rattle.std.proofs.lemmas.List.{reverse-reverse, reverse-append, length-reverse}
use Rattle.std.specs.Option.{option_map}
use Rattle.sgt_model.specs.declared.entry.Entry.{Entry}
use Rattle.sgt_session.specs.declared.receipt.Receipt.{Receipt}
use Rattle.sgt_session.specs.Receipts.{receipt_of, receipts_of, entry_of}

-- there are as many receipts as numbers
pub receipts-length : (ns : List ℕ) (es : List Entry) → length ns ≡ length es → length (receipts_of ns es) ≡ length ns
receipts-length [] es same = refl
receipts-length (n ∷ ns) [] same = absurd (omega (arith, same))
receipts-length (n ∷ ns) (e ∷ es) same = let h = receipts-length ns es (omega (arith, same)) in omega (arith, h)

-- the receipt at an index
pub receipts-at : (ns : List ℕ) (es : List Entry) (place n : ℕ) (e : Entry) → slice_get ns place ≡ Some n
    → slice_get es place ≡ Some e → slice_get (receipts_of ns es) place ≡ Some (receipt_of n e)
receipts-at [] es place n e number entry = absurd cc
receipts-at (m ∷ ns) [] place n e number entry = absurd cc
receipts-at (m ∷ ns) (d ∷ es) zero n e number entry =
    let one : m ≡ n = cc in
    let two : d ≡ e = cc in
    rw (one, two) refl
receipts-at (m ∷ ns) (d ∷ es) (suc place) n e number entry = receipts-at ns es place n e number entry

-- the entry of the receipt at an index
pub receipts-entry : (ns : List ℕ) (es : List Entry) (place : ℕ) → length ns ≡ length es
    → option_map entry_of (slice_get (receipts_of ns es) place) ≡ slice_get es place
receipts-entry [] [] place same = refl
receipts-entry [] (e ∷ es) place same = absurd (omega (arith, same))
receipts-entry (n ∷ ns) [] place same = absurd (omega (arith, same))
receipts-entry (n ∷ ns) (e ∷ es) zero same = refl
receipts-entry (n ∷ ns) (e ∷ es) (suc place) same = receipts-entry ns es place (omega (arith, same))

-- the number of the receipt at an index
pub receipts-number : (ns : List ℕ) (es : List Entry) (place n : ℕ) → length ns ≡ length es → slice_get ns place ≡ Some n
    → option_map (λ (r : Receipt). r.number) (slice_get (receipts_of ns es) place) ≡ Some n
receipts-number [] es place n same number = absurd cc
receipts-number (m ∷ ns) [] place n same number = absurd (omega (arith, same))
receipts-number (m ∷ ns) (e ∷ es) zero n same number = number
receipts-number (m ∷ ns) (e ∷ es) (suc place) n same number = receipts-number ns es place n (omega (arith, same)) number

-- one receipt more
pub receipts-more : (ns : List ℕ) (es : List Entry) (n : ℕ) (e : Entry) → length ns ≡ length es
    → receipts_of (ns ++ n ∷ []) (es ++ e ∷ []) ≡ receipts_of ns es ++ receipt_of n e ∷ []
receipts-more [] [] n e same = refl
receipts-more [] (d ∷ es) n e same = absurd (omega (arith, same))
receipts-more (m ∷ ns) [] n e same = absurd (omega (arith, same))
receipts-more (m ∷ ns) (d ∷ es) n e same = ap (λ rs. receipt_of m d ∷ rs) (receipts-more ns es n e (omega (arith, same)))

at-the-end : {X : Type 0} (xs : List X) (x : X) → slice_get (xs ++ x ∷ []) (length xs) ≡ Some x
at-the-end [] x = refl
at-the-end (y ∷ xs) x = at-the-end xs x

in-order : {X : Type 0} (xs past : List X) (x : X) → reverse xs ≡ x ∷ past → xs ≡ reverse past ++ x ∷ []
in-order xs past x is = sym (reverse-reverse xs) ∙ ap reverse is ∙ reverse-append (x ∷ []) past

-- the newest entry of a history
pub newest : (history past : List Entry) (e : Entry) → reverse history ≡ e ∷ past
    → (length history ≡ length past + 1) × (slice_get history (length past) ≡ Some e)
newest history past e is =
    let long = length-reverse history in
    let counted = ap length is in (
      omega (arith, long, counted),
      rw (in-order history past e is) (ap (slice_get (reverse past ++ e ∷ [])) (sym (length-reverse past)) ∙ at-the-end (reverse past) e),
    )

-- an item within a list
pub there_is : {X : Type 0} (xs : List X) (n : ℕ) → n < length xs → (x : X) × (slice_get xs n ≡ Some x)
there_is [] n h = absurd (omega (arith, h))
there_is (x ∷ xs) zero h = (x, refl)
there_is (x ∷ xs) (suc n) h = there_is xs n (omega (arith, h))

-- the last item of a list that has some
pub last_of : {X : Type 0} (xs : List X) → 0 < length xs → (ys : List X) × (x : X) × (xs ≡ ys ++ x ∷ [])
last_of [] some = absurd (omega (arith, some))
last_of (x ∷ []) some = ([], x, refl)
last_of (x ∷ (y ∷ xs)) some =
    let rest = last_of (y ∷ xs) (omega arith) in
    (x ∷ rest.0, rest.1, ap (λ l. x ∷ l) rest.2)
