-- The numbers of items, with one item more.
use Rattle.std.proofs.Common.{◌≡◌, ◌↔◌, ◌⊎◌, ◌++◌, ℕ, Bool, true, false, List, [], ◌∷◌, length, Option, Some, None, ap, sym, ◌∙◌, subst, inl, inr}
use Rattle.std.specs.Prelude.{slice_get, map, bytes_eq}
use Rattle.std.specs.Global.{Vec}
use Rattle.std.specs.HashMap.{HashMap, UpdatesBy, get_by}
use Rattle.std.specs.Map.{lookup, IsKeyTest, AreApart, KeepsOthers}
use Rattle.std.specs.Cmp.Lexicographic.{bytes_decides, nat_list_eq_equiv}
use Rattle.std.proofs.lemmas.Bool.{cases_Bool}
use Rattle.sgt_notation.specs.declared.items.Items.{Items}
use Rattle.sgt_notation.specs.Numbering.{texts_of, number_of, KnowsItems}
use Rattle.sgt_notation.proofs.Gets.{get_before, get_seam, got_append}

module _ {K X : Type 0} (eq : K → K → Bool) (test : K → Bool) where
  other_entries : (old new : List (K × X)) → KeepsOthers eq test old new → (other : K → Bool) → IsKeyTest eq other → AreApart test other
      → lookup other new ≡ lookup other old
  unfolding KeepsOthers
  other_entries old new h = h

apart : (bs cs ks : List ℕ) → bytes_eq bs cs ≡ false → bytes_eq bs ks ≡ true → bytes_eq cs ks ≡ false
apart bs cs ks n y = nat_list_eq_equiv.symm cs ks ∙ sym (nat_list_eq_equiv.congr bs ks cs y) ∙ n

-- what a change at one text leaves at another
other_number : {S : Type 0} (bs cs : List ℕ) (m n : HashMap (Vec ℕ) ℕ S) (w : Option ℕ)
    → UpdatesBy (λ x y. bytes_eq x.items y.items) (λ k. bytes_eq bs k.items) m n w → bytes_eq bs cs ≡ false
    → get_by (λ k. bytes_eq cs k.items) n ≡ get_by (λ k. bytes_eq cs k.items) m
other_number bs cs m n w h differ = other_entries _ _ _ _ h.3 _
    (λ x y. nat_list_eq_equiv.congr cs x.items y.items) (λ k. apart bs cs k.items differ)

some_inj : {A : Type 0} {x y : A} → Some x ≡ Some y → x ≡ y
some_inj e = cc

-- one item more, if its text had no number
pub knows_more : (old new : Items) (text : List ℕ) (n : ℕ) → n ≡ length (texts_of old) → KnowsItems old → number_of old text ≡ None
    → UpdatesBy (λ x y. bytes_eq x.items y.items) (λ k. bytes_eq text k.items) old.numbers new.numbers
    (Some n)
    → texts_of new ≡ texts_of old ++ text ∷ [] → KnowsItems new
knows_more old new text n count known absent updates grown other x = elim (cases_Bool (bytes_eq text other)) [
  | inl same ↦ subst (λ o. (number_of new o ≡ Some x) ↔ (slice_get (texts_of new) x ≡ Some o)) ((bytes_decides text other).0 same) here
  | inr differ ↦ (to differ, from differ)
]
  where
    last : slice_get (texts_of new) (length (texts_of old)) ≡ Some text
    last = ap (λ l. slice_get l (length (texts_of old))) grown ∙ get_seam (texts_of old) text []

    found : (o : List ℕ) → slice_get (texts_of new) x ≡ Some o
        → (slice_get (texts_of old) x ≡ Some o) ⊎ ((x ≡ length (texts_of old)) × (text ≡ o))
    found o at = got_append (texts_of old) text o x (sym (ap (λ l. slice_get l x) grown) ∙ at)

    here : (number_of new text ≡ Some x) ↔ (slice_get (texts_of new) x ≡ Some text)
    here = (
      λ is. subst (λ k. slice_get (texts_of new) k ≡ Some text) (sym count ∙ some_inj (sym updates.1 ∙ is)) last,
      λ at. elim (found text at) [
        | inl before ↦ let known_one = (known text x).1 before in absurd (cc)
        | inr one ↦ updates.1 ∙ ap Some (count ∙ sym one.0)
      ],
    )

    to : bytes_eq text other ≡ false → number_of new other ≡ Some x → slice_get (texts_of new) x ≡ Some other
    to differ is = ap (λ l. slice_get l x) grown
        ∙ get_before (texts_of old) (text ∷ []) x other ((known other x).0
        (sym (other_number text other old.numbers new.numbers _ updates differ) ∙ is))

    from : bytes_eq text other ≡ false → slice_get (texts_of new) x ≡ Some other → number_of new other ≡ Some x
    from differ at = elim (found other at) [
      | inl before ↦ other_number text other old.numbers new.numbers _ updates differ ∙ (known other x).1 before
      | inr one ↦ let same : bytes_eq text other ≡ true = (bytes_decides text other).1 one.1 in absurd (cc)
    ]

-- one text more
pub texts_grown : (old new : List (Vec ℕ)) (v : Vec ℕ) (text : List ℕ) → new ≡ old ++ v ∷ [] → v.items ≡ text
    → map (λ t. t.items) new ≡ map (λ t. t.items) old ++ text ∷ []
texts_grown old new v text is same = ap (map (λ t. t.items)) is ∙ by old
  where
    by : (xs : List (Vec ℕ)) → map (λ t. t.items) (xs ++ v ∷ []) ≡ map (λ t. t.items) xs ++ text ∷ []
    by [] = ap (λ t. t ∷ []) same
    by (x ∷ xs) = ap (λ l. x.items ∷ l) (by xs)
