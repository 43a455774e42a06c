-- Places that rise.
use Rattle.std.proofs.Common.{◌≡◌, ◌≤◌, ◌+◌, ℕ, zero, suc, List, [], ◌∷◌, ◌++◌, length, refl, ap, sym, subst, ◌∙◌, arith, add-one, ◌<◌}
use Rattle.std.proofs.lemmas.List.{length-append}
use Rattle.sgt_timeline.specs.Drawn.{AreRising, AreDrawn, all_places}

-- a higher bound
pub rising_below : (low : ℕ) (ps : List ℕ) (high higher : ℕ) → AreRising low ps high → high ≤ higher → AreRising low ps higher
rising_below low [] high higher rising more = omega arith
rising_below low (p ∷ ps) high higher rising more = (rising.0, rising_below (p + 1) ps high higher rising.1 more)

-- one place more
pub rising_more : (low : ℕ) (ps : List ℕ) (high : ℕ) → AreRising low ps high → AreRising low (ps ++ high ∷ []) (high + 1)
rising_more low [] high rising = (rising, omega arith)
rising_more low (p ∷ ps) high rising = (rising.0, rising_more (p + 1) ps high rising.1)

-- all places below a number
pub all_rising : (n : ℕ) → AreRising 0 (all_places n) n
all_rising zero = omega arith
all_rising (suc n) = subst (λ k. AreRising 0 (all_places n ++ n ∷ []) k) (add-one n) (rising_more 0 (all_places n) n (all_rising n))

-- there are as many
pub length-all : (n : ℕ) → length (all_places n) ≡ n
length-all zero = refl
length-all (suc n) = length-append (all_places n) (n ∷ []) ∙ ap (λ k. k + 1) (length-all n) ∙ add-one n

-- the places below a number are drawn of a history that has no more, or of a longer one than is drawn whole
pub all_drawn : (most n m : ℕ) (ps : List ℕ) → ps ≡ all_places m → m ≤ n → m ≤ 400 → (n ≤ most → m ≡ n) → AreDrawn most n ps
all_drawn most n m ps is within few same = subst (λ l. AreDrawn most n l) (sym is) (record {
  once = rising_below 0 (all_places m) m n (all_rising m) within;
  whole = λ short. ap all_places (same short);
  few = subst (λ k. k ≤ 400) (sym (length-all m)) few;
})

-- one more place, after fewer than 400
pub one_more : (ps : List ℕ) (p : ℕ) → length ps < 400 → length (ps ++ p ∷ []) ≤ 400
one_more ps p few = subst (λ n. n ≤ 400) (sym (length-append ps (p ∷ []))) (omega arith)
