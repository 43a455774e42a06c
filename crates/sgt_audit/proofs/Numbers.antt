-- Lists of numbers without repetition.
use Rattle.std.proofs.Common.{◌≡◌, ℕ, ◌+◌, ◌<◌, Bool, true, false, cond, not, ◌&&◌, ◌||◌, ◌⊎◌, nat_eq, List, [], ◌∷◌, ◌++◌, length, get_or, set, refl, sym, ap, subst, inl, inr, ◌∙◌, arith}
use Rattle.std.proofs.lemmas.List.{get_or-set_same, get_or-set_other}
use Rattle.std.proofs.lemmas.Bool.{cases_eq, true≢false, eqb-true, eq-eqb, ne_eqb, or_cases, or_left, or_right}
use Rattle.std.specs.List.{filter, list_any}
use Rattle.sgt_model.specs.Paths.{Member, Distinct, Rising}
use Rattle.sgt_model.proofs.Counted.{filter-both, filter-same}
use Rattle.sgt_model.proofs.Listed.{kept_member, distinct_kept}

or_true : (b : Bool) → (b || true) ≡ true
or_true true = refl
or_true false = refl

or_false : (b : Bool) → (b || false) ≡ b
or_false true = refl
or_false false = refl

-- whether the number is in the list
abbrev pub is_among : List ℕ → ℕ → Bool
is_among l u = list_any (λ v. nat_eq v u) l

pub among_member : (u : ℕ) (l : List ℕ) → is_among l u ≡ true → Member u l
among_member u [] e = absurd (true≢false (sym e))
among_member u (v ∷ l) e = elim (or_cases (nat_eq v u) (is_among l u) e) [
  | inl h ↦ inl (sym (eqb-true v u h))
  | inr h ↦ inr (among_member u l h)
]

pub member_among : (u : ℕ) (l : List ℕ) → Member u l → is_among l u ≡ true
member_among u [] h = absurd h
member_among u (v ∷ l) (inl e) = or_left (nat_eq v u) _ (eq-eqb v u (sym e))
member_among u (v ∷ l) (inr h) = or_right (nat_eq v u) _ (member_among u l h)

-- one more at the end
pub among_push : (l : List ℕ) (v u : ℕ) → is_among (l ++ v ∷ []) u ≡ (is_among l u || nat_eq v u)
among_push [] v u = or_false (nat_eq v u)
among_push (w ∷ l) v u = go (nat_eq w u) (among_push l v u)
  where
    go : (b : Bool) → is_among (l ++ v ∷ []) u ≡ (is_among l u || nat_eq v u)
        → (b || is_among (l ++ v ∷ []) u) ≡ ((b || is_among l u) || nat_eq v u)
    go true h = refl
    go false h = h

member_pushed : (t : ℕ) (l : List ℕ) (v : ℕ) → Member t (l ++ v ∷ []) → Member t l ⊎ (t ≡ v)
member_pushed t [] v (inl e) = inr e
member_pushed t [] v (inr m) = absurd m
member_pushed t (w ∷ l) v (inl e) = inl (inl e)
member_pushed t (w ∷ l) v (inr m) = elim (member_pushed t l v m) [ inl k ↦ inl (inr k) | inr e ↦ inr e ]

pub distinct_push : (l : List ℕ) (v : ℕ) → Distinct l → (Member v l → ⊥) → Distinct (l ++ v ∷ [])
distinct_push [] v d out = ((λ m. m), tt)
distinct_push (w ∷ l) v d out = (
  (λ m. elim (member_pushed w l v m) [ inl k ↦ d.0 k | inr e ↦ out (inl (sym e)) ]),
  distinct_push l v d.1 (λ m. out (inr m)),
)

member_front : (t : ℕ) (l more : List ℕ) → Member t l → Member t (l ++ more)
member_front t [] more m = absurd m
member_front t (w ∷ l) more (inl e) = inl e
member_front t (w ∷ l) more (inr m) = inr (member_front t l more m)

pub distinct_front : (l more : List ℕ) → Distinct (l ++ more) → Distinct l
distinct_front [] more d = tt
distinct_front (w ∷ l) more d = ((λ m. d.0 (member_front w l more m)), distinct_front l more d.1)

-- a number in the list occurs twice if it occurs again
pub pushed_twice : (l : List ℕ) (v : ℕ) → Member v l → Distinct (l ++ v ∷ []) → ⊥
pushed_twice [] v m d = m
pushed_twice (w ∷ l) v (inl e) d = d.0 (subst (λ x. Member x (l ++ v ∷ [])) e (last l))
  where
    last : (l : List ℕ) → Member v (l ++ v ∷ [])
    last [] = inl refl
    last (x ∷ l) = inr (last l)
pushed_twice (w ∷ l) v (inr m) d = pushed_twice l v m d.1

-- a list that rises has no number twice
rising_above : (t u : ℕ) (l : List ℕ) → Rising (t ∷ l) → Member u l → t < u
rising_above t u [] r m = absurd m
rising_above t u (v ∷ l) r (inl e) = subst (λ x. t < x) (sym e) r.0
rising_above t u (v ∷ l) r (inr m) = let far = rising_above v u l r.1 m in let near = r.0 in omega arith

pub rising_distinct : (l : List ℕ) → Rising l → Distinct l
rising_distinct [] r = tt
rising_distinct (t ∷ []) r = ((λ m. m), tt)
rising_distinct (t ∷ u ∷ l) r = ((λ m. let less = rising_above t t (u ∷ l) r m in omega arith), rising_distinct (u ∷ l) r.1)

-- removing some

abbrev without : ℕ → List ℕ → List ℕ
without g xs = filter (λ u. not (nat_eq g u)) xs

none_gone : (g : ℕ) (xs : List ℕ) → (Member g xs → ⊥) → without g xs ≡ xs
none_gone g [] out = refl
none_gone g (x ∷ xs) out = rw (ne_eqb g x (λ e. out (inl e))) (ap (λ l. x ∷ l) (none_gone g xs (λ m. out (inr m))))

one_less : (g : ℕ) (xs : List ℕ) → Distinct xs → Member g xs → length (without g xs) + 1 ≡ length xs
one_less g [] d m = absurd m
one_less g (x ∷ xs) d m = go (one_less g xs d.1) (nat_eq g x) refl
  where
    go : (Member g xs → length (without g xs) + 1 ≡ length xs) → (b : Bool) → nat_eq g x ≡ b
        → length (cond (not b) (x ∷ without g xs) (without g xs)) + 1 ≡ length (x ∷ xs)
    go rest true e = let same = eqb-true g x e in let all = none_gone g xs (λ k. d.0 (subst (λ y. Member y xs) same k)) in
        let n = ap length all in omega arith
    go rest false e = let fewer : length (without g xs) + 1 ≡ length xs = rest (later m) in omega arith
      where
        later : Member g (x ∷ xs) → Member g xs
        later (inl same) = absurd (true≢false (sym (eq-eqb g x same) ∙ e))
        later (inr k) = k

-- removing numbers from a list without repetition shortens it by their count
pub some_less : (gone xs : List ℕ) → Distinct gone → Distinct xs → ((u : ℕ) → Member u gone → Member u xs)
    → length (filter (λ u. not (is_among gone u)) xs) + length gone ≡ length xs
some_less [] xs d e all =
    let n : length (filter (λ u. not (is_among [] u)) xs) ≡ length xs = ap length (keeps xs) in
    let zero : length {A = ℕ} [] ≡ 0 = refl in
    omega arith
  where
    keeps : (xs : List ℕ) → filter (λ u. not (is_among [] u)) xs ≡ xs
    keeps [] = refl
    keeps (x ∷ xs) = ap (λ l. x ∷ l) (keeps xs)
some_less (g ∷ gone) xs d e all =
    let rest : length (filter (λ u. not (is_among gone u)) (without g xs)) + length gone ≡ length (without g xs) =
    some_less gone (without g xs) d.1 (distinct_kept (λ u. not (nat_eq g u)) xs e)
    (λ u m. kept_member (λ v. not (nat_eq g v)) u xs
    (ap not (ne_eqb g u (λ same. d.0 (subst (λ v. Member v gone) (sym same) m)))) (all u (inr m))) in
    let one = one_less g xs e (all g (inl refl)) in
    let split : filter (λ u. not (is_among gone u)) (without g xs) ≡ filter (λ u. not (nat_eq g u || is_among gone u)) xs =
    filter-both (λ u. not (is_among gone u)) (λ u. not (nat_eq g u)) xs
    ∙ filter-same (λ u. not (nat_eq g u) && not (is_among gone u)) (λ u. not (nat_eq g u || is_among gone u)) xs
    (λ u. neither (nat_eq g u) (is_among gone u)) in
    let count = ap length split in
    omega arith
  where
    neither : (a b : Bool) → (not a && not b) ≡ not (a || b)
    neither true b = refl
    neither false b = refl

-- a table of the numbers seen

-- one more is marked
pub marked_more : (seen : List Bool) (l : List ℕ) (x k : ℕ) → x < length seen → get_or seen k false ≡ is_among l k
    → get_or (set seen x true) k false ≡ is_among (l ++ x ∷ []) k
marked_more seen l x k within so_far = elim (cases_eq k x) [
  | inl same ↦ subst (λ j. get_or (set seen x true) j false ≡ is_among (l ++ x ∷ []) j) (sym same)
      (get_or-set_same seen x true false within
      ∙ sym (among_push l x x ∙ (ap (λ b. is_among l x || b) (eq-eqb x x refl) ∙ or_true (is_among l x))))
  | inr other ↦ get_or-set_other seen x k true false other
      ∙ (so_far ∙ sym (among_push l x k ∙ (ap (λ b. is_among l k || b) (ne_eqb x k (λ e. other (sym e))) ∙ or_false (is_among l k))))
]
