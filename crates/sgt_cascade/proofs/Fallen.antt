-- Those that stand, those that do not, and paths of reads among them.
use Rattle.std.proofs.Common.{◌≡◌, ◌≢◌, ℕ, suc, ◌<◌, ◌≤◌, Bool, true, false, cond, not, ◌||◌, ◌&&◌, nat_eq, ◌⊎◌, ◌↔◌, List, [], ◌∷◌, ◌++◌, length, refl, sym, ap, ◌∙◌, subst, inl, inr, arith}
use Rattle.std.proofs.lemmas.Bool.{true≢false, eq-eqb, eqb-true, and_parts, or_cases}
use Rattle.std.specs.List.{filter}
use Rattle.sgt_model.specs.State.{Has}
use Rattle.sgt_model.specs.Paths.{Member, PathOf, last_of, Reaches}
use Rattle.sgt_model.proofs.Listed.{kept_member, member_kept}
use Rattle.sgt_model.proofs.Paths.{last_of-append}
use Rattle.sgt_cascade.specs.Standing.{stands, has_read}

-- a member stands
pub member_stands : (u : ℕ) (l : List ℕ) → Member u l → stands l u ≡ true
member_stands u [] m = absurd m
member_stands u (x ∷ l) m = go (nat_eq x u) refl (member_stands u l) m
  where
    go : (b : Bool) → nat_eq x u ≡ b → (Member u l → stands l u ≡ true) → Member u (x ∷ l) → (b || stands l u) ≡ true
    go true e rest n = refl
    go false e rest (inl same) = absurd (true≢false (sym (eq-eqb x u (sym same)) ∙ e))
    go false e rest (inr n) = rest n

-- all stand as before but t
pub stands_without : (t u : ℕ) (l : List ℕ) → stands (filter (λ x. not (nat_eq t x)) l) u ≡ (stands l u && not (nat_eq t u))
stands_without t u [] = refl
stands_without t u (x ∷ l) = go (nat_eq t x) (nat_eq x u) refl refl (stands_without t u l)
  where
    rest : List ℕ
    rest = filter (λ y. not (nat_eq t y)) l

    and_true : (b : Bool) → b ≡ true → (true && b) ≡ true
    and_true b e = e

    go : (a b : Bool) → nat_eq t x ≡ a → nat_eq x u ≡ b → stands rest u ≡ (stands l u && not (nat_eq t u))
        → stands (cond (not a) (x ∷ rest) rest) u ≡ ((b || stands l u) && not (nat_eq t u))
    go true true e f h = h ∙ gone (stands l u) (eq-eqb t u (eqb-true t x e ∙ eqb-true x u f))
      where
        gone : (s : Bool) → nat_eq t u ≡ true → (s && not (nat_eq t u)) ≡ not (nat_eq t u)
        gone s g = rw g (both s)
          where
            both : (s : Bool) → (s && false) ≡ false
            both true = refl
            both false = refl
    go true false e f h = h
    go false true e f h = rw f (there (nat_eq t u) refl)
      where
        there : (c : Bool) → nat_eq t u ≡ c → true ≡ not c
        there true g = absurd (true≢false (sym (eq-eqb t x (eqb-true t u g ∙ sym (eqb-true x u f))) ∙ e))
        there false g = refl
    go false false e f h = rw f h

-- one less stands
pub fewer_stand : (t : ℕ) (l : List ℕ) → stands l t ≡ true → length (filter (λ x. not (nat_eq t x)) l) < length l
fewer_stand t [] h = absurd (true≢false (sym h))
fewer_stand t (x ∷ l) h = go (nat_eq t x) refl (no_more l) (fewer_stand t l) h
  where
    no_more : (l : List ℕ) → length (filter (λ y. not (nat_eq t y)) l) ≤ length l
    no_more [] = omega arith
    no_more (y ∷ l) = two (nat_eq t y) (no_more l)
      where
        two : (b : Bool) → length (filter (λ y. not (nat_eq t y)) l) ≤ length l
            → length (cond (not b) (y ∷ filter (λ y. not (nat_eq t y)) l) (filter (λ y. not (nat_eq t y)) l)) ≤ suc (length l)
        two true h = omega (arith, h)
        two false h = omega (arith, h)

    go : (b : Bool) → nat_eq t x ≡ b → length (filter (λ y. not (nat_eq t y)) l) ≤ length l
        → (stands l t ≡ true → length (filter (λ y. not (nat_eq t y)) l) < length l) → (nat_eq x t || stands l t) ≡ true
        → length (cond (not b) (x ∷ filter (λ y. not (nat_eq t y)) l) (filter (λ y. not (nat_eq t y)) l)) < suc (length l)
    go true e few less h = omega (arith, few)
    go false e few less h = other (nat_eq x t) refl h
      where
        other : (c : Bool) → nat_eq x t ≡ c → (c || stands l t) ≡ true → length (x ∷ filter (λ y. not (nat_eq t y)) l) < suc (length l)
        other true f h = absurd (true≢false (sym (eq-eqb t x (sym (eqb-true x t f))) ∙ e))
        other false f h = let rest = less h in omega arith

-- one more step of a path
reaches_more : (step : ℕ → ℕ → Type 0) (t u v : ℕ) → Reaches step t u → step u v → Reaches step t v
reaches_more step t u v r s = (r.0 ++ v ∷ [], joined t r.0 r.1 (subst (λ x. step x v) (sym r.2) s), last_of-append t r.0 (v ∷ []))
  where
    joined : (a : ℕ) (path : List ℕ) → PathOf step a path → step (last_of a path) v → PathOf step a (path ++ v ∷ [])
    joined a [] p s = (s, tt)
    joined a (b ∷ path) p s = (p.0, joined b path p.1 s)

-- what is true of those that stand, at each turn
pub record IsStanding (read_from : List (ℕ × ℕ)) (live : List ℕ) (t : ℕ) (standing : List ℕ) : Type 0 where
  pub gone : stands standing t ≡ false
  pub reached : (u : ℕ) → Member u live → stands standing u ≡ false → Reaches (Has read_from) t u

and_false : (a b : Bool) → (a && b) ≡ false → (a ≡ false) ⊎ (b ≡ false)
and_false true b h = inr h
and_false false b h = inl refl

not_false : (b : Bool) → not b ≡ false → b ≡ true
not_false true h = refl
not_false false h = absurd (true≢false h)

-- a pair that a test finds is there
read_has : (l : List (ℕ × ℕ)) (u v : ℕ) → has_read l u v ≡ true → Has l u v
read_has [] u v h = absurd (true≢false (sym h))
read_has (p ∷ l) u v h = elim (or_cases (nat_eq p.0 u && nat_eq p.1 v) (has_read l u v) h) [
  | inl here ↦ let parts = and_parts (nat_eq p.0 u) (nat_eq p.1 v) here in inl (eqb-true p.0 u parts.0, eqb-true p.1 v parts.1)
  | inr later ↦ inr (read_has l u v later)
]

-- and the test finds one that is there
has_found : (l : List (ℕ × ℕ)) (u v : ℕ) → Has l u v → has_read l u v ≡ true
has_found [] u v h = absurd h
has_found (p ∷ l) u v (inl same) = rw (eq-eqb p.0 u same.0, eq-eqb p.1 v same.1) refl
has_found (p ∷ l) u v (inr later) = go (nat_eq p.0 u && nat_eq p.1 v) (has_found l u v later)
  where
    go : (b : Bool) → has_read l u v ≡ true → (b || has_read l u v) ≡ true
    go true h = refl
    go false h = h

-- at first all but t stand
pub standing_first : (read_from : List (ℕ × ℕ)) (live : List ℕ) (t : ℕ) → IsStanding read_from live t (filter (λ x. not (nat_eq t x)) live)
standing_first read_from live t = record {
  gone = stands_without t t live ∙ away (stands live t) (eq-eqb t t refl);
  reached = λ u m h. elim (and_false (stands live u) (not (nat_eq t u)) (sym (stands_without t u live) ∙ h)) [
    | inl out ↦ absurd (true≢false (sym (member_stands u live m) ∙ out))
    | inr same ↦ ([], tt, eqb-true t u (not_false (nat_eq t u) same))
  ];
}
  where
    away : (s : Bool) → nat_eq t t ≡ true → (s && not (nat_eq t t)) ≡ false
    away true e = ap not e
    away false e = refl

-- one that has read from another that was aborted in cascade leaves them
pub standing_next : (read_from : List (ℕ × ℕ)) (live : List ℕ) (t : ℕ) (standing : List ℕ)
    → ((u v : ℕ) → Has read_from u v → Member u live × Member v live) → IsStanding read_from live t standing → (u v : ℕ)
    → has_read read_from u v ≡ true → stands standing u ≡ false → IsStanding read_from live t (filter (λ x. not (nat_eq v x)) standing)
standing_next read_from live t standing pairs is u v read out_u = record {
  gone = stands_without v t standing ∙ ap (λ b. b && not (nat_eq v t)) is.gone;
  reached = λ w m h. elim (and_false (stands standing w) (not (nat_eq v w)) (sym (stands_without v w standing) ∙ h)) [
    | inl out ↦ is.reached w m out
    | inr same ↦ subst (λ x. Reaches (Has read_from) t x) (eqb-true v w (not_false (nat_eq v w) same))
        (reaches_more (Has read_from) t u v (is.reached u (pairs u v there).0 out_u) there)
  ];
}
  where
    there : Has read_from u v
    there = read_has read_from u v read

-- where no reader of one that was aborted in cascade stands, none that is reached does
none_stands : (read_from : List (ℕ × ℕ)) (standing : List ℕ)
    → ((u v : ℕ) → has_read read_from u v ≡ true → stands standing v ≡ true → stands standing u ≡ true) → (a : ℕ) (path : List ℕ)
    → stands standing a ≡ false → PathOf (Has read_from) a path → stands standing (last_of a path) ≡ false
none_stands read_from standing closed a [] out p = out
none_stands read_from standing closed a (b ∷ path) out p = none_stands read_from standing closed b path (go (stands standing b) refl) p.1
  where
    go : (s : Bool) → stands standing b ≡ s → s ≡ false
    go true e = absurd (true≢false (sym (closed a b (has_found read_from a b p.0) e) ∙ out))
    go false e = refl

-- the others that do not stand are those aborted in cascade
pub fallen_exact : (read_from : List (ℕ × ℕ)) (live : List ℕ) (t : ℕ) (standing fell : List ℕ) → IsStanding read_from live t standing
    → ((u v : ℕ) → has_read read_from u v ≡ true → stands standing v ≡ true → stands standing u ≡ true)
    → ((u : ℕ) → Member u fell ↔ (Member u (filter (λ x. not (nat_eq t x)) live) × (stands standing u ≡ false))) → (u : ℕ)
    → Member u fell ↔ (Member u live × (u ≢ t) × Reaches (Has read_from) t u)
fallen_exact read_from live t standing fell is closed members u = (
  (λ m.
      let out = (members u).0 m in
      let other = member_kept (λ x. not (nat_eq t x)) u live out.0 in
      (other.1, (λ e. true≢false (sym other.0 ∙ ap not (eq-eqb t u (sym e)))), is.reached u other.1 out.1)),
  λ h.
      let out : stands standing u ≡ false =
      subst (λ x. stands standing x ≡ false) h.2.2 (none_stands read_from standing closed t h.2.0 is.gone h.2.1) in
      (members u).1 (kept_member (λ x. not (nat_eq t x)) u live (apart h.1) h.0, out),
)
  where
    apart : u ≢ t → not (nat_eq t u) ≡ true
    apart other = go (nat_eq t u) refl
      where
        go : (b : Bool) → nat_eq t u ≡ b → not b ≡ true
        go true e = absurd (other (sym (eqb-true t u e)))
        go false e = refl

-- where none has read from t, none is reached but t
pub none_reached : (read_from : List (ℕ × ℕ)) (t : ℕ) → ((v : ℕ) → has_read read_from t v ≡ false) → (u : ℕ) → u ≢ t
    → Reaches (Has read_from) t u → ⊥
none_reached read_from t none u other ([], path, ends) = other (sym ends)
none_reached read_from t none u other (b ∷ rest, path, ends) = true≢false (sym (has_found read_from t b path.0) ∙ none b)
