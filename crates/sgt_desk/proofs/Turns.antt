-- No reason to rest ceases without a wake, by induction over turns.
use Rattle.std.proofs.Common.{◌≡◌, ℕ, Bool, true, false, not, ◌&&◌, ◌||◌, nat_lt, [], ◌∷◌, refl, sym, ◌∙◌, arith}
use Rattle.std.proofs.lemmas.Bool.{lt-ltb, ltb-true, ltb-false}
use Rattle.sgt_desk.specs.declared.alone.Solo.{Solo}
use Rattle.sgt_desk.specs.declared.reason.Reason.TheVariants.{Full}
use Rattle.sgt_desk.specs.Desks.{holds}
use Rattle.sgt_desk.specs.Plans.{waits_for_others}
use Rattle.sgt_desk.specs.Turns.{NoStartIsForgotten, NoWakeIsLost, any_wakes, live_count, after}

or_left : (a b : Bool) → a ≡ true → (a || b) ≡ true
or_left a b h = rw h refl

or_right : (a b : Bool) → b ≡ true → (a || b) ≡ true
or_right true b h = refl
or_right false b h = h

pub none_is_lost : NoWakeIsLost
none_is_lost d [] are r before gone = absurd (cc (sym before ∙ gone))
none_is_lost d (l ∷ turns) are r before gone = go (λ e. none_is_lost l.state turns are.1 r e gone) (holds r l.state) refl
  where
    go : (holds r l.state ≡ true → any_wakes turns ≡ true) → (x : Bool) → holds r l.state ≡ x → (l.wakes || any_wakes turns) ≡ true
    go later true e = or_right l.wakes (any_wakes turns) (later e)
    go later false e = or_left l.wakes (any_wakes turns) (are.0 r before e)

some_live : (n : ℕ) → nat_lt 0 n ≡ true → not (nat_lt n 1) ≡ true
some_live n h = go (nat_lt n 1) refl
  where
    go : (x : Bool) → nat_lt n 1 ≡ x → not (nat_lt n 1) ≡ true
    go false e = rw e refl
    go true e = let some = ltb-true 0 n h in let none = ltb-true n 1 e in absurd (omega (arith, some, none))

none_live : (n : ℕ) → nat_lt 0 n ≡ false → not (nat_lt n 1) ≡ false
none_live n h = let none = ltb-false 0 n h in rw (lt-ltb n 1 (omega (arith, none))) refl

-- where a start waits no more, nothing is live any more
waited : (s : Solo) (alone : Bool) (n m : ℕ) (own : Bool) → waits_for_others s alone n own ≡ true → waits_for_others s alone m own ≡ false
    → (nat_lt 0 n ≡ true) × (nat_lt 0 m ≡ false)
waited s true n m own before gone = (before, gone)
waited s false n m own before gone = go s.is_live (nat_lt 0 n) (nat_lt 0 m) (nat_lt 0 s.waiting && not own) before gone
  where
    go : (l a b w : Bool) → ((l && a) || w) ≡ true → ((l && b) || w) ≡ false → (a ≡ true) × (b ≡ false)
    go l a b true before gone = absurd (cc (sym (or_right (l && b) true refl) ∙ gone))
    go false a b false before gone = absurd (cc before)
    go true false b false before gone = absurd (cc before)
    go true true true false before gone = absurd (cc gone)
    go true true false false before gone = (refl, refl)

pub none_is_forgotten : NoStartIsForgotten
none_is_forgotten d turns are s alone own before gone = go (waited s alone (live_count d) (live_count (after d turns)) own before gone)
  where
    go : (nat_lt 0 (live_count d) ≡ true) × (nat_lt 0 (live_count (after d turns)) ≡ false) → any_wakes turns ≡ true
    go both =
        none_is_lost d turns are (Full 1) (some_live (live_count d) both.0) (none_live (live_count (after d turns)) both.1)
