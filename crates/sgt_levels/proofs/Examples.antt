-- Histories that tell the levels apart.
use Rattle.std.proofs.Common.{◌≡◌, ◌≢◌, ◌<◌, ◌+◌, ◌⊎◌, ◌==◌, ℕ, zero, suc, Bool, true, false, cond, [], ◌∷◌, Some, refl, sym, ◌∙◌, subst, inl, inr, arith}
use Rattle.std.specs.Prelude.{slice_get}
use Rattle.std.specs.Global.{Vec}
use Rattle.std.proofs.lemmas.Bool.{eqb-true}
use Rattle.std.proofs.lemmas.Grind.{common_steps}
use Rattle.sgt_appends.specs.declared.transaction.Operation.{Operation}
use Rattle.sgt_appends.specs.declared.transaction.Operation.TheVariants.{Append, Read}
use Rattle.sgt_appends.specs.declared.transaction.Status.TheVariants.{Committed}
use Rattle.sgt_appends.specs.declared.transaction.Transaction.{Transaction}
use Rattle.sgt_appends.specs.Lists.{Has, IsOnce}
use Rattle.sgt_appends.specs.Runs.{operations_of, SeesAll, Ended, IsSerializable}
use Rattle.sgt_appends.specs.Precedences.{appended, Appends, Reads, AppendsOnce, WasMissed}
use Rattle.sgt_appends.proofs.Orders.{cycle_enough}
use Rattle.sgt_levels.specs.Snapshots.{IsSnapshotIsolated}
use Rattle.sgt_levels.specs.Examples.{two_of}
use Rattle.sgt_levels.proofs.Split.{snapshot_cycle}

-- one append at one key
only_append : (k key value v : ℕ) → Has (cond (k == key) (value ∷ []) []) v → (k ≡ key) × (value ≡ v)
only_append k key value v has = go (k == key) refl has
  where
    go : (b : Bool) → (k == key) ≡ b → Has (cond b (value ∷ []) []) v → (k ≡ key) × (value ≡ v)
    go true is (inl same) = (eqb-true k key is, same)
    go true is (inr never) = absurd never
    go false is never = absurd never

module _ (none : Vec ℕ) (first second : Vec Operation) (a b x y : ℕ) (empty : none.items ≡ [])
    (one : first.items ≡ Read a none ∷ Append b 5 ∷ []) (other : second.items ≡ Read x none ∷ Append y 6 ∷ []) where
  appends_what : (t k v : ℕ) → Appends (two_of first second) t k v → ((t ≡ 0) × (k ≡ b) × (5 ≡ v)) ⊎ ((t ≡ 1) × (k ≡ y) × (6 ≡ v))
  appends_what zero k v appends =
      let it = only_append k b 5 v (subst (λ os. Has (appended k os) v) one appends) in inl (refl, it.0, it.1)
  appends_what (suc zero) k v appends =
      let it = only_append k y 6 v (subst (λ os. Has (appended k os) v) other appends) in inr (refl, it.0, it.1)
  appends_what (suc (suc t)) k v appends = absurd appends

  appends_first : Appends (two_of first second) 0 b 5
  appends_first = subst (λ os. Has (appended b os) 5) (sym one) (here (b == b) refl)
    where
      here : (c : Bool) → (b == b) ≡ c → Has (cond c (5 ∷ []) []) 5
      here true is = inl refl
      here false is = absurd (grind (arith, common_steps, is))

  appends_second : Appends (two_of first second) 1 y 6
  appends_second = subst (λ os. Has (appended y os) 6) (sym other) (here (y == y) refl)
    where
      here : (c : Bool) → (y == y) ≡ c → Has (cond c (6 ∷ []) []) 6
      here true is = inl refl
      here false is = absurd (grind (arith, common_steps, is))

  reads_first : Reads (two_of first second) 0 a [] []
  reads_first = rw one (inl (refl, refl, empty))

  reads_second : Reads (two_of first second) 1 x [] []
  reads_second = rw other (inl (refl, refl, empty))

  ended : (t : ℕ) → Has (0 ∷ 1 ∷ []) t → Ended (two_of first second) t Committed
  ended t (inl same) = subst (λ n. Ended (two_of first second) n Committed) same (record { status = Committed; operations = first }, refl, refl)
  ended t (inr (inl same)) = subst (λ n. Ended (two_of first second) n Committed) same (record { status = Committed; operations = second }, refl, refl)
  ended t (inr (inr never)) = absurd never

  in_two : (t : ℕ) → Ended (two_of first second) t Committed → Has (0 ∷ 1 ∷ []) t
  in_two zero it = inl refl
  in_two (suc zero) it = inr (inl refl)
  in_two (suc (suc t)) it = absurd (never it.1)
    where
      never : {z : Transaction} → ¬ (slice_get (two_of first second) (suc (suc t)) ≡ Some z)
      never e = grind (arith, common_steps, e)

  two_once : AppendsOnce (two_of first second)
  two_once = record {
    by_one = λ t u k v p q. by t u k v (appends_what t k v p) (appends_what u k v q);
    once = λ t k. single t k;
  }
    where
      by : (t u k v : ℕ) → ((t ≡ 0) × (k ≡ b) × (5 ≡ v)) ⊎ ((t ≡ 1) × (k ≡ y) × (6 ≡ v))
          → ((u ≡ 0) × (k ≡ b) × (5 ≡ v)) ⊎ ((u ≡ 1) × (k ≡ y) × (6 ≡ v)) → t ≡ u
      by t u k v (inl p) (inl q) = p.0 ∙ sym q.0
      by t u k v (inl p) (inr q) = absurd (omega (arith, p.2, q.2))
      by t u k v (inr p) (inl q) = absurd (omega (arith, p.2, q.2))
      by t u k v (inr p) (inr q) = p.0 ∙ sym q.0

      alone : (c : Bool) (v : ℕ) → IsOnce (cond c (v ∷ []) [])
      alone true v = ((λ never. never), tt)
      alone false v = tt

      single : (t k : ℕ) → IsOnce (appended k (operations_of (two_of first second) t))
      single zero k = subst (λ os. IsOnce (appended k os)) (sym one) (alone (k == b) 5)
      single (suc zero) k = subst (λ os. IsOnce (appended k os)) (sym other) (alone (k == y) 6)
      single (suc (suc t)) k = tt

  first_missed : x ≡ b → WasMissed (two_of first second) 1 0
  first_missed same = record {
    key = x;
    value = 5;
    seen = [];
    appends = subst (λ k. Appends (two_of first second) 0 k 5) (sym same) appends_first;
    has_seen = (ended 1 (inr (inl refl)), ([], reads_second));
    has_not = λ never. never;
  }

  second_missed : a ≡ y → WasMissed (two_of first second) 0 1
  second_missed same = record {
    key = a;
    value = 6;
    seen = [];
    appends = subst (λ k. Appends (two_of first second) 1 k 6) (sym same) appends_second;
    has_seen = (ended 0 (inl refl), ([], reads_first));
    has_not = λ never. never;
  }

  not_serial : x ≡ b → a ≡ y → ¬ IsSerializable (two_of first second)
  not_serial p q = cycle_enough (two_of first second) 0 (1 ∷ []) two_once
      (((λ e. omega (arith, e)), inr (inl (second_missed q))), ((λ e. omega (arith, e)), inr (inl (first_missed p))))

  no_snapshot : x ≡ b → a ≡ y → b ≡ y → ¬ IsSnapshotIsolated (two_of first second)
  no_snapshot p q r = snapshot_cycle (two_of first second) 0 (1 ∷ []) two_once (
    inl (inr (
      (λ e. omega (arith, e)),
      record {
        key = b;
        first = 5;
        second = 6;
        appends_first = appends_first;
        appends_second = subst (λ k. Appends (two_of first second) 1 k 6) (sym r) appends_second;
        missed = second_missed q;
      },
    )),
    inl (inr (
      (λ e. omega (arith, e)),
      record {
        key = b;
        first = 6;
        second = 5;
        appends_first = subst (λ k. Appends (two_of first second) 1 k 6) (sym r) appends_second;
        appends_second = appends_first;
        missed = first_missed p;
      },
    )),
  )

  skew_run : b ≢ y → IsSnapshotIsolated (two_of first second)
  skew_run differ = (
    0 ∷ 1 ∷ [],
    (λ t. 0),
    (λ t. t + 1),
    record {
      rises = ((λ z has. rising z has), ((λ z never. absurd never), tt));
      committed = in_two;
      may_run = λ t has. inl (ended t has);
      begins = λ t has. omega arith;
      sees = λ t has. seeing t has;
      apart = λ t u k v w apart has_t has_u p q. absurd (clash t u k v w apart (appends_what t k v p) (appends_what u k w q));
    },
  )
    where
      rising : (z : ℕ) → Has (1 ∷ []) z → 0 + 1 < z + 1
      rising z (inl same) = omega (arith, same)
      rising z (inr never) = absurd never

      seeing : (t : ℕ) → Has (0 ∷ 1 ∷ []) t → SeesAll (operations_of (two_of first second) t) (λ k. [])
      seeing t (inl same) = subst (λ n. SeesAll (operations_of (two_of first second) n) (λ k. [])) same (rw one (empty, (tt, tt)))
      seeing t (inr (inl same)) = subst (λ n. SeesAll (operations_of (two_of first second) n) (λ k. [])) same (rw other (empty, (tt, tt)))
      seeing t (inr (inr never)) = absurd never

      clash : (t u k v w : ℕ) → t ≢ u → ((t ≡ 0) × (k ≡ b) × (5 ≡ v)) ⊎ ((t ≡ 1) × (k ≡ y) × (6 ≡ v))
          → ¬ (((u ≡ 0) × (k ≡ b) × (5 ≡ w)) ⊎ ((u ≡ 1) × (k ≡ y) × (6 ≡ w)))
      clash t u k v w apart (inl p) (inl q) = apart (p.0 ∙ sym q.0)
      clash t u k v w apart (inl p) (inr q) = differ (sym p.1 ∙ q.1)
      clash t u k v w apart (inr p) (inl q) = differ (sym q.1 ∙ p.1)
      clash t u k v w apart (inr p) (inr q) = apart (p.0 ∙ sym q.0)

pub write_skew : (none : Vec ℕ) (first second : Vec Operation) → none.items ≡ []
    → first.items ≡ Read 0 none ∷ Append 1 5 ∷ [] → second.items ≡ Read 1 none ∷ Append 0 6 ∷ []
    → IsSnapshotIsolated (two_of first second) × (¬ IsSerializable (two_of first second))
write_skew none first second empty one other =
    (skew_run none first second 0 1 1 0 empty one other (λ e. omega (arith, e)), not_serial none first second 0 1 1 0 empty one other refl refl)

pub lost_update : (none : Vec ℕ) (first second : Vec Operation) → none.items ≡ []
    → first.items ≡ Read 0 none ∷ Append 0 5 ∷ [] → second.items ≡ Read 0 none ∷ Append 0 6 ∷ []
    → ¬ IsSnapshotIsolated (two_of first second)
lost_update none first second empty one other = no_snapshot none first second 0 0 0 0 empty one other refl refl refl
