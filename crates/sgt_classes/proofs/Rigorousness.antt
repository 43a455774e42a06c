-- Rigorousness, one operation further.
use Rattle.std.proofs.Common.{◌≡◌, ◌≢◌, ◌<◌, ◌+◌, ◌⊎◌, ℕ, List, Option, Some, None, sym, ◌∙◌, subst, inl, inr, arith}
use Rattle.std.specs.Prelude.{length, ◌≤◌}
use Rattle.std.proofs.lemmas.Bool.{cases_eq, cases_lt}
use Rattle.std.proofs.lemmas.Grind.{common_steps}
use Rattle.std.proofs.lemmas.Option.{slice_get_within}
use Rattle.sgt_classes.specs.declared.operation.Operation.{Operation}
use Rattle.sgt_classes.specs.declared.operation.Action.{Action}
use Rattle.sgt_classes.specs.declared.operation.Action.TheVariants.{Read, Write}
use Rattle.sgt_classes.specs.Histories.{Does, EndedBefore}
use Rattle.sgt_classes.specs.Classes.{BreaksStrictness, OverwritesReader, BreaksRigorousness}
use Rattle.sgt_classes.specs.Seen.{IsOverwritten, IsLastRead, AreReads, AreFineAbove, NoneBreaksBefore, height}
use Rattle.sgt_classes.proofs.Places.{operation_at, doer_at, done_at, done_by, before_next, ended_later, uses_within}
use Rattle.sgt_classes.proofs.Sources.{same_doer, same_action}

-- what is overwritten stays so
overwritten_later : (h : List Operation) (k i j x : ℕ) → i ≤ j → IsOverwritten h k i x → IsOverwritten h k j x
overwritten_later h k i j x most over = (over.0, over.1, over.2, omega (arith, most, over.3), over.4)

-- the last read stays where the operation does not read the item
last_kept : (h : List Operation) (p x : ℕ) (o : Option ℕ) → ((t : ℕ) → ¬ Does h p t (Read x)) → IsLastRead h p x o
    → IsLastRead h (p + 1) x o
last_kept h p x None not_here none = λ k t less does. elim (before_next k p less) [
  | inl earlier ↦ overwritten_later h k p (p + 1) x (omega arith) (none k t earlier does)
  | inr e ↦ absurd (not_here t (subst (λ n. Does h n t (Read x)) e does))
]
last_kept h p x (Some i) not_here is = (
  omega (arith, is.0),
  is.1,
  λ k t after less does. elim (before_next k p less) [
    | inl earlier ↦ overwritten_later h k p (p + 1) x (omega arith) (is.2 k t after earlier does)
    | inr e ↦ absurd (not_here t (subst (λ n. Does h n t (Read x)) e does))
  ],
)

-- the chain stays where the operation reads nothing
earlier_kept : (h : List Operation) (p t : ℕ) (a : Action) (earlier : ℕ → Option ℕ) → Does h p t a → ((x : ℕ) → a ≢ Read x)
    → ((k u x : ℕ) → k < p → Does h k u (Read x) → IsLastRead h k x (earlier k))
    → (k u x : ℕ) → k < p + 1 → Does h k u (Read x) → IsLastRead h k x (earlier k)
earlier_kept h p t a earlier at other are k u x less does = elim (before_next k p less) [
  | inl before ↦ are k u x before does
  | inr e ↦ absurd (other x (same_action h p t u a _ at (subst (λ n. Does h n u (Read x)) e does)))
]

-- what is known of each writer at a place is known of the one that writes there
pub fine_at : (h : List Operation) (p x i : ℕ) (o : Option ℕ) → p < length h → (operation_at h p).action ≡ Write x → o ≡ Some i
    → ((t y : ℕ) → Does h p t (Write y) → AreFineAbove h p y t o) → AreFineAbove h p x (doer_at h p) (Some i)
fine_at h p x i o within writes is all =
    subst (λ r. AreFineAbove h p x (doer_at h p) r) is (all _ x (done_at h p (Write x) within writes))

-- and the read at which it ends is by the one that does it
pub read_by : (h : List Operation) (p x t i : ℕ) → p < length h → AreFineAbove h p x t (Some i) → Does h i (doer_at h i) (Read x)
read_by h p x t i within top = subst (λ r. Does h i r (Read x))
    (sym (done_by h i top.1.0 (Read x) (omega (arith, top.0, within)) top.1.1)) top.1.1

-- an end changes nothing
pub end_reads : (h : List Operation) (p t : ℕ) (a : Action) (lasts earlier : ℕ → Option ℕ) → Does h p t a → ((x : ℕ) → a ≢ Read x)
    → AreReads h p lasts earlier → AreReads h (p + 1) lasts earlier
end_reads h p t a lasts earlier does other are = record {
  lasts_are = λ x. last_kept h p x (lasts x) (λ u read. other x (same_action h p t u a _ does read)) (are.lasts_are x);
  earlier_are = earlier_kept h p t a earlier does other are.earlier_are;
  fresh = λ k most. are.fresh k (omega (arith, most));
}

-- a write takes the reads of its item out
pub write_reads : (h : List Operation) (p t x : ℕ) (lasts earlier lasts' : ℕ → Option ℕ) → Does h p t (Write x)
    → AreReads h p lasts earlier → lasts' x ≡ None → ((y : ℕ) → y ≢ x → lasts' y ≡ lasts y) → AreReads h (p + 1) lasts' earlier
write_reads h p t x lasts earlier lasts' does are here others = record {
  lasts_are = lasts_are;
  earlier_are = earlier_kept h p t _ earlier does (λ y e. grind (arith, common_steps, e)) are.earlier_are;
  fresh = λ k most. are.fresh k (omega (arith, most));
}
  where
    no_read : (y u : ℕ) → ¬ Does h p u (Read y)
    no_read y u read = grind (arith, common_steps, same_action h p u t _ _ read does)

    over : (k u : ℕ) → k < p + 1 → Does h k u (Read x) → IsOverwritten h k (p + 1) x
    over k u less read = elim (before_next k p less) [
      | inl earlier ↦ (p, t, earlier, omega arith, does)
      | inr e ↦ absurd (no_read x u (subst (λ n. Does h n u (Read x)) e read))
    ]

    lasts_are : (y : ℕ) → IsLastRead h (p + 1) y (lasts' y)
    lasts_are y = elim (cases_eq y x) [
      | inl same ↦ subst (λ z. IsLastRead h (p + 1) z (lasts' z)) (sym same)
          (subst (λ o. IsLastRead h (p + 1) x o) (sym here) over)
      | inr differ ↦ subst (λ o. IsLastRead h (p + 1) y o) (sym (others y differ))
          (last_kept h p y (lasts y) (no_read y) (are.lasts_are y))
    ]

-- what is noted of a read
pub read_reads : (h : List Operation) (p t x : ℕ) (lasts earlier lasts' earlier' : ℕ → Option ℕ) → Does h p t (Read x)
    → AreReads h p lasts earlier → lasts' x ≡ Some p → ((y : ℕ) → y ≢ x → lasts' y ≡ lasts y)
    → earlier' p ≡ lasts x → ((k : ℕ) → k ≢ p → earlier' k ≡ earlier k) → AreReads h (p + 1) lasts' earlier'
read_reads h p t x lasts earlier lasts' earlier' does are here others lower others_earlier = record {
  lasts_are = lasts_are;
  earlier_are = earlier_are;
  fresh = λ k most. others_earlier k (omega (arith, most)) ∙ are.fresh k (omega (arith, most));
}
  where
    item_is : (u y : ℕ) → Does h p u (Read y) → x ≡ y
    item_is u y read = grind (arith, common_steps, same_action h p u t _ _ read does)

    lasts_are : (y : ℕ) → IsLastRead h (p + 1) y (lasts' y)
    lasts_are y = elim (cases_eq y x) [
      | inl same ↦ subst (λ z. IsLastRead h (p + 1) z (lasts' z)) (sym same)
          (subst (λ o. IsLastRead h (p + 1) x o) (sym here)
          (omega arith, (t, does), λ k u after less read. absurd (omega (arith, after, less))))
      | inr differ ↦ subst (λ o. IsLastRead h (p + 1) y o) (sym (others y differ))
          (last_kept h p y (lasts y) (λ u read. differ (sym (item_is u y read))) (are.lasts_are y))
    ]

    earlier_are : (k u y : ℕ) → k < p + 1 → Does h k u (Read y) → IsLastRead h k y (earlier' k)
    earlier_are k u y less read = elim (cases_eq k p) [
      | inl same ↦ subst (λ n. IsLastRead h n y (earlier' n)) (sym same) (subst (λ o. IsLastRead h p y o) (sym lower)
          (subst (λ z. IsLastRead h p z (lasts x)) (item_is u y (subst (λ n. Does h n u (Read y)) same read)) (are.lasts_are x)))
      | inr apart ↦ subst (λ o. IsLastRead h k y o) (sym (others_earlier k apart))
          (are.earlier_are k u y (omega (arith, less, apart)) read)
    ]

-- above the last read since the last write all are overwritten
pub fine_above : (h : List Operation) (j x t : ℕ) (o : Option ℕ) → IsLastRead h j x o → AreFineAbove h j x t o
fine_above h j x t None none = λ k r less read. inl (none k r less read)
fine_above h j x t (Some i) is = (is.0, is.1, λ k r after less read. inl (is.2 k r after less read))

-- below a fine one is the next
pub fine_below : (h : List Operation) (j x t i v : ℕ) (o : Option ℕ) → AreFineAbove h j x t (Some i) → Does h i v (Read x)
    → (v ≡ t) ⊎ EndedBefore h v j → IsLastRead h i x o → AreFineAbove h j x t o
fine_below h j x t i v o above at fine lower = go o lower
  where
    rest : (k r : ℕ) → (k < i → IsOverwritten h k i x) → k < j → Does h k r (Read x)
        → IsOverwritten h k j x ⊎ ((r ≡ t) ⊎ EndedBefore h r j)
    rest k r under less read = elim (cases_lt k i) [
      | inl before ↦ inl (overwritten_later h k i j x (omega (arith, above.0)) (under before))
      | inr most ↦ elim (cases_eq i k) [
        | inl here ↦ inr (subst (λ u. (u ≡ t) ⊎ EndedBefore h u j)
            (same_doer h k v r _ _ (subst (λ n. Does h n v (Read x)) here at) read) fine)
        | inr apart ↦ above.2 k r (omega (arith, most, apart)) less read
      ]
    ]

    go : (q : Option ℕ) → IsLastRead h i x q → AreFineAbove h j x t q
    go None none = λ k r less read. rest k r (λ under. none k r under read) less read
    go (Some n) is = (
      omega (arith, above.0, is.0),
      is.1,
      λ k r after less read. rest k r (λ under. is.2 k r after under read) less read,
    )

-- an earlier read is lower
pub height_read : (h : List Operation) (i x : ℕ) (o : Option ℕ) → IsLastRead h i x o → height o < height (Some i)
height_read h i x None none = omega arith
height_read h i x (Some n) is = omega (arith, is.0)

-- a write after fine reads alone
pub fine_overwrite : (h : List Operation) (p t x : ℕ) → Does h p t (Write x) → AreFineAbove h p x t None
    → NoneBreaksBefore (BreaksRigorousness h) p
    → ((i : ℕ) → ¬ BreaksStrictness h i p) → (i : ℕ) → ¬ OverwritesReader h i p
fine_overwrite h p t x does fine rigorous strict i broken = elim (fine i broken.reader broken.earlier read) [
  | inl over ↦ overwritten over
  | inr rest ↦ elim rest [
    | inl mine ↦ broken.differ (mine ∙ sym writer)
    | inr ended ↦ broken.active ended
  ]
]
  where
    item : broken.item ≡ x
    item = grind (arith, common_steps, same_action h p broken.writer t _ _ broken.written does)

    writer : broken.writer ≡ t
    writer = same_doer h p broken.writer t _ _ broken.written does

    read : Does h i broken.reader (Read x)
    read = subst (λ y. Does h i broken.reader (Read y)) item broken.read

    overwritten : ¬ IsOverwritten h i p x
    overwritten over = elim (cases_eq over.1 broken.reader) [
      | inl same ↦ strict over.0 record {
        item = x;
        writer = broken.reader;
        user = t;
        differ = λ e. broken.differ (e ∙ sym writer);
        earlier = over.3;
        written = subst (λ u. Does h over.0 u (Write x)) same over.4;
        used = inr does;
        active = broken.active;
      }
      | inr differ ↦ rigorous i over.0 over.3 (inr record {
        item = x;
        reader = broken.reader;
        writer = over.1;
        differ = λ e. differ (sym e);
        earlier = over.2;
        read = read;
        written = over.4;
        active = λ ended. broken.active (ended_later h broken.reader over.0 p over.3 ended);
      })
    ]

-- rigorous before a place is strict before it
pub rigorous_strict_before : (h : List Operation) (p : ℕ) → NoneBreaksBefore (BreaksRigorousness h) p
    → NoneBreaksBefore (BreaksStrictness h) p
rigorous_strict_before h p rigorous i j less broken = rigorous i j less (inl broken)

-- what violates it is in the history
pub rigorous_within : (h : List Operation) (i j : ℕ) → BreaksRigorousness h i j → j < length h
rigorous_within h i j (inl strict) = uses_within h j strict.user strict.item strict.used
rigorous_within h i j (inr over) = slice_get_within h j _ over.written
