-- From which write an operation reads, one operation further.
use Rattle.std.proofs.Common.{◌≡◌, ◌≢◌, ◌<◌, ◌+◌, ◌⊎◌, ℕ, List, Option, Some, None, IsSome, refl, sym, ap, ◌∙◌, subst, inl, inr, arith}
use Rattle.std.specs.Prelude.{slice_get, length, ◌≤◌, IfSome, IsNone}
use Rattle.std.proofs.lemmas.Bool.{cases_eq, cases_lt}
use Rattle.std.proofs.lemmas.Grind.{common_steps}
use Rattle.sgt_classes.specs.declared.operation.Operation.{Operation}
use Rattle.sgt_classes.specs.declared.operation.Action.{Action}
use Rattle.sgt_classes.specs.declared.operation.Action.TheVariants.{Read, Write, Commit, Abort}
use Rattle.sgt_classes.specs.Histories.{Does, AbortedBefore, CommittedBefore}
use Rattle.sgt_classes.specs.Classes.{ReadsFrom, BreaksAvoidance}
use Rattle.sgt_classes.specs.Seen.{IsTopWrite, AreBelow, AreDone, AreSources, height}
use Rattle.sgt_classes.proofs.Places.{doer_at, there, does_same, before_next}

-- who has done it before a place has done it before a later one
done_later : (h : List Operation) (t i j : ℕ) → i ≤ j → AbortedBefore h t i → AbortedBefore h t j
done_later h t i j most done = (done.0, omega (arith, most, done.1), done.2)

-- two that do at one place are one
pub same_doer : (h : List Operation) (i t u : ℕ) (a b : Action) → Does h i t a → Does h i u b → t ≡ u
same_doer h i t u a b one other = ap (λ (o : Operation). o.transaction) (does_same h i _ u b one other)

pub same_action : (h : List Operation) (i t u : ℕ) (a b : Action) → Does h i t a → Does h i u b → a ≡ b
same_action h i t u a b one other = ap (λ (o : Operation). o.action) (does_same h i _ u b one other)

-- all above the place below an aborted top have aborted
above : (h : List Operation) (j x i t : ℕ) → Does h i t (Write x) → AbortedBefore h t j → i < j
    → ((k u : ℕ) → i < k → k < j → Does h k u (Write x) → AbortedBefore h u j)
    → (k u : ℕ) → (k < i → AbortedBefore h u i) → k < j → Does h k u (Write x) → AbortedBefore h u j
above h j x i t does aborted within all k u lower less written = elim (cases_lt k i) [
  | inl under ↦ done_later h u i j (omega (arith, within)) (lower under)
  | inr most ↦ elim (cases_eq k i) [
    | inl here ↦ subst (λ v. AbortedBefore h v j)
        (same_doer h i t u _ _ does (subst (λ n. Does h n u (Write x)) here written)) aborted
    | inr apart ↦ all k u (omega (arith, most, apart)) less written
  ]
]

-- below an aborted top is the next one
pub top_below : (h : List Operation) (j x i t : ℕ) (o : Option ℕ) → IsTopWrite h j x (Some i) → Does h i t (Write x)
    → AbortedBefore h t j → IsTopWrite h i x o → IsTopWrite h j x o
top_below h j x i t None top does aborted lower =
    λ k u less written. above h j x i t does aborted top.0 top.2 k u (λ under. lower k u under written) less written
top_below h j x i t (Some n) top does aborted lower = (
  omega (arith, top.0, lower.0),
  lower.1,
  λ k u after less written. above h j x i t does aborted top.0 top.2 k u (λ under. lower.2 k u after under written) less written,
)

-- a top stays where the operation does not write the item
top_kept : (h : List Operation) (p x : ℕ) (o : Option ℕ) → ((t : ℕ) → ¬ Does h p t (Write x)) → IsTopWrite h p x o
    → IsTopWrite h (p + 1) x o
top_kept h p x None not_here top = λ k u less written. elim (before_next k p less) [
  | inl earlier ↦ done_later h u p (p + 1) (omega arith) (top k u earlier written)
  | inr e ↦ absurd (not_here u (subst (λ n. Does h n u (Write x)) e written))
]
top_kept h p x (Some i) not_here top = (
  omega (arith, top.0),
  top.1,
  λ k u after less written. elim (before_next k p less) [
    | inl earlier ↦ done_later h u p (p + 1) (omega arith) (top.2 k u after earlier written)
    | inr e ↦ absurd (not_here u (subst (λ n. Does h n u (Write x)) e written))
  ],
)

-- who has done an action stays where the operation does another
done_kept : (h : List Operation) (p t : ℕ) (a b : Action) (f : ℕ → Option ℕ) → Does h p t a → a ≢ b → AreDone h p b f
    → AreDone h (p + 1) b f
done_kept h p t a b f does other before u = (
  λ is. let done = (before u).0 is in (done.0, omega (arith, done.1), done.2),
  λ done. (before u).1 (elim (before_next done.0 p done.1) [
    | inl less ↦ (done.0, less, done.2)
    | inr e ↦ absurd (other (same_action h p t u a b does (subst (λ n. Does h n u b) e done.2)))
  ]),
)

-- what is noted of an action
done_noted : (h : List Operation) (p t : ℕ) (b : Action) (f g : ℕ → Option ℕ) → Does h p t b → AreDone h p b f
    → g t ≡ Some p → ((u : ℕ) → u ≢ t → g u ≡ f u) → AreDone h (p + 1) b g
done_noted h p t b f g does before here others u = elim (cases_eq u t) [
  | inl same ↦ (
    λ is. (p, omega arith, subst (λ v. Does h p v b) (sym same) does),
    λ done. subst (λ v. IsSome (g v)) (sym same) (subst (λ o. IsSome o) (sym here) refl),
  )
  | inr differ ↦ (
    λ is. let done = (before u).0 (subst (λ o. IsSome o) (others u differ) is) in (done.0, omega (arith, done.1), done.2),
    λ done. subst (λ o. IsSome o) (sym (others u differ)) ((before u).1 (elim (before_next done.0 p done.1) [
      | inl less ↦ (done.0, less, done.2)
      | inr e ↦ absurd (differ (same_doer h p u t b b (subst (λ n. Does h n u b) e done.2) does))
    ])),
  )
]

-- what is below stays where the operation writes nothing
below_kept : (h : List Operation) (p : ℕ) (f : ℕ → Option ℕ) → ((t x : ℕ) → ¬ Does h p t (Write x)) → AreBelow h p f
    → AreBelow h (p + 1) f
below_kept h p f not_here below i t x less written = elim (before_next i p less) [
  | inl earlier ↦ below i t x earlier written
  | inr e ↦ absurd (not_here t x (subst (λ n. Does h n t (Write x)) e written))
]

-- what is noted of a write
pub write_sources : (h : List Operation) (p t x : ℕ) (tops below commits aborts tops' below' : ℕ → Option ℕ) → Does h p t (Write x)
    → AreSources h p tops below commits aborts → tops' x ≡ Some p → ((y : ℕ) → y ≢ x → tops' y ≡ tops y)
    → below' p ≡ tops x → ((i : ℕ) → i ≢ p → below' i ≡ below i) → AreSources h (p + 1) tops' below' commits aborts
write_sources h p t x tops below commits aborts tops' below' does are here others lower others_below = record {
  tops_are = tops_are;
  below_are = below_are;
  fresh = λ i most. others_below i (omega (arith, most)) ∙ are.fresh i (omega (arith, most));
  commits_are = done_kept h p t _ Commit commits does (λ e. grind (arith, common_steps, e)) are.commits_are;
  aborts_are = done_kept h p t _ Abort aborts does (λ e. grind (arith, common_steps, e)) are.aborts_are;
}
  where
    tops_are : (y : ℕ) → IsTopWrite h (p + 1) y (tops' y)
    tops_are y = elim (cases_eq y x) [
      | inl same ↦ subst (λ z. IsTopWrite h (p + 1) z (tops' z)) (sym same) (subst (λ o. IsTopWrite h (p + 1) x o) (sym here)
          (omega arith, (t, does), λ k u after less written. absurd (omega (arith, after, less))))
      | inr differ ↦ subst (λ o. IsTopWrite h (p + 1) y o) (sym (others y differ)) (top_kept h p y (tops y)
          (λ u written. differ (grind (arith, common_steps, same_action h p u t _ _ written does))) (are.tops_are y))
    ]

    below_are : AreBelow h (p + 1) below'
    below_are i u y less written = elim (cases_eq i p) [
      | inl same ↦ let at : Does h p u (Write y) = subst (λ n. Does h n u (Write y)) same written in
          let item : x ≡ y = grind (arith, common_steps, same_action h p u t _ _ at does) in
          subst (λ n. IsTopWrite h n y (below' n)) (sym same) (subst (λ o. IsTopWrite h p y o) (sym lower)
          (subst (λ z. IsTopWrite h p z (tops x)) item (are.tops_are x)))
      | inr apart ↦ subst (λ o. IsTopWrite h i y o) (sym (others_below i apart))
          (are.below_are i u y (omega (arith, less, apart)) written)
    ]

-- what is kept of the writes stays where the operation writes nothing
tops_kept : (h : List Operation) (p : ℕ) (tops : ℕ → Option ℕ) → ((t x : ℕ) → ¬ Does h p t (Write x))
    → ((x : ℕ) → IsTopWrite h p x (tops x)) → (x : ℕ) → IsTopWrite h (p + 1) x (tops x)
tops_kept h p tops not_here are x = top_kept h p x (tops x) (λ t. not_here t x) (are x)

no_write : (h : List Operation) (p t : ℕ) (a : Action) → Does h p t a → ((x : ℕ) → a ≢ Write x) → (u x : ℕ) → ¬ Does h p u (Write x)
no_write h p t a does other u x written = other x (same_action h p t u a _ does written)

-- a read changes nothing
pub read_sources : (h : List Operation) (p t x : ℕ) (tops below commits aborts : ℕ → Option ℕ) → Does h p t (Read x)
    → AreSources h p tops below commits aborts → AreSources h (p + 1) tops below commits aborts
read_sources h p t x tops below commits aborts does are =
    let nothing = no_write h p t (Read x) does (λ y e. grind (arith, common_steps, e)) in record {
      tops_are = tops_kept h p tops nothing are.tops_are;
      below_are = below_kept h p below nothing are.below_are;
      fresh = λ i most. are.fresh i (omega (arith, most));
      commits_are = done_kept h p t _ Commit commits does (λ e. grind (arith, common_steps, e)) are.commits_are;
      aborts_are = done_kept h p t _ Abort aborts does (λ e. grind (arith, common_steps, e)) are.aborts_are;
    }

-- what is noted of a commit
pub commit_sources : (h : List Operation) (p t : ℕ) (tops below commits aborts commits' : ℕ → Option ℕ) → Does h p t Commit
    → AreSources h p tops below commits aborts → commits' t ≡ Some p → ((u : ℕ) → u ≢ t → commits' u ≡ commits u)
    → AreSources h (p + 1) tops below commits' aborts
commit_sources h p t tops below commits aborts commits' does are here others =
    let nothing = no_write h p t Commit does (λ y e. grind (arith, common_steps, e)) in record {
      tops_are = tops_kept h p tops nothing are.tops_are;
      below_are = below_kept h p below nothing are.below_are;
      fresh = λ i most. are.fresh i (omega (arith, most));
      commits_are = done_noted h p t Commit commits commits' does are.commits_are here others;
      aborts_are = done_kept h p t _ Abort aborts does (λ e. grind (arith, common_steps, e)) are.aborts_are;
    }

-- what is noted of an abort
pub abort_sources : (h : List Operation) (p t : ℕ) (tops below commits aborts aborts' : ℕ → Option ℕ) → Does h p t Abort
    → AreSources h p tops below commits aborts → aborts' t ≡ Some p → ((u : ℕ) → u ≢ t → aborts' u ≡ aborts u)
    → AreSources h (p + 1) tops below commits aborts'
abort_sources h p t tops below commits aborts aborts' does are here others =
    let nothing = no_write h p t Abort does (λ y e. grind (arith, common_steps, e)) in record {
      tops_are = tops_kept h p tops nothing are.tops_are;
      below_are = below_kept h p below nothing are.below_are;
      fresh = λ i most. are.fresh i (omega (arith, most));
      commits_are = done_kept h p t _ Commit commits does (λ e. grind (arith, common_steps, e)) are.commits_are;
      aborts_are = done_noted h p t Abort aborts aborts' does are.aborts_are here others;
    }

-- an operation that does not read
pub avoids_no_read : (h : List Operation) (p t : ℕ) (a : Action) → Does h p t a → ((x : ℕ) → a ≢ Read x) → (i : ℕ)
    → ¬ BreaksAvoidance h i p
avoids_no_read h p t a does other i broken = other broken.item (same_action h p t broken.reader a _ does broken.reads.read)

-- a read of what stands as it was first
pub avoids_no_write : (h : List Operation) (p t x : ℕ) → Does h p t (Read x) → IsTopWrite h p x None → (i : ℕ)
    → ¬ BreaksAvoidance h i p
avoids_no_write h p t x does top i broken =
    let item : broken.item ≡ x = grind (arith, common_steps, same_action h p t broken.reader _ _ does broken.reads.read) in
    broken.reads.standing (top i broken.writer broken.reads.earlier
    (subst (λ y. Does h i broken.writer (Write y)) item broken.reads.written))

-- a read of what its own transaction wrote, or a committed one
pub avoids_committed : (h : List Operation) (p t x i w : ℕ) → Does h p t (Read x) → IsTopWrite h p x (Some i) → Does h i w (Write x)
    → ((u : ℕ) → Does h i u (Write x) → ¬ AbortedBefore h u p) → (w ≡ t) ⊎ CommittedBefore h w p → (k : ℕ)
    → ¬ BreaksAvoidance h k p
avoids_committed h p t x i w does top written standing fine = go
  where
    fine_of : (k u v : ℕ) → v ≡ t → u ≢ v → ¬ CommittedBefore h u p → Does h k u (Write x) → k ≢ i
    fine_of k u v reader differ uncommitted at here =
        let same : w ≡ u = same_doer h i w u _ _ written (subst (λ n. Does h n u (Write x)) here at) in elim fine [
          | inl mine ↦ differ (sym same ∙ mine ∙ sym reader)
          | inr committed ↦ uncommitted (subst (λ n. CommittedBefore h n p) same committed)
        ]

    go : (k : ℕ) → ¬ BreaksAvoidance h k p
    go k broken =
        let item : broken.item ≡ x = grind (arith, common_steps, same_action h p t broken.reader _ _ does broken.reads.read) in
        let reader : broken.reader ≡ t = same_doer h p broken.reader t _ _ broken.reads.read does in
        let at : Does h k broken.writer (Write x) = subst (λ y. Does h k broken.writer (Write y)) item broken.reads.written in
        elim (cases_lt i k) [
          | inl after ↦ broken.reads.standing (top.2 k broken.writer after broken.reads.earlier at)
          | inr most ↦ elim (cases_eq k i) [
            | inl here ↦ fine_of k broken.writer broken.reader reader broken.differ broken.uncommitted at here
            | inr apart ↦ standing w written (broken.reads.last i w (omega (arith, most, apart)) top.0
                (subst (λ y. Does h i w (Write y)) (sym item) written))
          ]
        ]

-- a read of what another has written that has not committed
pub avoidance_broken : (h : List Operation) (p t x i w : ℕ) → Does h p t (Read x) → IsTopWrite h p x (Some i) → Does h i w (Write x)
    → ((u : ℕ) → Does h i u (Write x) → ¬ AbortedBefore h u p) → w ≢ t → ¬ CommittedBefore h w p → BreaksAvoidance h i p
avoidance_broken h p t x i w does top written standing differ uncommitted = record {
  item = x;
  writer = w;
  reader = t;
  differ = differ;
  reads = record { earlier = top.0; written = written; read = does; standing = standing w written; last = top.2 };
  uncommitted = uncommitted;
}

-- the write at a top, by the operation that is read there
pub top_write : (h : List Operation) (j x i : ℕ) (w : Operation) → slice_get h i ≡ Some w → IsTopWrite h j x (Some i)
    → Does h i w.transaction (Write x)
top_write h j x i w at top =
    subst (λ t. Does h i t (Write x)) (sym (ap (λ (o : Operation). o.transaction) (does_same h i w top.1.0 (Write x) at top.1.1))) top.1.1

pub top_done : (h : List Operation) (j x i : ℕ) → j < length h → IsTopWrite h j x (Some i) → Does h i (doer_at h i) (Write x)
top_done h j x i within top = top_write h j x i _ (there h i (omega (arith, top.0, within))) top

-- who writes there, by the operation that is read there
pub writer_is : (h : List Operation) (i t x : ℕ) (w : Operation) → slice_get h i ≡ Some w → Does h i t (Write x) → w.transaction ≡ t
writer_is h i t x w at does = ap (λ (o : Operation). o.transaction) (does_same h i w t (Write x) at does)

-- what is below a place is lower
pub height_below : (h : List Operation) (i x : ℕ) (o : Option ℕ) → IsTopWrite h i x o → height o < height (Some i)
height_below h i x None top = omega arith
height_below h i x (Some n) top = omega (arith, top.0)

read_item : (h : List Operation) (p t r x y : ℕ) → Does h p t (Read x) → Does h p r (Read y) → x ≡ y
read_item h p t r x y one other = let same = same_action h p t r (Read x) (Read y) one other in cc

-- a read reads from the last standing write of its item
reads_top : (h : List Operation) (p t x i : ℕ) → Does h p t (Read x) → IsTopWrite h p x (Some i)
    → ((u : ℕ) → Does h i u (Write x) → ¬ AbortedBefore h u p) → (y : ℕ) × (w : ℕ) × (r : ℕ) × ReadsFrom h i p y w r
reads_top h p t x i does (earlier, (w, written), last) standing =
    (x, w, t, record { earlier = earlier; written = written; read = does; standing = standing w written; last = last })

-- it reads from none where no write of its item stands
pub reads_none : (h : List Operation) (p t x : ℕ) → Does h p t (Read x) → IsTopWrite h p x None → (i y w r : ℕ) → ¬ ReadsFrom h i p y w r
reads_none h p t x does top i y w r reads = reads.standing (top i w reads.earlier
    (subst (λ z. Does h i w (Write z)) (sym (read_item h p t r x y does reads.read)) reads.written))

-- what is no read reads from none
pub no_read_reads : (h : List Operation) (p t : ℕ) (a : Action) → Does h p t a → ((x : ℕ) → a ≢ Read x) → (i y w r : ℕ)
    → ¬ ReadsFrom h i p y w r
no_read_reads h p t a does other i y w r reads = other y (same_action h p t r a (Read y) does reads.read)

-- the same of a place that may be none
pub some_source : (h : List Operation) (p t x : ℕ) (o : Option ℕ) → Does h p t (Read x) → IsTopWrite h p x o
    → IfSome o (λ i. (u : ℕ) → Does h i u (Write x) → ¬ AbortedBefore h u p)
    → IfSome o (λ i. (y : ℕ) × (w : ℕ) × (r : ℕ) × ReadsFrom h i p y w r)
some_source h p t x None does top standing = tt
some_source h p t x (Some i) does top standing = reads_top h p t x i does top standing

pub no_source : (h : List Operation) (p t x : ℕ) (o : Option ℕ) → Does h p t (Read x) → IsTopWrite h p x o
    → IsNone o → (i y w r : ℕ) → ¬ ReadsFrom h i p y w r
no_source h p t x None does top none = reads_none h p t x does top
no_source h p t x (Some i) does top none = absurd (cc)

-- the invariant, after the newest version of an item is read and set
pub sources_found : (h : List Operation) (p x : ℕ) (tops below commits aborts tops' : ℕ → Option ℕ) (o : Option ℕ)
    → AreSources h p tops below commits aborts → IsTopWrite h p x o → tops' x ≡ o → ((y : ℕ) → y ≢ x → tops' y ≡ tops y)
    → AreSources h p tops' below commits aborts
sources_found h p x tops below commits aborts tops' o are top here others = record {
  tops_are = λ y. elim (cases_eq y x) [
    | inl same ↦ subst (λ z. IsTopWrite h p z (tops' z)) (sym same) (subst (λ v. IsTopWrite h p x v) (sym here) top)
    | inr apart ↦ subst (λ v. IsTopWrite h p y v) (sym (others y apart)) (are.tops_are y)
  ];
  below_are = are.below_are;
  fresh = are.fresh;
  commits_are = are.commits_are;
  aborts_are = are.aborts_are;
}
