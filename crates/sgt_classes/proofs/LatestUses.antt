-- The uses by those that commit last, and the commit order, one operation further.
use Rattle.std.proofs.Common.{◌≡◌, ◌≢◌, ◌<◌, ◌+◌, ◌≤◌, ◌⊎◌, ℕ, List, Option, Some, None, IsSome, refl, sym, ap, ◌∙◌, subst, inl, inr, arith}
use Rattle.std.specs.Prelude.{length, slice_get, IfSome, IsNone}
use Rattle.std.proofs.lemmas.Bool.{cases_eq, cases_lt, lt-ltb, le-ltb, true≢false}
use Rattle.std.proofs.lemmas.Grind.{common_steps}
use Rattle.std.proofs.lemmas.Option.{slice_get_within}
use Rattle.sgt_classes.specs.declared.operation.Operation.{Operation}
use Rattle.sgt_classes.specs.declared.operation.Action.{Action}
use Rattle.sgt_classes.specs.declared.operation.Action.TheVariants.{Read, Write, Commit}
use Rattle.sgt_classes.specs.declared.commit_order.LatestUse.{LatestUse}
use Rattle.sgt_classes.specs.Histories.{Does, Uses, CommittedBefore, item_of}
use Rattle.sgt_classes.specs.Serializability.{BreaksCommitOrder}
use Rattle.sgt_classes.specs.Seen.{IsFirstCommit, AreFirstCommits, IsLatestUse, AreLatestUses, later_use, use_after}
use Rattle.sgt_classes.proofs.Places.{before_next, does_same, uses_item, one_ender}
use Rattle.sgt_classes.proofs.Sources.{same_doer, same_action}

-- the latest use stays where the operation is none by one that commits
pub use_kept : (h : List Operation) (commits : ℕ → Option ℕ) (p : ℕ) (a : Action) (o : Option LatestUse)
    → ((t : ℕ) → Does h p t a → commits t ≡ None) → IsLatestUse h commits p a o → IsLatestUse h commits (p + 1) a o
use_kept h commits p a None not_here none = λ k t less does. elim (before_next k p less) [
  | inl earlier ↦ none k t earlier does
  | inr here ↦ not_here t (subst (λ n. Does h n t a) here does)
]
use_kept h commits p a (Some known) not_here is = (
  omega (arith, is.0),
  is.1,
  λ k t c less does first. elim (before_next k p less) [
    | inl earlier ↦ is.2 k t c earlier does first
    | inr here ↦ absurd (grind (arith, common_steps, first, not_here t (subst (λ n. Does h n t a) here does)))
  ],
)

-- what is noted of a use
pub use_noted : (h : List Operation) (commits : ℕ → Option ℕ) (p t c : ℕ) (a : Action) (o : Option LatestUse) → Does h p t a
    → commits t ≡ Some c → IsLatestUse h commits p a o
    → IsLatestUse h commits (p + 1) a (Some (later_use o (record { commit = c; place = p })))
use_noted h commits p t c a o does first latest = go o latest
  where
    mine : (u d : ℕ) → Does h p u a → commits u ≡ Some d → d ≡ c
    mine u d at is =
        let same : u ≡ t = same_doer h p u t _ _ at does in
        let again : commits t ≡ Some d = subst (λ v. commits v ≡ Some d) same is in grind (arith, common_steps, again, first)

    go : (q : Option LatestUse) → IsLatestUse h commits p a q
        → IsLatestUse h commits (p + 1) a (Some (later_use q (record { commit = c; place = p })))
    go None none = (
      omega arith,
      (t, does, first),
      λ k u d less at is. elim (before_next k p less) [
        | inl earlier ↦ absurd (grind (arith, common_steps, is, none k u earlier at))
        | inr here ↦ omega (arith, mine u d (subst (λ n. Does h n u a) here at) is)
      ],
    )
    go (Some known) is = elim (cases_lt known.commit c) [
      | inl less ↦ rw (lt-ltb known.commit c less) (
        omega arith,
        (t, does, first),
        λ k u d under at first_of. elim (before_next k p under) [
          | inl earlier ↦ let most = is.2 k u d earlier at first_of in omega (arith, most, less)
          | inr here ↦ omega (arith, mine u d (subst (λ n. Does h n u a) here at) first_of)
        ],
      )
      | inr most ↦ rw (le-ltb known.commit c most) (
        omega (arith, is.0),
        is.1,
        λ k u d under at first_of. elim (before_next k p under) [
          | inl earlier ↦ is.2 k u d earlier at first_of
          | inr here ↦ let same = mine u d (subst (λ n. Does h n u a) here at) first_of in omega (arith, same, most)
        ],
      )
    ]

-- the uses of all items, where the one of an item is noted
noted : (h : List Operation) (commits : ℕ → Option ℕ) (p t x c : ℕ) (kind : ℕ → Action) (f g : ℕ → Option LatestUse)
    → ((y : ℕ) → kind y ≡ kind x → y ≡ x) → Does h p t (kind x) → commits t ≡ Some c
    → g x ≡ Some (later_use (f x) (record { commit = c; place = p })) → ((y : ℕ) → y ≢ x → g y ≡ f y)
    → ((y : ℕ) → IsLatestUse h commits p (kind y) (f y)) → (y : ℕ) → IsLatestUse h commits (p + 1) (kind y) (g y)
noted h commits p t x c kind f g apart does first here others are y = elim (cases_eq y x) [
  | inl same ↦ subst (λ z. IsLatestUse h commits (p + 1) (kind z) (g z)) (sym same)
      (subst (λ o. IsLatestUse h commits (p + 1) (kind x) o) (sym here) (use_noted h commits p t c (kind x) (f x) does first (are x)))
  | inr differ ↦ subst (λ o. IsLatestUse h commits (p + 1) (kind y) o) (sym (others y differ))
      (use_kept h commits p (kind y) (f y) (λ u at. absurd (differ (apart y (same_action h p u t _ _ at does)))) (are y))
]

-- what is noted of a read by one that commits
pub read_latest : (h : List Operation) (commits : ℕ → Option ℕ) (p t x c : ℕ) (reads writes reads' : ℕ → Option LatestUse)
    → Does h p t (Read x) → commits t ≡ Some c → reads' x ≡ Some (later_use (reads x) (record { commit = c; place = p }))
    → ((y : ℕ) → y ≢ x → reads' y ≡ reads y) → AreLatestUses h commits p reads writes → AreLatestUses h commits (p + 1) reads' writes
read_latest h commits p t x c reads writes reads' does first here others are = record {
  reads_are = noted h commits p t x c (λ y. Read y) reads reads' (λ y e. grind (arith, common_steps, e)) does first here others
      are.reads_are;
  writes_are = λ y. use_kept h commits p (Write y) (writes y)
      (λ u at. grind (arith, common_steps, same_action h p t u _ _ does at)) (are.writes_are y);
}

-- what is noted of a write by one that commits
pub write_latest : (h : List Operation) (commits : ℕ → Option ℕ) (p t x c : ℕ) (reads writes writes' : ℕ → Option LatestUse)
    → Does h p t (Write x) → commits t ≡ Some c → writes' x ≡ Some (later_use (writes x) (record { commit = c; place = p }))
    → ((y : ℕ) → y ≢ x → writes' y ≡ writes y) → AreLatestUses h commits p reads writes → AreLatestUses h commits (p + 1) reads writes'
write_latest h commits p t x c reads writes writes' does first here others are = record {
  reads_are = λ y. use_kept h commits p (Read y) (reads y)
      (λ u at. grind (arith, common_steps, same_action h p t u _ _ does at)) (are.reads_are y);
  writes_are = noted h commits p t x c (λ y. Write y) writes writes' (λ y e. grind (arith, common_steps, e)) does first here others
      are.writes_are;
}

-- the uses stay where the operation is by one that does not commit
pub none_latest : (h : List Operation) (commits : ℕ → Option ℕ) (p t : ℕ) (a : Action) (reads writes : ℕ → Option LatestUse)
    → Does h p t a → commits t ≡ None → AreLatestUses h commits p reads writes → AreLatestUses h commits (p + 1) reads writes
none_latest h commits p t a reads writes does none are = record {
  reads_are = λ y. use_kept h commits p (Read y) (reads y)
      (λ u at. subst (λ v. commits v ≡ None) (same_doer h p t u _ _ does at) none) (are.reads_are y);
  writes_are = λ y. use_kept h commits p (Write y) (writes y)
      (λ u at. subst (λ v. commits v ≡ None) (same_doer h p t u _ _ does at) none) (are.writes_are y);
}

-- the uses stay where the operation uses no item
pub end_latest : (h : List Operation) (commits : ℕ → Option ℕ) (p t : ℕ) (a : Action) (reads writes : ℕ → Option LatestUse)
    → Does h p t a → item_of a ≡ None → AreLatestUses h commits p reads writes → AreLatestUses h commits (p + 1) reads writes
end_latest h commits p t a reads writes does none are = record {
  reads_are = λ y. use_kept h commits p (Read y) (reads y)
      (λ u at. absurd (grind (arith, common_steps, subst (λ b. item_of b ≡ None) (same_action h p t u _ _ does at) none)))
      (are.reads_are y);
  writes_are = λ y. use_kept h commits p (Write y) (writes y)
      (λ u at. absurd (grind (arith, common_steps, subst (λ b. item_of b ≡ None) (same_action h p t u _ _ does at) none)))
      (are.writes_are y);
}

-- a transaction that commits has a first commit, no later than any
pub first_of : (h : List Operation) (t : ℕ) (o : Option ℕ) (c : ℕ) → IsFirstCommit h (length h) t o → Does h c t Commit
    → (d : ℕ) × (o ≡ Some d) × (d ≤ c)
first_of h t None c none commits = absurd (none (c, slice_get_within h c _ commits, commits))
first_of h t (Some d) c is commits = elim (cases_lt c d) [
  | inl less ↦ absurd (is.2 (c, less, commits))
  | inr most ↦ (d, refl, most)
]

-- an operation on an item that conflicts with one whose transaction commits later
inverted : (h : List Operation) (commits : ℕ → Option ℕ) (i p t u x c d : ℕ) → AreFirstCommits h (length h) commits
    → commits t ≡ Some c → commits u ≡ Some d → c < d → i < p → Uses h i u x → Uses h p t x
    → Does h i u (Write x) ⊎ Does h p t (Write x) → BreaksCommitOrder h i p
inverted h commits i p t u x c d are first other less earlier used uses writes =
    let mine = subst (λ o. IsFirstCommit h (length h) t o) first (are t) in
    let its = subst (λ o. IsFirstCommit h (length h) u o) other (are u) in record {
      before = u;
      after = t;
      commit = c;
      differ = λ same. differ same;
      earlier = earlier;
      conflict = (x, used, uses, writes);
      commits = (d, its.1);
      commits_after = mine.1;
      inverted = λ (done : CommittedBefore h u c). its.2 (done.0, omega (arith, done.1, less), done.2);
    }
  where
    differ : u ≢ t
    differ same = let again : commits u ≡ Some c = subst (λ v. commits v ≡ Some c) (sym same) first in
        grind (arith, common_steps, again, other, less)

-- what is known of a use whose transaction commits after the given place
found : (h : List Operation) (commits : ℕ → Option ℕ) (p c i : ℕ) (a : Action) (o : Option LatestUse) → IsLatestUse h commits p a o
    → use_after o c ≡ Some i → (u : ℕ) × (d : ℕ) × (i < p) × Does h i u a × (commits u ≡ Some d) × (c < d)
found h commits p c i a None latest is = absurd (grind (arith, common_steps, is))
found h commits p c i a (Some known) latest is = elim (cases_lt c known.commit) [
  | inl less ↦
      let here : Some known.place ≡ Some i = rw (lt-ltb c known.commit less) at is in
      let same : known.place ≡ i = grind (arith, common_steps, here) in
      (latest.1.0, known.commit, subst (λ n. n < p) same latest.0, subst (λ n. Does h n latest.1.0 a) same latest.1.1, latest.1.2, less)
  | inr most ↦
      let none : None ≡ Some i = rw (le-ltb c known.commit most) at is in absurd (grind (arith, common_steps, none))
]

-- where none commits after the given place
none_found : (h : List Operation) (commits : ℕ → Option ℕ) (p c : ℕ) (a : Action) (o : Option LatestUse) → IsLatestUse h commits p a o
    → use_after o c ≡ None → (k u d : ℕ) → k < p → Does h k u a → commits u ≡ Some d → d ≤ c
none_found h commits p c a None none is k u d less does first = absurd (grind (arith, common_steps, first, none k u less does))
none_found h commits p c a (Some known) latest is k u d less does first = elim (cases_lt c known.commit) [
  | inl after ↦
      let some : Some known.place ≡ None = rw (lt-ltb c known.commit after) at is in absurd (grind (arith, common_steps, some))
  | inr most ↦ let within = latest.2 k u d less does first in omega (arith, within, most)
]

-- what is none
pub none_of : (o : Option ℕ) → IsNone o → o ≡ None
none_of None none = refl
none_of (Some i) none = absurd (true≢false none)

-- a write by one that commits later
pub after_write : (h : List Operation) (commits : ℕ → Option ℕ) (p t x c : ℕ) (w : Option LatestUse) (o : Option ℕ)
    → AreFirstCommits h (length h) commits → commits t ≡ Some c → Uses h p t x → IsLatestUse h commits p (Write x) w
    → o ≡ use_after w c → IfSome o (λ i. BreaksCommitOrder h i p)
after_write h commits p t x c w None are first uses latest is = tt
after_write h commits p t x c w (Some i) are first uses latest is =
    let later = found h commits p c i (Write x) w latest (sym is) in
    inverted h commits i p t later.0 x c later.1 are first later.4 later.5 later.2 (inr later.3) uses (inl later.3)

-- a read by one that commits later
pub after_read : (h : List Operation) (commits : ℕ → Option ℕ) (p t x c : ℕ) (r : Option LatestUse) (o : Option ℕ)
    → AreFirstCommits h (length h) commits → commits t ≡ Some c → Does h p t (Write x) → IsLatestUse h commits p (Read x) r
    → o ≡ use_after r c → IfSome o (λ i. BreaksCommitOrder h i p)
after_read h commits p t x c r None are first does latest is = tt
after_read h commits p t x c r (Some i) are first does latest is =
    let later = found h commits p c i (Read x) r latest (sym is) in
    inverted h commits i p t later.0 x c later.1 are first later.4 later.5 later.2 (inl later.3) (inr does) (inr does)

-- what breaks the commit order, by the first commits
broken_by : (h : List Operation) (commits : ℕ → Option ℕ) (i p t c : ℕ) → AreFirstCommits h (length h) commits → commits t ≡ Some c
    → (broken : BreaksCommitOrder h i p) → broken.after ≡ t → (d : ℕ) × (commits broken.before ≡ Some d) × (c < d)
broken_by h commits i p t c are first broken same =
    let mine = subst (λ o. IsFirstCommit h (length h) t o) first (are t) in
    let its = first_of h broken.before (commits broken.before) broken.commits.0 (are broken.before) broken.commits.1 in
    let does = subst (λ o. IsFirstCommit h (length h) broken.before o) its.1 (are broken.before) in
    let after : Does h broken.commit t Commit = subst (λ u. Does h broken.commit u Commit) same broken.commits_after in
    elim (cases_lt c its.0) [
      | inl less ↦ (its.0, its.1, less)
      | inr most ↦ elim (cases_lt broken.commit c) [
        | inl less ↦ absurd (mine.2 (broken.commit, less, after))
        | inr least ↦ elim (cases_lt its.0 broken.commit) [
          | inl less ↦ absurd (broken.inverted (its.0, less, does.1))
          | inr equal ↦ absurd (broken.differ (one_ender h c broken.before t (inl mine.1)
              (inl (subst (λ n. Does h n broken.before Commit) (omega (arith, most, least, equal)) does.1)) ∙ sym same))
        ]
      ]
    ]

-- an operation on an item that conflicts with none by one that commits later
pub ordered_here : (h : List Operation) (commits : ℕ → Option ℕ) (p t x c : ℕ) (r w : Option LatestUse) (o : Option ℕ)
    → AreFirstCommits h (length h) commits → commits t ≡ Some c → Uses h p t x → IsLatestUse h commits p (Write x) w
    → IsLatestUse h commits p (Read x) r → o ≡ use_after w c → IsNone o → (Does h p t (Write x) → use_after r c ≡ None)
    → (i : ℕ) → ¬ BreaksCommitOrder h i p
ordered_here h commits p t x c r w o are first uses writes reads is none no_read i broken =
    let mine = one_user broken.after broken.conflict.0 broken.conflict.2 in
    let by = broken_by h commits i p t c are first broken (sym mine.0) in
    let used : Uses h i broken.before x = subst (λ y. Uses h i broken.before y) mine.1 broken.conflict.1 in
    let no_write = none_found h commits p c (Write x) w writes (sym is ∙ none_of o none) in
    elim used [
      | inr wrote ↦ let most = no_write i broken.before by.0 broken.earlier wrote by.1 in omega (arith, most, by.2)
      | inl read ↦ elim broken.conflict.3 [
        | inl wrote ↦
            let at : Does h i broken.before (Write x) = subst (λ y. Does h i broken.before (Write y)) mine.1 wrote in
            let most = no_write i broken.before by.0 broken.earlier at by.1 in omega (arith, most, by.2)
        | inr writes_here ↦
            let at : Does h p t (Write x) = subst (λ y. Does h p t (Write y)) mine.1
            (subst (λ u. Does h p u (Write broken.conflict.0)) (sym mine.0) writes_here) in
            let most = none_found h commits p c (Read x) r reads (no_read at) i broken.before by.0 broken.earlier read by.1 in
            omega (arith, most, by.2)
      ]
    ]
  where
    one_user : (u y : ℕ) → Uses h p u y → (t ≡ u) × (y ≡ x)
    one_user u y (inl does) = elim uses [
      | inl at ↦ (same_doer h p t u _ _ at does, grind (arith, common_steps, same_action h p t u _ _ at does))
      | inr at ↦ (same_doer h p t u _ _ at does, grind (arith, common_steps, same_action h p t u _ _ at does))
    ]
    one_user u y (inr does) = elim uses [
      | inl at ↦ (same_doer h p t u _ _ at does, grind (arith, common_steps, same_action h p t u _ _ at does))
      | inr at ↦ (same_doer h p t u _ _ at does, grind (arith, common_steps, same_action h p t u _ _ at does))
    ]

-- an operation on no item conflicts with none
pub ordered_unused : (h : List Operation) (i p : ℕ) (op : Operation) → slice_get h p ≡ Some op → item_of op.action ≡ None
    → ¬ BreaksCommitOrder h i p
ordered_unused h i p op at none broken =
    let used = uses_item h p op broken.after broken.conflict.0 at broken.conflict.2 in
    let both : None ≡ Some broken.conflict.0 = sym none ∙ used.1 in cc

-- nor does one of a transaction that does not commit
pub ordered_uncommitted : (h : List Operation) (commits : ℕ → Option ℕ) (i p : ℕ) (op : Operation) → slice_get h p ≡ Some op
    → AreFirstCommits h (length h) commits → commits op.transaction ≡ None → ¬ BreaksCommitOrder h i p
ordered_uncommitted h commits i p op at are none broken =
    let used = uses_item h p op broken.after broken.conflict.0 at broken.conflict.2 in
    let first = first_of h broken.after (commits broken.after) broken.commit (are broken.after) broken.commits_after in
    let both : None ≡ Some first.0 = sym none ∙ ap commits used.0 ∙ first.1 in cc

-- the first commit of one that does not commit here, or has committed
no_first_commit : (h : List Operation) (p u : ℕ) (o : Option ℕ) → (Does h p u Commit → IsSome o) → IsFirstCommit h p u o
    → IsFirstCommit h (p + 1) u o
no_first_commit h p u None here none = λ done. elim (before_next done.0 p done.1) [
  | inl before ↦ none (done.0, before, done.2)
  | inr same ↦ true≢false (sym (here (subst (λ n. Does h n u Commit) same done.2)))
]
no_first_commit h p u (Some c) here first = (omega (arith, first.0), first.1, first.2)

-- where each transaction has first committed, after a first commit
pub first_commit : (h : List Operation) (p t : ℕ) (commits commits' : ℕ → Option ℕ) → Does h p t Commit → commits t ≡ None
    → commits' t ≡ Some p → ((u : ℕ) → u ≢ t → commits' u ≡ commits u) → AreFirstCommits h p commits
    → AreFirstCommits h (p + 1) commits'
first_commit h p t commits commits' does none here others are u = elim (cases_eq u t) [
  | inl same ↦ subst (λ v. IsFirstCommit h (p + 1) v (commits' v)) (sym same)
      (subst (λ o. IsFirstCommit h (p + 1) t o) (sym here)
      (omega arith, does, subst (λ o. IsFirstCommit h p t o) none (are t)))
  | inr apart ↦ subst (λ o. IsFirstCommit h (p + 1) u o) (sym (others u apart))
      (no_first_commit h p u (commits u) (λ at. absurd (apart (same_doer h p u t _ _ at does))) (are u))
]

-- where each transaction has first committed, after an operation that is no first commit
pub later_commit : (h : List Operation) (p : ℕ) (op : Operation) (commits : ℕ → Option ℕ) → slice_get h p ≡ Some op
    → (op.action ≡ Commit → IsSome (commits op.transaction)) → AreFirstCommits h p commits → AreFirstCommits h (p + 1) commits
later_commit h p op commits at known are u = no_first_commit h p u (commits u) mine (are u)
  where
    mine : Does h p u Commit → IsSome (commits u)
    mine does =
        let same = does_same h p op u Commit at does in
        subst (λ v. IsSome (commits v)) (ap (λ (o : Operation). o.transaction) same)
        (known (ap (λ (o : Operation). o.action) same))
