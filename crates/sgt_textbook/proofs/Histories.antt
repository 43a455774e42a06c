-- What the operations of the textbook's history say of ends and of conflicts: it is commit ordered.
use Rattle.std.proofs.Common.{◌≡◌, ◌≢◌, ◌<◌, ◌≤◌, ◌+◌, ℕ, true, ◌⊎◌, List, [], ◌∷◌, length, Some, refl, sym, ap, subst, inl, inr, ◌∙◌, arith}
use Rattle.std.specs.Prelude.{slice_get}
use Rattle.std.specs.Option.{option_or}
use Rattle.std.proofs.lemmas.Option.{slice_get_within}
use Rattle.std.proofs.lemmas.Bool.{and_from, eq-eqb, or_left, or_right}
use Rattle.sgt_model.specs.declared.event.Event.{Event}
use Rattle.sgt_model.specs.declared.reply.Reply.{Reply}
use Rattle.sgt_model.specs.declared.reply.Fate.TheVariants as fate
use Rattle.sgt_model.specs.declared.entry.Entry.{Entry}
use Rattle.sgt_model.specs.declared.kind.Kind.{Kind}
use Rattle.sgt_model.specs.declared.kind.Kind.TheVariants.{Look, Store}
use Rattle.sgt_model.specs.Contents.{Key, key_eq}
use Rattle.sgt_model.specs.Accesses.{access_of}
use Rattle.sgt_model.specs.Fates.{fate_of, has_committed, has_aborted, aborted, committed}
use Rattle.sgt_model.specs.Values.{stores}
use Rattle.sgt_model.specs.Pairs.{one_stores, conflicts, has_conflicting, FollowsIn, Precedes}
use Rattle.sgt_model.specs.Configurations.{Configuration}
use Rattle.sgt_model.specs.Legality.{Legal}
use Rattle.sgt_model.specs.CommitOrder.{CommitsBefore}
use Rattle.sgt_model.specs.Laws.{CommitsAlwaysInOrder, CommitsAlwaysInLine}
use Rattle.sgt_model.proofs.Facts.{end-live, live-not_committed, committed-stays, committed-stands, commit-case, aborted-stays, abort-case}
use Rattle.sgt_model.proofs.Stores.{key_eq-refl}
use Rattle.sgt_classes.specs.declared.operation.Action.TheVariants as action
use Rattle.sgt_classes.specs.Histories.{Does, Uses, CommittedBefore}
use Rattle.sgt_classes.specs.Serializability.{Conflict}
use Rattle.sgt_textbook.specs.Textbook.{IsNumbering, operations_of, textbook}
use Rattle.sgt_textbook.specs.Laws.{AreCommitOrdered}
use Rattle.sgt_textbook.proofs.Places.{InFirst, InSecond, split_at, in_first, in_second, still}
use Rattle.sgt_textbook.proofs.Entries.{does, action_on, IsAccess, Reported, reports}

-- of ends

-- who commits in the textbook's history is committed
pub commit_committed : (number : Key → ℕ) (s : Configuration) (past : List Entry) → Legal s past → (i t : ℕ)
    → Does (textbook number past) i t action.Commit → committed past t ≡ true
commit_committed number s [] h i t at = absurd (cc)
commit_committed number s (e ∷ past) h i t at = elim (split_at (textbook number past) (operations_of number e) i _ at) [
  | inl old ↦ committed-stays s e past h t (commit_committed number s past h.0 i t old.1)
  | inr new ↦ ap (λ o. has_committed (option_or o (fate_of past t)))
      ((reports number e.event e.reply).reported new.0 t action.Commit new.2)
]

-- and conversely
pub committed_commits : (number : Key → ℕ) (past : List Entry) (t : ℕ) → committed past t ≡ true
    → (i : ℕ) × Does (textbook number past) i t action.Commit
committed_commits number [] t c = absurd (cc)
committed_commits number (e ∷ past) t c = elim (commit-case e past t c) [
  | inl now ↦ let reported = reports number e.event e.reply in let there = reported.commit_does 0 t (reported.commit_there t now) in
      let p = in_second (textbook number past) (operations_of number e) 0 _ there.1 in (p.0, p.2)
  | inr before ↦ let p = committed_commits number past t before.1 in
      (p.0, in_first (textbook number past) (operations_of number e) p.0 _ p.1)
]

-- who aborts in it is aborted
pub abort_aborted : (number : Key → ℕ) (s : Configuration) (past : List Entry) → Legal s past → (i t : ℕ)
    → Does (textbook number past) i t action.Abort → aborted past t ≡ true
abort_aborted number s [] h i t at = absurd (cc)
abort_aborted number s (e ∷ past) h i t at = elim (split_at (textbook number past) (operations_of number e) i _ at) [
  | inl old ↦ aborted-stays s e past h t (abort_aborted number s past h.0 i t old.1)
  | inr new ↦ let undone = (reports number e.event e.reply).reported new.0 t action.Abort new.2 in
      ap (λ o. has_aborted (option_or o (fate_of past t))) undone.1 ∙ undone.2
]

-- and conversely
pub aborted_aborts : (number : Key → ℕ) (past : List Entry) (t : ℕ) → aborted past t ≡ true
    → (i : ℕ) × Does (textbook number past) i t action.Abort
aborted_aborts number [] t a = absurd (cc)
aborted_aborts number (e ∷ past) t a = elim (abort-case e past t a) [
  | inl now ↦ let there = (reports number e.event e.reply).abort_there t now in
      let p = in_second (textbook number past) (operations_of number e) there.0 _ there.1 in (p.0, p.2)
  | inr before ↦ let p = aborted_aborts number past t before in (p.0, in_first (textbook number past) (operations_of number e) p.0 _ p.1)
]

-- who committed before another commits in the textbook's history before it
pub commits_in_turn : CommitsAlwaysInLine → (number : Key → ℕ) (s : Configuration) (past : List Entry) → Legal s past → (t u c : ℕ)
    → CommitsBefore past t u → Does (textbook number past) c u action.Commit → CommittedBefore (textbook number past) t c
commits_in_turn in_line number s [] h t u c b at = absurd b
commits_in_turn in_line number s (e ∷ past) h t u c b at = go (λ b old. commits_in_turn in_line number s past h.0 t u c b old)
    (split_at (textbook number past) (operations_of number e) c _ at) b
  where
    first : committed past t ≡ true → length (textbook number past) ≤ c → CommittedBefore (textbook number (e ∷ past)) t c
    first before late = let p = committed_commits number past t before in let within = slice_get_within _ p.0 _ p.1 in
        (p.0, omega (arith, within, late), in_first (textbook number past) (operations_of number e) p.0 _ p.1)

    go : (CommitsBefore past t u → Does (textbook number past) c u action.Commit → CommittedBefore (textbook number past) t c)
        → InFirst (textbook number past) c (does u action.Commit)
        ⊎ InSecond (textbook number past) (operations_of number e) c (does u action.Commit)
        → CommitsBefore (e ∷ past) t u → CommittedBefore (textbook number (e ∷ past)) t c
    go rest (inl old) (inl b) = absurd (live-not_committed past u (end-live s past e.event e.reply h.1 u fate.Committed b.0)
        (commit_committed number s past h.0 c u old.1))
    go rest (inl old) (inr b) = let p = rest b old.1 in
        (p.0, p.1, in_first (textbook number past) (operations_of number e) p.0 _ p.2)
    go rest (inr new) (inl b) = first b.1 (omega (arith, new.1))
    go rest (inr new) (inr b) = first ((in_line s past h.0).of_committed t u b).0 (omega (arith, new.1))

-- of conflicts

reported_access : (number : Key → ℕ) (event : Event) (r : Reply) (j t : ℕ) (kind : Kind) (x : ℕ)
    → Reported number event r j t (action_on kind x)
    → IsAccess number event r j t kind x
reported_access number event r j t Look x reported = reported
reported_access number event r j t Store x reported = reported

-- an operation on an item is an access of its key
pub does_access : (number : Key → ℕ) (e : Entry) (j t : ℕ) (kind : Kind) (x : ℕ)
    → slice_get (operations_of number e) j ≡ Some (does t (action_on kind x)) → IsAccess number e.event e.reply j t kind x
does_access number e j t kind x at =
    reported_access number e.event e.reply j t kind x ((reports number e.event e.reply).reported j t (action_on kind x) at)

pub same_key : (number : Key → ℕ) → IsNumbering number → (j k : Key) → number j ≡ number k → key_eq j k ≡ true
same_key number injective j k same = subst (λ l. key_eq j l ≡ true) (injective j k same) (key_eq-refl j)

-- a transaction that has used an item has a conflicting access of its key, if one of the two writes
used_before : (number : Key → ℕ) → IsNumbering number → (past : List Entry) (i t : ℕ) (was kind : Kind) (k : Key)
    → one_stores was kind ≡ true → Does (textbook number past) i t (action_on was (number k)) → has_conflicting past t k kind ≡ true
used_before number injective [] i t was kind k stores at = absurd (cc)
used_before number injective (e ∷ past) i t was kind k stores at =
    elim (split_at (textbook number past) (operations_of number e) i _ at) [
      | inl old ↦ or_right _ _ (used_before number injective past i t was kind k stores old.1)
      | inr new ↦ or_left _ _ (now (does_access number e new.0 t was (number k) new.2))
    ]
  where
    now : {j : ℕ} → IsAccess number e.event e.reply j t was (number k) → conflicts (access_of e) t k kind ≡ true
    now a = ap (λ o. conflicts o t k kind) a.is ∙ and_from _ _ (eq-eqb _ _ a.by)
        (and_from _ _ (same_key number injective _ _ a.item) (ap (λ w. one_stores w kind) a.kind_is ∙ stores))

-- if an operation conflicts with an earlier one, so do their accesses
uses_in_turn : (number : Key → ℕ) → IsNumbering number → (past : List Entry) (i j t u x : ℕ) (was kind : Kind)
    → one_stores was kind ≡ true → i < j → Does (textbook number past) i t (action_on was x)
    → Does (textbook number past) j u (action_on kind x) → Precedes past t u
uses_in_turn number injective [] i j t u x was kind stores earlier first second = absurd (cc)
uses_in_turn number injective (e ∷ past) i j t u x was kind stores earlier first second =
    elim (split_at (textbook number past) (operations_of number e) j _ second) [
      | inl old ↦ inr (uses_in_turn number injective past i j t u x was kind stores earlier
          (still (textbook number past) (operations_of number e) i _ (omega (arith, earlier, old.0)) first) old.1)
      | inr new ↦ inl (now new.0 new.1 (does_access number e new.0 u kind x new.2)
          (split_at (textbook number past) (operations_of number e) i _ first))
    ]
  where
    now : (m : ℕ) → j ≡ length (textbook number past) + m → IsAccess number e.event e.reply m u kind x
        → InFirst (textbook number past) i (does t (action_on was x))
        ⊎ InSecond (textbook number past) (operations_of number e) i (does t (action_on was x))
        → FollowsIn past (access_of e) t u
    now m place a (inr new) = absurd (let f = a.first in let p = new.1 in omega (arith, earlier, place, f, p))
    now m place a (inl old) = subst (λ o. FollowsIn past o t u) (sym a.is) (
      a.by,
      used_before number injective past i t was a.access.kind
          a.access.key (ap (λ w. one_stores was w) a.kind_is ∙ stores)
          (subst (λ y. Does (textbook number past) i t (action_on was y)) (sym a.item) old.1),
    )

pub conflict_precedes : (number : Key → ℕ) → IsNumbering number → (past : List Entry) (i j t u : ℕ) → i < j
    → Conflict (textbook number past) i t j u → Precedes past t u
conflict_precedes number injective past i j t u earlier c = go c.3 c.1 c.2
  where
    go : Does (textbook number past) i t (action.Write c.0) ⊎ Does (textbook number past) j u (action.Write c.0)
        → Uses (textbook number past) i t c.0 → Uses (textbook number past) j u c.0 → Precedes past t u
    go (inl write) first (inl read) = uses_in_turn number injective past i j t u c.0 Store Look refl earlier write read
    go (inl write) first (inr again) = uses_in_turn number injective past i j t u c.0 Store Store refl earlier write again
    go (inr write) (inl read) second = uses_in_turn number injective past i j t u c.0 Look Store refl earlier read write
    go (inr write) (inr first) second = uses_in_turn number injective past i j t u c.0 Store Store refl earlier first write

-- of two that commit, the one with the earlier of two operations that conflict commits first
pub conflict_commits : CommitsAlwaysInOrder → (number : Key → ℕ) → IsNumbering number → (s : Configuration) (past : List Entry)
    → Legal s past
    → (i j t u c d : ℕ) → t ≢ u → i < j → Conflict (textbook number past) i t j u → Does (textbook number past) c t action.Commit
    → Does (textbook number past) d u action.Commit → CommitsBefore past t u
conflict_commits in_order number injective s past h i j t u c d apart earlier conflict commits_first commits_second =
    let ct = commit_committed number s past h c t commits_first in let cu = commit_committed number s past h d u commits_second in
    (in_order s past h).pairs t u ct cu (record {
      apart = apart;
      first_stands = committed-stands past t ct;
      second_stands = committed-stands past u cu;
      precedes = conflict_precedes number injective past i j t u earlier conflict;
    })

pub commit_ordered : CommitsAlwaysInOrder → CommitsAlwaysInLine → AreCommitOrdered
commit_ordered in_order in_line number injective s past h i j broken = broken.inverted
    (commits_in_turn in_line number s past h broken.before broken.after broken.commit
    (conflict_commits in_order number injective s past h i j broken.before broken.after broken.commits.0 broken.commit broken.differ
    broken.earlier broken.conflict broken.commits.1 broken.commits_after) broken.commits_after)
