-- The order of commits is a serial order of the textbook's history.
use Rattle.std.proofs.Common.{◌≡◌, ◌<◌, ℕ, true, ◌⊎◌, List, [], ◌∷◌, length, Some, sym, ap, inl, inr, ◌∙◌, arith}
use Rattle.std.specs.Prelude.{slice_get}
use Rattle.std.specs.Option.{option_or}
use Rattle.sgt_model.specs.declared.reply.Fate.TheVariants as fate
use Rattle.sgt_model.specs.declared.entry.Entry.{Entry}
use Rattle.sgt_model.specs.Contents.{Key}
use Rattle.sgt_model.specs.Fates.{ending_in, fate_of, has_committed, committed}
use Rattle.sgt_model.specs.Configurations.{Configuration}
use Rattle.sgt_model.specs.Legality.{Legal}
use Rattle.sgt_model.specs.CommitOrder.{CommitsBefore}
use Rattle.sgt_model.specs.Laws.{CommitsAlwaysInOrder, CommitsAlwaysInLine}
use Rattle.sgt_model.proofs.Facts.{end-live, live-not_committed, committed-stays, commit-case}
use Rattle.sgt_classes.specs.declared.operation.Action.TheVariants as action
use Rattle.sgt_classes.specs.Serializability.{IsSerialOrder}
use Rattle.sgt_textbook.specs.Textbook.{IsNumbering, textbook, committed_in, commit_order}
use Rattle.sgt_textbook.proofs.Places.{split_at, in_first, in_second}
use Rattle.sgt_textbook.proofs.Entries.{reports}
use Rattle.sgt_textbook.proofs.Histories.{commit_committed, committed_commits, conflict_commits}

-- a transaction whose reply is a commit does commit
now_commits : (number : Key → ℕ) (e : Entry) (j t : ℕ) → slice_get (committed_in e.event e.reply) j ≡ Some t
    → (j ≡ 0) × (ending_in e.event e.reply t ≡ Some fate.Committed)
now_commits number e j t at = let d = (reports number e.event e.reply).commit_does j t at in
    (d.0, (reports number e.event e.reply).reported j t action.Commit d.1)

-- and had not committed before
once_only : (s : Configuration) (e : Entry) (past : List Entry) → Legal s (e ∷ past) → (t : ℕ)
    → ending_in e.event e.reply t ≡ Some fate.Committed → committed past t ≡ true → ⊥
once_only s e past h t now before = live-not_committed past t (end-live s past e.event e.reply h.1 t fate.Committed now) before

-- who stands in the order of commits is committed
listed_committed : (number : Key → ℕ) (s : Configuration) (past : List Entry) → Legal s past → (i t : ℕ)
    → slice_get (commit_order past) i ≡ Some t → committed past t ≡ true
listed_committed number s [] h i t at = absurd (cc)
listed_committed number s (e ∷ past) h i t at = elim (split_at (commit_order past) (committed_in e.event e.reply) i t at) [
  | inl old ↦ committed-stays s e past h t (listed_committed number s past h.0 i t old.1)
  | inr new ↦ ap (λ o. has_committed (option_or o (fate_of past t))) (now_commits number e new.0 t new.2).1
]

-- and conversely
committed_listed : (number : Key → ℕ) (past : List Entry) (t : ℕ) → committed past t ≡ true
    → (i : ℕ) × (slice_get (commit_order past) i ≡ Some t)
committed_listed number [] t c = absurd (cc)
committed_listed number (e ∷ past) t c = elim (commit-case e past t c) [
  | inl now ↦ let there = (reports number e.event e.reply).commit_there t now in
      let p = in_second (commit_order past) (committed_in e.event e.reply) 0 t there in (p.0, p.2)
  | inr before ↦ let p = committed_listed number past t before.1 in
      (p.0, in_first (commit_order past) (committed_in e.event e.reply) p.0 t p.1)
]

-- a position in the commit order is one before an entry, or that of the entry's commit
abbrev Placed : Entry → List Entry → ℕ → ℕ → Type 0
Placed e past i t = ((i < length (commit_order past)) × (slice_get (commit_order past) i ≡ Some t) × (committed past t ≡ true))
    ⊎ ((i ≡ length (commit_order past)) × (ending_in e.event e.reply t ≡ Some fate.Committed))

placed : (number : Key → ℕ) (s : Configuration) (e : Entry) (past : List Entry) → Legal s past → (i t : ℕ)
    → slice_get (commit_order (e ∷ past)) i ≡ Some t → Placed e past i t
placed number s e past h i t at = elim (split_at (commit_order past) (committed_in e.event e.reply) i t at) [
  | inl old ↦ inl (old.0, old.1, listed_committed number s past h i t old.1)
  | inr new ↦ let now = now_commits number e new.0 t new.2 in inr ((let p = new.1 in let z = now.0 in omega (arith, p, z)), now.1)
]

listed_once : (number : Key → ℕ) (s : Configuration) (past : List Entry) → Legal s past → (i j t : ℕ)
    → slice_get (commit_order past) i ≡ Some t
    → slice_get (commit_order past) j ≡ Some t → i ≡ j
listed_once number s [] h i j t first second = absurd (cc)
listed_once number s (e ∷ past) h i j t first second = go (λ a b. listed_once number s past h.0 i j t a b)
    (placed number s e past h.0 i t first) (placed number s e past h.0 j t second)
  where
    go : (slice_get (commit_order past) i ≡ Some t → slice_get (commit_order past) j ≡ Some t → i ≡ j) → Placed e past i t
        → Placed e past j t → i ≡ j
    go rest (inl a) (inl b) = rest a.1 b.1
    go rest (inl a) (inr b) = absurd (once_only s e past h t b.1 a.2)
    go rest (inr a) (inl b) = absurd (once_only s e past h t a.1 b.2)
    go rest (inr a) (inr b) = a.0 ∙ sym b.0

-- who commits before another stands before it
pub listed_in_turn : CommitsAlwaysInLine → (number : Key → ℕ) (s : Configuration) (past : List Entry) → Legal s past → (i j t u : ℕ)
    → CommitsBefore past t u → slice_get (commit_order past) i ≡ Some t → slice_get (commit_order past) j ≡ Some u → i < j
listed_in_turn in_line number s [] h i j t u b first second = absurd b
listed_in_turn in_line number s (e ∷ past) h i j t u b first second =
    go (λ b x y. listed_in_turn in_line number s past h.0 i j t u b x y) b
    (placed number s e past h.0 i t first) (placed number s e past h.0 j u second)
  where
    go : (CommitsBefore past t u → slice_get (commit_order past) i ≡ Some t → slice_get (commit_order past) j ≡ Some u → i < j)
        → CommitsBefore (e ∷ past) t u → Placed e past i t → Placed e past j u → i < j
    go rest (inl b) (inl x) (inl y) = absurd (once_only s e past h u b.0 y.2)
    go rest (inl b) (inl x) (inr y) = let p = y.0 in omega (arith, x.0, p)
    go rest (inl b) (inr x) y = absurd (once_only s e past h t x.1 b.1)
    go rest (inr b) (inl x) (inl y) = rest b x.1 y.1
    go rest (inr b) (inl x) (inr y) = let p = y.0 in omega (arith, x.0, p)
    go rest (inr b) (inr x) y = absurd (once_only s e past h t x.1 ((in_line s past h.0).of_committed t u b).0)

pub commit_order_serial : CommitsAlwaysInOrder → CommitsAlwaysInLine → (number : Key → ℕ) → IsNumbering number → (s : Configuration)
    (past : List Entry) → Legal s past → IsSerialOrder (textbook number past) (commit_order past)
commit_order_serial in_order in_line number injective s past h = record {
  once = listed_once number s past h;
  are_committed = λ t. (
    λ commits. committed_listed number past t (commit_committed number s past h commits.0 t commits.1),
    λ listed. committed_commits number past t (listed_committed number s past h listed.0 t listed.1),
  );
  leads_on = λ i j t u edge first second. listed_in_turn in_line number s past h i j t u
      (conflict_commits in_order number injective s past h edge.place edge.later t u edge.commits_first.0 edge.commits_second.0
      edge.differ edge.order edge.conflict edge.commits_first.1 edge.commits_second.1) first second;
}
