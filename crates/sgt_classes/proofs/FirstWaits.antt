-- What the committed transactions wait for before any has a place in the order.
use Rattle.std.proofs.Common.{◌≡◌, ◌≢◌, ◌<◌, ◌≤◌, ◌+◌, ℕ, List, Option, Some, None, IsSome, Vec, Global, inl, inr, refl, sym, ◌∙◌, subst, arith}
use Rattle.std.specs.Prelude.{slice_get, length}
use Rattle.std.specs.BTreeMap.{get}
use Rattle.sgt_classes.specs.Tables.{entry_of}
use Rattle.sgt_classes.specs.declared.table.Table.{Table}
use Rattle.std.specs.Ordering.{nat_cmp}
use Rattle.std.proofs.lemmas.Grind.{common_steps}
use Rattle.std.proofs.lemmas.Option.{slice_get_within}
use Rattle.sgt_classes.specs.declared.operation.Operation.{Operation}
use Rattle.sgt_classes.specs.declared.operation.Action.TheVariants.{Commit}
use Rattle.sgt_classes.specs.declared.graph.Edge.{Edge}
use Rattle.sgt_classes.specs.declared.serial.Waits.{Waits}
use Rattle.sgt_classes.specs.declared.watched.Watched.{Watched}
use Rattle.sgt_classes.specs.declared.chains.EdgeEnd.TheVariants.{To}
use Rattle.sgt_classes.specs.Histories.{Does}
use Rattle.sgt_classes.specs.Serializability.{Commits, IsEdgeBy}
use Rattle.sgt_classes.specs.Seen.{IsFirstCommit, AreFirstCommits}
use Rattle.sgt_classes.specs.Sorting.{IsLastEdge, IsTopEdge, AreChains, AreWaits, KnowsWaits, KnowsWatched, AllWait, AllReady, AllWatched, HasBefore, IsReady, IsWatched, WaitsForLeft}
use Rattle.sgt_classes.proofs.LatestUses.{first_of}
use Rattle.sgt_classes.proofs.Sources.{same_doer, same_action}
use Rattle.sgt_classes.proofs.Places.{before_next, does_at}
use Rattle.sgt_classes.proofs.Waiting.{ready_still, watched_still, wait_still}

-- what is kept while those that commit are looked at in turn, of those that commit before place j
pub record AreLookedAt (edges : Vec Edge Global) (commits : Table) (j : ℕ) (w : Waits) : Type 0 where
  pub waits : KnowsWaits w
  pub ready : (u c : ℕ) → entry_of commits u ≡ Some c → c < j → IsReady w u
  pub watched : (u c : ℕ) → entry_of commits u ≡ Some c → c < j → IsWatched w u
  pub wait : AllWait w
  pub edges_are : w.edges ≡ edges
  pub left_are : w.left ≡ commits

-- where the transaction commits
pub commits_at : (h : List Operation) (j t c : ℕ) (commits : ℕ → Option ℕ) → AreFirstCommits h j commits → commits t ≡ Some c
    → IsFirstCommit h j t (Some c)
commits_at h j t c commits are is = subst (λ o. IsFirstCommit h j t o) is (are t)

-- a committed one is left
pub committed_left : (h : List Operation) (t : ℕ) (commits : ℕ → Option ℕ) → AreFirstCommits h (length h) commits → Commits h t
    → IsSome (commits t)
committed_left h t commits are committed =
    let first = first_of h t (commits t) committed.0 (are t) committed.1 in subst (λ o. IsSome o) (sym first.1) refl

-- the last edge to a transaction is its top
last_is_top : (es : List Edge) (left : ℕ → Option ℕ) (u : ℕ) (o : Option ℕ) → IsLastEdge To es (length es) u o → IsTopEdge es left u o
last_is_top es left u None none = λ k e at to. absurd (none k e (slice_get_within es k e at) at to)
last_is_top es left u (Some i) last =
    (last.1, λ k e after at to. absurd (last.2 k e after (slice_get_within es k e at) at to))

pub first_waits : (h : List Operation) (es : List Edge) (left tops below ready : ℕ → Option ℕ) (watched : Watched)
    → AreFirstCommits h (length h) left → ((k : ℕ) (e : Edge) → slice_get es k ≡ Some e → IsEdgeBy h e)
    → AreChains To es (length es) tops below → KnowsWatched watched → ((c : ℕ) → ready c ≡ None)
    → AreWaits es left tops below ready watched
first_waits h es left tops below ready watched are edges to from none = record {
  apart = λ t u c a b.
      same_doer h c t u Commit Commit (commits_at h (length h) t c left are a).1 (commits_at h (length h) u c left are b).1;
  tops_are = λ u. last_is_top es left u (tops u) (to.tops_are u);
  tops_left = λ u some. committed_left h u left are (end u (tops u) (to.tops_are u) some);
  below_are = λ k e at. to.below_are k e (slice_get_within es k e at) at;
  ready_are = λ c u at. absurd (grind (arith, common_steps, at, none c));
  watched_are = from;
}
  where
    end : (u : ℕ) (o : Option ℕ) → IsLastEdge To es (length es) u o → IsSome o → Commits h u
    end u None last some = absurd (grind (arith, common_steps, some))
    end u (Some i) last some = subst (λ t. Commits h t) last.1.2 (edges i last.1.0 last.1.1).commits_second

-- one is looked at
pub looked_at : (h : List Operation) (edges : Vec Edge Global) (commits : Table) (p t : ℕ) (w w' : Waits)
    → AreFirstCommits h (length h) (entry_of commits) → Does h p t Commit → AreLookedAt edges commits p w → KnowsWaits w'
    → w'.edges ≡ w.edges → w'.left ≡ w.left → ((u : ℕ) → u ≢ t → entry_of w'.incoming.tops u ≡ entry_of w.incoming.tops u)
    → ((c u : ℕ) → get nat_cmp w.ready c ≡ Some u → get nat_cmp w'.ready c ≡ Some u)
    → ((k : ℕ) (f : Edge) → slice_get w.watched.edges.items k ≡ Some f → slice_get w'.watched.edges.items k ≡ Some f)
    → IsReady w' t → IsWatched w' t → WaitsForLeft w' t → AreLookedAt edges commits (p + 1) w'
looked_at h edges commits p t w w' are does before waits same left others others_ready kept ready watched wait = record {
  waits = waits;
  ready = λ u c is less. elim (before_next c p less) [
    | inl earlier ↦ ready_still w w' t u left others others_ready (before.ready u c is earlier) ready
    | inr here ↦
        let mine = (commits_at h (length h) u c (entry_of commits) are is).1 in
        subst (λ v. IsReady w' v) (same_doer h p t u Commit Commit does (subst (λ n. Does h n u Commit) here mine)) ready
  ];
  watched = λ u c is less. elim (before_next c p less) [
    | inl earlier ↦ watched_still w w' t u same others kept (before.watched u c is earlier) watched
    | inr here ↦
        let mine = (commits_at h (length h) u c (entry_of commits) are is).1 in
        subst (λ v. IsWatched w' v) (same_doer h p t u Commit Commit does (subst (λ n. Does h n u Commit) here mine)) watched
  ];
  wait = wait_still w w' t same left others before.wait wait;
  edges_are = same ∙ before.edges_are;
  left_are = left ∙ before.left_are;
}

-- an operation that does not commit is passed over
pub passed_over : (h : List Operation) (edges : Vec Edge Global) (commits : Table) (p : ℕ) (op : Operation) (w : Waits)
    → AreFirstCommits h (length h) (entry_of commits) → slice_get h p ≡ Some op → op.action ≢ Commit → AreLookedAt edges commits p w
    → AreLookedAt edges commits (p + 1) w
passed_over h edges commits p op w are at other before = record {
  waits = before.waits;
  ready = λ u c is less. elim (before_next c p less) [
    | inl earlier ↦ before.ready u c is earlier
    | inr here ↦
        let mine = (commits_at h (length h) u c (entry_of commits) are is).1 in
        absurd (other (same_action h p op.transaction u op.action Commit (does_at h p op op.action at refl)
        (subst (λ n. Does h n u Commit) here mine)))
  ];
  watched = λ u c is less. elim (before_next c p less) [
    | inl earlier ↦ before.watched u c is earlier
    | inr here ↦
        let mine = (commits_at h (length h) u c (entry_of commits) are is).1 in
        absurd (other (same_action h p op.transaction u op.action Commit (does_at h p op op.action at refl)
        (subst (λ n. Does h n u Commit) here mine)))
  ];
  wait = before.wait;
  edges_are = before.edges_are;
  left_are = before.left_are;
}

-- once all that commit are looked at, each edge by which one waits is watched
pub all_watched : (h : List Operation) (edges : Vec Edge Global) (commits : Table) (j : ℕ) (w : Waits)
    → AreFirstCommits h (length h) (entry_of commits) → length h ≤ j → AreLookedAt edges commits j w → AllWatched w
all_watched h edges commits j w are all looked u k e top at = go (entry_of commits u) refl
  where
    left : IsSome (entry_of commits u)
    left = subst (λ m. IsSome (entry_of m u)) looked.left_are
        (looked.waits.tops_left u (subst (λ o. IsSome o) (sym top) refl))

    go : (o : Option ℕ) → entry_of commits u ≡ o → HasBefore w.watched.edges.items (length w.watched.edges.items) e
    go None is = absurd (grind (arith, common_steps, left, is))
    go (Some c) is =
        let within = (commits_at h (length h) u c (entry_of commits) are is).0 in
        looked.watched u c is (omega (arith, within, all)) k e top at

-- an edge leads from one that is left
pub first_wait : (h : List Operation) (commits : ℕ → Option ℕ) (e : Edge) → AreFirstCommits h (length h) commits → IsEdgeBy h e
    → IsSome (commits e.from)
first_wait h commits e are edge = committed_left h e.from commits are edge.commits_first

-- once all that commit are looked at, each that waits for none is ready
pub all_ready : (h : List Operation) (edges : Vec Edge Global) (commits : Table) (j : ℕ) (w : Waits)
    → AreFirstCommits h (length h) (entry_of commits) → length h ≤ j → AreLookedAt edges commits j w → AllReady w
all_ready h edges commits j w are all looked u c is none =
    let at : entry_of commits u ≡ Some c = subst (λ m. entry_of m u ≡ Some c) looked.left_are is in
    let within = (commits_at h (length h) u c (entry_of commits) are at).0 in
    looked.ready u c at (omega (arith, within, all)) c is none
