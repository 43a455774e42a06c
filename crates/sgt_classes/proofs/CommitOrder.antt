-- Where conflicts agree with the commit order, so do paths of the serialization graph.
use Rattle.std.proofs.Common.{◌<◌, ◌+◌, ℕ, zero, suc, List, [], ◌∷◌, arith}
use Rattle.sgt_classes.specs.declared.operation.Operation.{Operation}
use Rattle.sgt_classes.specs.declared.operation.Action.TheVariants.{Commit}
use Rattle.sgt_classes.specs.Histories.{Does, CommittedBefore}
use Rattle.sgt_classes.specs.Serializability.{Commits, IsEdge, IsPath, IsCommitOrdered, IsAcyclic}

-- before a transaction commits, those with an edge to it have
pub edge_earlier : (h : List Operation) (t u d : ℕ) → IsCommitOrdered h → IsEdge h t u → Does h d u Commit → ¬ ¬ CommittedBefore h t d
edge_earlier h t u d ordered edge commits uncommitted = ordered edge.place edge.later record {
  before = t;
  after = u;
  commit = d;
  differ = edge.differ;
  earlier = edge.order;
  conflict = edge.conflict;
  commits = edge.commits_first;
  commits_after = commits;
  inverted = uncommitted;
}

-- before a transaction commits, those with a path to it have
path_earlier : (h : List Operation) (t u d : ℕ) (others : List ℕ) → IsCommitOrdered h → IsPath h t others u → Does h d u Commit
    → ¬ ¬ CommittedBefore h t d
path_earlier h t u d [] ordered edge commits uncommitted = edge_earlier h t u d ordered edge commits uncommitted
path_earlier h t u d (v ∷ others) ordered path commits uncommitted = path_earlier h v u d others ordered path.1 commits
    (λ between. edge_earlier h t v between.0 ordered path.0 between.2
    (λ first. uncommitted (first.0, omega (arith, first.1, between.1), first.2)))

-- one with a path to itself would have committed before its first commit
no_commit : (h : List Operation) (t n d : ℕ) (others : List ℕ) → IsCommitOrdered h → IsPath h t others t → d < n → ¬ Does h d t Commit
no_commit h t zero d others ordered path less = λ commits. omega (arith, less)
no_commit h t (suc n) d others ordered path less = λ commits. path_earlier h t t d others ordered path commits
    (λ first. no_commit h t n first.0 others ordered path (omega (arith, first.1, less)) first.2)

-- who has a path to itself commits
commits_of : (h : List Operation) (t u : ℕ) (others : List ℕ) → IsPath h t others u → Commits h t
commits_of h t u [] edge = edge.commits_first
commits_of h t u (v ∷ others) path = path.0.commits_first

-- so the graph has no cycle
pub commit_ordered_acyclic : (h : List Operation) → IsCommitOrdered h → IsAcyclic h
commit_ordered_acyclic h ordered t others path =
    let mine = commits_of h t t others path in no_commit h t (mine.0 + 1) mine.0 others ordered path (omega arith) mine.1
