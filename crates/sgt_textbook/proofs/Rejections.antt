-- A cycle that a rejected access would have closed stays, however the history goes on.
use Rattle.std.specs.Prelude.{◌≢◌, ℕ, ◌⊎◌, List, [], ◌∷◌, ◌++◌}
use Rattle.std.proofs.Common.{refl, inl, inr}
use Rattle.sgt_model.specs.declared.entry.Entry.{Entry}
use Rattle.sgt_model.specs.Contents.{Key}
use Rattle.sgt_model.specs.Paths.{PathOf, last_of, Member}
use Rattle.sgt_model.specs.Pairs.{Precedes, Pair}
use Rattle.sgt_classes.specs.declared.operation.Operation.{Operation}
use Rattle.sgt_classes.specs.declared.operation.Action.TheVariants as action
use Rattle.sgt_classes.specs.Histories.{Does, Uses}
use Rattle.sgt_classes.specs.Serializability.{Commits, IsEdge, IsPath}
use Rattle.sgt_classes.proofs.EdgeDecisions.{serializability_theorem}
use Rattle.sgt_textbook.specs.Textbook.{textbook}
use Rattle.sgt_textbook.proofs.Places.{in_first}
use Rattle.sgt_textbook.proofs.Edges.{in_turn, conflict}
use Rattle.sgt_progress.proofs.Needed.{closing_precedes}
use Rattle.sgt_textbook.specs.NeededAborts.{RejectionsAreNeeded}
use Rattle.sgt_progress.proofs.Needed.{apart_from_last, last_member}

-- an edge stays, however the history goes on
pub edge_more : (number : Key → ℕ) (whole : List Entry) (more : List Operation) (a b : ℕ) → a ≢ b
    → Commits (textbook number whole ++ more) a
    → Commits (textbook number whole ++ more) b → Precedes whole a b → IsEdge (textbook number whole ++ more) a b
edge_more number whole more a b apart ca cb p =
    let o = in_turn number whole a b p in
    let c = conflict number whole o.first o.second a b o.item o.was o.kind o.one o.does_first o.does_second in record {
      differ = apart;
      commits_first = ca;
      commits_second = cb;
      place = o.first;
      later = o.second;
      order = o.order;
      conflict = (c.0, use_more o.first a c.0 c.1, use_more o.second b c.0 c.2, write_more o.first o.second a b c.0 c.3);
    }
  where
    use_more : (i v x : ℕ) → Uses (textbook number whole) i v x → Uses (textbook number whole ++ more) i v x
    use_more i v x (inl at) = inl (in_first (textbook number whole) more i _ at)
    use_more i v x (inr at) = inr (in_first (textbook number whole) more i _ at)

    write_more : (i j v w x : ℕ) → Does (textbook number whole) i v (action.Write x) ⊎ Does (textbook number whole) j w (action.Write x)
        → Does (textbook number whole ++ more) i v (action.Write x) ⊎ Does (textbook number whole ++ more) j w (action.Write x)
    write_more i j v w x (inl at) = inl (in_first (textbook number whole) more i _ at)
    write_more i j v w x (inr at) = inr (in_first (textbook number whole) more j _ at)

-- and so does a path to where an edge leads back
closed : (number : Key → ℕ) (past : List Entry) (e : Entry) (more : List Operation) (t a : ℕ) (path : List ℕ)
    → ((u : ℕ) → Member u (a ∷ path) → Commits (textbook number (e ∷ past) ++ more) u) → PathOf (Pair past) a path
    → IsEdge (textbook number (e ∷ past) ++ more) (last_of a path) t → IsPath (textbook number (e ∷ past) ++ more) a path t
closed number past e more t a [] commit p back = back
closed number past e more t a (b ∷ path) commit p back = (
  edge_more number (e ∷ past) more a b p.0.apart (commit a (inl refl)) (commit b (inr (inl refl))) (inr p.0.precedes),
  closed number past e more t b path (λ u m. commit u (inr m)) p.1 back,
)

pub rejections_are_needed : RejectionsAreNeeded
rejections_are_needed number past t k kind rest c e is more well commit serializable =
    let back = edge_more number (e ∷ past) more (last_of t rest) t (apart_from_last past t k kind rest c)
    (commit (last_of t rest) (last_member t rest)) (commit t (inl refl))
    (closing_precedes past t k kind (last_of t rest) c.conflict e is) in
    (serializability_theorem _ well).0 serializable t rest (closed number past e more t t rest commit c.pairs back)
