use Rattle.std.proofs.Common.{rules, ◌≡◌, ℕ, refl, sym, subst, ◌∙◌, arith}
use Rattle.std.specs.BTreeMap.{get}
use Rattle.sgt_classes.specs.Seen.{HasEdge}
use Rattle.sgt_classes.specs.FirstAccesses.{AreConflicts, pair_cmp}
use Rattle.sgt_classes.proofs.Places.{doer_at, done_at, done_by}
use Rattle.sgt_classes.proofs.Edges.{has_kept, has_edge_by}
use Rattle.sgt_classes.proofs.FirstConflicts.{conflicts_reported}
use Rattle.sgt_classes.proofs.conflicts.Conflicts.report.Goals as goal
use Rattle.sgt_classes.proofs.conflicts.Conflicts.report.Goals.{then-from-to-via-then-from-to, then-from-to-via-else-from-to+then-contains_key}

pub returns-then-from-to-clause-here : goal.returns-then-from-to-clause-here
returns-then-from-to-clause-here c t u a b does does_later apart =
    let q = c.args.operations.now in
    let from = done_by q c.args.earlier t a (omega (arith, c.requires.order, c.requires.within)) does in
    let to = done_by q c.args.later u b c.requires.within does_later in
    let v : ℕ = doer_at q c.args.earlier in
    let w : ℕ = doer_at q c.args.later in
    elim c.then-from-to.branch [
      | then-from-to-via-then-from-to one ↦
          let same : v ≡ w = search rules in absurd (apart (sym from ∙ same ∙ to))
      | then-from-to-via-else-from-to+then-contains_key there ↦
          subst (λ n. HasEdge c.args.self.now.edges.items t n) to (subst (λ n. HasEdge c.args.self.now.edges.items n w) from
          ((c.requires.conflicts.are_pairs v w).0 (search rules)))
    ]

pub returns-clause-conflicts : goal.returns-clause-conflicts
returns-clause-conflicts c =
    let q = c.args.operations.now in
    let es = c.args.self.now.edges.items in
    let first = done_at q c.args.earlier _ (omega (arith, c.requires.order, c.requires.within)) refl in
    let second = done_at q c.args.later _ c.requires.within refl in
    let rival = c.requires.rival _ _ _ _ first second in
    subst (λ l. AreConflicts q c.args.later c.args.earlier l (get pair_cmp c.set_pair.new.places)) (sym c.in_ok-push.ensures.items)
    (conflicts_reported q c.args.later c.args.earlier (doer_at q c.args.earlier) (doer_at q c.args.later) es
    (get pair_cmp c.args.self.now.reported) (get pair_cmp c.set_pair.new.places) (search rules) c.requires.order rival.0 rival.1
    (search rules) c.in_ok-set_pair.ensures.at c.in_ok-set_pair.ensures.others c.requires.conflicts)

pub returns-clause-kept : goal.returns-clause-kept
returns-clause-kept c t u has = subst (λ l. HasEdge l t u) (sym c.in_ok-push.ensures.items) (has_kept _ _ t u has)

pub returns-clause-here : goal.returns-clause-here
returns-clause-here c t u a b does does_later apart =
    subst (λ l. HasEdge l t u) (sym c.in_ok-push.ensures.items)
    (has_edge_by c.args.operations.now _ c.args.earlier c.args.later c.requires.order c.requires.within t u a b does does_later)
