use Rattle.std.proofs.Common.{rules, ◌≡◌, List, Some, inl, sym, ◌∙◌, subst, arith}
use Rattle.std.proofs.lemmas.Bool.{cases_eq}
use Rattle.std.proofs.lemmas.Grind.{common_steps}
use Rattle.std.specs.Prelude.{slice_get}
use Rattle.sgt_classes.specs.declared.graph.Edge.{Edge}
use Rattle.sgt_classes.proofs.Waiting.{waits_still, none_awaited, kept_more}
use Rattle.sgt_classes.proofs.serial.Waits.update.Goals as goal

pub returns-in_ok-insert-in-None-clause-others_ready : goal.returns-in_ok-insert-in-None-clause-others_ready
returns-in_ok-insert-in-None-clause-others_ready c d u is =
    grind (
      arith,
      common_steps,
      cases_eq d c.in-Some.commit,
      is,
      c.requires.ready_are d u is,
      c.requires.apart u c.args.transaction d,
      c.in-Some.is,
      c.find.ensures,
      c.in_ok-insert-in-None.ensures.updates,
    )

pub returns-in_ok-add-in-Some-top-clause-waits : goal.returns-in_ok-add-in-Some-top-clause-waits
returns-in_ok-add-in-Some-top-clause-waits c =
    let begun = c.in_ok-begin_with.ensures in
    waits_still _ _ _ _ _ _ _ _ _ _ c.args.transaction c.in-Some.commit c.awaited-top.result c.requires (search rules)
    c.awaited-top.ensures.top c.awaited-top.ensures.stays begun.at begun.others begun.below (λ d u is. inl is)
    c.in_ok-add-in-Some-top.ensures.knows

pub returns-in_ok-insert-in-None-clause-waits : goal.returns-in_ok-insert-in-None-clause-waits
returns-in_ok-insert-in-None-clause-waits c =
    let begun = c.in_ok-begin_with.ensures in
    waits_still _ _ _ _ _ _ _ _ _ _ c.args.transaction c.in-Some.commit c.awaited-top.result c.requires (search rules)
    c.awaited-top.ensures.top c.awaited-top.ensures.stays begun.at begun.others begun.below
    (λ d u is. grind (arith, common_steps, is, cases_eq d c.in-Some.commit, c.in-None.is, c.in_ok-insert-in-None.ensures.updates.0 d))
    c.requires.watched_are

pub returns-in_default-clause-ready : goal.returns-in_default-clause-ready
returns-in_default-clause-ready c d is none = absurd (c.in_default.not-Some d (c.find.ensures ∙ is))

pub returns-in_default-clause-watched : goal.returns-in_default-clause-watched
returns-in_default-clause-watched c k e top at =
    absurd (none_awaited c.args.self.now c.args.transaction k c.requires (sym c.find.ensures ∙ c.in_default.is) top)

pub returns-in_default-clause-wait : goal.returns-in_default-clause-wait
returns-in_default-clause-wait c k e top at =
    absurd (none_awaited c.args.self.now c.args.transaction k c.requires (sym c.find.ensures ∙ c.in_default.is) top)

pub returns-in_ok-add-in-Some-top-clause-others : goal.returns-in_ok-add-in-Some-top-clause-others
returns-in_ok-add-in-Some-top-clause-others c = c.in_ok-begin_with.ensures.others

pub returns-in_ok-add-in-Some-top-clause-kept : goal.returns-in_ok-add-in-Some-top-clause-kept
returns-in_ok-add-in-Some-top-clause-kept c k e at =
    subst (λ (es : List Edge). slice_get es k ≡ Some e) (sym c.in_ok-add-in-Some-top.ensures.edges)
    (kept_more c.args.self.now.watched.edges.items e _ k at)

pub returns-in_ok-add-in-Some-top-clause-ready : goal.returns-in_ok-add-in-Some-top-clause-ready
returns-in_ok-add-in-Some-top-clause-ready c d is none = cc (sym none ∙ c.in_ok-begin_with.ensures.at ∙ c.in-Some-top.is)

pub returns-in_ok-add-in-Some-top-clause-wait : goal.returns-in_ok-add-in-Some-top-clause-wait
returns-in_ok-add-in-Some-top-clause-wait c k e top at =
    let same : k ≡ c.in-Some-top.edge = cc (sym top ∙ c.in_ok-begin_with.ensures.at ∙ c.in-Some-top.is) in
    c.in-Some-top.ensures.left e (subst (λ n. slice_get c.args.self.now.edges.items n ≡ Some e) same at)

pub returns-in_ok-insert-in-None-clause-watched : goal.returns-in_ok-insert-in-None-clause-watched
returns-in_ok-insert-in-None-clause-watched c k e top at = absurd (cc (sym top ∙ c.in_ok-begin_with.ensures.at ∙ c.in-None.is))

pub returns-in_ok-insert-in-None-clause-wait : goal.returns-in_ok-insert-in-None-clause-wait
returns-in_ok-insert-in-None-clause-wait c k e top at = absurd (cc (sym top ∙ c.in_ok-begin_with.ensures.at ∙ c.in-None.is))
