use Rattle.std.proofs.Common.{rules, ℕ, Some, sym, subst, ◌<◌, arith}
use Rattle.sgt_classes.specs.Seen.{height}
use Rattle.sgt_classes.specs.FirstAccesses.{IsLastFirst, AreReportedAbove}
use Rattle.sgt_classes.proofs.FirstConflicts.{conflicts_lower, conflicts_after, reported_from_last, last_within, reported_from, first_rival, reported_further, reported_by_repeated}
use Rattle.sgt_classes.proofs.conflicts.Conflicts.report_back.Goals as goal

pub loop-rival-init : goal.loop-rival-init
loop-rival-init c =
    let q = c.args.operations.now in
    let p = c.args.place in
    let last : IsLastFirst c.args.rivals.now.kind q p c.args.item c.last-rival.result =
    subst (λ o. IsLastFirst c.args.rivals.now.kind q p c.args.item o) (sym c.last-rival.ensures)
    (c.requires.firsts.tops_are c.args.item) in record {
      conflicts = conflicts_lower q p p _ _ _ (last_within _ q p c.args.item _ last) c.requires.conflicts;
      above = λ u b does. reported_from_last _ q _ p c.args.item u _ last;
    }

pub returns-then-earlier-reported : goal.returns-then-earlier-reported
returns-then-earlier-reported c =
    let q = c.args.operations.now in
    let p = c.args.place in
    let kind = c.args.rivals.now.kind in
    let es = c.loop-rival.self.edges.items in
    conflicts_after kind q p _ c.args.item _ _ c.loop-rival.invariant.conflicts c.requires.rivals
    (λ u k t b does within differ first.
    let above : AreReportedAbove kind q es p c.args.item u (Some c.in-Some.earlier) =
    subst (λ o. AreReportedAbove kind q es p c.args.item u o) c.in-Some.is (c.loop-rival.invariant.above u b does) in
    reported_by_repeated kind q p _ c.args.item c.in-Some.earlier c.args.reported u _ _ c.loop-rival.invariant.conflicts c.requires.repeated
    (search rules) above k t b does within differ first)

pub report-requires-clause-order : goal.report-requires-clause-order
report-requires-clause-order c =
    (reported_from _ c.args.operations.now _ c.args.place c.args.item c.in-Some.earlier _ c.requires.within c.in-Some.is
    c.loop-rival.invariant.above).0

pub report-requires-clause-rival : goal.report-requires-clause-rival
report-requires-clause-rival c =
    let at = (reported_from _ c.args.operations.now _ c.args.place c.args.item c.in-Some.earlier _ c.requires.within c.in-Some.is
    c.loop-rival.invariant.above).1 in
    first_rival _ c.args.operations.now c.args.place c.args.item c.in-Some.earlier at.0 c.requires.rivals at.1

pub loop-rival-smaller : goal.loop-rival-smaller
loop-rival-smaller c =
    let q = c.args.operations.now in
    let kind = c.args.rivals.now.kind in
    let i : ℕ = c.in-Some.earlier in
    let at = reported_from kind q _ c.args.place c.args.item i _ c.requires.within c.in-Some.is c.loop-rival.invariant.above in
    let lower : IsLastFirst kind q i c.args.item c.before-rival.result =
    subst (λ o. IsLastFirst kind q i c.args.item o) (sym c.before-rival.ensures)
    (c.requires.firsts.below_are i at.1.0 c.args.item at.0 at.1.1) in
    let most = last_within kind q i c.args.item _ lower in
    subst (λ o. height c.before-rival.result < height o) (sym c.in-Some.is) (omega (arith, most))

pub loop-rival-preserved : goal.loop-rival-preserved
loop-rival-preserved c =
    let q = c.args.operations.now in
    let p = c.args.place in
    let kind = c.args.rivals.now.kind in
    let es = c.loop-rival.self.edges.items in
    let i : ℕ = c.in-Some.earlier in
    let at = reported_from kind q es p c.args.item i _ c.requires.within c.in-Some.is c.loop-rival.invariant.above in
    let lower : IsLastFirst kind q i c.args.item c.before-rival.result =
    subst (λ o. IsLastFirst kind q i c.args.item o) (sym c.before-rival.ensures)
    (c.requires.firsts.below_are i at.1.0 c.args.item at.0 at.1.1) in record {
      conflicts = conflicts_lower q p i _ _ _ (last_within kind q i c.args.item _ lower) c.in_ok-report.ensures.conflicts;
      above = λ u b does. reported_further kind q es _ p c.args.item u i b _ does
          (subst (λ o. AreReportedAbove kind q es p c.args.item u o) c.in-Some.is (c.loop-rival.invariant.above u b does))
          c.in_ok-report.ensures.kept c.in_ok-report.ensures.here lower;
    }

pub returns : goal.returns
returns c =
    conflicts_after _ c.args.operations.now c.args.place _ c.args.item _ _ c.loop-rival.invariant.conflicts c.requires.rivals
    (λ u k t b does within differ first.
    (subst (λ o. AreReportedAbove c.args.rivals.now.kind c.args.operations.now c.loop-rival.self.edges.items c.args.place c.args.item u o)
    c.in_default.is (c.loop-rival.invariant.above u b does)) k t within differ first)
