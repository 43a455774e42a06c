use Rattle.std.proofs.Common.{reverse, sym, ap, ◌∙◌}
use Rattle.std.proofs.lemmas.List.{reverse-reverse}
use Rattle.std.proofs.lemmas.Bool.{false≢true}
use Rattle.sgt_audit.specs.Lives.{call_started}
use Rattle.sgt_audit.proofs.RowFacts.{lent, not_lent, unstarted, has_failed_of, not_failed}
use Rattle.sgt_audit.proofs.attempts.is_failed.Goals as goal

pub returns-then-life : goal.returns-then-life
returns-then-life c are =
    let lives = c.args.lives.now in
    let life = c.in-Some.life.now in
    let there = c.in-Some.ensures.lookup in
    let row = has_failed_of (reverse c.args.history.now.entries) lives are c.args.job.now c.args.t life
    (lent lives c.t.inside.0 c.args.t life there.3.0 there.1 c.t.view_is) c.if-life.true in
    let same = ap (λ h. call_started h life.started) (reverse-reverse c.args.history.now.entries) in
    ((λ t. row.1 (same ∙ c.is_started_for.ensures.0 t)), λ failed. c.is_started_for.ensures.1 (sym same ∙ row.0 failed))

pub returns-else-life : goal.returns-else-life
returns-else-life c are =
    let lives = c.args.lives.now in
    let life = c.in-Some.life.now in
    let there = c.in-Some.ensures.lookup in (
      (λ t. absurd (false≢true (sym c.if-life.false ∙ t))),
      λ failed. absurd (not_failed (reverse c.args.history.now.entries) lives are c.args.job.now c.args.t life
          (lent lives c.t.inside.0 c.args.t life there.3.0 there.1 c.t.view_is) c.if-life.false failed),
    )

pub returns-in-None : goal.returns-in-None
returns-in-None c are =
    let lives = c.args.lives.now in (
      (λ t. absurd (false≢true t)),
      λ failed. absurd (unstarted (reverse c.args.history.now.entries) lives are c.args.job.now c.args.t
          (not_lent lives c.t.inside.0 c.args.t c.in-None.ensures.lookup.3 c.t.view_is) failed.is_of),
    )
