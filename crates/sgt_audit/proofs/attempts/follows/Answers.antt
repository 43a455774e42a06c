use Rattle.std.proofs.lemmas.Bool.{false≢true, lt-ltb, ltb-true}
use Rattle.sgt_audit.proofs.RowFacts.{lent, never_ended, ends_before}
use Rattle.sgt_audit.proofs.attempts.follows.Goals as goal

pub returns-in-Some-ended : goal.returns-in-Some-ended
returns-in-Some-ended c past are =
    let lives = c.args.lives.now in
    let first = c.in-Some.first.now in
    let second = c.in-Some-get.second.now in
    let ended = c.in-Some-ended.ended in
    let there = c.in-Some.ensures.lookup in
    let there_too = c.in-Some-get.ensures.lookup in
    let before = ends_before past lives are c.args.first c.args.second first second ended
    (lent lives c.first.inside.0 c.args.first first there.3.0 there.1 c.first.view_is)
    (lent lives c.second.inside.0 c.args.second second there_too.3.0 there_too.1 c.second.view_is) c.in-Some-ended.is in
    ((λ t. before.0 (ltb-true ended second.started t)), λ b. lt-ltb ended second.started (before.1 b))

pub returns-in-None : goal.returns-in-None
returns-in-None c past are =
    let lives = c.args.lives.now in
    let first = c.in-Some.first.now in
    let there = c.in-Some.ensures.lookup in (
      (λ t. absurd (false≢true t)),
      λ before. absurd (never_ended past lives are c.args.first c.args.second first
          (lent lives c.first.inside.0 c.args.first first there.3.0 there.1 c.first.view_is) c.in-None.is before),
    )
