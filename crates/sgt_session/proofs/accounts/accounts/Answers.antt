use Rattle.std.proofs.Common.{rules, ◌≡◌, length, refl, subst, arith}
use Rattle.sgt_session.proofs.Merging.{Checked, checks_first, checks_run, checks_last}
use Rattle.sgt_session.proofs.accounts.accounts.Goals as goal

pub loop-p-init : goal.loop-p-init
loop-p-init g c = (search rules, refl, checks_first c.args.history.now.entries c.args.sessions.now c.requires.0)

pub loop-p-preserved : goal.loop-p-preserved
loop-p-preserved g c = (
  search rules,
  search rules,
  checks_run c.args.history.now.entries c.args.sessions.now c.loop-p.p c.loop-p.at c.in-Some.run'.session c.in-Some.run'.count
      c.loop-p.invariant.2 c.in-Some.ensures.within c.in-Some.ensures.session
      (omega (arith, c.requires.0, c.loop-p.invariant.1)) c.in-Some.ensures.receipts,
)

pub returns : goal.returns
returns g c =
    let history = c.args.history.now.entries in
    let S = c.args.sessions.now in
    let all : c.loop-p.p ≡ length history = search rules in
    λ _. checks_last history S c.loop-p.at (subst (λ n. Checked history S n c.loop-p.at) all c.loop-p.invariant.2) c.requires.1
