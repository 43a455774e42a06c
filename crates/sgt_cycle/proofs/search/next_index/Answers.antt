use Rattle.std.proofs.Common.{◌≡◌, ℕ, true, sym, subst, eqb-true}
use Rattle.sgt_cycle.specs.Links.{is_link}
use Rattle.sgt_cycle.proofs.Links.{link_at}
use Rattle.sgt_cycle.proofs.search.next_index.Goals as goal

pub returns-in-Some-clause-link : goal.returns-in-Some-clause-link
returns-in-Some-clause-link c =
    let r : ℕ × ℕ = c.link-item.result in
    let link : is_link c.args.links.now r.0 r.1 ≡ true = subst (λ x. is_link c.args.links.now x.0 x.1 ≡ true) (sym c.link-item.is)
    (link_at c.args.links.now c.loop-link.link-index r c.loop-link-test.true) in
    let same : r.0 ≡ c.args.from = eqb-true r.0 c.args.from (sym c.if-eq.ensures) in
    rw (← same, c.in-Some.ensures.some.1) link
