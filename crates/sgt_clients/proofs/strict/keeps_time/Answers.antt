use Rattle.std.proofs.Common.{rules, ◌≡◌, ◌≤◌, ◌+◌, ℕ, [], ◌∷◌, ◌++◌, take, get_or, length, subst, sym, arith, take_all}
use Rattle.std.proofs.lemmas.List.{take_more}
use Rattle.sgt_clients.proofs.RealTime.{IsKept, none_kept, kept_one, keeps_time}
use Rattle.sgt_clients.proofs.strict.keeps_time.Goals as goal

pub loop-number-init : goal.loop-number-init
loop-number-init c = none_kept c.args.spans.now 0

pub loop-number-preserved : goal.loop-number-preserved
loop-number-preserved c =
    let t : ℕ = get_or c.args.order.now c.loop-number.number-index 0 in
    let longer : take (c.loop-number.number-index + 1) c.args.order.now ≡ take c.loop-number.number-index c.args.order.now ++ t ∷ [] =
    take_more c.args.order.now c.loop-number.number-index 0 (search rules) in
    subst (λ ts. IsKept c.args.spans.now ts c.in-Some.later) (sym longer)
    (kept_one c.args.spans.now (take c.loop-number.number-index c.args.order.now) t c.loop-number.latest c.in-Some.later
    c.loop-number.invariant c.in-Some.ensures)

pub returns : goal.returns
returns c = λ yes.
    let all : length c.args.order.now ≤ c.loop-number.number-index = omega (arith, c.loop-number-test.false) in
    keeps_time c.args.spans.now c.args.order.now c.loop-number.latest
    (subst (λ ts. IsKept c.args.spans.now ts c.loop-number.latest) (take_all c.loop-number.number-index c.args.order.now all)
    c.loop-number.invariant)
