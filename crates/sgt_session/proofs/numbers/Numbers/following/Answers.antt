use Rattle.std.proofs.Common.{◌≡◌, ◌+◌, ◌<◌, length, Some, slice_get, sym, ap, ◌∙◌, arith}
use Rattle.sgt_session.specs.Numbers.{numbers_of}
use Rattle.sgt_session.proofs.Counted.{numbers-length, counted-at}
use Rattle.sgt_session.proofs.numbers.Numbers.following.Goals as goal

pub overflow_add-self-inside : goal.overflow_add-self-inside
overflow_add-self-inside c =
    let n = c.self.inside in
    let long = numbers-length n.is_listed n.listed.items n.first n.count (omega (arith, n.listed.ok.0, c.self.invariant.2)) in
    let is = ap (λ v. length v.items) c.self.view_is in
    omega (arith, long, is, c.requires.there, c.self.invariant.1)

pub returns-then-self-place-clause-numbers : goal.returns-then-self-place-clause-numbers
returns-then-self-place-clause-numbers c k less =
    let n = c.self.inside in
    let long = numbers-length n.is_listed n.listed.items n.first n.count (omega (arith, n.listed.ok.0, c.self.invariant.2)) in
    let is = ap (λ v. length v.items) c.self.view_is in
    let within : c.args.place + k < n.count = omega (arith, long, is, less, c.requires.there) in
    let number : n.first + (c.args.place + k) ≡ c.args.number + k = omega (arith, c.if-self-place.true) in
    sym (ap (λ v. slice_get v.items (c.args.place + k)) c.self.view_is)
    ∙ ap (λ b. slice_get (numbers_of b n.listed.items n.first n.count) (c.args.place + k)) c.if-self.false
    ∙ counted-at n.first n.count (c.args.place + k) within
    ∙ ap Some number
