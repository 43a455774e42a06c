use Rattle.std.proofs.Common.{◌<◌, length, slice_get, sym, ap, ◌∙◌, arith}
use Rattle.sgt_session.specs.Numbers.{numbers_of}
use Rattle.sgt_session.proofs.Counted.{numbers-length, counted-at}
use Rattle.sgt_session.proofs.numbers.Numbers.at.Goals as goal

pub overflow_add-result : goal.overflow_add-result
overflow_add-result c =
    let n = c.self.inside in
    let long = numbers-length n.is_listed n.listed.items n.first n.count (omega (arith, n.listed.ok.0, c.self.invariant.2)) in
    let is = ap (λ v. length v.items) c.self.view_is in
    omega (arith, long, is, c.requires, c.self.invariant.1)

pub returns : goal.returns
returns c =
    let n = c.self.inside in
    let long = numbers-length n.is_listed n.listed.items n.first n.count (omega (arith, n.listed.ok.0, c.self.invariant.2)) in
    let is = ap (λ v. length v.items) c.self.view_is in
    let within : c.args.place < n.count = omega (arith, long, is, c.requires) in
    sym (ap (λ v. slice_get v.items c.args.place) c.self.view_is)
    ∙ ap (λ b. slice_get (numbers_of b n.listed.items n.first n.count) c.args.place) c.if-self.false
    ∙ counted-at n.first n.count c.args.place within
