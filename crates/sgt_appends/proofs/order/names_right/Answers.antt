use Rattle.std.proofs.Common.{rules, ◌≡◌, ◌+◌, ℕ, [], ◌∷◌, ◌++◌, Some, true, take, get_or, subst, sym, arith}
use Rattle.std.specs.Prelude.{slice_get, slice_set}
use Rattle.std.proofs.lemmas.Grind.{common_steps}
use Rattle.std.proofs.lemmas.Option.{gets, slice_get_within}
use Rattle.std.proofs.lemmas.List.{take_more}
use Rattle.sgt_appends.specs.Tables.{IsNamed}
use Rattle.sgt_appends.proofs.Marks.{named_one}
use Rattle.sgt_appends.proofs.order.names_right.Goals as goal

pub loop-number-preserved : goal.loop-number-preserved
loop-number-preserved c =
    let t : ℕ = get_or c.args.order.now c.loop-number.number-index 0 in
    let longer : take (c.loop-number.number-index + 1) c.args.order.now ≡ take c.loop-number.number-index c.args.order.now ++ t ∷ [] =
    take_more c.args.order.now c.loop-number.number-index 0 (search rules) in
    let there : slice_get c.args.history.now t ≡ Some c.in-Some.transaction.now =
    grind (arith, common_steps, gets, c.in-Some.ensures.lookup) in
    subst (λ ts. IsNamed c.args.history.now ts (slice_set c.loop-number.named t true)) (sym longer)
    (named_one c.args.history.now (take c.loop-number.number-index c.args.order.now) c.loop-number.named t c.in-Some.transaction.now
    c.loop-number.invariant (slice_get_within c.args.history.now t c.in-Some.transaction.now there) c.if-named-number.false there
    (λ e. grind (arith, common_steps, rw e at c.eq.ensures)))
