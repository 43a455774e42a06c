use Rattle.std.proofs.Common.{[], ◌∷◌, ◌++◌, ap₂, ◌∙◌, arith}
use Rattle.std.proofs.lemmas.List.{replicate_more}
use Rattle.sgt_session.proofs.new.first_sessions.Goals as goal

pub loop-i-preserved : goal.loop-i-preserved
loop-i-preserved g c =
    let before = c.loop-i.invariant in (
      omega (arith, c.split_off.ensures.parts_left, before.0),
      omega (arith, c.split_off.ensures.amount_left, before.1),
      c.push_reserved.ensures.items ∙ ap₂ (λ l s. l ++ s ∷ []) before.2 c.new.ensures ∙ replicate_more c.loop-i._i [],
      omega (arith, c.push_reserved.ensures.capacity, before.3),
    )
