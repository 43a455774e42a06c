use Rattle.std.proofs.Common.{rules, sym, ◌∙◌}
use Rattle.sgt_c.specs.SelfWaits.{IsHeldUp}
use Rattle.sgt_c.proofs.SelfWaits.{no_note, up_to}
use Rattle.sgt_c.proofs.shared.waiting.first_free.Goals as goal
use Rattle.sgt_c.proofs.shared.waiting.first_free.Goals.{else-set-i-via-then-set-i+else-not-is_held_up, else-set-i-via-else-set-i}

pub loop-i-preserved : goal.loop-i-preserved
loop-i-preserved c =
    up_to c.args.notes.now c.args.set.now (IsHeldUp c.args.notes.now c.args.cuts c.args.set.now) c.loop-i.i no_note
    (λ there. elim c.else-set-i.branch [
      | else-set-i-via-then-set-i+else-not-is_held_up w ↦ w.is_held_up.ensures.0 (search rules)
      | else-set-i-via-else-set-i w ↦ absurd (cc (sym there ∙ w.if-set-i.false))
    ])
    c.loop-i.invariant
