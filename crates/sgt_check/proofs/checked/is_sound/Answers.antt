use Rattle.std.proofs.Common.{rules, subst, sym}
use Rattle.sgt_classes.specs.SerialOrders.{IsSerial}
use Rattle.sgt_check.proofs.Sound.{sound}
use Rattle.sgt_check.proofs.checked.is_sound.Goals as goal
use Rattle.sgt_check.proofs.checked.is_sound.Goals.{in-Serial, in_default}

pub returns-then-matches : goal.returns-then-matches
returns-then-matches c h exact first =
    elim c.match-matches.branch [
      | in-Serial w ↦ sound h c.args.shown.now c.args.recoverable.now c.is_none.result
          (subst (λ s. IsSerial s) (sym w.in-Serial.is) tt) c.is_none.ensures exact first
      | in_default w ↦ absurd (search rules)
    ]
