use Rattle.std.proofs.Common.{rules, ◌≤◌, ◌+◌, ◌∙◌, length, ap, sym, subst, arith}
use Rattle.sgt_timeline.specs.Drawn.{AreRising}
use Rattle.sgt_timeline.proofs.Rising.{rising_more, rising_below, one_more}
use Rattle.sgt_timeline.proofs.drawn.places_in.Goals as goal
use Rattle.sgt_timeline.proofs.drawn.places_in.Goals.{then-len-lt-MOST+then-contains+in_ok-push, else-len-lt-MOST}

pub loop-place-preserved : goal.loop-place-preserved
loop-place-preserved c =
    let at = c.loop-place.place-counter in
    let same = rising_below 0 c.loop-place.places.items at (at + 1) c.loop-place.invariant.once (omega arith) in
    let more = rising_more 0 c.loop-place.places.items at c.loop-place.invariant.once in
    elim c.if-len-lt-MOST.branch [
      | then-len-lt-MOST+then-contains+in_ok-push w ↦ record {
        once = subst (λ l. AreRising 0 l (at + 1)) (sym (ap (λ v. v.items) w.places-is ∙ w.in_ok-push.ensures.items)) more;
        few = subst (λ l. length l ≤ 400) (sym (ap (λ v. v.items) w.places-is ∙ w.in_ok-push.ensures.items))
            (one_more c.loop-place.places.items at (search rules));
      }
      | else-len-lt-MOST w ↦ record {
        once = subst (λ v. AreRising 0 v.items (at + 1)) (sym w.places-is) same;
        few = subst (λ v. length v.items ≤ 400) (sym w.places-is) c.loop-place.invariant.few;
      }
    ]
