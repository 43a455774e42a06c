use Rattle.std.proofs.Common.{◌≡◌, ◌⊎◌, true, get_or, rules, sym, ◌∙◌}
use Rattle.std.proofs.lemmas.Option.{slice_get-get_or}
use Rattle.sgt_c.proofs.SelfWaits.{no_note, up_to}
use Rattle.sgt_c.proofs.shared.waiting.concerns.Goals as goal
use Rattle.sgt_c.proofs.shared.waiting.concerns.Goals.{else-set-i-via-then-set-i+else-counts, else-set-i-via-else-set-i}

pub loop-i-preserved : goal.loop-i-preserved
loop-i-preserved c j n less at there =
    up_to c.args.notes.now c.args.set.now (λ n. (c.args.is_cut ≡ true) ⊎ (n.thread ≡ c.args.thread) → ⊥) c.loop-i.i no_note
    (λ there it. elim c.else-set-i.branch [
      | else-set-i-via-then-set-i+else-counts w ↦ absurd (cc (sym (w.counts.ensures.1 it) ∙ w.if-counts.false))
      | else-set-i-via-else-set-i w ↦ absurd (cc (sym there ∙ w.if-set-i.false))
    ])
    c.loop-i.invariant j n less at there

pub returns-then-counts : goal.returns-then-counts
returns-then-counts c = (
  λ _. (
    c.loop-i.i,
    get_or c.args.notes.now c.loop-i.i no_note,
    slice_get-get_or c.args.notes.now c.loop-i.i no_note c.loop-i-test.true,
    c.if-set-i.true,
    c.counts.ensures.0 (search rules),
  ),
  λ _. search rules,
)
