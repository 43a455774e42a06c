use Rattle.std.proofs.Common.{rules, ◌∙◌, ap, ◌∷◌}
use Rattle.sgt_proc_json.proofs.Places.{kept_all}
use Rattle.sgt_proc_json.proofs.place.Place.under.Goals as goal

pub returns : goal.returns
returns c =
    c.loop-next.invariant ∙ ap (λ l. c.args.position ∷ l)
    (kept_all c.len.result c.args.self.now c.as_slice.result.now c.min-kept.result c.loop-next.next-index (search rules) (search rules)
    (search rules) c.loop-next-test.false)
