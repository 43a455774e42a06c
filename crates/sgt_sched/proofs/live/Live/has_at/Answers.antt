use Rattle.std.proofs.Common.{rules, ◌≡◌, ℕ, sym, ap, ◌∙◌, subst, Some, position}
use Rattle.sgt_model.specs.Paths.{Rising}
use Rattle.sgt_sched.specs.LiveProgress.{Progress}
use Rattle.sgt_sched.specs.LiveList.{numbers, has_number}
use Rattle.sgt_sched.proofs.Halves.{index_seen}
use Rattle.sgt_sched.proofs.live.Live.has_at.Goals as goal

pub returns : goal.returns
returns c equal =
    subst (λ l. position (has_number c.args.t) l ≡ Some c.args.index) c.live-live.ensures
    (index_seen c.args.t c.live-live.result.now c.args.index c.index-live-index.result
    (subst (λ l. Rising (numbers l)) (sym c.live-live.ensures) c.requires.rising) (search rules)
    (ap (λ (x : ℕ × Progress). x.0) (sym c.index-live-index.is) ∙ search rules))
