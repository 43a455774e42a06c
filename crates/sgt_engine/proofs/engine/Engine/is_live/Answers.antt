use Rattle.std.proofs.Common.{sym, ◌∙◌}
use Rattle.sgt_model.specs.Fates.{live}
use Rattle.sgt_engine.proofs.LiveList.{any_is}
use Rattle.sgt_engine.proofs.engine.Engine.is_live.Goals as goal

pub returns : goal.returns
returns g c =
    let i = c.sched.ensures.state in
    let sound = c.states_are_sound.ensures _ _ c.history.ensures.guarantees.legal _ i in
    c.contains.ensures.value ∙ rw (c.as_slice.ensures, c.live.ensures.live) (any_is c.args.t _ (live c.args.self.now.past c.args.t)
    (λ e. (sound.listed c.args.t).0 (i.nodes c.args.t ∙ e), λ m. sym (i.nodes c.args.t) ∙ (sound.listed c.args.t).1 m))
