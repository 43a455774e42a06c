use Rattle.std.proofs.Common.{rules, sym, ap, ◌∙◌, arith, reverse}
use Rattle.std.proofs.lemmas.Bool.{true≢false}
use Rattle.std.specs.Result.{is_ok}
use Rattle.sgt_model.specs.declared.event.Event.TheVariants.{Step}
use Rattle.sgt_model.specs.Databases.{contents_of}
use Rattle.sgt_model.specs.Configurations.{configuration}
use Rattle.sgt_model.specs.ShortReplies.{reply_with}
use Rattle.sgt_sched.specs.Scheduler.{state}
use Rattle.sgt_engine.specs.EngineView.{configuration_of}
use Rattle.sgt_engine.proofs.Ends.{spare_left, ends_seen}
use Rattle.sgt_engine.proofs.Entries.{added, same_configuration, short_with, kept_entry, entry_added, newest_added, too_old, legal_reply}
use Rattle.sgt_engine.proofs.Guaranteed.{guaranteed}
use Rattle.sgt_engine.proofs.engine.Engine.answer_step.Goals as goal

pub invariant_of-self-2 : goal.invariant_of-self-2
invariant_of-self-2 g c =
    let s = configuration (contents_of c.self.inside.opening) c.self.inside.sched.procedures c.self.inside.sched.limits in
    let kept = kept_entry c.calls_simulate.ensures s _ c.self.inside.history.entries c.push_step.new.self.entries (state c.self.inside.sched)
    (state c.answer_step.new.self) (Step c.args.t) (reply_with c.in_ok-reply.reply c.answer_step.new.lists)
    (same_configuration _ _ _ _ _ c.answer_step.ensures.done.kept.0 c.answer_step.ensures.done.kept.1)
    (added _ _ _ _ _ c.push_step.ensures.entries c.ensure_step_capacity.ensures.entries)
    (c.self.invariant.0, c.self.invariant.1) c.in_ok-reply.ensures.done.done in
    let left = spare_left (record {
      sound = c.states_are_sound.ensures;
      verdicts = c.verdicts_agree.ensures;
      nexts = c.nexts_agree.ensures;
      replies = c.endings_agree.ensures.replies;
      counts = c.endings_agree.ensures.counts;
    })
    (configuration (contents_of c.self.inside.opening) c.self.inside.sched.procedures c.self.inside.sched.limits)
    (reverse c.self.inside.history.entries) c.self.invariant.0 (state c.self.inside.sched) c.self.invariant.1 (Step c.args.t)
    (state c.answer_step.new.self) (reply_with c.in_ok-reply.reply c.answer_step.new.lists) c.ensure_step_capacity.new.history.spare
    c.in_ok-reply.ensures.done.done c.ensure_step_capacity.ensures.ends
    c.in_ok-ensure_step_capacity.ensures.spare in (
      kept.0,
      kept.1,
      omega (arith, left, c.push_step.ensures.spare),
      newest_added _ _ _ _ _ c.push_step.ensures.entries,
      too_old c.self.inside.opening _ _ _ c.self.inside.snapshot
          (added _ _ _ _ _ c.push_step.ensures.entries c.ensure_step_capacity.ensures.entries) c.self.invariant.4,
    )

pub returns-clause-guarantees : goal.returns-clause-guarantees
returns-clause-guarantees g c = guaranteed c.headline_holds.ensures _ (invariant_of-self-2 g c).0

pub returns-clause-adds : goal.returns-clause-adds
returns-clause-adds g c =
    let s = configuration (contents_of c.self.inside.opening) c.self.inside.sched.procedures c.self.inside.sched.limits in record {
      reply = reply_with c.in_ok-reply.reply c.answer_step.new.lists;
      is_short = short_with c.in_ok-reply.reply c.answer_step.new.lists;
      adds = entry_added c.self.inside.opening _ _ _ _ c.self.inside.history.entries c.push_step.new.self.entries (Step c.args.t)
          (reply_with c.in_ok-reply.reply c.answer_step.new.lists) c.args.self.now c.answer_step.ensures.done.kept.0 c.answer_step.ensures.done.kept.1
          (added _ _ _ _ _ c.push_step.ensures.entries c.ensure_step_capacity.ensures.entries) c.self.view_is;
      legal = legal_reply c.calls_simulate.ensures s _ (reverse c.self.inside.history.entries) _ (state c.self.inside.sched)
          (state c.answer_step.new.self) (Step c.args.t) (reply_with c.in_ok-reply.reply c.answer_step.new.lists) (ap configuration_of c.self.view_is)
          (ap (λ e. e.past) c.self.view_is) (c.self.invariant.0, c.self.invariant.1) c.in_ok-reply.ensures.done.done;
    }

pub returns-in_err-ensure_step_capacity-clause-no_memory : goal.returns-in_err-ensure_step_capacity-clause-no_memory
returns-in_err-ensure_step_capacity-clause-no_memory g c = λ r legal e.
    let ends = ends_seen (record {
      sound = c.states_are_sound.ensures;
      verdicts = c.verdicts_agree.ensures;
      nexts = c.nexts_agree.ensures;
      replies = c.endings_agree.ensures.replies;
      counts = c.endings_agree.ensures.counts;
    }) _ c.args.self.now c.self.view_is
    (state c.self.inside.sched) c.self.invariant.0 c.self.invariant.1 (Step c.args.t) r legal e in
    absurd (true≢false (sym (c.ensure_step_capacity.ensures.no_memory ends) ∙ ap is_ok c.in_err-ensure_step_capacity.was))

pub returns-in_err-reply-clause-no_memory : goal.returns-in_err-reply-clause-no_memory
returns-in_err-reply-clause-no_memory g c = λ r legal e.
    let ends = ends_seen (record {
      sound = c.states_are_sound.ensures;
      verdicts = c.verdicts_agree.ensures;
      nexts = c.nexts_agree.ensures;
      replies = c.endings_agree.ensures.replies;
      counts = c.endings_agree.ensures.counts;
    }) _ c.args.self.now c.self.view_is
    (state c.self.inside.sched) c.self.invariant.0 c.self.invariant.1 (Step c.args.t) r legal e in
    absurd (true≢false (sym (c.answer_step.ensures.no_memory ends) ∙ ap is_ok c.in_err-reply.was))

pub returns-in_err-ensure_step_capacity-clause-guarantees : goal.returns-in_err-ensure_step_capacity-clause-guarantees
returns-in_err-ensure_step_capacity-clause-guarantees g c = guaranteed c.headline_holds.ensures _ (search rules)

pub returns-in_err-reply-clause-guarantees : goal.returns-in_err-reply-clause-guarantees
returns-in_err-reply-clause-guarantees g c = guaranteed c.headline_holds.ensures _ (search rules)
