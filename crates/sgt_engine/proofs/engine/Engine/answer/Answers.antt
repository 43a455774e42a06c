use Rattle.std.proofs.Common.{rules, sym, ap, ◌∙◌, arith, reverse}
use Rattle.std.proofs.lemmas.Bool.{true≢false}
use Rattle.std.specs.Result.{is_ok}
use Rattle.sgt_model.specs.Databases.{contents_of}
use Rattle.sgt_model.specs.Configurations.{configuration}
use Rattle.sgt_model.specs.ShortReplies.{reply_with}
use Rattle.sgt_sched.specs.Scheduler.{state}
use Rattle.sgt_engine.specs.EngineView.{configuration_of}
use Rattle.sgt_engine.proofs.Alone.{undisturbed, legal_before}
use Rattle.sgt_engine.proofs.Ends.{spare_left, ends_seen}
use Rattle.sgt_engine.proofs.Entries.{added, same_configuration, short_with, kept_entry, entry_added, newest_added, too_old, legal_reply}
use Rattle.sgt_engine.proofs.Guaranteed.{guaranteed}
use Rattle.sgt_engine.proofs.engine.Engine.answer.Goals as goal

pub invariant_of-self-2 : goal.invariant_of-self-2
invariant_of-self-2 g c =
    let s = configuration (contents_of c.self.inside.opening) c.self.inside.sched.procedures c.self.inside.sched.limits in
    let kept = kept_entry c.calls_simulate.ensures s _ c.self.inside.history.entries c.push.new.self.entries (state c.self.inside.sched)
    (state c.answer.new.self) c.args.event.now (reply_with c.answer.new.reply c.answer.new.lists)
    (same_configuration _ _ _ _ _ c.answer.ensures.done.kept.0 c.answer.ensures.done.kept.1)
    (added _ _ _ _ _ c.push.ensures.entries c.ensure_capacity.ensures.entries)
    (c.self.invariant.0, c.self.invariant.1) c.in_ok-answer.ensures.done.done in
    let left = spare_left (record {
      sound = c.states_are_sound.ensures;
      verdicts = c.verdicts_agree.ensures;
      nexts = c.nexts_agree.ensures;
      replies = c.endings_agree.ensures.replies;
      counts = c.endings_agree.ensures.counts;
    })
    (configuration (contents_of c.self.inside.opening) c.self.inside.sched.procedures c.self.inside.sched.limits)
    (reverse c.self.inside.history.entries) c.self.invariant.0 (state c.self.inside.sched) c.self.invariant.1 c.args.event.now
    (state c.answer.new.self) (reply_with c.answer.new.reply c.answer.new.lists) c.ensure_capacity.new.history.spare
    c.in_ok-answer.ensures.done.done c.ensure_capacity.ensures.ends
    c.in_ok-ensure_capacity.ensures.spare in (
      kept.0,
      kept.1,
      omega (arith, left, c.push.ensures.spare),
      newest_added _ _ _ _ _ c.push.ensures.entries,
      too_old c.self.inside.opening _ _ _ c.self.inside.snapshot
          (added _ _ _ _ _ c.push.ensures.entries c.ensure_capacity.ensures.entries) c.self.invariant.4,
    )

pub returns-clause-guarantees : goal.returns-clause-guarantees
returns-clause-guarantees g c = guaranteed c.headline_holds.ensures _ (invariant_of-self-2 g c).0

pub returns-clause-adds : goal.returns-clause-adds
returns-clause-adds g c =
    let s = configuration (contents_of c.self.inside.opening) c.self.inside.sched.procedures c.self.inside.sched.limits in record {
      reply = reply_with c.answer.new.reply c.answer.new.lists;
      is_short = short_with c.answer.new.reply c.answer.new.lists;
      adds = entry_added c.self.inside.opening _ _ _ _ c.self.inside.history.entries c.push.new.self.entries c.args.event.now
          (reply_with c.answer.new.reply c.answer.new.lists) c.args.self.now c.answer.ensures.done.kept.0 c.answer.ensures.done.kept.1
          (added _ _ _ _ _ c.push.ensures.entries c.ensure_capacity.ensures.entries) c.self.view_is;
      legal = legal_reply c.calls_simulate.ensures s _ (reverse c.self.inside.history.entries) _ (state c.self.inside.sched)
          (state c.answer.new.self) c.args.event.now (reply_with c.answer.new.reply c.answer.new.lists) (ap configuration_of c.self.view_is)
          (ap (λ e. e.past) c.self.view_is) (c.self.invariant.0, c.self.invariant.1) c.in_ok-answer.ensures.done.done;
    }

pub returns-in_err-ensure_capacity-clause-no_memory : goal.returns-in_err-ensure_capacity-clause-no_memory
returns-in_err-ensure_capacity-clause-no_memory g c = λ r legal e.
    let ends = ends_seen (record {
      sound = c.states_are_sound.ensures;
      verdicts = c.verdicts_agree.ensures;
      nexts = c.nexts_agree.ensures;
      replies = c.endings_agree.ensures.replies;
      counts = c.endings_agree.ensures.counts;
    }) _ c.args.self.now c.self.view_is
    (state c.self.inside.sched) c.self.invariant.0 c.self.invariant.1 c.args.event.now r legal e in
    absurd (true≢false (sym (c.ensure_capacity.ensures.no_memory ends) ∙ ap is_ok c.in_err-ensure_capacity.was))

pub returns-in_err-answer-clause-no_memory : goal.returns-in_err-answer-clause-no_memory
returns-in_err-answer-clause-no_memory g c = λ r legal e.
    let ends = ends_seen (record {
      sound = c.states_are_sound.ensures;
      verdicts = c.verdicts_agree.ensures;
      nexts = c.nexts_agree.ensures;
      replies = c.endings_agree.ensures.replies;
      counts = c.endings_agree.ensures.counts;
    }) _ c.args.self.now c.self.view_is
    (state c.self.inside.sched) c.self.invariant.0 c.self.invariant.1 c.args.event.now r legal e in
    absurd (true≢false (sym (c.answer.ensures.no_memory ends) ∙ ap is_ok c.in_err-answer.was))

pub push-requires : goal.push-requires
push-requires g c =
    let left = spare_left (record {
      sound = c.states_are_sound.ensures;
      verdicts = c.verdicts_agree.ensures;
      nexts = c.nexts_agree.ensures;
      replies = c.endings_agree.ensures.replies;
      counts = c.endings_agree.ensures.counts;
    })
    (configuration (contents_of c.self.inside.opening) c.self.inside.sched.procedures c.self.inside.sched.limits)
    (reverse c.self.inside.history.entries) c.self.invariant.0 (state c.self.inside.sched) c.self.invariant.1 c.args.event.now
    (state c.answer.new.self) (reply_with c.answer.new.reply c.answer.new.lists) c.ensure_capacity.new.history.spare
    c.in_ok-answer.ensures.done.done c.ensure_capacity.ensures.ends
    c.in_ok-ensure_capacity.ensures.spare in
    omega (arith, left)

pub returns-clause-alone : goal.returns-clause-alone
returns-clause-alone g c = λ t alone of_t r same. let done = returns-clause-adds g c in
    undisturbed (configuration_of c.args.self.now) c.args.self.now.past (legal_before c.self.view_is c.self.invariant.0) t alone
    c.args.event.now of_t done.reply r
    (done.is_short ∙ sym same) done.legal

pub returns-in_err-ensure_capacity-clause-guarantees : goal.returns-in_err-ensure_capacity-clause-guarantees
returns-in_err-ensure_capacity-clause-guarantees g c = guaranteed c.headline_holds.ensures _ (search rules)

pub returns-in_err-answer-clause-guarantees : goal.returns-in_err-answer-clause-guarantees
returns-in_err-answer-clause-guarantees g c = guaranteed c.headline_holds.ensures _ (search rules)
