use Rattle.std.proofs.Common.{rules, ◌≡◌, ◌∙◌, None}
use Rattle.sgt_model.specs.Progress.{call_in}
use Rattle.sgt_explain.proofs.StartingCalls.{no_call_here, no_call_more}
use Rattle.sgt_explain.proofs.call.call_before.Goals as goal

pub loop-at-preserved : goal.loop-at-preserved
loop-at-preserved c =
    let none : call_in c.entry.result.event c.entry.result.reply c.args.t ≡ None = search rules in
    record {
      within = search rules;
      none_since = c.loop-at.invariant.none_since
          ∙ no_call_here c.args.history.now c.loop-at.at c.args.t c.entry.result (search rules) c.entry.ensures.entry none;
      none = no_call_more c.args.history.now c.args.place c.loop-at.at c.args.t c.entry.result (search rules)
          c.entry.ensures.entry none c.loop-at.invariant.none;
    }
