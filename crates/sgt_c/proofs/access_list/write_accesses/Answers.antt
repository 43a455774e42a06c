use Rattle.std.proofs.Common.{length, sym, ap, subst, ◌∙◌, arith}
use Rattle.sgt_model.specs.Progress.{caller_access_in}
use Rattle.sgt_c.specs.AccessStructs.{HoldAccesses, accesses_of}
use Rattle.sgt_c.specs.ReplayedCalls.{past_at}
use Rattle.sgt_c.proofs.AccessLists.{next_accesses, rest_later}
use Rattle.sgt_c.proofs.access_list.write_accesses.Goals as goal

pub loop-place-preserved : goal.loop-place-preserved
loop-place-preserved c =
    let next = next_accesses c.args.history.now.entries c.loop-place.place c.args.t c.entry.result c.access_by.result c.entry.ensures.next
    c.access_by.ensures in
    let added = c.put-count.ensures.put (accesses_of (past_at c.args.history.now.entries c.loop-place.place) c.args.t)
    (caller_access_in c.entry.result.event c.entry.result.reply c.args.t) (sym c.loop-place.invariant.counted) c.loop-place.invariant.holds
    c.access_by.ensures in
    record {
      counted = added.1 ∙ ap length (sym next);
      holds = subst (HoldAccesses c.put-count.new.to) (sym next) added.0;
      few = omega (arith, c.put-count.ensures.step.1, c.loop-place.invariant.few);
      capacity = c.put-count.ensures.capacity ∙ c.loop-place.invariant.capacity;
      rest = c.put-count.ensures.rest
          ∙ rest_later c.loop-place.to c.args.to.now c.loop-place.count c.put-count.result c.put-count.ensures.step.0 c.loop-place.invariant.rest;
    }
