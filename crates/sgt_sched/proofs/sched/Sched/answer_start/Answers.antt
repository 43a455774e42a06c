use Rattle.std.proofs.Common.{refl, None, ap, ◌∙◌, ◌++◌, ◌∷◌, []}
use Rattle.sgt_sched.proofs.Started.{start_new, is_named, start_capacity, start_done}
use Rattle.sgt_sched.specs.Scheduler.{parts, state}
use Rattle.sgt_sched.proofs.sched.Sched.answer_start.Goals as goal

pub returns-in-Err : goal.returns-in-Err
returns-in-Err g c = record { done = c.in-Err.ensures; refused = tt; kept = (refl, refl) }

pub at-checked-requires : goal.at-checked-requires
at-checked-requires g c = is_named (parts c.args.self.now) (state c.args.self.now) c.args.procedure c.in-Ok.t c.args.args.now
    c.in-Ok.ensures.0

pub add-requires-clause-new : goal.add-requires-clause-new
add-requires-clause-new g c =
    let admitted = c.in-Ok.ensures.1 in
    start_new c.args.self.now.kept c.args.procedure c.at-checked.result.now c.args.args.now c.in-Ok.t admitted.next

pub add-requires-clause-capacity : goal.add-requires-clause-capacity
add-requires-clause-capacity g c =
    let admitted = c.in-Ok.ensures.1 in
    start_capacity c.args.self.now.kept c.args.procedure c.at-checked.result.now c.args.args.now c.in-Ok.t admitted.next admitted.live

pub invariant_of-self-2 : goal.invariant_of-self-2
invariant_of-self-2 g c =
    let admitted = c.in-Ok.ensures.1 in
    record {
      kept = (start_done c.args.self.now.kept c.args.procedure c.at-checked.result.now c.args.args.now c.in-Ok.t admitted.next
          c.add.new.self c.start.new.self c.start-2.new.self.fates c.add.ensures.nodes c.add.ensures.pairs
          c.in_ok-start.ensures.ok (c.start-2.ensures ∙ ap (λ l. l ++ None ∷ []) c.reserve.ensures.same) c.at-checked.ensures admitted.live
          admitted.begins).0;
    }

pub returns : goal.returns
returns g c =
    let admitted = c.in-Ok.ensures.1 in
    let done = start_done c.args.self.now.kept c.args.procedure c.at-checked.result.now c.args.args.now c.in-Ok.t admitted.next c.add.new.self
    c.start.new.self c.start-2.new.self.fates c.add.ensures.nodes c.add.ensures.pairs
    c.in_ok-start.ensures.ok (c.start-2.ensures ∙ ap (λ l. l ++ None ∷ []) c.reserve.ensures.same) c.at-checked.ensures admitted.live
    admitted.begins in
    record {
      done = λ _. record { reply = c.in-Ok.ensures.0; does = done.1 };
      refused = tt;
      kept = (refl, refl);
    }
