use Rattle.std.proofs.Common.{rules, subst, sym}
use Rattle.sgt_model.specs.Legality.{Legal}
use Rattle.sgt_engine.specs.EngineView.{configuration_of}
use Rattle.sgt_c.proofs.Reruns.{taken_can_be_rerun}
use Rattle.sgt_c.proofs.replayed_calls.sgt_calls.Goals as goal

pub pass-passed-requires : goal.pass-passed-requires
pass-passed-requires c =
    (configuration_of c.deref.result.now.engine, subst (Legal (configuration_of c.deref.result.now.engine)) (sym c.history.ensures.entries) c.history.ensures.guarantees.legal)

pub returns-in-Some-passed-clause-again : goal.returns-in-Some-passed-clause-again
returns-in-Some-passed-clause-again c _ =
    taken_can_be_rerun c.reruns_agree.ensures.given c.args.engine.now.slot.held c.in-Some.held.value c.deref.result.now
    c.history.result.now.entries c.args.from c.pass-passed.new.to c.in-Some-passed.passed.count c.in-Some-passed.passed.next
    c.in-Some.ensures.taken (search rules) c.history.ensures.entries c.history.ensures.guarantees.legal c.in-Some-passed.ensures.passed
