use Rattle.std.proofs.Common.{◌≡◌, true, refl, sym, subst}
use Rattle.std.proofs.lemmas.Bool.{true≢false}
use Rattle.sgt_model.specs.AccessList.{lists_conflicting}
use Rattle.sgt_model.specs.CallEffects.{StepOn}
use Rattle.sgt_model.specs.Paths.{last_of}
use Rattle.sgt_sched.specs.Operations.{kind_of, next_of}
use Rattle.sgt_sched.specs.Scheduler.{asks_of}
use Rattle.sgt_sched.proofs.Accessed.{no_rivals, no_path}
use Rattle.sgt_sched.proofs.Stepped.{made_with, whatever}
use Rattle.sgt_sched.proofs.sched.Sched.access.Goals as goal

pub make_access-requires-clause-rivals : goal.make_access-requires-clause-rivals
make_access-requires-clause-rivals g c κs lives = no_rivals
    (g.A.Accesses.list c.args.self.now.accesses) c.args.t c.args.key (kind_of c.args.operation) c.new.result c.new.ensures
    (λ r. true≢false (sym (c.if-has_rival.ensures.exact.1 (
      r.0,
      r.1,
      subst (λ k. lists_conflicting (g.A.Accesses.list c.args.self.now.accesses) r.0 c.args.key k ≡ true)
          (sym c.parts-kind.ensures.kind) r.2,
    ))))

pub make_access-requires-clause-free : goal.make_access-requires-clause-free
make_access-requires-clause-free g c κs lives = no_path (g.G.Graph.pairs c.args.self.now.graph) c.args.t c.new.result
    c.new.ensures

pub make_access-requires-clause-planned : goal.make_access-requires-clause-planned
make_access-requires-clause-planned g c κs lives some = absurd (some c.new.ensures)
