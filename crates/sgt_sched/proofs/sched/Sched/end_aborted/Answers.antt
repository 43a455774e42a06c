use Rattle.sgt_model.specs.ShortReplies.{full_fate}
use Rattle.sgt_sched.proofs.Found.{no_fate}
use Rattle.sgt_sched.proofs.Ended.{kept_after, removes_after, fates_after}
use Rattle.sgt_sched.proofs.sched.Sched.end_aborted.Goals as goal

pub leave-requires : goal.leave-requires
leave-requires g c = record { rising = c.args.self.now.kept.rising }

pub end-requires : goal.end-requires
end-requires g c = record { live = no_fate c.args.self.now.kept c.args.t c.requires.live }

pub invariant_of-self : goal.invariant_of-self
invariant_of-self g c =
    record {
      kept = kept_after c.args.self.now.kept c.args.t c.requires.live
          (full_fate c.args.fate c.args.cycle.now) c.unwind.new.records c.unwind.new.accesses
          c.unwind.new.graph c.unwind.ensures.chain c.unwind.ensures.accesses c.unwind.ensures.nodes c.unwind.ensures.pairs
          c.leave.new.live c.leave.new.read_from.items _ c.leave.ensures.live c.leave.ensures.read_from c.end.ensures;
    }

pub returns-clause-ends : goal.returns-clause-ends
returns-clause-ends g c =
    let node = c.requires.live in
    let fates_are = c.end.ensures in
    record {
      removes = removes_after c.args.self.now.kept c.args.t node
          (full_fate c.args.fate c.args.cycle.now) c.unwind.new.records c.unwind.new.accesses c.unwind.new.graph
          c.unwind.ensures.chain c.unwind.ensures.accesses c.unwind.ensures.nodes c.unwind.ensures.pairs c.leave.new.live
          c.leave.new.read_from.items _ c.leave.ensures.live c.leave.ensures.read_from fates_are;
      settled = λ k. c.unwind.ensures.settled k;
      fates = fates_after c.args.self.now.kept c.args.t node
          (full_fate c.args.fate c.args.cycle.now) c.unwind.new.records c.unwind.new.accesses c.unwind.new.graph
          c.unwind.ensures.chain c.unwind.ensures.accesses c.unwind.ensures.nodes c.unwind.ensures.pairs c.leave.new.live
          c.leave.new.read_from.items _ c.leave.ensures.live c.leave.ensures.read_from fates_are;
    }
