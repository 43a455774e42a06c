use Rattle.std.proofs.Common.{ℕ, List, refl}
use Rattle.sgt_graph.specs.declared.verdict.Verdict.TheVariants.{Accepted}
use Rattle.sgt_graph.proofs.BitSteps.{inserts}
use Rattle.sgt_graph.proofs.bit_graph.BitGraphGraph.link.Goals as goal

pub returns-clause-pairs : goal.returns-clause-pairs
returns-clause-pairs c =
    let v : ℕ × List ℕ × List ℕ × List ℕ = c.args.self.now in
    inserts v.0 v.1 v.2 v.3 c.add_pairs.ensures.before c.args._t c.args.link.to c.args.link.from c.args._preds.now c.requires.planned.here
    c.requires.planned.exact (λ u m. (c.requires.preds u m).0) Accepted refl
    c.add_pairs.new.self.0 c.add_pairs.new.self.1 c.add_pairs.new.self.2 c.add_pairs.new.self.3 c.add_pairs.ensures.taken
    c.add_pairs.ensures.tids c.add_pairs.ensures.pairs c.add_pairs.ensures.graph
