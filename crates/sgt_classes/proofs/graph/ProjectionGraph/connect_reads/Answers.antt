use Rattle.std.proofs.Common.{ℕ, sym, subst}
use Rattle.sgt_classes.specs.declared.operation.Action.TheVariants.{Write}
use Rattle.sgt_classes.specs.Seen.{IsLastRead}
use Rattle.sgt_classes.proofs.Places.{there, done_at}
use Rattle.sgt_classes.proofs.Edges.{connected_at, read_conflict, read_lower, reads_begin, reads_go_on, reads_connected, writes_next, written_by}
use Rattle.sgt_classes.proofs.graph.ProjectionGraph.connect_reads.Goals as goal

pub loop-read-init : goal.loop-read-init
loop-read-init c =
    let q = c.args.operations.now in
    let p = c.args.place in
    let x : ℕ = c.in-Write.item in
    let own = done_at q p (Write x) c.requires.within c.in-Write.is in record {
      graph = c.requires.graph;
      kept = λ t u has. has;
      reads = reads_begin q _ p x _ _ own (subst (λ o. IsLastRead q p x o) (sym c.last_read-read.ensures)
          (c.requires.uses.reads.lasts_are x));
    }

pub connect-requires-clause-order : goal.connect-requires-clause-order
connect-requires-clause-order c = (connected_at c.args.operations.now c.loop-read.self.edges.items c.args.place c.in-Write.item
    c.in-Some.earlier _ c.requires.within c.in-Write.is c.in-Some.is c.loop-read.invariant.reads).0

pub connect-requires-clause-conflict : goal.connect-requires-clause-conflict
connect-requires-clause-conflict c =
    let q = c.args.operations.now in
    let p = c.args.place in
    let x : ℕ = c.in-Write.item in
    let above = connected_at q c.loop-read.self.edges.items p x c.in-Some.earlier _ c.requires.within c.in-Write.is c.in-Some.is
    c.loop-read.invariant.reads in
    read_conflict q p c.in-Some.earlier x above.1.0 _ (done_at q p (Write x) c.requires.within c.in-Write.is) above.1.1

pub loop-read-smaller : goal.loop-read-smaller
loop-read-smaller c =
    let q = c.args.operations.now in
    let x : ℕ = c.in-Write.item in
    let above = connected_at q c.loop-read.self.edges.items c.args.place x c.in-Some.earlier _ c.requires.within c.in-Write.is
    c.in-Some.is c.loop-read.invariant.reads in
    read_lower q c.in-Some.earlier x c.read_before-read.result _ c.in-Some.is
    (subst (λ o. IsLastRead q c.in-Some.earlier x o) (sym c.read_before-read.ensures)
    (c.requires.uses.reads.earlier_are _ above.1.0 x above.0 above.1.1))

pub loop-read-preserved : goal.loop-read-preserved
loop-read-preserved c =
    let q = c.args.operations.now in
    let x : ℕ = c.in-Write.item in
    let above = connected_at q c.loop-read.self.edges.items c.args.place x c.in-Some.earlier _ c.requires.within c.in-Write.is
    c.in-Some.is c.loop-read.invariant.reads in
    let lower = subst (λ o. IsLastRead q c.in-Some.earlier x o) (sym c.read_before-read.ensures)
    (c.requires.uses.reads.earlier_are _ above.1.0 x above.0 above.1.1) in record {
      graph = c.in_ok-connect.ensures.graph;
      kept = λ t u has. c.in_ok-connect.ensures.kept t u (c.loop-read.invariant.kept t u has);
      reads = reads_go_on q _ _ c.args.place x c.in-Some.earlier above.1.0 _ c.read_before-read.result
          (done_at q c.args.place (Write x) c.requires.within c.in-Write.is) above c.in_ok-connect.ensures.kept
          c.in_ok-connect.ensures.connected above.1.1 lower;
    }

pub returns-in_default-clause-conflicts : goal.returns-in_default-clause-conflicts
returns-in_default-clause-conflicts c = λ i t u x next read. absurd (c.in_default.not-Write x
    (written_by c.args.operations.now c.args.place u x _ (there c.args.operations.now c.args.place c.requires.within)
    (writes_next c.args.operations.now i t c.args.place u x next read)))

pub returns-clause-conflicts : goal.returns-clause-conflicts
returns-clause-conflicts c =
    reads_connected c.args.operations.now _ c.args.place c.loop-read.read c.in_default-read.is c.loop-read.invariant.reads

pub connect-requires-clause-graph : goal.connect-requires-clause-graph
connect-requires-clause-graph c = c.loop-read.invariant.graph
