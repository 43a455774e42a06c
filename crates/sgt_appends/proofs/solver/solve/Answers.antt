use Rattle.std.proofs.Common.{rules, ◌≡◌, ◌+◌, ◌<◌, ℕ, length, get_or, sym, subst, arith}
use Rattle.sgt_appends.specs.Graphs.{AreWithin, IsRound, RiseAlong, AreOrdered}
use Rattle.sgt_appends.specs.Indexes.{position_of}
use Rattle.sgt_appends.specs.Lines.{line_in, keys_in}
use Rattle.sgt_appends.specs.Tables.{AreNotAborted}
use Rattle.sgt_appends.specs.Turns.{MakeEdges, IsLoop}
use Rattle.sgt_appends.proofs.Versions.{lines_indexed}
use Rattle.sgt_appends.proofs.Meant.{meant_within}
use Rattle.sgt_appends.proofs.Solved.{sorted_runs, round_loops}
use Rattle.sgt_appends.proofs.solver.solve.Goals as goal

pub links_of-requires : goal.links_of-requires
links_of-requires c = record {
  index = c.requires.index;
  clean = c.requires.clean;
  numbered = c.in_ok-lines.ensures.lines.numbered;
  indexed = lines_indexed c.args.history.now (position_of c.args.appends.now) (line_in c.in_ok-lines.lines) c.requires.index
      c.in_ok-lines.ensures.written;
  fits = omega (arith, c.in-Some.ensures.0, c.len.ensures);
}

pub sort-requires : goal.sort-requires
sort-requires c =
    let nodes : c.in-Some.nodes ≡ length c.args.history.now + length (keys_in c.in_ok-lines.lines) =
    omega (arith, c.in-Some.ensures.1, c.len.ensures) in
    subst (λ ls. AreWithin ls c.in-Some.nodes) (sym c.as_slice.ensures.value)
    (subst (λ n. AreWithin c.in_ok-links.links.items n) (sym nodes)
    (meant_within c.args.history.now (line_in c.in_ok-lines.lines) (keys_in c.in_ok-lines.lines) c.in_ok-links.links.items
    c.in_ok-links.ensures.meant))

pub edges_of-requires-clause-round : goal.edges_of-requires-clause-round
edges_of-requires-clause-round c =
    let round : IsRound c.as_slice.result.now c.in-Err.cycle.items = search rules in
    subst (λ ls. IsLoop ls) (sym c.as_slice-in-Err.ensures.value)
    (round_loops c.args.history.now (position_of c.args.appends.now) (line_in c.in_ok-lines.lines) (keys_in c.in_ok-lines.lines)
    c.in_ok-links.links.items c.in-Err.cycle.items c.in_ok-lines.ensures.longest c.in_ok-links.ensures
    (subst (λ ls. IsRound ls c.in-Err.cycle.items) c.as_slice.ensures.value round)).0

pub edges_of-requires-clause-edges : goal.edges_of-requires-clause-edges
edges_of-requires-clause-edges c =
    let round : IsRound c.as_slice.result.now c.in-Err.cycle.items = search rules in
    subst (λ ls. MakeEdges c.args.history.now ls) (sym c.as_slice-in-Err.ensures.value)
    (round_loops c.args.history.now (position_of c.args.appends.now) (line_in c.in_ok-lines.lines) (keys_in c.in_ok-lines.lines)
    c.in_ok-links.links.items c.in-Err.cycle.items c.in_ok-lines.ensures.longest c.in_ok-links.ensures
    (subst (λ ls. IsRound ls c.in-Err.cycle.items) c.as_slice.ensures.value round)).1

pub returns-in-Ok-clause-order : goal.returns-in-Ok-clause-order
returns-in-Ok-clause-order c =
    let ranks = c.in-Ok.sorted.ranks.items in
    let rise : RiseAlong c.as_slice.result.now (λ v. get_or ranks v 0) = search rules in
    let ordered : AreOrdered ranks c.in-Ok.sorted.order.items = search rules in
    let all : (v : ℕ) → v < c.in-Some.nodes → 0 < get_or ranks v 0 = search rules in
    sorted_runs c.args.history.now (position_of c.args.appends.now) (line_in c.in_ok-lines.lines) (keys_in c.in_ok-lines.lines)
    c.in_ok-links.links.items c.in-Some.nodes ranks c.in-Ok.sorted.order.items c.in_ok-not_aborted-in-Ok.field-0.items c.requires.once
    c.requires.unknown c.requires.clean c.requires.index c.in_ok-lines.ensures.lines c.in_ok-links.ensures
    (omega (arith, c.in-Some.ensures.1))
    (subst (λ ls. RiseAlong ls (λ v. get_or ranks v 0)) c.as_slice.ensures.value rise) ordered all
    (subst (λ ns. AreNotAborted c.args.history.now ns c.in_ok-not_aborted-in-Ok.field-0.items) c.as_slice-in-Ok.ensures.value
    c.in_ok-not_aborted-in-Ok.ensures)
