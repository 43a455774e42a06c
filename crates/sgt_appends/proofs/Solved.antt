-- What the sort of the graph shows.
use Rattle.std.proofs.Common.{◌≤◌, ◌<◌, ℕ, List, length, get_or, arith}
use Rattle.sgt_appends.specs.declared.sorting.Link.{Link}
use Rattle.sgt_appends.specs.declared.transaction.Transaction.{Transaction}
use Rattle.sgt_appends.specs.Runs.{IsSerialRun}
use Rattle.sgt_appends.specs.Precedences.{AppendsOnce}
use Rattle.sgt_appends.specs.Orders.{UnknownOnlyAppend, AllClean}
use Rattle.sgt_appends.specs.Graphs.{RiseAlong, AreOrdered, IsRound}
use Rattle.sgt_appends.specs.Indexes.{Positions, IsIndex}
use Rattle.sgt_appends.specs.Lines.{KeyLines, values_in, AreAllLines, KnowsNoMore}
use Rattle.sgt_appends.specs.Tables.{AreNotAborted}
use Rattle.sgt_appends.specs.Required.{AreAllLinked, end_rank}
use Rattle.sgt_appends.specs.Turns.{MakeEdges, IsLoop}
use Rattle.sgt_appends.proofs.ByRank.{raised_enough}
use Rattle.sgt_appends.proofs.Raises.{links_raise}
use Rattle.sgt_appends.proofs.Meant.{make_edges}
use Rattle.sgt_appends.proofs.Chosen.{by_rank}

-- ranks that rise along all links: an order
pub sorted_runs : (h : List Transaction) (at : Positions) (lines : KeyLines) (keys : List ℕ) (links : List Link) (nodes : ℕ)
    (ranks sorted order : List ℕ) → AppendsOnce h → UnknownOnlyAppend h → AllClean h → IsIndex h at → AreAllLines h lines keys
    → AreAllLinked h at lines keys links → length h ≤ nodes → RiseAlong links (λ v. get_or ranks v 0) → AreOrdered ranks sorted
    → ((v : ℕ) → v < nodes → 0 < get_or ranks v 0) → AreNotAborted h sorted order → IsSerialRun h order
sorted_runs h at lines keys links nodes ranks sorted order once unknown clean index are linked within rise ordered all chosen =
    raised_enough h order (λ v. get_or ranks v 0) (λ k. end_rank (λ v. get_or ranks v 0) (length h) (lines k)) (values_in lines) once
    unknown clean
    (links_raise h at lines keys links order (λ v. get_or ranks v 0) once clean index are linked rise chosen.may_run
    (λ t less. all t (omega (arith, less, within))))
    (by_rank h ranks sorted order ordered chosen (λ t less. all t (omega (arith, less, within))))

-- a cycle of links: a loop that makes edges
pub round_loops : (h : List Transaction) (at : Positions) (lines : KeyLines) (keys : List ℕ) (links cycle : List Link) → KnowsNoMore h lines
    → AreAllLinked h at lines keys links → IsRound links cycle → IsLoop cycle × MakeEdges h cycle
round_loops h at lines keys links cycle no_more linked round = (
  record { node = round.node; leads = round.leads; some = round.some },
  make_edges h lines keys cycle no_more (λ l is. linked.meant l (round.among l is)),
)
