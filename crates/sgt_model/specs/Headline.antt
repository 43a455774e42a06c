-- The headline.
use Rattle.std.specs.Prelude.{List}
use Rattle.sgt_model.specs.declared.entry.Entry.{Entry}
use Rattle.sgt_model.specs.Paths.{Acyclic}
use Rattle.sgt_model.specs.Pairs.{Pair}
use Rattle.sgt_model.specs.Configurations.{Configuration}
use Rattle.sgt_model.specs.Replay.{ReplayAgrees}
use Rattle.sgt_model.specs.Aborts.{AbortsHaveCause}
use Rattle.sgt_model.specs.CommitOrder.{CommitsInOrder}

-- Run the procedures of the committed and refused transactions one after another, in reply order, on the initial
-- database as a plain map. This gives each transaction the answers or the code that was reported, and ends in the
-- committed database. (If codes are reported at the step, none is refused, and the order is commit order.) The
-- serialization graph has no cycle. A transaction is aborted only if its step would close a cycle, it read from an
-- aborted one, its procedure raised a code, or its caller aborted it. Commit order agrees with the edges and with who
-- read from whom
pub record Headline (s : Configuration) (past : List Entry) : Type 0 where
  pub replay : ReplayAgrees s past
  pub no_cycle : Acyclic (Pair past)
  pub causes : AbortsHaveCause s past
  pub order : CommitsInOrder past
