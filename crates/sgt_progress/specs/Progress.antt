-- What a history promises of how it goes on.
use Rattle.std.specs.Prelude.{◌≡◌, ℕ, ◌+◌, true, List, ◌++◌}
use Rattle.sgt_model.specs.declared.entry.Entry.{Entry}
use Rattle.sgt_model.specs.Fates.{live, fate_of}
use Rattle.sgt_model.specs.Pairs.{Pair}
use Rattle.sgt_model.specs.Paths.{Reaches, Acyclic}
use Rattle.sgt_model.specs.Configurations.{Configuration}
use Rattle.sgt_model.specs.Legality.{Legal}
use Rattle.sgt_model.specs.Laws.{InEach}
use Rattle.sgt_progress.specs.Moves.{CanMove, WaitsFor}
use Rattle.sgt_progress.specs.Alone.{IsAlone, AreNoQuitsOf, IsByItself}
use Rattle.sgt_progress.specs.Drains.{accesses_left, events_left, DrainsWithin, EndsWithin}

-- Each live transaction can move on, or a live one that it waits for, also through others, can; who waits for whom has
-- no cycle. Nothing is live after this many events, if none is started. The only live transaction ends within its
-- accesses and one event, and as long as no other is asked, neither by a cycle nor in cascade, whatever accesses its
-- caller decides on
pub record MakesProgress (s : Configuration) (past : List Entry) : Type 0 where
  pub no_deadlock : (t : ℕ) → live past t ≡ true → (u : ℕ) × (live past u ≡ true) × Reaches (Pair past) u t × CanMove s past u
  pub no_wait_cycle : Acyclic (WaitsFor s past)
  pub drains : DrainsWithin (events_left s past) s past
  pub alone_ends : (t : ℕ) → IsAlone past t → EndsWithin (accesses_left s past t + 1) s past t
  pub alone_by_itself : (t : ℕ) → IsAlone past t → (later : List Entry) → AreNoQuitsOf t later → Legal s (later ++ past)
      → IsByItself (fate_of (later ++ past) t)

-- each legal history makes progress
abbrev pub HistoriesMakeProgress : Type 0
HistoriesMakeProgress = InEach MakesProgress
