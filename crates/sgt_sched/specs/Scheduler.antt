-- What a scheduler holds, and what its calls do, by names that contracts can use.
use Rattle.std.specs.Prelude.{◌≡◌, ◌≢◌, ℕ, List, [], Option, IfSome, IsNone, Result, IfOk, OnErr}
use Rattle.sgt_cycle.specs.Path.{NoPath}
use Rattle.sgt_records.specs.declared.records.Records.{Ghosts as RecordsGhosts}
use Rattle.sgt_access.specs.declared.accesses.Accesses.{Ghosts as AccessesGhosts}
use Rattle.sgt_graph.specs.declared.graph.Graph.{Ghosts as GraphGhosts}
use Rattle.sgt_graph.specs.declared.verdict.Link.{Link}
use Rattle.sgt_model.specs.declared.limits.Asks.{Asks}
use Rattle.sgt_model.specs.declared.errors.NoMemory.{NoMemory}
use Rattle.sgt_model.specs.declared.short_reply.ReplyLists.{ReplyLists}
use Rattle.sgt_model.specs.declared.short_reply.ShortCause.TheVariants as cause
use Rattle.sgt_model.specs.declared.short_reply.ShortReply.TheVariants as short
use Rattle.sgt_model.specs.Sameness.{Same}
use Rattle.sgt_model.specs.Configurations.{Rules, rules_from}
use Rattle.sgt_model.specs.ShortReplies.{reply_with}
use Rattle.sgt_model.specs.State.{State}
use Rattle.sgt_sched.specs.Endings.{AbortsByCycle}
use Rattle.sgt_sched.specs.SchedulerView.{SchedulerView, state_of, view}
use Rattle.sgt_sched.specs.declared.sched.Sched.{Sched}

module _ {R A G : Type 0} {r : RecordsGhosts R} {a : AccessesGhosts A} {g : GraphGhosts G} where
  -- its parts
  abbrev pub parts : Sched R A G r a g → SchedulerView R A G
  parts s = view s.procedures s.limits s.records s.accesses s.graph s.live s.read_from.items s.fates.fates

  -- its state
  abbrev pub state : Sched R A G r a g → State
  state s = state_of r.chain r.settled a.list g.nodes g.pairs (parts s)

  -- the rules that it follows
  abbrev pub rules_of : Sched R A G r a g → Rules
  rules_of s = rules_from s.procedures s.limits

  -- when it reports codes
  abbrev pub asks_of : Sched R A G r a g → Asks
  asks_of s = s.limits.asks

  -- the procedures and limits stay
  abbrev pub Keeps : Sched R A G r a g → Sched R A G r a g → Type 0
  Keeps old new = (new.procedures ≡ old.procedures) × (new.limits ≡ old.limits)

  -- its state changes so, with this reply; nothing else changes
  pub record Turns {X : Type 0} (effect : State → X → State → Type 0) (old : Sched R A G r a g) (x : X)
      (new : Sched R A G r a g) : Type 0 where
    pub turn : effect (state old) x (state new)
    pub kept : Keeps old new

  -- the same, or an allocation failed, and nothing has changed
  pub record Tries {X : Type 0} (effect : State → X → State → Type 0) (old : Sched R A G r a g) (result : Result X NoMemory)
      (new : Sched R A G r a g) : Type 0 where
    pub done : IfOk result (λ x. effect (state old) x (state new))
    pub refused : OnErr result (Same (state old) (state new))
    pub kept : Keeps old new

  -- t was aborted, because a path leads from it to one of these, and the lists are those of this reply; or no path does, nothing
  -- has changed, and edges from these, if any, can be linked so
  pub record LinksOrAborts (t : ℕ) (rivals : List ℕ) (old : Sched R A G r a g) (before : ReplyLists) (link : Option Link)
      (lists : ReplyLists) (new : Sched R A G r a g) : Type 0 where
    pub closes : IsNone link → AbortsByCycle t rivals (state old) (reply_with (short.Aborted cause.Cycle) lists) (state new)
    pub free : IfSome link (λ l. (new ≡ old) × (lists ≡ before) × NoPath (state old).pairs t rivals
        × (rivals ≢ [] → g.is_planned old.graph t rivals l))
    pub kept : Keeps old new
