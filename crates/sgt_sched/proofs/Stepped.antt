-- The effect of a call on a live transaction.
use Rattle.std.proofs.Common.{◌≡◌, ℕ, Bool, true, false, nat_lt, Option, Some, None, Result, Ok, Err, inl, refl, sym, subst}
use Rattle.std.specs.Prelude.{OnErr}
use Rattle.std.proofs.lemmas.Result.{IfOk-weaker}
use Rattle.sgt_records.specs.declared.records.Records.{Ghosts as RecordsGhosts}
use Rattle.sgt_access.specs.declared.accesses.Accesses.{Ghosts as AccessesGhosts}
use Rattle.sgt_graph.specs.declared.graph.Graph.{Ghosts as GraphGhosts}
use Rattle.sgt_model.specs.declared.errors.NoMemory.{NoMemory}
use Rattle.sgt_model.specs.declared.limits.Asks.{Asks}
use Rattle.sgt_model.specs.declared.event.Event.{Event}
use Rattle.sgt_model.specs.declared.event.Request.{Request}
use Rattle.sgt_model.specs.Progress.{requested, is_fit}
use Rattle.sgt_model.specs.declared.reply.Fate.{Fate}
use Rattle.sgt_model.specs.declared.reply.Reply.{Reply}
use Rattle.sgt_model.specs.Contents.{Key}
use Rattle.sgt_model.specs.Traces.{Next}
use Rattle.sgt_model.specs.Configurations.{Rules}
use Rattle.sgt_model.specs.Left.{next_left}
use Rattle.sgt_model.specs.State.{State}
use Rattle.sgt_model.specs.CallEffects.{IfOpen, CycleAbortEffect, StepOn, StepEffect, IfFit, RequestOn, RequestEffect, CommitOn, CommitEffect, CallEffect}
use Rattle.sgt_model.specs.declared.short_reply.ReplyLists.{ReplyLists}
use Rattle.sgt_model.specs.declared.short_reply.ShortReply.{ShortReply}
use Rattle.sgt_sched.specs.declared.operation.Operation.{Operation}
use Rattle.sgt_sched.specs.declared.operation.Operation.TheVariants as operation
use Rattle.sgt_sched.specs.declared.sched.Sched.{Sched}
use Rattle.sgt_sched.specs.Replies.{WithLists, WithAnyLists}
use Rattle.sgt_sched.specs.Operations.{kind_of, next_of}
use Rattle.sgt_sched.specs.Scheduler.{Tries}
use Rattle.sgt_sched.specs.Steps.{IsNotLiveBy}

-- what is done to one that was started and has not ended
pub if_unended : (b : Bool) (ended : Option Fate) (before : State) (r : Reply) (after : State) (X : Type 0) → b ≡ true → ended ≡ None → X
    → IfOpen b ended before r after X
if_unended b ended before r after X begun none x =
    subst (λ c. IfOpen c ended before r after X) (sym begun) (subst (λ o. IfOpen true o before r after X) (sym none) x)

-- what an event of one that is not live does, whatever it would do to a live one
pub not_live : (b : Bool) (ended : Option Fate) (before : State) (r : Reply) (X : Type 0) → IsNotLiveBy b ended r
    → IfOpen b ended before r before X
not_live false ended before r X reported = record { reply = reported; same = refl }
not_live true (Some f) before r X reported = record { reply = reported; same = refl }
not_live true None before r X reported = absurd reported

-- a step, by what comes next
pub steps_on : (asks : Asks) (t : ℕ) (before : State) (r : Reply) (after : State) (n : Next) → nat_lt t before.start_count ≡ true
    → before.fates t ≡ None
    → n ≡ next_left (before.left t) → StepOn asks t n before r after → StepEffect asks t before r after
steps_on asks t before r after n begun none next done = if_unended _ _ before r after _ begun none
    (subst (λ m. StepOn asks t m before r after) next done)

-- an access that the caller asks for, by what comes next
pub requests_on : (asks : Asks) (t : ℕ) (d : Request) (before : State) (r : Reply) (after : State) (n : Next)
    → nat_lt t before.start_count ≡ true → before.fates t ≡ None → n ≡ next_left (before.left t) → RequestOn asks t d n before r after
    → RequestEffect asks t d before r after
requests_on asks t d before r after n begun none next done = if_unended _ _ before r after _ begun none
    (subst (λ m. RequestOn asks t d m before r after) next done)

-- what is asked for is a value, if it is written; so it does what a step would that wants it
pub fit_does : (asks : Asks) (t : ℕ) (d : Request) (n : Next) (before : State) (r : Reply) (after : State) → is_fit d ≡ true → n ≡ requested d
    → StepOn asks t n before r after → IfFit (is_fit d) before r after (StepOn asks t (requested d) before r after)
fit_does asks t d n before r after fit same x = subst (λ b. IfFit b before r after (StepOn asks t (requested d) before r after)) (sym fit)
    (subst (λ m. StepOn asks t m before r after) same x)

-- a commit, by what comes next
pub commits_on : (asks : Asks) (t : ℕ) (before : State) (r : Reply) (after : State) (n : Next) → nat_lt t before.start_count ≡ true
    → before.fates t ≡ None
    → n ≡ next_left (before.left t) → CommitOn asks t n before r after → CommitEffect asks t before r after
commits_on asks t before r after n begun none next done = if_unended _ _ before r after _ begun none
    (subst (λ m. CommitOn asks t m before r after) next done)

module _ {R A G : Type 0} {r : RecordsGhosts R} {a : AccessesGhosts A} {g : GraphGhosts G} {old : Sched R A G r a g} where
  -- what an access does, as what a step does
  pub made : (effect more : State → Reply → State → Type 0) {new : Sched R A G r a g} (result : Result ShortReply NoMemory)
      → ((before : State) (reported : Reply) (after : State) → effect before reported after → more before reported after)
      → Tries (WithAnyLists effect) old result new → Tries (WithAnyLists more) old result new
  made effect more result also tries = record {
    done = IfOk-weaker result _ _ (λ r done lists. also _ _ _ (done lists)) tries.done;
    refused = tries.refused;
    kept = tries.kept;
  }

  -- the same effect of the same scheduler, with these lists
  pub made_with : (effect : State → Reply → State → Type 0) (lists : ReplyLists) {now new : Sched R A G r a g}
      (result : Result ShortReply NoMemory)
      → now ≡ old → Tries (WithAnyLists effect) now result new → Tries (WithLists effect lists) old result new
  made_with effect lists {new = new} result same tries = subst (λ s. Tries (WithLists effect lists) s result new) same (record {
    done = IfOk-weaker result _ _ (λ r done. done lists) tries.done;
    refused = tries.refused;
    kept = tries.kept;
  })

-- what holds holds where there is an error
pub whatever : {X E P : Type 0} (result : Result X E) → P → OnErr result P
whatever (Ok x) p = tt
whatever (Err e) p = p

-- a call on an event, which is this one
pub called : (rules : Rules) (before : State) (r : Reply) (after : State) (event is : Event) → event ≡ is
    → CallEffect rules is before r after → CallEffect rules event before r after
called rules before r after event is same done = subst (λ e. CallEffect rules e before r after) (sym same) done

-- an access that is blocked is rejected
pub rejected : (asks : Asks) (t : ℕ) (k : Key) (operation : Operation) (before : State) (r : Reply) (after : State)
    → CycleAbortEffect t k (kind_of operation) before r after → StepOn asks t (next_of k operation) before r after
rejected asks t k operation.Look before r after rejects = inl rejects
rejected asks t k (operation.Store v) before r after rejects = inl rejects
