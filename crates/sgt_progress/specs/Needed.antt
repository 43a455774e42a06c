-- Which accesses are rejected, in the words of the graph.
use Rattle.std.specs.Prelude.{◌≡◌, ℕ, ℤ, Bool, true, false, ◌↔◌, List, ◌∷◌, ◌++◌}
use Rattle.sgt_model.specs.declared.event.Event.{Event}
use Rattle.sgt_model.specs.declared.event.Event.TheVariants.{Step, Access}
use Rattle.sgt_model.specs.declared.event.Request.{Request}
use Rattle.sgt_model.specs.declared.reply.Reply.{Reply}
use Rattle.sgt_model.specs.declared.reply.Reply.TheVariants as reply
use Rattle.sgt_model.specs.declared.reply.Cause.TheVariants as cause
use Rattle.sgt_model.specs.declared.entry.Entry.{Entry}
use Rattle.sgt_model.specs.declared.kind.Kind.{Kind}
use Rattle.sgt_model.specs.Contents.{Key}
use Rattle.sgt_model.specs.Paths.{Member, Acyclic}
use Rattle.sgt_model.specs.Traces.{Ends}
use Rattle.sgt_model.specs.Accesses.{access_of}
use Rattle.sgt_model.specs.Fates.{aborted, live}
use Rattle.sgt_model.specs.Pairs.{Pair}
use Rattle.sgt_model.specs.Closes.{Closes}
use Rattle.sgt_model.specs.Configurations.{Configuration}
use Rattle.sgt_model.specs.Progress.{requested, is_fit, next_of}
use Rattle.sgt_model.specs.Aborts.{Wants, IsAccessBy}
use Rattle.sgt_model.specs.Legality.{LegalReply}
use Rattle.sgt_model.specs.Laws.{InEach}

-- the reply rejects an access: it aborts the transaction for a cycle
abbrev pub is_rejection : Reply → Bool
is_rejection (reply.Aborted (cause.Cycle cycle) fell) = true
is_rejection _ = false

-- t's procedure is at its end, and this access on which its caller decided may be made: what it writes is a value, or none
pub record MayBeMade (s : Configuration) (past : List Entry) (t : ℕ) (d : Request) : Type 0 where
  pub answers : List ℤ
  pub end : next_of s past t ≡ Ends answers
  pub fit : is_fit d ≡ true

-- the event asks for an access of t of this kind of the key: its procedure's next one by a step, or one on which its caller decided
abbrev pub Requests : Configuration → List Entry → Event → ℕ → Key → Kind → Type 0
Requests s past (Step u) t k kind = (u ≡ t) × Wants (next_of s past t) k kind
Requests s past (Access u d) t k kind = (u ≡ t) × MayBeMade s past t d × Wants (requested d) k kind
Requests s past _ t k kind = ⊥

-- t is live, the event asks for this access of it and got this legal reply, and the entry e would make that access
pub record AccessAt (s : Configuration) (past : List Entry) (event : Event) (t : ℕ) (k : Key) (kind : Kind) (r : Reply) (e : Entry) : Type 0 where
  pub is_live : live past t ≡ true
  pub asks : Requests s past event t k kind
  pub legal : LegalReply s past event r
  pub makes : IsAccessBy (access_of e) t k kind

-- An access that would close a cycle, made all the same: however entries go on after it, legal or not, the graph has a cycle
-- as long as none of the cycle's members is aborted
abbrev pub ClosedCyclesStay : Type 0
ClosedCyclesStay = (past : List Entry) (t : ℕ) (k : Key) (kind : Kind) (rest : List ℕ) → Closes past t k kind rest
    → (e : Entry) → IsAccessBy (access_of e) t k kind → (later : List Entry)
    → ((u : ℕ) → Member u (t ∷ rest) → aborted (later ++ e ∷ past) u ≡ false) → Acyclic (Pair (later ++ e ∷ past)) → ⊥

-- an access, of a procedure or one on which a caller decided, is rejected exactly if the graph would have a cycle with it
abbrev pub CyclesAloneAreRejected : Type 0
CyclesAloneAreRejected = InEach (λ s past. (event : Event) (t : ℕ) (k : Key) (kind : Kind) (r : Reply) (e : Entry) → AccessAt s past event t k kind r e
    → (is_rejection r ≡ true) ↔ (Acyclic (Pair (e ∷ past)) → ⊥))
