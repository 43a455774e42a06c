-- The laws of the state, each by name: an engine's proof rests on these.
use Rattle.std.specs.Prelude.{◌≡◌, ℕ, true, ◌↔◌, List, [], ◌∷◌}
use Rattle.sgt_model.specs.declared.event.Event.{Event}
use Rattle.sgt_model.specs.declared.reply.Reply.{Reply}
use Rattle.sgt_model.specs.declared.entry.Entry.{Entry}
use Rattle.sgt_model.specs.declared.kind.Kind.{Kind}
use Rattle.sgt_model.specs.Contents.{Key}
use Rattle.sgt_model.specs.Fates.{live}
use Rattle.sgt_model.specs.Closes.{Closes}
use Rattle.sgt_model.specs.Configurations.{Configuration}
use Rattle.sgt_model.specs.Progress.{next_of}
use Rattle.sgt_model.specs.Left.{next_left}
use Rattle.sgt_model.specs.Legality.{LegalReply}
use Rattle.sgt_model.specs.Laws.{InEach}
use Rattle.sgt_model.specs.State.{State}
use Rattle.sgt_model.specs.StateAfter.{IsStateAfter}
use Rattle.sgt_model.specs.Blocks.{Blocks}
use Rattle.sgt_model.specs.CallEffects.{CallEffect}
use Rattle.sgt_model.specs.Soundness.{Sound}
use Rattle.sgt_model.specs.NewState.{IsNew}

-- what holds of every legal history with the state after it
abbrev pub InEachState : (Configuration → List Entry → State → Type 0) → Type 0
InEachState P = InEach (λ s past. (c : State) → IsStateAfter s past c → P s past c)

-- the reply is legal, and this is the state after the longer history
abbrev pub Continues : Configuration → List Entry → Event → Reply → State → Type 0
Continues s past event r after = LegalReply s past event r × IsStateAfter s (record { event = event; reply = r } ∷ past) after

-- a call that does what its contract says gives a legal reply, and leaves the state after the longer history
abbrev pub CallsSimulate : Type 0
CallsSimulate = InEachState (λ s past before. (event : Event) (r : Reply) (after : State) → CallEffect s.rules event before r after → Continues s past event r after)

-- the state of a new scheduler is the state after the empty history
abbrev pub NewIsEmpty : Type 0
NewIsEmpty = (s : Configuration) (c : State) → IsNew s.opening c → IsStateAfter s [] c

-- the paths that block an access of a live transaction are exactly those that it would close to a cycle
abbrev pub VerdictsAgree : Type 0
VerdictsAgree = InEachState (λ s past c. (t : ℕ) (k : Key) (kind : Kind) (rest : List ℕ) → live past t ≡ true → Blocks c t k kind rest ↔ Closes past t k kind rest)

-- what a live transaction does next is determined by its remainder in the state
abbrev pub NextsAgree : Type 0
NextsAgree = InEachState (λ s past c. (t : ℕ) → live past t ≡ true → next_left (c.left t) ≡ next_of s past t)

-- the state after a legal history is sound
abbrev pub StatesAreSound : Type 0
StatesAreSound = InEachState (λ s past c. Sound s.rules.limits.live c)
