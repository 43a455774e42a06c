-- Why an event is refused.
use Rattle.std.specs.Prelude.{⊤, ◌≡◌, ◌≢◌, ℕ, ℤ, List, length, Option, Some, slice_get}
use Rattle.sgt_model.specs.Numbers.{IsValue}
use Rattle.sgt_model.specs.declared.event.Event.{Event}
use Rattle.sgt_model.specs.declared.event.Event.TheVariants as event
use Rattle.sgt_model.specs.declared.event.Request.{Request}
use Rattle.sgt_model.specs.declared.event.Request.TheVariants as request
use Rattle.sgt_model.specs.declared.reply.Reply.{Reply}
use Rattle.sgt_model.specs.declared.reply.Reply.TheVariants as reply
use Rattle.sgt_model.specs.Questions.{named_by}
use Rattle.sgt_explain.specs.declared.refusal.Refusal.{Refusal}
use Rattle.sgt_explain.specs.declared.refusal.Refusal.TheVariants as refusal

-- the reason fits a call of procedure p with these arguments; how many p takes is given if it is known
abbrev pub IsBadCall : ℕ → List ℤ → Option ℕ → Refusal → Type 0
IsBadCall p args takes (refusal.Count q count given) = (p ≡ q) × (takes ≡ Some count) × (given ≡ length args) × (count ≢ given)
IsBadCall p args takes (refusal.Arguments q given) = (p ≡ q) × (given ≡ length args)
IsBadCall p args takes (refusal.Argument index value) = (slice_get args index ≡ Some value) × ¬ IsValue value
IsBadCall p args takes _ = ⊥

-- the event starts procedure p
abbrev pub Starts : Event → ℕ → Type 0
Starts (event.Start procedure args) p = procedure ≡ p
Starts _ p = ⊥

-- the event is a call for which the reason fits
abbrev pub CallsBadly : Event → Option ℕ → Refusal → Type 0
CallsBadly (event.Start procedure args) takes r = IsBadCall procedure args takes r
CallsBadly _ takes r = ⊥

-- it is a write of the value
abbrev pub IsWriteOf : Request → ℤ → Type 0
IsWriteOf (request.Write key value) v = value ≡ Some v
IsWriteOf (request.Read key) v = ⊥

-- the event writes the value
abbrev pub WritesValue : Event → ℤ → Type 0
WritesValue (event.Access t requested) v = IsWriteOf requested v
WritesValue _ v = ⊥

-- the reply says that the transaction has ended
abbrev pub SaysOver : Reply → Type 0
SaysOver (reply.Over fate) = ⊤
SaysOver _ = ⊥

-- the reason fits an event that got this reply
abbrev pub IsRefusal : Event → Reply → Option ℕ → Refusal → Type 0
IsRefusal e r takes (refusal.NoProcedure p) = (r ≡ reply.NoProcedure) × Starts e p
IsRefusal e r takes (refusal.Value v) = (r ≡ reply.BadArgs) × WritesValue e v
IsRefusal e r takes refusal.Spent = r ≡ reply.Spent
IsRefusal e r takes refusal.Full = r ≡ reply.Full
IsRefusal e r takes (refusal.Unknown t) = (r ≡ reply.Unknown) × (named_by e ≡ Some t)
IsRefusal e r takes (refusal.Over t) = SaysOver r × (named_by e ≡ Some t)
IsRefusal e r takes (refusal.NotEnded t) = (r ≡ reply.NotEnded) × (named_by e ≡ Some t)
IsRefusal e r takes bad = (r ≡ reply.BadArgs) × CallsBadly e takes bad
