-- What an access does with a record: its kind, and what the procedure or the caller wants next.
use Rattle.std.specs.Prelude.{ℕ, ℤ, Option, IfSome}
use Rattle.sgt_model.specs.declared.kind.Kind.{Kind}
use Rattle.sgt_model.specs.declared.kind.Kind.TheVariants as kind
use Rattle.sgt_model.specs.Contents.{Key}
use Rattle.sgt_model.specs.Left.{next_left}
use Rattle.sgt_model.specs.Numbers.{IsValue}
use Rattle.sgt_model.specs.State.{State}
use Rattle.sgt_model.specs.Traces.{Next, Looks, Puts}
use Rattle.sgt_proc.specs.declared.next.Ahead.{Ahead}
use Rattle.sgt_proc.specs.Nexts.{answers_at, seen_with}
use Rattle.sgt_sched.specs.declared.operation.Operation.{Operation}
use Rattle.sgt_sched.specs.declared.operation.Operation.TheVariants.{Look, Store}

-- its kind
abbrev pub kind_of : Operation → Kind
kind_of Look = kind.Look
kind_of (Store v) = kind.Store

-- the operation of a kind, which writes this if it writes
abbrev pub of_kind : Kind → Option ℤ → Operation
of_kind kind.Look v = Look
of_kind kind.Store v = Store v

-- what a live transaction does next, by its next step without the answers
abbrev pub next_by : State → ℕ → Ahead → Next
next_by c t ahead = seen_with (answers_at (next_left (c.left t))) ahead

-- the step of a procedure that does so with this record, or the access of a caller
abbrev pub next_of : Key → Operation → Next
next_of k Look = Looks k
next_of k (Store v) = Puts k v

-- what it writes is a value, or none
abbrev pub WritesValue : Operation → Type 0
WritesValue Look = Unit {0}
WritesValue (Store v) = IfSome v IsValue
