-- The accesses in a history (Bernstein, Hadzilacos and Goodman (1987), chapter 2). A history is a list of entries,
-- one for each event and its reply, so its operations are totally ordered. It is read backwards, the newest entry first:
-- each definition is a recursion on the list, and the entries before an entry are the rest of the list.
use Rattle.std.specs.Prelude.{ℕ, ℤ, Bool, true, false, cond, nat_eq, List, [], ◌∷◌, Option, Some, None}
use Rattle.sgt_model.specs.declared.event.Event.{Event}
use Rattle.sgt_model.specs.declared.event.Event.TheVariants.{Step}
use Rattle.sgt_model.specs.declared.event.Event.TheVariants as event
use Rattle.sgt_model.specs.declared.reply.Reply.{Reply}
use Rattle.sgt_model.specs.declared.reply.Reply.TheVariants as reply
use Rattle.sgt_model.specs.declared.entry.Entry.{Entry}
use Rattle.sgt_model.specs.declared.kind.Kind.{Kind}
use Rattle.sgt_model.specs.declared.kind.Kind.TheVariants.{Look, Store}
use Rattle.sgt_model.specs.Contents.{Key}

-- what a transaction did to a record: a read that returned a value or none, or a write of a value or none
pub record Access : Type 0 where
  pub by : ℕ
  pub key : Key
  pub kind : Kind
  pub value : Option ℤ

-- the access is a write
abbrev pub is_store : Kind → Bool
is_store Look = false
is_store Store = true

-- a step, or a request of a caller, is an access by its transaction
abbrev pub access_at : Event → Key → Kind → Option ℤ → Option Access
access_at (Step t) k kind v = Some (record { by = t; key = k; kind = kind; value = v })
access_at (event.Access t d) k kind v = Some (record { by = t; key = k; kind = kind; value = v })
access_at _ k kind v = None

-- the access that an event with this reply is, if any: a step that was answered Looked or Wrote
abbrev pub access_in : Event → Reply → Option Access
access_in event (reply.Looked k v) = access_at event k Look v
access_in event (reply.Wrote k v) = access_at event k Store v
access_in event _ = None

-- the access that an entry is, if any
abbrev pub access_of : Entry → Option Access
access_of e = access_in e.event e.reply

-- one more access is added at the front if it is t's
abbrev pub act_in : Option Access → ℕ → List Access → List Access
act_in None t rest = rest
act_in (Some a) t rest = cond (nat_eq a.by t) (a ∷ rest) rest

-- the accesses of t, newest first
abbrev pub acts : List Entry → ℕ → List Access
acts [] t = []
acts (e ∷ past) t = act_in (access_of e) t (acts past t)
