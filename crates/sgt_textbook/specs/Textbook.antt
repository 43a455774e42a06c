-- The textbook's history of a list of entries: reads, writes, commits and aborts in one order, from position 0
-- (Bernstein, Hadzilacos and Goodman (1987), chapter 2). Items are the numbers of keys.
use Rattle.std.specs.Prelude.{◌≡◌, ℕ, List, [], ◌∷◌, ◌++◌}
use Rattle.sgt_model.specs.declared.event.Event.{Event}
use Rattle.sgt_model.specs.declared.event.Event.TheVariants.{Start, Step, Access, Commit, Quit}
use Rattle.sgt_model.specs.declared.reply.Reply.{Reply}
use Rattle.sgt_model.specs.declared.reply.Reply.TheVariants as reply
use Rattle.sgt_model.specs.declared.entry.Entry.{Entry}
use Rattle.sgt_model.specs.Contents.{Key}
use Rattle.sgt_classes.specs.declared.operation.Operation.{Operation}
use Rattle.sgt_classes.specs.declared.operation.Action.{Action}
use Rattle.sgt_classes.specs.declared.operation.Action.TheVariants as action

-- two keys of one number are one key
abbrev pub IsNumbering : (Key → ℕ) → Type 0
IsNumbering number = (j k : Key) → number j ≡ number k → j ≡ k

-- the transaction that an event names, alone; a start names none
abbrev pub named : Event → List ℕ
named (Start p args) = []
named (Step t) = t ∷ []
named (Access t d) = t ∷ []
named (Commit t) = t ∷ []
named (Quit t) = t ∷ []

-- the transaction that makes a step, or an access on which its caller decided, alone
abbrev pub stepping : Event → List ℕ
stepping (Start p args) = []
stepping (Step t) = t ∷ []
stepping (Access t d) = t ∷ []
stepping (Commit t) = []
stepping (Quit t) = []

-- each of the transactions does the action, one after another
abbrev pub each_does : Action → List ℕ → List Operation
each_does a [] = []
each_does a (t ∷ others) = record { transaction = t; action = a } ∷ each_does a others

-- The operations of an event with this reply. `Looked` is a read, and `Wrote` a write. A commit is one if the reply
-- says so. An abort is first that of the event's transaction, and then one for each that is aborted in cascade. All
-- else is no operation.
abbrev pub operations_in : (Key → ℕ) → Event → Reply → List Operation
operations_in number event (reply.Looked k v) = each_does (action.Read (number k)) (stepping event)
operations_in number event (reply.Wrote k v) = each_does (action.Write (number k)) (stepping event)
operations_in number event (reply.Committed answers) = each_does action.Commit (named event)
operations_in number event (reply.Aborted why fell) = each_does action.Abort (named event ++ fell)
operations_in number event (reply.Refused code fell) = each_does action.Abort (named event ++ fell)
operations_in number event _ = []

-- the operations that an entry is
abbrev pub operations_of : (Key → ℕ) → Entry → List Operation
operations_of number e = operations_in number e.event e.reply

-- the textbook's history of the entries, newest entry first: the newest one's operations come last
abbrev pub textbook : (Key → ℕ) → List Entry → List Operation
textbook number [] = []
textbook number (e ∷ past) = textbook number past ++ operations_of number e

-- the transaction that an event with this reply commits, alone, if there is one
abbrev pub committed_in : Event → Reply → List ℕ
committed_in event (reply.Committed answers) = named event
committed_in event _ = []

-- the committed transactions in commit order, first one first
abbrev pub commit_order : List Entry → List ℕ
commit_order [] = []
commit_order (e ∷ past) = commit_order past ++ committed_in e.event e.reply
