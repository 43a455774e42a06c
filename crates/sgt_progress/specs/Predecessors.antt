-- Whom a commit waits for is known when its procedure has ended, and its caller has made its last access.
use Rattle.std.specs.Prelude.{◌≡◌, ℕ, true, List, [], ◌∷◌, ◌++◌}
use Rattle.sgt_model.specs.declared.entry.Entry.{Entry}
use Rattle.sgt_model.specs.Traces.{Next, Looks, Puts, Ends, Raises}
use Rattle.sgt_model.specs.Fates.{live}
use Rattle.sgt_model.specs.Progress.{caller_access_in, next_of}
use Rattle.sgt_model.specs.Legality.{Legal, LivePredecessor}
use Rattle.sgt_model.specs.Laws.{InEach}

-- no access is next
abbrev pub IsEnd : Next → Type 0
IsEnd (Looks k) = ⊥
IsEnd (Puts k v) = ⊥
IsEnd (Ends answers) = Unit {0}
IsEnd (Raises code) = Unit {0}

-- none of the entries makes an access for t's caller
abbrev pub MakeNoneFor : ℕ → List Entry → Type 0
MakeNoneFor t [] = Unit {0}
MakeNoneFor t (e ∷ before) = (caller_access_in e.event e.reply t ≡ []) × MakeNoneFor t before

-- Once a procedure has ended, and as long as its caller makes no access, its transaction gets no more live predecessors, whatever
-- else is asked: so no later transaction makes its commit wait
abbrev pub NoNewPredecessors : Type 0
NoNewPredecessors = InEach (λ s past. (t : ℕ) → live past t ≡ true → IsEnd (next_of s past t) → (later : List Entry) → Legal s (later ++ past) → MakeNoneFor t later
    → (u : ℕ) → LivePredecessor (later ++ past) u t → LivePredecessor past u t)
