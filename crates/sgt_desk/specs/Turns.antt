-- Turns, one after another, of any calls.
use Rattle.std.specs.Prelude.{◌≡◌, ℕ, Bool, true, false, ◌||◌, List, [], ◌∷◌, length}
use Rattle.sgt_model.specs.Fates.{live_ones}
use Rattle.sgt_desk.specs.declared.alone.Solo.{Solo}
use Rattle.sgt_desk.specs.declared.reason.Reason.{Reason}
use Rattle.sgt_desk.specs.Desks.{DeskState, Wakes, holds}
use Rattle.sgt_desk.specs.Plans.{waits_for_others}

-- what a turn left: the state of the desk, and whether it woke all that rest
pub record Left : Type 0 where
  pub state : DeskState
  pub wakes : Bool

-- each of these turns, the first one first, does what the `wakes` clause of a turn says
abbrev pub AreTurns : DeskState → List Left → Type 0
AreTurns d [] = Unit {0}
AreTurns d (l ∷ turns) = Wakes d l.state l.wakes × AreTurns l.state turns

-- the state after them
abbrev pub after : DeskState → List Left → DeskState
after d [] = d
after d (l ∷ turns) = after l.state turns

-- one of them woke all that rest
abbrev pub any_wakes : List Left → Bool
any_wakes [] = false
any_wakes (l ∷ turns) = l.wakes || any_wakes turns

-- if a reason to rest held before some turns, and does not hold after them, one of them woke all that rest
abbrev pub NoWakeIsLost : Type 0
NoWakeIsLost = (d : DeskState) (turns : List Left) → AreTurns d turns → (r : Reason) → holds r d ≡ true → holds r (after d turns) ≡ false
    → any_wakes turns ≡ true

-- how many transactions are live
abbrev pub live_count : DeskState → ℕ
live_count d = length (live_ones d.past)

-- if a start waited for others before some turns, and does not wait after them, one of them woke all that rest: while no try that is made
-- alone begins, and no call gives one up
abbrev pub NoStartIsForgotten : Type 0
NoStartIsForgotten = (d : DeskState) (turns : List Left) → AreTurns d turns → (s : Solo) (alone has_own : Bool)
    → waits_for_others s alone (live_count d) has_own ≡ true → waits_for_others s alone (live_count (after d turns)) has_own ≡ false
    → any_wakes turns ≡ true
