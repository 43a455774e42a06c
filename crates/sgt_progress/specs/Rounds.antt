-- Round robin: each live transaction makes its next event in turn.
use Rattle.std.specs.Prelude.{◌≡◌, ℕ, zero, suc, ◌+◌, ◌≤◌, true, false, ◌⊎◌, List, [], ◌∷◌}
use Rattle.sgt_model.specs.declared.reply.Reply.{Reply}
use Rattle.sgt_model.specs.declared.entry.Entry.{Entry}
use Rattle.sgt_model.specs.Paths.{Member}
use Rattle.sgt_model.specs.Fates.{live}
use Rattle.sgt_model.specs.Configurations.{Configuration}
use Rattle.sgt_model.specs.Legality.{LegalReply}
use Rattle.sgt_model.specs.Laws.{InEach}
use Rattle.sgt_progress.specs.Moves.{next_event}
use Rattle.sgt_progress.specs.Alone.{NoneLive}
use Rattle.sgt_progress.specs.Drains.{events_left}

-- each of the listed ones, if it is live when its turn comes, makes its next event, which gets some legal reply
abbrev pub Turns : Configuration → List Entry → List ℕ → List Entry → Type 0
Turns s past [] after = after ≡ past
Turns s past (t ∷ others) after = ((live past t ≡ false) × Turns s past others after)
    ⊎ ((live past t ≡ true) × ((r : Reply) × LegalReply s past (next_event s past t) r × Turns s (record { event = next_event s past t; reply = r } ∷ past) others after))

-- a round: turns in any order of at least those that are live when it begins
pub record Round (s : Configuration) (past after : List Entry) : Type 0 where
  pub order : List ℕ
  pub has_all : (u : ℕ) → live past u ≡ true → Member u order
  pub turns : Turns s past order after

-- this many rounds
abbrev pub Rounds : ℕ → Configuration → List Entry → List Entry → Type 0
Rounds zero s past after = after ≡ past
Rounds (suc n) s past after = (between : List Entry) × Round s past between × Rounds n s between after

-- in each round some transaction makes an access or ends, if any is live
abbrev pub RoundsMove : Type 0
RoundsMove = InEach (λ s past. (after : List Entry) → Round s past after → NoneLive past ⊎ (events_left s after + 1 ≤ events_left s past))

-- after at most this many rounds nothing is live, whatever the order and the replies
abbrev pub RoundsDrain : Type 0
RoundsDrain = InEach (λ s past. (n : ℕ) → events_left s past ≤ n → (after : List Entry) → Rounds n s past after → NoneLive after)
