-- What a desk needs of its engine: legal replies, and what a cut leaves.
use Rattle.std.specs.Prelude.{◌≡◌, List, ◌∷◌}
use Rattle.sgt_model.specs.declared.entry.Entry.{Entry}
use Rattle.sgt_model.specs.declared.event.Event.{Event}
use Rattle.sgt_model.specs.declared.reply.Reply.{Reply}
use Rattle.sgt_model.specs.declared.short_reply.ShortReply.{ShortReply}
use Rattle.sgt_model.specs.Legality.{LegalReply}
use Rattle.sgt_model.specs.Configurations.{Configuration}
use Rattle.sgt_model.specs.ShortReplies.{short_reply}
use Rattle.sgt_model.specs.Values.{settled}

-- its configuration and its history, newest entry first
pub record EngineState : Type 0 where
  pub configuration : Configuration
  pub past : List Entry

-- the configuration after a cut: the initial database is what the past has committed, and the rules are the same
abbrev pub configuration_after : Configuration → List Entry → Configuration
configuration_after s past = record { opening = settled s.opening past; rules = s.rules }

-- the history has one more entry, with a legal reply; without its lists it is this
pub record Answered (s : Configuration) (event : Event) (before : List Entry) (short : ShortReply) (after : List Entry) : Type 0 where
  pub reply : Reply
  pub is_short : short_reply reply ≡ short
  pub adds : after ≡ record { event = event; reply = reply } ∷ before
  pub legal : LegalReply s before event reply
