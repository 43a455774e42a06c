-- What callers see of an engine.
use Rattle.std.specs.Prelude.{◌≡◌, List, [], ◌∷◌, Option, IfSome, slice_get}
use Rattle.std.specs.Option.{option_map}
use Rattle.sgt_model.specs.declared.entry.Entry.{Entry}
use Rattle.sgt_model.specs.declared.event.Event.{Event}
use Rattle.sgt_model.specs.declared.reply.Reply.{Reply}
use Rattle.sgt_model.specs.declared.short_reply.ReplyLists.{ReplyLists}
use Rattle.sgt_model.specs.declared.short_reply.ShortReply.{ShortReply}
use Rattle.sgt_model.specs.declared.limits.Limits.{Limits}
use Rattle.sgt_model.specs.Databases.{Row, contents_of}
use Rattle.sgt_model.specs.Legality.{LegalReply}
use Rattle.sgt_model.specs.ShortReplies.{reply_with, short_reply}
use Rattle.sgt_model.specs.Syntax.{ProcedureText}
use Rattle.sgt_model.specs.Configurations.{Configuration, configuration}

-- the initial database, the procedures, the limits, and the history, newest entry first
pub record EngineView : Type 0 where
  pub opening : List Row
  pub procedures : List ProcedureText
  pub limits : Limits
  pub past : List Entry

-- its configuration, as the definitions of histories use it
abbrev pub configuration_of : EngineView → Configuration
configuration_of e = configuration (contents_of e.opening) e.procedures e.limits

-- a new engine
abbrev pub made_of : List Row → List ProcedureText → Limits → EngineView
made_of opening procedures limits = record { opening = opening; procedures = procedures; limits = limits; past = [] }

-- the engine with one more entry
abbrev pub with_entry : Event → Reply → EngineView → EngineView
with_entry event reply e = record {
  opening = e.opening;
  procedures = e.procedures;
  limits = e.limits;
  past = record { event = event; reply = reply } ∷ e.past;
}

-- the reply of the newest entry, if there is one
abbrev pub newest_reply : List Entry → Option Reply
newest_reply past = option_map (λ (e : Entry). e.reply) (slice_get past 0)

-- these are the lists of the newest reply, if there is one
abbrev pub HasLists : List Entry → ReplyLists → Type 0
HasLists past lists = IfSome (newest_reply past) (λ r. r ≡ reply_with (short_reply r) lists)

-- the engine has one more entry, with a legal reply; without its lists it is this
pub record Answers (event : Event) (before : EngineView) (short : ShortReply) (after : EngineView) : Type 0 where
  pub reply : Reply
  pub is_short : short_reply reply ≡ short
  pub adds : after ≡ with_entry event reply before
  pub legal : LegalReply (configuration_of before) before.past event reply
