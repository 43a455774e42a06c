-- One more entry.
use Rattle.std.proofs.Common.{rules, arith, ◌≡◌, ℕ, ◌<◌, ◌+◌, length, map, take, get_or, List, [], ◌∷◌, ◌++◌, reverse, refl, sym, ap, ap₂, ◌∙◌, subst, subst₂}
use Rattle.std.proofs.lemmas.List.{reverse-append, map-append, take_more}
use Rattle.std.specs.Prelude.{IfSome, Option, Some, None}
use Rattle.std.proofs.lemmas.Grind.{reverse_onto}
use Rattle.sgt_model.specs.declared.entry.Entry.{Entry}
use Rattle.sgt_model.specs.declared.event.Event.{Event}
use Rattle.sgt_model.specs.declared.limits.Limits.{Limits}
use Rattle.sgt_model.specs.declared.reply.Reply.{Reply}
use Rattle.sgt_model.specs.declared.short_reply.ReplyLists.{ReplyLists}
use Rattle.sgt_model.specs.declared.short_reply.ShortCause.{ShortCause}
use Rattle.sgt_model.specs.declared.short_reply.ShortCause.TheVariants as cause
use Rattle.sgt_model.specs.declared.short_reply.ShortFate.{ShortFate}
use Rattle.sgt_model.specs.declared.short_reply.ShortFate.TheVariants as fate
use Rattle.sgt_model.specs.declared.short_reply.ShortReply.{ShortReply}
use Rattle.sgt_model.specs.declared.short_reply.ShortReply.TheVariants as short
use Rattle.sgt_model.specs.ShortReplies.{full_cause, full_fate, reply_with, short_cause, short_fate, short_reply}
use Rattle.sgt_model.specs.Contents.{Contents}
use Rattle.sgt_model.specs.Databases.{Row}
use Rattle.sgt_model.specs.Syntax.{ProcedureText}
use Rattle.sgt_model.specs.Configurations.{Configuration, configuration}
use Rattle.sgt_model.specs.Legality.{Legal, LegalReply}
use Rattle.sgt_model.specs.State.{State}
use Rattle.sgt_model.specs.StateAfter.{IsStateAfter}
use Rattle.sgt_model.specs.CallEffects.{CallEffect}
use Rattle.sgt_engine.specs.EngineView.{EngineView, configuration_of, made_of, with_entry, newest_reply, Answers, HasLists}
use Rattle.sgt_engine.specs.Snapshots.{IsSnapshot}
use Rattle.sgt_engine.specs.declared.engine.snapshot.Snapshot.{Snapshot}
use Rattle.sgt_model.specs.Histories.{events_of}
use Rattle.sgt_model.specs.Refinement.{CallsSimulate}

-- what an engine keeps: a legal history, and a scheduler whose state is the one after it
abbrev pub Kept : Configuration → List Entry → State → Type 0
Kept s past c = Legal s past × IsStateAfter s past c

-- the entry in front of the past, where it was added at the end of the history
pub longer : (items new : List Entry) (e : Entry) → new ≡ items ++ e ∷ [] → reverse new ≡ e ∷ reverse items
longer items new e is = ap reverse is ∙ reverse-append items (e ∷ [])

-- two configurations are the same if their parts are
pub same_configuration : (opening : Contents) (procedures procedures' : List ProcedureText) (limits limits' : Limits) → procedures' ≡ procedures
    → limits' ≡ limits → configuration opening procedures limits ≡ configuration opening procedures' limits'
same_configuration opening procedures procedures' limits limits' p l = ap₂ (configuration opening) (sym p) (sym l)

-- an entry that was added after capacity was provided
pub added : (items reserved new : List Entry) (event : Event) (r : Reply)
    → new ≡ reserved ++ record { event = event; reply = r } ∷ [] → reserved ≡ items → new ≡ items ++ record { event = event; reply = r }
    ∷ []
added items reserved new event r pushed spare = pushed ∙ ap (λ (l : List Entry). l ++ record { event = event; reply = r } ∷ []) spare

-- a call that was answered keeps all that an engine keeps
pub kept_entry : CallsSimulate → (s s' : Configuration) (items new : List Entry) (before after : State) (event : Event) (r : Reply) → s ≡ s'
    → new ≡ items ++ record { event = event; reply = r } ∷ [] → Kept s (reverse items) before → CallEffect s.rules event before r after
    → Kept s' (reverse new) after
kept_entry calls_simulate s s' items new before after event r same is kept done =
    let continues = calls_simulate s (reverse items) kept.0 before kept.1 event r after done in
    subst₂ (λ (x : Configuration) (l : List Entry). Kept x l after) same (sym (longer items new (record { event = event; reply = r }) is))
    ((kept.0, continues.0), continues.1)

-- the engine has this entry more
pub entry_added : (opening : List Row) (procedures procedures' : List ProcedureText) (limits limits' : Limits) (items new : List Entry)
    (event : Event) (r : Reply) (now : EngineView) → procedures' ≡ procedures → limits' ≡ limits
    → new ≡ items ++ record { event = event; reply = r } ∷ []
    → record { opening = opening; procedures = procedures; limits = limits; past = reverse items } ≡ now
    → record { opening = opening; procedures = procedures'; limits = limits'; past = reverse new } ≡ with_entry event r now
entry_added opening procedures procedures' limits limits' items new event r now p l is seen = now_same ∙ ap (with_entry event r) seen where
  now_same : (record { opening = opening; procedures = procedures'; limits = limits'; past = reverse new }) ≡ with_entry event r
      (record { opening = opening; procedures = procedures; limits = limits; past = reverse items })
  now_same = λ i. record {
    opening = opening;
    procedures = p i;
    limits = l i;
    past = longer items new
        (record { event = event; reply = r }) is i;
  }

-- a short cause is what its full one is without the path
cause_with : (c : ShortCause) (cycle : List ℕ) → short_cause (full_cause c cycle) ≡ c
cause_with cause.Cycle cycle = refl
cause_with (cause.Asked code) cycle = refl
cause_with cause.Quit cycle = refl

-- a short reply is what its full one is without the lists
pub short_with : (r : ShortReply) (lists : ReplyLists) → short_reply (reply_with r lists) ≡ r
short_with (short.Started t) lists = refl
short_with short.NoProcedure lists = refl
short_with short.BadArgs lists = refl
short_with short.Spent lists = refl
short_with short.Full lists = refl
short_with short.Unknown lists = refl
short_with (short.Over f) lists = ap short.Over (fate_with f) where
  fate_with : (f : ShortFate) → short_fate (full_fate f lists.cycle) ≡ f
  fate_with fate.Committed = refl
  fate_with (fate.Aborted c) = ap fate.Aborted (cause_with c lists.cycle)
  fate_with (fate.Fell t) = refl
short_with (short.Looked k v) lists = refl
short_with (short.Wrote k v) lists = refl
short_with short.Ended lists = refl
short_with short.NotEnded lists = refl
short_with (short.Waits t) lists = refl
short_with short.Committed lists = refl
short_with (short.Aborted c) lists = ap short.Aborted (cause_with c lists.cycle)
short_with (short.Refused code) lists = refl

-- its lists are those of the newest reply
pub newest_added : (items new : List Entry) (event : Event) (r : ShortReply) (lists : ReplyLists)
    → new ≡ items ++ record { event = event; reply = reply_with r lists } ∷ [] → HasLists (reverse new) lists
newest_added items new event r lists is = subst (λ (past : List Entry). HasLists past lists)
    (sym (longer items new (record { event = event; reply = reply_with r lists }) is))
    (ap (λ s. reply_with s lists) (sym (short_with r lists)))

-- one more entry makes what was kept too old
pub too_old : (opening : List Row) (items new : List Entry) (e : Entry) (snapshot : Option Snapshot) → new ≡ items ++ e ∷ []
    → IsSnapshot opening (reverse items) snapshot → IsSnapshot opening (reverse new) snapshot
too_old opening items new e None is kept = tt
too_old opening items new e (Some s) is kept =
    let longer_by_one = ap length (longer items new e is) in
    (omega (arith, kept.0, longer_by_one), λ same. absurd (omega (arith, kept.0, longer_by_one, same)))

-- the reply that was answered in short, with the lists that are lent
pub answered_with : (event : Event) (before : EngineView) (r : ShortReply) (after : EngineView) (lists : ReplyLists)
    → (a : Answers event before r after) → HasLists after.past lists → a.reply ≡ reply_with r lists
answered_with event before r after lists a has =
    subst (λ (e : EngineView). IfSome (newest_reply e.past) (λ x. x ≡ reply_with (short_reply x) lists)) a.adds has
    ∙ ap (λ s. reply_with s lists) a.is_short

-- its reply is legal
pub legal_reply : CallsSimulate → (s s' : Configuration) (past past' : List Entry) (before after : State) (event : Event) (r : Reply) → s ≡ s'
    → past ≡ past' → Kept s past before → CallEffect s.rules event before r after → LegalReply s' past' event r
legal_reply calls_simulate s s' past past' before after event r same seen kept done =
    subst₂ (λ (x : Configuration) (l : List Entry). LegalReply x l event r) same seen
    (calls_simulate s past kept.0 before kept.1 event r after done).0

-- the history of a new engine is legal
pub legal_new : (e : EngineView) (opening : List Row) (procedures : List ProcedureText) (limits : Limits)
    → e ≡ made_of opening procedures limits → Legal (configuration_of e) e.past
legal_new e opening procedures limits is = subst (λ (x : EngineView). Legal (configuration_of x) x.past) (sym is) tt

-- the events of a history with one entry more
pub events_of-entry : (e : Entry) (past : List Entry) → events_of (e ∷ past) ≡ events_of past ++ e.event ∷ []
events_of-entry e past = ap (map (λ (x : Entry). x.event)) (reverse_onto past e [])
    ∙ map-append (λ (x : Entry). x.event) (reverse past) (e ∷ [])

-- one more event was applied
pub events_taken : (e : Entry) (past : List Entry) (events : List Event) (done at : ℕ) (event : Event) → done ≡ at → at < length events
    → events_of past ≡ take done events → event ≡ get_or events at event → e.event ≡ event → events_of (e ∷ past) ≡ take (done + 1) events
events_taken e past events done at event same within taken item is =
    events_of-entry e past ∙ (ap₂ (λ l x. l ++ x ∷ []) taken (is ∙ (item ∙ ap (λ i. get_or events i event) (sym same)))
    ∙ sym (take_more events done event (subst (λ i. i < length events) (sym same) within)))
